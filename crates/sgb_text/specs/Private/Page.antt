-- A text that is being written, and the column at which it stands.
use Rattle.std.specs.Prelude.{ℕ, ◌+◌, ◌==◌, Bool, List, ◌++◌, length, if◌then◌else◌}
use Rattle.sgb_graph.specs.declared.field.Util.{Util}
use Rattle.sgb_text.specs.Layout.{cut, last_width, placed_at, column_behind, comma_if, laid}
use Rattle.sgb_text.specs.Save.{value_text}

pub record PageOf : Type 0 where
  pub text : List ℕ
  pub column : ℕ

-- bytes behind which a line begins
abbrev pub with_line : PageOf → List ℕ → PageOf
with_line p bytes = record { text = p.text ++ bytes; column = 0 }

-- bytes for which the line has room
abbrev pub with_bytes : PageOf → List ℕ → PageOf
with_bytes p bytes = record { text = p.text ++ bytes; column = p.column + length bytes }

-- an item that is longer than a line
abbrev pub with_cut : PageOf → List ℕ → PageOf
with_cut p item = record { text = p.text ++ cut (length item) item; column = last_width (length item) (length item) }

-- an item more
unfoldable pub with_item : PageOf → List ℕ → PageOf
with_item p item = record { text = p.text ++ placed_at p.column item; column = column_behind p.column (length item) }

-- the items that end a record
unfoldable pub with_record : PageOf → List (List ℕ) → PageOf
with_record p items = with_line p (laid p.column items)

-- a field more, where its letter is not Z
abbrev pub with_field : PageOf → ℕ → Util → Bool → PageOf
with_field p letter u more = if letter == 90 then p else with_item p (comma_if more (value_text letter u))
