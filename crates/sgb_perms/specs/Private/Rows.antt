-- Rows of one width in one buffer.
use Rattle.std.specs.Prelude.{◌≡◌, ◌⊎◌, ◌<◌, ◌≤◌, ◌+◌, ◌*◌, ℕ, zero, suc, List, [], ◌∷◌, ◌++◌, length, take, drop, Result, Ok, Err}
use Rattle.sgb_graph.specs.declared.refusal.Refusal.{Refusal}
use Rattle.sgb_graph.specs.declared.refusal.Refusal.TheVariants.{NoRoom, TooLarge}
use Rattle.sgb_perms.specs.declared.rows.Rows.TheInside.{Inside}

pub record RowsOf : Type 0 where
  pub width : ℕ
  pub rows : List (List ℕ)

-- the first n pieces of a list
unfoldable pub pieces : ℕ → ℕ → List ℕ → List (List ℕ)
pieces zero width xs = []
pieces (suc n) width xs = take width xs ∷ pieces n width (drop width xs)

abbrev pub rows_of : Inside → RowsOf
rows_of r = record { width = r.width; rows = pieces r.count r.width r.kinds.items }

pub record IsRows (r : Inside) : Type 0 where
  pub filled : length r.kinds.items ≡ r.count * r.width
  pub few : r.count ≤ 65535
  pub narrow : r.width ≤ 255

abbrev pub with_rows : RowsOf → List (List ℕ) → RowsOf
with_rows r more = record r { rows = r.rows ++ more }

-- the rows are added, or refused for want of memory or because they are too many
abbrev pub Lists : {T : Type 0} → RowsOf → RowsOf → List (List ℕ) → Result T Refusal → Type 0
Lists old new more (Ok x) = new ≡ with_rows old more
Lists old new more (Err e) = (e ≡ NoRoom) ⊎ ((e ≡ TooLarge) × (65535 < length old.rows + length more))
