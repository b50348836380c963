-- The units of a script: a line, a line that takes a text with the lines of the text, or a group of commands.
use Rattle.std.specs.Prelude.{ℕ, ◌==◌, nat_le, Bool, true, false, not, ◌&&◌, ◌||◌, List, [], ◌∷◌, ◌++◌, length, take, drop, codes}
use Rattle.std.specs.List.{flat_map, list_all, prefix_len, take_while}
use Rattle.std.specs.Str.{bytes_eq}

-- the number of its first line, this line, the lines behind it, and whether a line of at most 8,192 bytes ended them
pub record ScriptUnit : Type 0 where
  pub number : ℕ
  pub first : List ℕ
  pub inner : List (List ℕ)
  pub closed : Bool

-- a line from its first byte that is no space
abbrev pub unindented : List ℕ → List ℕ
unindented line = drop (prefix_len (λ b. b == 32) line) line

-- the first run of bytes other than the space
abbrev pub first_run : List ℕ → List ℕ
first_run line = take_while (λ b. not (b == 32)) (unindented line)

-- whatever else is wrong with a line, it takes a text where its first run is `load`
unfoldable pub takes_text : List ℕ → Bool
takes_text line = bytes_eq (first_run line) (codes "load")

-- and a group begins where it is `group`
unfoldable pub takes_members : List ℕ → Bool
takes_members line = bytes_eq (first_run line) (codes "group")

-- a line behind which others belong to its unit
abbrev pub takes_lines : List ℕ → Bool
takes_lines line = takes_text line || takes_members line

-- the line that ends a text: this byte alone
abbrev pub is_dot : List ℕ → Bool
is_dot line = bytes_eq line (codes ".")

-- the line that ends a group: this word alone, with spaces around it or without
unfoldable pub is_end : List ℕ → Bool
is_end line = bytes_eq (take 3 (unindented line)) (codes "end") && list_all (λ b. b == 32) (drop 3 (unindented line))

-- a unit that is one line, and one that goes on
abbrev pub alone : ℕ → List ℕ → ScriptUnit
alone number line = record { number = number; first = line; inner = []; closed = true }

abbrev pub opened : ℕ → List ℕ → ScriptUnit
opened number line = record { number = number; first = line; inner = []; closed = false }

abbrev pub with_line : ScriptUnit → List ℕ → ScriptUnit
with_line u line = record u { inner = u.inner ++ line ∷ [] }

abbrev pub as_closed : ScriptUnit → ScriptUnit
as_closed u = record u { closed = true }

abbrev pub closed_by : ScriptUnit → List ℕ → ScriptUnit
closed_by u line = record u { closed = nat_le (length line) 8192 }

-- the text has its end, and no line of it has more than 8,192 bytes
abbrev pub is_whole : ScriptUnit → Bool
is_whole u = u.closed && list_all (λ line. nat_le (length line) 8192) u.inner

-- the lines of the text, each with its newline
abbrev pub text_in : ScriptUnit → List ℕ
text_in u = flat_map (λ line. line ++ 10 ∷ []) u.inner
