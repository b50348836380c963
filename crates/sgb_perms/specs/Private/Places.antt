-- Rows by which a vertex is looked up.
use Rattle.std.specs.Prelude.{◌≡◌, ◌<◌, ◌+◌, ◌*◌, ◌^◌, ◌%◌, ℕ, List, [], ◌∷◌, length, map, true}
use denote.Ref.{Bor}
use Rattle.sgb_plan.specs.Distinct.{Distinct}
use Rattle.sgb_perms.specs.declared.places.Places.{Places}
use Rattle.sgb_perms.specs.declared.places.Places.TheVariants.{ByWord, ByBytes}
use Rattle.sgb_perms.specs.Arrangement.{is_descent, exchanged}
use Rattle.sgb_perms.specs.Perms.{place_of, row_at}

abbrev pub shown_by : List (Bor (List ℕ)) → List (List ℕ)
shown_by keys = map (λ (k : Bor (List ℕ)). k.now) keys

-- a row's word: its kinds are digits, the first the lowest, as far as a word has room
abbrev pub with_digit : ℕ → ℕ → ℕ
with_digit word kind = (word * 31 % 2 ^ 64 + kind) % 2 ^ 64

unfoldable pub word_of : List ℕ → ℕ
word_of [] = 0
word_of (kind ∷ kinds) = with_digit (word_of kinds) kind

-- the words of the rows, of which no two have the same
pub record IsWordsOf (rows : List (List ℕ)) (words : List ℕ) : Type 0 where
  pub are : words ≡ map word_of rows
  pub apart : Distinct words

abbrev pub IsIndexOf : List (List ℕ) → Places → Type 0
IsIndexOf rows (ByWord words) = IsWordsOf rows words.keys
IsIndexOf rows (ByBytes keys) = shown_by keys.keys ≡ rows

-- each exchange of the row leads to one of the rows
abbrev pub LeadsWithin : List (List ℕ) → List ℕ → Type 0
LeadsWithin rows row =
    (place : ℕ) → place + 1 < length row → is_descent row place ≡ true → place_of rows (exchanged row place) < length rows

abbrev pub IsClosed : List (List ℕ) → Type 0
IsClosed rows = (v : ℕ) → v < length rows → LeadsWithin rows (row_at rows v)
