-- Trees by the codes of their names.
use Rattle.std.specs.Prelude.{◌≡◌, ◌⊎◌, ◌<◌, ◌+◌, ◌*◌, ◌==◌, ℕ, List, [], ◌∷◌, length, map, position, All, if◌then◌else◌}
use Rattle.std.specs.Option.{option_to_list}
use Rattle.sgb_plan.specs.Distinct.{Distinct}

-- a letter `x` is 1, and a dot is 0
abbrev pub leaf : ℕ → ℕ
leaf letter = if letter == 46 then 0 else 1

-- a word's letters are digits, the first the lowest
unfoldable pub code_of : List ℕ → ℕ
code_of [] = 0
code_of (letter ∷ w) = 2 * code_of w + leaf letter

abbrev pub codes_of : List (List ℕ) → List ℕ
codes_of ws = map code_of ws

abbrev pub IsLetter : ℕ → Type 0
IsLetter c = (c ≡ 46) ⊎ (c ≡ 120)

-- a name of so many letters
pub record IsName (width : ℕ) (w : List ℕ) : Type 0 where
  pub long : length w ≡ width
  pub letters : All IsLetter w

-- names of one length for which a code has room, of which no two are the same
pub record AreNames (ws : List (List ℕ)) : Type 0 where
  pub width : ℕ
  pub short : width < 64
  pub names : All (IsName width) ws
  pub apart : Distinct ws

-- the number of the code among these, where it is one of them
abbrev pub number_among : List ℕ → ℕ → List ℕ
number_among codes code = option_to_list (position (λ k. code == k) codes)
