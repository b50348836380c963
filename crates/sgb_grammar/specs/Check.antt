-- The check number of a saved text.
use Rattle.std.specs.Prelude.{ℕ, ◌+◌, ◌-◌, ◌*◌, ◌^◌, ◌%◌, ◌==◌, List, [], ◌∷◌, ◌++◌, length, codes, if◌then◌else◌}
use Rattle.std.specs.List.{flat_map, position_or_len}

-- the characters in the order of their codes, from 0; any other byte, and so the newline, has the code behind theirs
abbrev pub characters : List ℕ
characters = codes "0123456789ABCDEFGHIJKLMNOPQRSTUVWXYZabcdefghijklmnopqrstuvwxyz_^~&@,;.:?!%#$+-*/|" ++ 92 ∷ codes "<=>()[]{}`'" ++ 34 ∷ 32 ∷ []

unfoldable pub code_of : ℕ → ℕ
code_of b = position_or_len (λ c. c == b) characters

-- the lines, each with its newline
abbrev pub with_first : ℕ → List (List ℕ) → List (List ℕ)
with_first b [] = (b ∷ []) ∷ []
with_first b (l ∷ ls) = (b ∷ l) ∷ ls

unfoldable pub lines_of : List ℕ → List (List ℕ)
lines_of [] = []
lines_of (b ∷ bs) = if b == 10 then (10 ∷ []) ∷ lines_of bs else with_first b (lines_of bs)

-- a line that begins with a star does not count
abbrev pub counted : List ℕ → List ℕ
counted [] = []
counted (b ∷ bs) = if b == 42 then [] else b ∷ bs

unfoldable pub covered : List ℕ → List ℕ
covered bs = flat_map counted (lines_of bs)

-- each byte's code, doubled for each byte behind it
unfoldable pub weighed : List ℕ → ℕ
weighed [] = 0
weighed (b ∷ bs) = code_of b * 2 ^ length bs + weighed bs

unfoldable pub check_of : List ℕ → ℕ
check_of bs = weighed (covered bs) % (2 ^ 30 - 83)
