-- The lines of a script.
use Rattle.std.specs.Prelude.{ℕ, ◌==◌, if◌then◌else◌, List, [], ◌∷◌, length}
use Rattle.std.specs.List.{slice_split}

abbrev pub all_but_last : {X : Type 0} → List X → List X
all_but_last [] = []
all_but_last (x ∷ []) = []
all_but_last (x ∷ y ∷ ys) = x ∷ all_but_last (y ∷ ys)

abbrev pub last_part : List (List ℕ) → List ℕ
last_part [] = []
last_part (x ∷ []) = x
last_part (x ∷ y ∷ ys) = last_part (y ∷ ys)

-- what the newlines part: one part more than there are newlines
abbrev pub parts : List ℕ → List (List ℕ)
parts script = slice_split (λ b. b == 10) script

-- the lines that a newline ends
abbrev pub whole_lines : List ℕ → List (List ℕ)
whole_lines script = all_but_last (parts script)

-- what stands behind the last newline
abbrev pub unfinished : List ℕ → List ℕ
unfinished script = last_part (parts script)

-- all the lines; a newline at the end begins no further one
abbrev pub lines : List ℕ → List (List ℕ)
lines script = if length (unfinished script) == 0 then whole_lines script else parts script
