-- The lines of a text, and their words.
use Rattle.std.specs.Prelude.{ℕ, ◌==◌, not, ◌||◌, Bool, List, [], ◌∷◌, map, filter, length, Option, Some, None, if◌then◌else◌}
use Rattle.std.specs.List.{slice_split, enumerate_from}

-- a line: its number, from 1, and its bytes
pub record LineOf : Type 0 where
  pub number : ℕ
  pub bytes : List ℕ

-- without a return at the end
abbrev pub without_return : List ℕ → List ℕ
without_return [] = []
without_return (b ∷ []) = if b == 13 then [] else b ∷ []
without_return (b ∷ (c ∷ cs)) = b ∷ without_return (c ∷ cs)

-- what the newlines part
unfoldable pub lines : List ℕ → List LineOf
lines text = map (λ p. record { number = p.0; bytes = without_return p.1 }) (enumerate_from 1 (slice_split (λ b. b == 10) text))

-- a space or a tab
abbrev pub is_blank : ℕ → Bool
is_blank b = b == 32 || b == 9

-- the runs of other bytes
unfoldable pub words : List ℕ → List (List ℕ)
words bytes = filter (λ w. not (length w == 0)) (slice_split is_blank bytes)

-- the line says something
abbrev pub has_words : LineOf → Bool
has_words l = not (length (words l.bytes) == 0)

-- what is behind these bytes in front, if they stand there
unfoldable pub behind : List ℕ → List ℕ → Option (List ℕ)
behind [] bytes = Some bytes
behind (p ∷ ps) [] = None
behind (p ∷ ps) (b ∷ bs) = if p == b then behind ps bs else None
