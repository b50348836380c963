-- The one endless sequence that 55 words begin, addressed by index from 1 on.
use Rattle.std.specs.Prelude.{◌≡◌, ℕ, ◌+◌, ◌-◌, ◌%◌, ◌^◌, ◌<◌, ◌≤◌, zero, suc, List, map, nat_le, slice_index, if◌then◌else◌}
use Rattle.std.specs.List.{range_with_len}

-- a less b, modulo 2 ^ 31
unfoldable pub difference : ℕ → ℕ → ℕ
difference a b = (a + 2 ^ 31 - b) % 2 ^ 31

-- a and b together, modulo 2 ^ 31: what the difference that is a was taken of, where b was taken off
unfoldable pub joined : ℕ → ℕ → ℕ
joined a b = (a + b) % 2 ^ 31

-- The term at an index: one of the 55 words, and from there on the term 55 places before less the
-- one 24 places before. The first argument only bounds the recursion.
unfoldable pub term_within : ℕ → List ℕ → ℕ → ℕ
term_within zero words n = slice_index words (n - 1)
term_within (suc steps) words n =
    if nat_le n 55
    then slice_index words (n - 1)
    else difference (term_within steps words (n - 55)) (term_within steps words (n - 24))

-- the term at an index, which bounds its own recursion well enough
unfoldable pub term : List ℕ → ℕ → ℕ
term words n = term_within n words n

-- the 55 terms that follow the first `start` terms
unfoldable pub terms_after : List ℕ → ℕ → List ℕ
terms_after words start = map (λ i. term words (start + i)) (range_with_len 1 55)

-- c is the sequence that the words begin; `term words` is the only one
pub record IsSequence (words : List ℕ) (c : ℕ → ℕ) : Type 0 where
  pub first : (i : ℕ) → 1 ≤ i → i ≤ 55 → c i ≡ slice_index words (i - 1)
  pub more : (n : ℕ) → 55 < n → c n ≡ difference (c (n - 55)) (c (n - 24))
