-- The generator as its callers see it: 55 words and how many of them are still unread.
use Rattle.std.specs.Prelude.{◌≡◌, ℕ, ◌+◌, ◌-◌, ◌*◌, ◌/◌, ◌%◌, ◌^◌, ◌<◌, ◌≤◌, zero, suc, ℤ, pos, List, map, length, slice_index, EachIndex, nat_lt, unsigned_abs}
use Rattle.std.specs.Int.{int_rem_euclid}
use Rattle.std.specs.List.{position_or_len, range_with_len}
use Rattle.sgb_flip.specs.Sequence.{difference, term, terms_after}

-- The words are terms of an endless sequence. They are drawn from the last unread one down to the
-- first; then the next 55 terms take their place, and the last of them is drawn.
pub record Generator : Type 0 where
  pub words : List ℕ
  pub unread : ℕ

abbrev pub AreSmall : List ℕ → Type 0
AreSmall words = EachIndex words (λ i. slice_index words i < 2 ^ 31)

-- 55 words below 2 ^ 31, of which at most 54 are unread
pub record IsGenerator (w : Generator) : Type 0 where
  pub count : length w.words ≡ 55
  pub small : AreSmall w.words
  pub few : w.unread < 55

-- the number that is drawn after j others: a batch of 55 terms is drawn from its last to its first
unfoldable pub drawn : Generator → ℕ → ℕ
drawn w j =
    let place = 55 - w.unread + j in
    term w.words (55 * (place / 55) + 55 - place % 55)

-- the generator after j draws
unfoldable pub after : Generator → ℕ → Generator
after w j =
    let place = 54 - w.unread + j in
    record { words = terms_after w.words (55 * (place / 55)); unread = 54 - place % 55 }

-- 31 bits, turned right by one place
unfoldable pub rotated : ℕ → ℕ
rotated x = x / 2 + x % 2 * 2 ^ 30

unfoldable pub rotated_by : ℕ → ℕ → ℕ
rotated_by x zero = x
rotated_by x (suc j) = rotated (rotated_by x j)

-- the terms that a seed below 2 ^ 31 fills the words with
unfoldable pub seed_term : ℕ → ℕ → ℕ
seed_term x zero = x
seed_term x (suc zero) = 1
seed_term x (suc (suc j)) = difference (difference (seed_term x j) (seed_term x (suc j))) (rotated_by x (suc j))

-- The word at each place i from 1 to 55. Term j stands at place 21 * j modulo 55, so place i has term
-- 21 * i modulo 55, since 21 * 21 is 1 modulo 55.
unfoldable pub seed_words : ℕ → List ℕ
seed_words x = map (λ i. seed_term x (21 * i % 55)) (range_with_len 1 55)

-- x fills the words: itself in the last, and term j at the place 21 * j modulo 55
pub record IsSeeding (x : ℕ) (words : List ℕ) : Type 0 where
  pub last : slice_index words 54 ≡ x
  pub others : (j : ℕ) → 1 ≤ j → j ≤ 54 → slice_index words (21 * j % 55 - 1) ≡ seed_term x j

-- a seed counts modulo 2 ^ 31
unfoldable pub seed_number : ℤ → ℕ
seed_number s = unsigned_abs (int_rem_euclid s (pos (2 ^ 31)))

-- the generator of a seed: five batches are passed over
unfoldable pub seeded : ℤ → Generator
seeded s = record { words = terms_after (seed_words (seed_number s)) 275; unread = 54 }

-- the generator of seed s after k draws
unfoldable pub window : ℤ → ℕ → Generator
window s k = after (seeded s) k

-- the greatest multiple of m that is at most 2 ^ 31
unfoldable pub limit : ℕ → ℕ
limit m = 2 ^ 31 - 2 ^ 31 % m

-- One uniform number below m, as a relation: draws at or above the limit are refused, and the first
-- below it is taken modulo m.
pub record IsUniform (w : Generator) (m value draws : ℕ) (rest : Generator) : Type 0 where
  pub some : 0 < draws
  pub few : draws ≤ 1814
  pub refused : (i : ℕ) → i + 1 < draws → limit m ≤ drawn w i
  pub accepted : drawn w (draws - 1) < limit m
  pub value_is : value ≡ drawn w (draws - 1) % m
  pub rest_is : rest ≡ after w draws

-- each of the first 1814 draws is refused; no generator is so
pub record HasNoUniform (w : Generator) (m : ℕ) : Type 0 where
  pub refused : (i : ℕ) → i < 1814 → limit m ≤ drawn w i

-- how many of the first `bound` draws come before the first that is below t
unfoldable pub refused_draws : Generator → ℕ → ℕ → ℕ
refused_draws w t bound = position_or_len (λ j. nat_lt (drawn w j) t) (range_with_len 0 bound)

-- a uniform number, how many draws it took, and the generator after them
pub record Uniform : Type 0 where
  pub value : ℕ
  pub draws : ℕ
  pub rest : Generator

-- one uniform number below m, as a function
unfoldable pub uniform : Generator → ℕ → Uniform
uniform w m =
    let j = refused_draws w (limit m) 1814 in
    record { value = drawn w j % m; draws = j + 1; rest = after w (j + 1) }
