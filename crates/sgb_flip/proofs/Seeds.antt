-- How a seed's number fills the words.
use Rattle.std.proofs.Common.{◌≡◌, ℕ, zero, suc, ◌+◌, ◌-◌, ◌*◌, ◌%◌, ◌^◌, ◌<◌, ◌≤◌, ◌≢◌, ⊎_elim, ℤ, pos, negsuc, List, length, get_or, set, sym, ap, ◌∙◌, subst, arith, length-set, get_or-set_other, get_or-set_same}
use Rattle.std.proofs.lemmas.Bool.{cases_eq, cases_lt}
use Rattle.std.proofs.lemmas.List.{ext_get_or}
use Rattle.std.proofs.lemmas.List.FromFn.{get_or-map-range_with_len, length-map-range_with_len}
use Rattle.sgb_flip.specs.Generator.{AreSmall, IsSeeding, rotated, rotated_by, seed_number, seed_term, seed_words}
use Rattle.sgb_flip.specs.Sequence.{difference}
use Rattle.sgb_flip.proofs.Terms.{difference-below}

pub seed_number-below : (s : ℤ) → seed_number s < 2 ^ 31
unfolding seed_number
seed_number-below (pos a) = omega arith
seed_number-below (negsuc a) = omega arith

pub seed_term-below : (x j : ℕ) → x < 2 ^ 31 → seed_term x j < 2 ^ 31
unfolding seed_term
seed_term-below x zero h = h
seed_term-below x (suc zero) h = omega arith
seed_term-below x (suc (suc j)) h = difference-below _ _

pub length-seed_words : (x : ℕ) → length (seed_words x) ≡ 55
unfolding seed_words
length-seed_words x = length-map-range_with_len (λ i. seed_term x (21 * i % 55)) 1 55

pub get_or-seed_words : (x k : ℕ) → k < 55 → get_or (seed_words x) k 0 ≡ seed_term x (21 * (k + 1) % 55)
unfolding seed_words
get_or-seed_words x k h =
    get_or-map-range_with_len (λ i. seed_term x (21 * i % 55)) 1 55 k (k + 1) 0 h (omega arith)

pub AreSmall-seed_words : (x : ℕ) → x < 2 ^ 31 → AreSmall (seed_words x)
AreSmall-seed_words x below k h =
    subst (λ (y : ℕ). y < 2 ^ 31) (sym (get_or-seed_words x k (omega (arith, length-seed_words x))))
    (seed_term-below x (21 * (k + 1) % 55) below)

-- ---- one term more
pub seed_term-more : (x j : ℕ) → 1 ≤ j → seed_term x (j + 1) ≡ difference (difference (seed_term x (j - 1)) (seed_term x j)) (rotated_by x j)
unfolding seed_term
seed_term-more x zero h = absurd (omega arith)
seed_term-more x (suc k) h =
    let next : suc k + 1 ≡ suc (suc k) = omega arith in
    let before : suc k - 1 ≡ k = omega arith in
    ap (λ n. seed_term x n) next
    ∙ ap (λ n. difference (difference (seed_term x n) (seed_term x (suc k))) (rotated_by x (suc k))) (sym before)

pub rotated_by-more : (x j : ℕ) → 1 ≤ j → rotated_by x j ≡ rotated (rotated_by x (j - 1))
unfolding rotated_by
rotated_by-more x zero h = absurd (omega arith)
rotated_by-more x (suc k) h =
    let before : suc k - 1 ≡ k = omega arith in
    ap (λ n. rotated (rotated_by x n)) (sym before)

-- the first terms, placed
pub record ArePlaced (x j : ℕ) (words : List ℕ) : Type 0 where
  pub count : length words ≡ 55
  pub last : get_or words 54 0 ≡ x
  pub others : (i : ℕ) → 1 ≤ i → i < j → get_or words (21 * i % 55 - 1) 0 ≡ seed_term x i

pub placed_none : (x : ℕ) (words : List ℕ) → length words ≡ 55 → ArePlaced x 1 (set words 54 x)
placed_none x words count =
    let within : 54 < length words = omega arith in
    record {
      count = length-set words 54 x ∙ count;
      last = get_or-set_same words 54 x 0 within;
      others = λ i one low. absurd (omega arith);
    }

pub placed_more : (x j t : ℕ) (words : List ℕ) → 1 ≤ j → j < 55 → t ≡ seed_term x j → ArePlaced x j words → ArePlaced x (j + 1) (set words (21 * j % 55 - 1) t)
placed_more x j t words one few is before =
    let count : length words ≡ 55 = before.count in
    let within : 21 * j % 55 - 1 < length words = omega arith in
    let not_last : 54 ≢ 21 * j % 55 - 1 = omega arith in
    record {
      count = length-set words (21 * j % 55 - 1) t ∙ before.count;
      last = get_or-set_other words (21 * j % 55 - 1) 54 t 0 not_last ∙ before.last;
      others = λ i from below.
          ⊎_elim
          (λ (same : i ≡ j).
          ap (λ n. get_or (set words (21 * j % 55 - 1) t) (21 * n % 55 - 1) 0) same
          ∙ get_or-set_same words (21 * j % 55 - 1) t 0 within
          ∙ is
          ∙ ap (λ n. seed_term x n) (sym same))
          (λ (other : i ≢ j).
          let apart : 21 * i % 55 - 1 ≢ 21 * j % 55 - 1 = omega arith in
          get_or-set_other words (21 * j % 55 - 1) (21 * i % 55 - 1) t 0 apart
          ∙ before.others i from (omega arith))
          (cases_eq i j);
    }

pub IsSeeding-placed : (x : ℕ) (words : List ℕ) → ArePlaced x 55 words → IsSeeding x words
IsSeeding-placed x words placed = record {
  last = placed.last;
  others = λ j one low. placed.others j one (omega arith);
}

-- ---- the seeding as a relation
pub IsSeeding-seed_words : (x : ℕ) → IsSeeding x (seed_words x)
unfolding seed_term
IsSeeding-seed_words x = record {
  last = get_or-seed_words x 54 (omega arith);
  others = λ j one low.
      let lt : 21 * j % 55 - 1 < 55 = omega arith in
      let turn : 21 * (21 * j % 55 - 1 + 1) % 55 ≡ j = omega arith in
      get_or-seed_words x (21 * j % 55 - 1) lt ∙ ap (λ n. seed_term x n) turn;
}

pub IsSeeding-only : (x : ℕ) (words : List ℕ) → length words ≡ 55 → IsSeeding x words → words ≡ seed_words x
unfolding seed_term
IsSeeding-only x words count is =
    ext_get_or 0 words (seed_words x) (count ∙ sym (length-seed_words x))
    (λ k h.
    ⊎_elim
    (λ (early : k < 54).
    let turn : 21 * (21 * (k + 1) % 55) % 55 - 1 ≡ k = omega arith in
    ap (λ n. get_or words n 0) (sym turn)
    ∙ is.others (21 * (k + 1) % 55) (omega arith) (omega arith)
    ∙ sym (get_or-seed_words x k (omega arith)))
    (λ (late : 54 ≤ k).
    let end : k ≡ 54 = omega arith in
    ap (λ n. get_or words n 0) end ∙ is.last
    ∙ sym (get_or-seed_words x 54 (omega arith))
    ∙ ap (λ n. get_or (seed_words x) n 0) (sym end))
    (cases_lt k 54))
