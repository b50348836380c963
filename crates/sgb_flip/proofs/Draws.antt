-- Draws, counted: for callers that follow a generator over many calls.
use Rattle.std.proofs.Common.{◌≡◌, ℕ, ◌+◌, ◌-◌, ◌*◌, ◌/◌, ◌%◌, ◌^◌, ◌<◌, ℤ, List, length, get_or, refl, sym, ap, ap₂, ◌∙◌, subst, arith}
use Rattle.sgb_flip.specs.Generator.{Generator, AreSmall, IsGenerator, drawn, after, seed_words, seed_number, seeded, window}
use Rattle.sgb_flip.specs.Sequence.{term, terms_after}
use Rattle.sgb_flip.proofs.Seeds.{seed_number-below, length-seed_words, AreSmall-seed_words}
use Rattle.sgb_flip.proofs.Terms.{get_or-terms_after, length-terms_after, term-low, terms_after-none, terms_after-terms_after, term-terms_after, term-below, AreSmall-terms_after, same_words}

-- these words, of which so many are unread
abbrev pub made : List ℕ → ℕ → Generator
made words unread = record { words = words; unread = unread }

-- ---- one place: batch q, and r draws into it
pub after_at : (w : Generator) (j q r : ℕ) → 54 - w.unread + j ≡ 55 * q + r → r < 55 → after w j ≡ made (terms_after w.words (55 * q)) (54 - r)
unfolding after
after_at w j q r place h =
    let batch : (54 - w.unread + j) / 55 ≡ q = omega arith in
    let within : (54 - w.unread + j) % 55 ≡ r = omega arith in
    ap₂ (λ b d. made (terms_after w.words (55 * b)) (54 - d)) batch within

pub drawn_at : (w : Generator) (j q r : ℕ) → 55 - w.unread + j ≡ 55 * q + r → r < 55 → drawn w j ≡ term w.words (55 * q + 55 - r)
unfolding drawn
drawn_at w j q r place h =
    let batch : (55 - w.unread + j) / 55 ≡ q = omega arith in
    let within : (55 - w.unread + j) % 55 ≡ r = omega arith in
    ap₂ (λ b d. term w.words (55 * b + 55 - d)) batch within

-- a place, divided
record Place (p : ℕ) : Type 0 where
  pub batch : ℕ
  pub within : ℕ
  pub is : p ≡ 55 * batch + within
  pub few : within < 55

place_of : (p : ℕ) → Place p
place_of p = record { batch = p / 55; within = p % 55; is = omega arith; few = omega arith }

-- ---- draws one after another
pub after-none : (w : Generator) → IsGenerator w → after w 0 ≡ w
after-none w is =
    let few : w.unread < 55 = is.few in
    let left : 54 - (54 - w.unread) ≡ w.unread = omega arith in
    after_at w 0 0 (54 - w.unread) (omega arith) (omega arith)
    ∙ ap₂ made (terms_after-none w.words is.count) left

pub after-after : (w : Generator) (i j : ℕ) → after (after w i) j ≡ after w (i + j)
after-after w i j =
    let first : Place (54 - w.unread + i) = place_of (54 - w.unread + i) in
    let next : Place (first.within + j) = place_of (first.within + j) in
    let batches : 55 * first.batch + 55 * next.batch ≡ 55 * (first.batch + next.batch) = omega arith in
    let middle : Generator = made (terms_after w.words (55 * first.batch)) (54 - first.within) in
    let place : 54 - middle.unread + j ≡ 55 * next.batch + next.within = omega (arith, first.few, next.is) in
    let whole : 54 - w.unread + (i + j) ≡ 55 * (first.batch + next.batch) + next.within = omega (arith, first.is, next.is) in
    ap (λ g. after g j) (after_at w i first.batch first.within first.is first.few)
    ∙ after_at middle j next.batch next.within place next.few
    ∙ ap (λ ws. made ws (54 - next.within)) (terms_after-terms_after w.words (55 * first.batch) (55 * next.batch))
    ∙ ap (λ s. made (terms_after w.words s) (54 - next.within)) batches
    ∙ sym (after_at w (i + j) (first.batch + next.batch) next.within whole next.few)

pub drawn-after : (w : Generator) (i j : ℕ) → IsGenerator w → drawn (after w i) j ≡ drawn w (i + j)
drawn-after w i j is =
    let few : w.unread < 55 = is.few in
    let first : Place (54 - w.unread + i) = place_of (54 - w.unread + i) in
    let next : Place (first.within + 1 + j) = place_of (first.within + 1 + j) in
    let middle : Generator = made (terms_after w.words (55 * first.batch)) (54 - first.within) in
    let place : 55 - middle.unread + j ≡ 55 * next.batch + next.within = omega (arith, first.few, next.is) in
    let whole : 55 - w.unread + (i + j) ≡ 55 * (first.batch + next.batch) + next.within = omega (arith, first.is, next.is) in
    let index : 55 * first.batch + (55 * next.batch + 55 - next.within) ≡ 55 * (first.batch + next.batch) + 55 - next.within = omega (arith, next.few) in
    ap (λ g. drawn g j) (after_at w i first.batch first.within first.is first.few)
    ∙ drawn_at middle j next.batch next.within place next.few
    ∙ term-terms_after w.words (55 * first.batch) (55 * next.batch + 55 - next.within) (omega (arith, next.few))
    ∙ ap (λ n. term w.words n) index
    ∙ sym (drawn_at w (i + j) (first.batch + next.batch) next.within whole next.few)

pub IsGenerator-made : (words : List ℕ) (s unread : ℕ) → length words ≡ 55 → AreSmall words → unread < 55 → IsGenerator (made (terms_after words s) unread)
IsGenerator-made words s unread count small few = record {
  count = length-terms_after words s;
  small = AreSmall-terms_after words s count small;
  few = few;
}

pub IsGenerator-after : (w : Generator) (j : ℕ) → IsGenerator w → IsGenerator (after w j)
IsGenerator-after w j is =
    let place : Place (54 - w.unread + j) = place_of (54 - w.unread + j) in
    subst IsGenerator (sym (after_at w j place.batch place.within place.is place.few))
    (IsGenerator-made w.words (55 * place.batch) (54 - place.within) is.count is.small (omega arith))

pub drawn-below : (w : Generator) (j : ℕ) → IsGenerator w → drawn w j < 2 ^ 31
drawn-below w j is =
    let place : Place (55 - w.unread + j) = place_of (55 - w.unread + j) in
    let index : ℕ = 55 * place.batch + 55 - place.within in
    let some : 0 < 55 * place.batch + 55 - place.within = omega (arith, place.few) in
    subst (λ (x : ℕ). x < 2 ^ 31) (sym (drawn_at w j place.batch place.within place.is place.few))
    (term-below w.words is.count is.small (55 * place.batch + 55 - place.within) some)

-- ---- one draw, as the words give it
-- where none is unread the next batch comes first
pub next_refilled : (words next : List ℕ) (unread : ℕ) (w : Generator) → made words unread ≡ w → unread ≡ 0 → next ≡ terms_after words 55 → (get_or next 54 0 ≡ drawn w 0) × (made next 54 ≡ after w 1)
next_refilled words next unread w view none is =
    let old : Generator = made words unread in
    let last : 55 * 1 + 55 - 0 ≡ 55 + (54 + 1) = omega arith in (
      ap (λ ws. get_or ws 54 0) is ∙ get_or-terms_after words 55 54 (omega arith)
          ∙ ap (λ n. term words n) (sym last)
          ∙ sym (drawn_at old 0 1 0 (omega arith) (omega arith))
          ∙ ap (λ g. drawn g 0) view,
      ap (λ ws. made ws 54) is
          ∙ sym (after_at old 1 1 0 (omega arith) (omega arith))
          ∙ ap (λ g. after g 1) view,
    )

-- else the last unread word is drawn
pub next_read : (words : List ℕ) (unread : ℕ) (w : Generator) → made words unread ≡ w → length words ≡ 55 → 0 < unread → unread < 55 → (get_or words (unread - 1) 0 ≡ drawn w 0) × (made words (unread - 1) ≡ after w 1)
next_read words unread w view count some few =
    let old : Generator = made words unread in
    let index : 55 * 0 + 55 - (55 - unread) ≡ unread = omega arith in
    let left : 54 - (55 - unread) ≡ unread - 1 = omega arith in (
      sym (term-low words unread (omega arith))
          ∙ ap (λ n. term words n) (sym index)
          ∙ sym (drawn_at old 0 0 (55 - unread) (omega arith) (omega arith))
          ∙ ap (λ g. drawn g 0) view,
      sym (after_at old 1 0 (55 - unread) (omega arith) (omega arith)
          ∙ ap₂ made (terms_after-none words count) left)
          ∙ ap (λ g. after g 1) view,
    )

-- one state alone is led to a given one by so many draws
pub after-only : (v w : Generator) (n : ℕ) → IsGenerator v → IsGenerator w → after v n ≡ after w n → v ≡ w
after-only v w n is is' same =
    let few : v.unread < 55 = is.few in
    let few' : w.unread < 55 = is'.few in
    let p : Place (54 - v.unread + n) = place_of (54 - v.unread + n) in
    let q : Place (54 - w.unread + n) = place_of (54 - w.unread + n) in
    let made_same : made (terms_after v.words (55 * p.batch)) (54 - p.within) ≡ made (terms_after w.words (55 * q.batch)) (54 - q.within) =
    sym (after_at v n p.batch p.within p.is p.few) ∙ same ∙ after_at w n q.batch q.within q.is q.few
    in
    let left : 54 - p.within ≡ 54 - q.within = ap (λ (g : Generator). g.unread) made_same in
    let within : p.within ≡ q.within = omega (arith, left, p.few, q.few) in
    let batch : p.batch ≡ q.batch = omega (arith, within, p.is, q.is) in
    let unread : v.unread ≡ w.unread = omega (arith, within, batch, p.is, q.is) in
    let later : terms_after v.words (55 * p.batch) ≡ terms_after w.words (55 * p.batch) =
    ap (λ (g : Generator). g.words) made_same ∙ ap (λ b. terms_after w.words (55 * b)) (sym batch)
    in
    ap₂ made (same_words v.words w.words is.count is.small is'.count is'.small (55 * p.batch) later) unread

-- the same, where it is known that a state leads there
pub before-only : (new old : Generator) (n : ℕ) → IsGenerator new → after new n ≡ old → (v : Generator) → IsGenerator v → after v n ≡ old → v ≡ new
before-only new old n is before v is' same = after-only v new n is' is (same ∙ sym before)

-- ---- one draw and many, turned back as the words give them
pub back_refilled : (words before : List ℕ) (unread : ℕ) (w : Generator) → made words unread ≡ w → unread ≡ 54 → terms_after before 55 ≡ words → after (made before 0) 1 ≡ w
back_refilled words before unread w view all batch =
    sym (next_refilled before words 0 (made before 0) refl refl (sym batch)).1
    ∙ ap (λ u. made words u) (sym all)
    ∙ view

pub back_read : (words : List ℕ) (unread : ℕ) (w : Generator) → made words unread ≡ w → length words ≡ 55 → unread < 54 → after (made words (unread + 1)) 1 ≡ w
back_read words unread w view count few =
    let same : unread + 1 - 1 ≡ unread = omega arith in
    sym (next_read words (unread + 1) (made words (unread + 1)) refl count (omega arith) (omega arith)).1
    ∙ ap (λ u. made words u) same
    ∙ view

pub back_batches : (words before : List ℕ) (unread n part batches : ℕ) (w : Generator) → made words unread ≡ w → unread < 55 → part ≡ unread + n % 55 → batches ≡ n / 55 + part / 55 → terms_after before (55 * batches) ≡ words → after (made before (part % 55)) n ≡ w
back_batches words before unread n part batches w view few part_is batches_is batch =
    let left : 54 - (54 - unread) ≡ unread = omega arith in
    after_at (made before (part % 55)) n batches (54 - unread) (omega arith) (omega arith)
    ∙ ap₂ made batch left
    ∙ view

-- ---- a seeded generator
pub IsGenerator-seeded : (s : ℤ) → IsGenerator (seeded s)
unfolding seeded
IsGenerator-seeded s =
    let x : ℕ = seed_number s in
    IsGenerator-made (seed_words x) 275 54 (length-seed_words x) (AreSmall-seed_words x (seed_number-below s)) (omega arith)

-- ---- a seeded generator after k draws
pub window-none : (s : ℤ) → window s 0 ≡ seeded s
unfolding window
window-none s = after-none (seeded s) (IsGenerator-seeded s)

pub IsGenerator-window : (s : ℤ) (k : ℕ) → IsGenerator (window s k)
unfolding window
IsGenerator-window s k = IsGenerator-after (seeded s) k (IsGenerator-seeded s)

pub after-window : (s : ℤ) (k j : ℕ) → after (window s k) j ≡ window s (k + j)
unfolding window
after-window s k j = after-after (seeded s) k j

pub drawn-window : (s : ℤ) (k j : ℕ) → drawn (window s k) j ≡ drawn (seeded s) (k + j)
unfolding window
drawn-window s k j = drawn-after (seeded s) k j (IsGenerator-seeded s)

-- the one state that n draws lead from to the window at k + n is the window at k
pub window-before : (s : ℤ) (k n : ℕ) (v : Generator) → IsGenerator v → after v n ≡ window s (k + n) → v ≡ window s k
window-before s k n v is same =
    after-only v (window s k) n is (IsGenerator-window s k) (same ∙ sym (after-window s k n))
