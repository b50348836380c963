-- Passes over neighbouring words, and how three of them make the next batch or the one before.
use Rattle.std.proofs.Common.{◌≡◌, ℕ, zero, suc, ◌+◌, ◌-◌, ◌*◌, ◌^◌, ◌<◌, ◌≤◌, ◌≢◌, ◌⊎◌, ⊎_elim, inl, inr, List, length, get_or, set, refl, sym, ap, ap₂, ◌∙◌, subst, arith, length-set, get_or-set_other, get_or-set_same}
use Rattle.std.proofs.lemmas.Bool.{cases_eq, cases_lt}
use Rattle.sgb_flip.specs.Generator.{AreSmall}
use Rattle.sgb_flip.specs.Private.Run.{IsRun}
use Rattle.sgb_flip.specs.Sequence.{difference, joined, term, terms_after}
use Rattle.sgb_flip.proofs.Terms.{difference-joined, term-low, term-more, same-terms_after, terms_after-terms_after}

-- ---- one pass
pub run_none : (f : ℕ → ℕ → ℕ) (at from : ℕ) (xs : List ℕ) → IsRun f at from 0 xs xs
run_none f at from xs = record {
  length_is = refl;
  changed = λ k h. absurd (omega arith);
  below = λ i h. refl;
  above = λ i h. refl;
}

-- one pass after another that goes on where it ended
pub run_append : (f : ℕ → ℕ → ℕ) (at from j k m p q : ℕ) (old now next : List ℕ)
    → p ≡ at + j → q ≡ from + j → m ≡ j + k → (from + m ≤ at) ⊎ (at + m ≤ from)
    → IsRun f at from j old now → IsRun f p q k now next → IsRun f at from m old next
run_append f at from j k m p q old now next at_is from_is m_is apart first then = record {
  length_is = then.length_is ∙ first.length_is;
  changed = λ i h.
      ⊎_elim
      (λ (early : i < j). then.below (at + i) (omega arith) ∙ first.changed i early)
      (λ (late : j ≤ i).
      let here : p + (i - j) ≡ at + i = omega arith in
      let there : q + (i - j) ≡ from + i = omega arith in
      let read : get_or now (from + i) 0 ≡ get_or old (from + i) 0 =
      ⊎_elim
      (λ (under : from + m ≤ at). first.below (from + i) (omega arith))
      (λ (over : at + m ≤ from). first.above (from + i) (omega arith))
      apart
      in
      ap (λ n. get_or next n 0) (sym here)
      ∙ then.changed (i - j) (omega arith)
      ∙ ap₂ (λ a b. f (get_or now a 0) (get_or now b 0)) here there
      ∙ ap₂ f (first.above (at + i) (omega arith)) read)
      (cases_lt i j);
  below = λ i h. then.below i (omega arith) ∙ first.below i h;
  above = λ i h. then.above i (omega arith) ∙ first.above i (omega arith);
}

-- a shorter pass is apart too
pub part_apart : (at from count k : ℕ) → k ≤ count → (from + count ≤ at) ⊎ (at + count ≤ from) → (from + k ≤ at) ⊎ (at + k ≤ from)
part_apart at from count k h apart =
    ⊎_elim (λ (under : from + count ≤ at). inl (omega arith)) (λ (over : at + count ≤ from). inr (omega arith)) apart

-- a pass over one word
pub run_one : (f : ℕ → ℕ → ℕ) (p q v : ℕ) (now : List ℕ) → p < length now → v ≡ f (get_or now p 0) (get_or now q 0) → IsRun f p q 1 now (set now p v)
run_one f p q v now h is = record {
  length_is = length-set now p v;
  changed = λ k lt.
      let first : k ≡ 0 = omega arith in
      let here : p + k ≡ p = omega arith in
      let there : q + k ≡ q = omega arith in
      ap (λ n. get_or (set now p v) n 0) here
      ∙ get_or-set_same now p v 0 h
      ∙ is
      ∙ ap₂ (λ a b. f (get_or now a 0) (get_or now b 0)) (sym here) (sym there);
  below = λ i lt. let ne : i ≢ p = omega arith in get_or-set_other now p i v 0 ne;
  above = λ i le. let ne : i ≢ p = omega arith in get_or-set_other now p i v 0 ne;
}

-- one word more of a pass
pub run_more : (f : ℕ → ℕ → ℕ) (at from count k v : ℕ) (old now : List ℕ)
    → (from + count ≤ at) ⊎ (at + count ≤ from) → k < count → at + k < length now
    → v ≡ f (get_or now (at + k) 0) (get_or now (from + k) 0)
    → IsRun f at from k old now → IsRun f at from (k + 1) old (set now (at + k) v)
run_more f at from count k v old now apart h within is before =
    run_append f at from k 1 (k + 1) (at + k) (from + k) old now (set now (at + k) v) refl refl refl
    (⊎_elim (λ (under : from + count ≤ at). inl (omega arith)) (λ (over : at + count ≤ from). inr (omega arith)) apart)
    before (run_one f (at + k) (from + k) v now within is)

pub AreSmall-set : (xs : List ℕ) (p v : ℕ) → AreSmall xs → v < 2 ^ 31 → AreSmall (set xs p v)
AreSmall-set xs p v small h i lt =
    let within : i < length xs = omega (arith, length-set xs p v) in
    ⊎_elim
    (λ (same : i ≡ p).
    let here : p < length xs = omega arith in
    subst (λ (x : ℕ). x < 2 ^ 31) (sym (ap (λ n. get_or (set xs p v) n 0) same ∙ get_or-set_same xs p v 0 here)) h)
    (λ (other : i ≢ p).
    subst (λ (x : ℕ). x < 2 ^ 31) (sym (get_or-set_other xs p i v 0 other)) (small i within))
    (cases_eq i p)

-- ---- forward
-- each new word, in the array's own arithmetic, is a term
turned : (old new : List ℕ) → ((k : ℕ) → k < 24 → get_or new k 0 ≡ difference (get_or old k 0) (get_or old (k + 31) 0))
    → ((k : ℕ) → 24 ≤ k → k < 55 → get_or new k 0 ≡ difference (get_or old k 0) (get_or new (k - 24) 0))
    → (bound k : ℕ) → k < bound → k < 55 → get_or new k 0 ≡ term old (55 + (k + 1))
turned old new low high zero k h lt = absurd (omega arith)
turned old new low high (suc bound) k h lt =
    let here : k + 1 - 1 ≡ k = omega arith in
    let whole : k + 1 + 55 ≡ 55 + (k + 1) = omega arith in
    let self : term old (k + 1) ≡ get_or old k 0 = term-low old (k + 1) (omega arith) ∙ ap (λ n. get_or old n 0) here in
    ⊎_elim
    (λ (early : k < 24).
    let there : k + 1 + 31 - 1 ≡ k + 31 = omega arith in
    let other : term old (k + 1 + 31) ≡ get_or old (k + 31) 0 = term-low old (k + 1 + 31) (omega arith) ∙ ap (λ n. get_or old n 0) there in
    low k early ∙ ap₂ difference (sym self) (sym other) ∙ sym (term-more old (k + 1) (omega arith)) ∙ ap (λ n. term old n) whole)
    (λ (late : 24 ≤ k).
    let there : 55 + (k - 24 + 1) ≡ k + 1 + 31 = omega arith in
    let other : get_or new (k - 24) 0 ≡ term old (k + 1 + 31) = turned old new low high bound (k - 24) (omega arith) (omega arith) ∙ ap (λ n. term old n) there in
    high k late lt ∙ ap₂ difference (sym self) other ∙ sym (term-more old (k + 1) (omega arith)) ∙ ap (λ n. term old n) whole)
    (cases_lt k 24)

pub next_batch : (old a b new : List ℕ) → length old ≡ 55 → IsRun difference 0 31 24 old a → IsRun difference 24 0 24 a b → IsRun difference 48 24 7 b new → new ≡ terms_after old 55
next_batch old a b new count first second third =
    same-terms_after old 55 new (third.length_is ∙ second.length_is ∙ first.length_is ∙ count)
    (λ k h.
    turned old new
    (λ i lt.
    let here : 0 + i ≡ i = omega arith in
    let there : 31 + i ≡ i + 31 = omega arith in
    third.below i (omega arith) ∙ second.below i lt
    ∙ ap (λ n. get_or a n 0) (sym here) ∙ first.changed i lt
    ∙ ap₂ (λ p q. difference (get_or old p 0) (get_or old q 0)) here there)
    (λ i low lt.
    ⊎_elim
    (λ (middle : i < 48).
    let here : 24 + (i - 24) ≡ i = omega arith in
    let there : 0 + (i - 24) ≡ i - 24 = omega arith in
    third.below i middle
    ∙ ap (λ n. get_or b n 0) (sym here) ∙ second.changed (i - 24) (omega arith)
    ∙ ap₂ (λ p q. difference (get_or a p 0) (get_or a q 0)) here there
    ∙ ap₂ difference (first.above i low) (sym (third.below (i - 24) (omega arith) ∙ second.below (i - 24) (omega arith))))
    (λ (high : 48 ≤ i).
    let here : 48 + (i - 48) ≡ i = omega arith in
    let there : 24 + (i - 48) ≡ i - 24 = omega arith in
    ap (λ n. get_or new n 0) (sym here) ∙ third.changed (i - 48) (omega arith)
    ∙ ap₂ (λ p q. difference (get_or b p 0) (get_or b q 0)) here there
    ∙ ap₂ difference (second.above i high ∙ first.above i low) (sym (third.below (i - 24) (omega arith))))
    (cases_lt i 48))
    (suc k) k (omega arith) h)

-- ---- backward
-- words that were each joined, in the array's own arithmetic, lead to the words that were there
restored : (old new : List ℕ) → length new ≡ 55 → length old ≡ 55 → AreSmall old → AreSmall new
    → ((k : ℕ) → k < 24 → get_or new k 0 ≡ joined (get_or old k 0) (get_or new (k + 31) 0))
    → ((k : ℕ) → 24 ≤ k → k < 55 → get_or new k 0 ≡ joined (get_or old k 0) (get_or old (k - 24) 0))
    → (bound k : ℕ) → k < bound → k < 55 → get_or old k 0 ≡ term new (55 + (k + 1))
restored old new count count' small small' low high zero k h lt = absurd (omega arith)
restored old new count count' small small' low high (suc bound) k h lt =
    let here : k + 1 - 1 ≡ k = omega arith in
    let whole : k + 1 + 55 ≡ 55 + (k + 1) = omega arith in
    let self : term new (k + 1) ≡ get_or new k 0 = term-low new (k + 1) (omega arith) ∙ ap (λ n. get_or new n 0) here in
    ⊎_elim
    (λ (early : k < 24).
    let there : k + 1 + 31 - 1 ≡ k + 31 = omega arith in
    let other : term new (k + 1 + 31) ≡ get_or new (k + 31) 0 = term-low new (k + 1 + 31) (omega arith) ∙ ap (λ n. get_or new n 0) there in
    sym (difference-joined (get_or old k 0) (get_or new (k + 31) 0) (small k (omega arith)) (small' (k + 31) (omega arith)))
    ∙ ap₂ difference (sym (self ∙ low k early)) (sym other)
    ∙ sym (term-more new (k + 1) (omega arith)) ∙ ap (λ n. term new n) whole)
    (λ (late : 24 ≤ k).
    let there : 55 + (k - 24 + 1) ≡ k + 1 + 31 = omega arith in
    let other : get_or old (k - 24) 0 ≡ term new (k + 1 + 31) =
    restored old new count count' small small' low high bound (k - 24) (omega arith) (omega arith) ∙ ap (λ n. term new n) there
    in
    sym (difference-joined (get_or old k 0) (get_or old (k - 24) 0) (small k (omega arith)) (small (k - 24) (omega arith)))
    ∙ ap₂ difference (sym (self ∙ high k late lt)) other
    ∙ sym (term-more new (k + 1) (omega arith)) ∙ ap (λ n. term new n) whole)
    (cases_lt k 24)

pub batch_before : (old new : List ℕ) → length old ≡ 55 → length new ≡ 55 → AreSmall old → AreSmall new
    → ((k : ℕ) → k < 24 → get_or new k 0 ≡ joined (get_or old k 0) (get_or new (k + 31) 0))
    → ((k : ℕ) → 24 ≤ k → k < 55 → get_or new k 0 ≡ joined (get_or old k 0) (get_or old (k - 24) 0))
    → terms_after new 55 ≡ old
batch_before old new count count' small small' low high =
    sym (same-terms_after new 55 old count
    (λ k h. restored old new count' count small small' low high (suc k) k (omega arith) h))

-- ---- many batches
pub batches_more : (first now next : List ℕ) (turns : ℕ) → now ≡ terms_after first (55 * turns) → next ≡ terms_after now 55 → next ≡ terms_after first (55 * (turns + 1))
batches_more first now next turns before then =
    let whole : 55 * turns + 55 ≡ 55 * (turns + 1) = omega arith in
    then ∙ ap (λ ws. terms_after ws 55) before
    ∙ terms_after-terms_after first (55 * turns) 55
    ∙ ap (λ s. terms_after first s) whole

pub batches_before : (first now next : List ℕ) (turns : ℕ) → terms_after now (55 * turns) ≡ first → terms_after next 55 ≡ now → terms_after next (55 * (turns + 1)) ≡ first
batches_before first now next turns before then =
    let whole : 55 * (turns + 1) ≡ 55 + 55 * turns = omega arith in
    ap (λ s. terms_after next s) whole
    ∙ sym (terms_after-terms_after next 55 (55 * turns))
    ∙ ap (λ ws. terms_after ws (55 * turns)) then
    ∙ before
