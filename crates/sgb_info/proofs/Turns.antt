-- Lemmas on numbers that are repeated, as a loop marks those that it met.
use Rattle.std.proofs.Common.{◌≡◌, ◌≢◌, ◌<◌, ◌+◌, ◌==◌, ◌||◌, cond, ℕ, List, length, get_or, set, take, All, Bool, true, false, inl, inr, sym, ap, ◌∙◌, arith}
use Rattle.std.specs.List.{count_by, list_any, range_with_len}
use Rattle.std.proofs.lemmas.Bool.{cases_Bool, eqb-true, eqb-false, eq-eqb, ne_eqb, or_right}
use Rattle.std.proofs.lemmas.List.{get_or-set_other, get_or-set_same, length-set}
use Rattle.std.proofs.lemmas.List.Folds.{list_any_more}
use Rattle.sgb_info.specs.Repeats.{is_repeated, repeats}
use Rattle.sgb_print.proofs.TextPieces.{or-false}
use Rattle.sgb_info.proofs.EdgeCounts.{sum_more}

-- how many of the first i numbers are repeated
abbrev pub repeats_to : List ℕ → ℕ → ℕ
repeats_to ks i = count_by (is_repeated ks) (range_with_len 0 i)

pub repeats_all : (ks : List ℕ) (i : ℕ) → i ≡ length ks → repeats_to ks i ≡ repeats ks
unfolding repeats
repeats_all ks i is = ap (repeats_to ks) is

-- each of the first i numbers has this turn, and no other
abbrev pub Marks : List ℕ → ℕ → ℕ → List ℕ → Type 0
Marks ks i turn last = (k : ℕ) → k < length last → (get_or last k 0 == turn) ≡ list_any (λ j. j == k) (take i ks)

pub marks_start : (ks : List ℕ) (turn : ℕ) (last : List ℕ) → All (λ t. t < turn) last → Marks ks 0 turn last
marks_start ks turn last before k low = ne_eqb (get_or last k 0) turn (λ same. omega (arith, before k 0 low, same))

module _ (ks : List ℕ) (i turn : ℕ) (last : List ℕ) (within : i < length ks) (marks : Marks ks i turn last) (low : get_or ks i 0 < length last) where
  -- the number at i
  abbrev x : ℕ
  x = get_or ks i 0

  repeats_more : (b : Bool) → (get_or last x 0 == turn) ≡ b → repeats_to ks (i + 1) ≡ repeats_to ks i + cond b 1 0
  repeats_more b is =
      sum_more (λ j. cond (is_repeated ks j) 1 0) i ∙ ap (λ t. repeats_to ks i + cond t 1 0) (sym (marks x low) ∙ is)

  pub repeats_again : (n : ℕ) → get_or last x 0 ≡ turn → n ≡ repeats_to ks i → n + 1 ≡ repeats_to ks (i + 1)
  repeats_again n met is = omega (arith, is, repeats_more true (eq-eqb (get_or last x 0) turn met))

  pub repeats_first : (n : ℕ) → get_or last x 0 ≢ turn → n ≡ repeats_to ks i → n ≡ repeats_to ks (i + 1)
  repeats_first n other is = omega (arith, is, repeats_more false (ne_eqb (get_or last x 0) turn other))

  any_other : (k : ℕ) → (x == k) ≡ false → list_any (λ j. j == k) (take (i + 1) ks) ≡ list_any (λ j. j == k) (take i ks)
  any_other k other =
      list_any_more (λ j. j == k) ks i 0 within
      ∙ (ap (λ b. list_any (λ j. j == k) (take i ks) || b) other ∙ or-false (list_any (λ j. j == k) (take i ks)))

  any_same : (k : ℕ) → (x == k) ≡ true → list_any (λ j. j == k) (take (i + 1) ks) ≡ true
  any_same k same = list_any_more (λ j. j == k) ks i 0 within ∙ or_right (list_any (λ j. j == k) (take i ks)) (x == k) same

  pub marks_again : get_or last x 0 ≡ turn → Marks ks (i + 1) turn last
  marks_again met k inside =
      elim (cases_Bool (x == k)) [
        | inl same ↦ (ap (λ j. get_or last j 0 == turn) (sym (eqb-true x k same)) ∙ eq-eqb (get_or last x 0) turn met) ∙ sym (any_same k same)
        | inr other ↦ marks k inside ∙ sym (any_other k other)
      ]

  pub marks_first : Marks ks (i + 1) turn (set last x turn)
  marks_first k inside =
      elim (cases_Bool (x == k)) [
        | inl same ↦
            (ap (λ j. get_or (set last x turn) j 0 == turn) (sym (eqb-true x k same)) ∙ eq-eqb (get_or (set last x turn) x 0) turn (get_or-set_same last x turn 0 low)) ∙ sym (any_same k same)
        | inr other ↦
            (ap (λ t. t == turn) (get_or-set_other last x k turn 0 (λ e. eqb-false x k other (sym e)))
            ∙ marks k (omega (arith, inside, length-set last x turn))) ∙ sym (any_other k other)
      ]
