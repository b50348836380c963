-- Lines that begin with a star, which do not count.
use Rattle.std.proofs.Common.{◌≡◌, ℕ, zero, suc, ◌+◌, ◌<◌, ◌≤◌, ◌==◌, not, ◌&&◌, Bool, true, false, List, [], ◌∷◌, ◌++◌, take, drop, length, get_or, slice_index, refl, sym, ap, ◌∙◌, inl, inr, arith, append_assoc}
use Rattle.std.specs.List.{flat_map}
use Rattle.std.proofs.lemmas.Bool.{cases_Bool, and_parts, not-true, eqb-true}
use Rattle.std.proofs.lemmas.List.{append-nil, take-append-drop, take_all, take_more}
use Rattle.std.proofs.Math.Seq.{drop-cons}
use Rattle.memchr.specs.Find.{OccursAt, Nowhere}
use Rattle.sgb_grammar.specs.Check.{counted, lines_of, with_first, covered}

-- no line begins with a star; whether the first byte begins a line is told
abbrev pub has_no_star : Bool → List ℕ → Bool
has_no_star begins [] = true
has_no_star begins (b ∷ bs) = not (begins && b == 42) && has_no_star (b == 10) bs

-- the first line, whatever it begins with, and what counts of the others
abbrev pub going_on : List (List ℕ) → List ℕ
going_on [] = []
going_on (l ∷ ls) = l ++ flat_map counted ls

goes_on : (b : ℕ) (ls : List (List ℕ)) → going_on (with_first b ls) ≡ b ∷ going_on ls
goes_on b [] = refl
goes_on b (l ∷ ls) = refl

counts : (b : ℕ) (ls : List (List ℕ)) → (b == 42) ≡ false → flat_map counted (with_first b ls) ≡ b ∷ going_on ls
counts b [] other = rw other refl
counts b (l ∷ ls) other = rw other refl

-- with `t` behind them, of which `r` counts, all these bytes count
pub record Counts (t r xs : List ℕ) : Type 0 where
  pub begun : has_no_star true xs ≡ true → flat_map counted (lines_of (xs ++ t)) ≡ xs ++ r
  pub within : has_no_star false xs ≡ true → going_on (lines_of (xs ++ t)) ≡ xs ++ r

front_counts : (t r : List ℕ) → Counts t r [] → (xs : List ℕ) → Counts t r xs
unfolding lines_of
front_counts t r none [] = none
front_counts t r none (b ∷ xs) =
    let more = front_counts t r none xs in
    elim (cases_Bool (b == 10)) [
      | inl newline ↦
          let ten = eqb-true b 10 newline in
          let behind = λ (h : has_no_star (b == 10) xs ≡ true). more.begun (ap (λ k. has_no_star k xs) (sym newline) ∙ h) in
          record {
            begun = λ h. rw ten (ap (λ ys. 10 ∷ ys) (behind (and_parts (not (b == 42)) (has_no_star (b == 10) xs) h).1));
            within = λ h. rw ten (ap (λ ys. 10 ∷ ys) (behind h));
          }
      | inr other ↦
          record {
            begun = λ h.
                let both = and_parts (not (b == 42)) (has_no_star (b == 10) xs) h in
                let behind : has_no_star false xs ≡ true = ap (λ k. has_no_star k xs) (sym other) ∙ both.1 in
                rw other (counts b (lines_of (xs ++ t)) (not-true (b == 42) both.0) ∙ ap (λ ys. b ∷ ys) (more.within behind));
            within = λ h.
                let behind : has_no_star false xs ≡ true = ap (λ k. has_no_star k xs) (sym other) ∙ h in
                rw other (goes_on b (lines_of (xs ++ t)) ∙ ap (λ ys. b ∷ ys) (more.within behind));
          }
    ]

no_star : (begins : Bool) (bs : List ℕ) (n : ℕ)
    → (begins ≡ true → 0 < n → get_or bs 0 0 ≡ 42 → ⊥)
    → ((j : ℕ) → suc j < n → get_or bs j 0 ≡ 10 → get_or bs (suc j) 0 ≡ 42 → ⊥)
    → has_no_star begins (take n bs) ≡ true
no_star begins [] zero first pair = refl
no_star begins [] (suc n) first pair = refl
no_star begins (b ∷ bs) zero first pair = refl
no_star begins (b ∷ bs) (suc n) first pair =
    let more : has_no_star (b == 10) (take n bs) ≡ true =
    no_star (b == 10) bs n (λ e h s. pair zero (omega (arith, h)) (eqb-true b 10 e) s) (λ j h e s. pair (suc j) (omega (arith, h)) e s) in
    elim (cases_Bool (begins && b == 42)) [
      | inl star ↦ absurd (let both = and_parts begins (b == 42) star in first both.0 (omega arith) (eqb-true b 42 both.1))
      | inr other ↦ rw other more
    ]

reads_both : (bs : List ℕ) (j : ℕ) → get_or bs j 0 ≡ 10 → get_or bs (suc j) 0 ≡ 42
    → (i : ℕ) → i < 2 → slice_index bs (j + i) ≡ slice_index (10 ∷ 42 ∷ []) i
reads_both bs j e s zero h = ap (λ n. get_or bs n 0) (let same : j + 0 ≡ j = omega arith in same) ∙ e
reads_both bs j e s (suc zero) h = ap (λ n. get_or bs n 0) (let next : j + 1 ≡ suc j = omega arith in next) ∙ s
reads_both bs j e s (suc (suc i)) h = absurd (omega arith)

-- a newline and a star stand nowhere before this place
none_before : (bs : List ℕ) (n : ℕ) → (get_or bs 0 0 ≡ 42 → ⊥) → n ≤ length bs → Nowhere (OccursAt bs (10 ∷ 42 ∷ [])) 0 n → has_no_star true (take n bs) ≡ true
none_before bs n first inside nowhere =
    no_star true bs n (λ _ _ s. first s)
    (λ j h e s. nowhere j (omega arith) (omega (arith, h)) (record { fits = omega (arith, h, inside); reads = reads_both bs j e s }))

pub all_count : (bs : List ℕ) → (get_or bs 0 0 ≡ 42 → ⊥) → Nowhere (OccursAt bs (10 ∷ 42 ∷ [])) 0 (length bs + 1) → covered bs ≡ bs ++ covered []
unfolding covered lines_of
all_count bs first nowhere =
    let short : Nowhere (OccursAt bs (10 ∷ 42 ∷ [])) 0 (length bs) = λ j _ h. nowhere j (omega arith) (omega (arith, h)) in
    let all : take (length bs) bs ≡ bs = take_all (length bs) bs (omega arith) in
    let clear : has_no_star true bs ≡ true = ap (has_no_star true) (sym all) ∙ none_before bs (length bs) first (omega arith) short in
    ap covered (sym (append-nil bs)) ∙ (front_counts [] [] (record { begun = λ _. refl; within = λ _. refl }) bs).begun clear

pub lines_before_star : (bs : List ℕ) (k : ℕ) → (get_or bs 0 0 ≡ 42 → ⊥)
    → Nowhere (OccursAt bs (10 ∷ 42 ∷ [])) 0 k → OccursAt bs (10 ∷ 42 ∷ []) k → covered bs ≡ take (k + 1) bs ++ covered (drop (k + 1) bs)
unfolding covered lines_of
lines_before_star bs k first nowhere here =
    let inside : k < length bs = omega (arith, here.fits) in
    let ten : get_or bs k 0 ≡ 10 = ap (λ n. get_or bs n 0) (let same : k ≡ k + 0 = omega arith in same) ∙ here.reads zero (omega arith) in
    let next : suc k ≡ k + 1 = omega arith in
    let rest = drop (k + 1) bs in
    let end : drop k bs ≡ 10 ∷ rest = drop-cons bs k 0 inside ∙ ap (λ b. b ∷ drop (suc k) bs) ten ∙ ap (λ n. 10 ∷ drop n bs) next in
    let whole : bs ≡ take k bs ++ 10 ∷ rest = sym (ap (λ ys. take k bs ++ ys) (sym end) ∙ take-append-drop k bs) in
    let front : take (k + 1) bs ≡ take k bs ++ 10 ∷ [] = take_more bs k 0 inside ∙ ap (λ b. take k bs ++ b ∷ []) ten in
    let clear = none_before bs k first (omega (arith, inside)) nowhere in
    ap covered whole
    ∙ (front_counts (10 ∷ rest) (10 ∷ covered rest) (record { begun = λ _. refl; within = λ _. refl }) (take k bs)).begun clear
    ∙ sym (append_assoc (take k bs) (10 ∷ []) (covered rest))
    ∙ ap (λ ys. ys ++ covered rest) (sym front)

-- what counts of the first line
abbrev pub first_counted : List (List ℕ) → List ℕ
first_counted [] = []
first_counted (l ∷ ls) = counted l

starred : (ls : List (List ℕ)) → first_counted (with_first 42 ls) ≡ []
starred [] = refl
starred (l ∷ ls) = refl

begins_with_star : (bs : List ℕ) → get_or bs 0 0 ≡ 42 → first_counted (lines_of bs) ≡ []
unfolding lines_of
begins_with_star [] star = refl
begins_with_star (b ∷ bs) star = rw star (starred (lines_of bs))

-- a line that begins with a star counts for nothing
pub behind_star : (bs line rest : List ℕ) → get_or bs 0 0 ≡ 42 → lines_of bs ≡ line ∷ lines_of rest → covered bs ≡ covered rest
unfolding covered
behind_star bs line rest star e =
    let none : counted line ≡ [] = ap first_counted (sym e) ∙ begins_with_star bs star in
    ap (flat_map counted) e ∙ ap (λ ys. ys ++ covered rest) none
