-- Lemmas on what is made of spokes where each vertex is joined once.
use Rattle.std.proofs.Common.{◌≡◌, ◌≢◌, ◌==◌, ℕ, ℤ, List, [], ◌∷◌, get_or, Option, Some, None, true, false, ◌||◌, cond, fold, inl, inr, refl, sym, ap, ap₂, ◌∙◌, arith, map, ◌++◌}
use Rattle.std.specs.Int.{int_min}
use Rattle.std.specs.List.{AllPairs}
use Rattle.std.proofs.lemmas.Bool.{cases_Bool, eq-eqb, eqb-true, ne_eqb}
use Rattle.std.proofs.lemmas.Int.{ints, int_min_is}
use Rattle.std.proofs.lemmas.List.{append-nil}
use Rattle.std.proofs.lemmas.List.Sums.{fold-append}
use Rattle.std.proofs.lemmas.List.Folds.{list_any_at}
use Rattle.std.proofs.lemmas.List.Kept.{AllPairs-cons}
use Rattle.sgb_graph.specs.declared.spoke.Spoke.{Spoke}
use Rattle.sgb_combine.specs.Complement.{leads_to}
use Rattle.sgb_combine.specs.Lowest.{add_or_lower, lowest, lesser, least_to}
use Rattle.sgb_combine.proofs.SpokeLookup.{leads-added, leads-lowest}

-- ---- each vertex once
abbrev Apart : List Spoke → Type 0
Apart [] = Unit {0}
Apart (r ∷ rs) = (leads_to rs r.to ≡ false) × Apart rs

apart-added : (rs : List Spoke) (s : Spoke) → Apart rs → Apart (add_or_lower rs s)
unfolding add_or_lower
apart-added [] s apart = (refl, tt)
apart-added (r ∷ rs) s apart =
    elim (cases_Bool (r.to == s.to)) [
      | inl same ↦ rw same apart
      | inr other ↦
          let turned : (s.to == r.to) ≡ false = ne_eqb s.to r.to (λ is. let wrong : (r.to == s.to) ≡ true = eq-eqb r.to s.to (sym is) in absurd cc) in
          let first : leads_to (add_or_lower rs s) r.to ≡ false = leads-added rs s r.to ∙ ap₂ (λ a b. a || b) apart.0 turned in
          rw other (first, apart-added rs s apart.1)
    ]

apart-fold : (rs ss : List Spoke) → Apart rs → Apart (fold add_or_lower rs ss)
apart-fold rs [] apart = apart
apart-fold rs (s ∷ ss) apart = apart-fold (add_or_lower rs s) ss (apart-added rs s apart)

pairs_apart : (rs : List Spoke) → Apart rs → AllPairs (λ r s. r.to ≢ s.to) rs
pairs_apart [] apart = λ i j d less low. absurd (omega arith)
pairs_apart (r ∷ rs) apart =
    AllPairs-cons (λ a b. a.to ≢ b.to) r rs
    (λ k d low same.
    let wrong : leads_to rs r.to ≡ true = list_any_at (λ (q : Spoke). q.to == r.to) rs k d low (eq-eqb (get_or rs k d).to r.to (sym same)) in
    let none = apart.0 in absurd cc)
    (pairs_apart rs apart.1)

pub once-lowest : (ss : List Spoke) → AllPairs (λ r s. r.to ≢ s.to) (lowest ss)
unfolding lowest
once-lowest ss = pairs_apart (lowest ss) (apart-fold [] ss tt)

-- ---- the least length
pub min_assoc : (a b c : ℤ) → int_min (int_min a b) c ≡ int_min a (int_min b c)
min_assoc a b c = omega (arith, ints, int_min_is a b, int_min_is (int_min a b) c, int_min_is b c, int_min_is a (int_min b c))

pub min_swap : (a b c : ℤ) → int_min (int_min a b) c ≡ int_min (int_min a c) b
min_swap a b c = omega (arith, ints, int_min_is a b, int_min_is (int_min a b) c, int_min_is a c, int_min_is (int_min a c) b)

lesser_none : (k : Option ℤ) → k ≡ lesser k None
lesser_none None = refl
lesser_none (Some k) = refl

lesser_assoc : (k l m : Option ℤ) → lesser (lesser k l) m ≡ lesser k (lesser l m)
lesser_assoc None l m = refl
lesser_assoc (Some k) None None = refl
lesser_assoc (Some k) None (Some m) = refl
lesser_assoc (Some k) (Some l) None = refl
lesser_assoc (Some k) (Some l) (Some m) = ap (λ x. Some x) (min_assoc k l m)

lesser_swap : (k m : ℤ) (l : Option ℤ) → lesser (Some (int_min k m)) l ≡ lesser (lesser (Some k) l) (Some m)
lesser_swap k m None = refl
lesser_swap k m (Some l) = ap (λ x. Some x) (min_swap k m l)

abbrev one_len : Spoke → ℕ → Option ℤ
one_len s w = cond (s.to == w) (Some s.len) None

least-added : (rs : List Spoke) (s : Spoke) (w : ℕ) → least_to (add_or_lower rs s) w ≡ lesser (least_to rs w) (one_len s w)
unfolding add_or_lower least_to
least-added [] s w = sym (lesser_none (one_len s w))
least-added (r ∷ rs) s w =
    elim (cases_Bool (r.to == s.to)) [
      | inl same ↦
          let is : r.to ≡ s.to = eqb-true r.to s.to same in
          let there : one_len s w ≡ cond (r.to == w) (Some s.len) None = ap (λ t. cond (t == w) (Some s.len) None) (sym is) in
          rw (same, there)
          (elim (r.to == w) as (λ b. lesser (cond b (Some (int_min r.len s.len)) None) (least_to rs w) ≡ lesser (lesser (cond b (Some r.len) None) (least_to rs w)) (cond b (Some s.len) None)) [
            | true ↦ lesser_swap r.len s.len (least_to rs w)
            | false ↦ lesser_none (least_to rs w)
          ])
      | inr other ↦
          rw other
          (ap (lesser (one_len r w)) (least-added rs s w) ∙ sym (lesser_assoc (one_len r w) (least_to rs w) (one_len s w)))
    ]

least-fold : (rs ss : List Spoke) (w : ℕ) → least_to (fold add_or_lower rs ss) w ≡ lesser (least_to rs w) (least_to ss w)
unfolding least_to
least-fold rs [] w = lesser_none (least_to rs w)
least-fold rs (s ∷ ss) w =
    least-fold (add_or_lower rs s) ss w
    ∙ (ap (λ k. lesser k (least_to ss w)) (least-added rs s w) ∙ lesser_assoc (least_to rs w) (one_len s w) (least_to ss w))

pub least-lowest : (ss : List Spoke) (w : ℕ) → least_to (lowest ss) w ≡ least_to ss w
unfolding lowest least_to
least-lowest ss w = least-fold [] ss w

-- ---- where each vertex stands
places-added : (rs : List Spoke) (s : Spoke) → map (λ r. r.to) (add_or_lower rs s) ≡ map (λ r. r.to) rs ++ cond (leads_to rs s.to) [] (s.to ∷ [])
unfolding add_or_lower
places-added [] s = refl
places-added (r ∷ rs) s =
    elim (cases_Bool (r.to == s.to)) [
      | inl same ↦ rw same (sym (append-nil (r.to ∷ map (λ q. q.to) rs)))
      | inr other ↦ rw other (ap (λ ns. r.to ∷ ns) (places-added rs s))
    ]

pub places-lowest : (ss : List Spoke) (s : Spoke) → map (λ r. r.to) (lowest (ss ++ s ∷ [])) ≡ map (λ r. r.to) (lowest ss) ++ cond (leads_to ss s.to) [] (s.to ∷ [])
unfolding lowest
places-lowest ss s =
    ap (map (λ (r : Spoke). r.to)) (fold-append add_or_lower [] ss (s ∷ []))
    ∙ (places-added (lowest ss) s ∙ ap (λ b. map (λ (r : Spoke). r.to) (lowest ss) ++ cond b [] (s.to ∷ [])) (leads-lowest ss s.to))
