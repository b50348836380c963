-- Lemmas on spokes to distinct vertices.
use Rattle.std.proofs.Common.{◌≡◌, ◌≢◌, ◌<◌, ◌+◌, ℕ, zero, suc, List, [], ◌∷◌, ◌++◌, length, get_or, set, take, fold, All, inl, inr, refl, sym, ap, ◌∙◌, arith}
use Rattle.std.proofs.lemmas.Bool.{eq-eqb, ne_eqb, cases_eq}
use Rattle.std.proofs.lemmas.List.{take_more, get_or_default, get_or-set_same, get_or-set_other, length-set}
use Rattle.std.proofs.lemmas.List.Elements.{All-head, All-tail}
use Rattle.std.proofs.lemmas.List.Sums.{fold-append}
use Rattle.sgb_graph.specs.declared.spoke.Spoke.{Spoke}
use Rattle.sgb_combine.specs.Lowest.{lowered, add_or_lower, lowest}
use Rattle.sgb_combine.specs.Private.Targets.{IsMarked}

-- ---- one spoke more
pub lowest_more : (xs : List Spoke) (i : ℕ) (s d : Spoke) → i < length xs → s ≡ get_or xs i d → lowest (take (i + 1) xs) ≡ add_or_lower (lowest (take i xs)) s
unfolding lowest
lowest_more xs i s d h is =
    ap (fold add_or_lower []) (take_more xs i d h)
    ∙ (fold-append add_or_lower [] (take i xs) (get_or xs i d ∷ [])
    ∙ ap (add_or_lower (fold add_or_lower [] (take i xs))) (sym is))

pub lowest_none : lowest [] ≡ []
unfolding lowest
lowest_none = refl

-- none leads to the same vertex
pub added : (ss : List Spoke) (s : Spoke) → All (λ r. r.to ≢ s.to) ss → add_or_lower ss s ≡ ss ++ s ∷ []
unfolding add_or_lower
added [] s other = refl
added (r ∷ rs) s other =
    rw (ne_eqb r.to s.to (All-head (λ q. q.to ≢ s.to) r rs other))
    (ap (λ ts. r ∷ ts) (added rs s (All-tail (λ q. q.to ≢ s.to) r rs other)))

-- the first that leads to the same vertex stands at p
pub lowered_at : (ss : List Spoke) (p : ℕ) (s : Spoke) → p < length ss → (get_or ss p s).to ≡ s.to → ((j : ℕ) → j < p → (get_or ss j s).to ≢ s.to) → set ss p (lowered (get_or ss p s) s) ≡ add_or_lower ss s
unfolding add_or_lower
lowered_at [] p s h here before = absurd (omega arith)
lowered_at (r ∷ rs) zero s h here before = rw (eq-eqb r.to s.to here) refl
lowered_at (r ∷ rs) (suc p) s h here before =
    rw (ne_eqb r.to s.to (before zero (omega arith)))
    (ap (λ ts. r ∷ ts) (lowered_at rs p s (omega arith) here (λ j low. before (suc j) (omega arith))))

-- ---- marks
pub one_place : (places : List ℕ) (ss : List Spoke) (i j : ℕ) (d : Spoke) → IsMarked places ss → i < length ss → j < length ss → (get_or ss i d).to ≡ (get_or ss j d).to → i ≡ j
one_place places ss i j d marked hi hj same =
    sym (marked.place i d hi) ∙ (ap (λ t. get_or places t 0) same ∙ marked.place j d hj)

pub marked_lowered : (places : List ℕ) (ss : List Spoke) (p : ℕ) (s r : Spoke) → IsMarked places ss → p < length ss → ((d : Spoke) → (get_or ss p d).to ≡ s.to) → r ≡ lowered (get_or ss p s) s → set ss p r ≡ add_or_lower ss s
marked_lowered places ss p s r marked h here is =
    ap (set ss p) is
    ∙ lowered_at ss p s h (here s)
    (λ j low same. let at : j ≡ p = one_place places ss j p s marked (omega arith) h (same ∙ sym (here s)) in omega arith)

same_to : (ss : List Spoke) (p : ℕ) (r : Spoke) → p < length ss → (i : ℕ) (d : Spoke) → i < length ss → r.to ≡ (get_or ss p d).to → (get_or (set ss p r) i d).to ≡ (get_or ss i d).to
same_to ss p r h i d low is =
    elim (cases_eq i p) [
      | inl at ↦
          ap (λ k. (get_or (set ss p r) k d).to) at
          ∙ (ap (λ (q : Spoke). q.to) (get_or-set_same ss p r d h) ∙ (is ∙ ap (λ k. (get_or ss k d).to) (sym at)))
      | inr other ↦ ap (λ (q : Spoke). q.to) (get_or-set_other ss p i r d other)
    ]

-- a spoke that leads to where the one in its place led
pub marked_set : (places : List ℕ) (ss : List Spoke) (p : ℕ) (r : Spoke) → IsMarked places ss → p < length ss → ((d : Spoke) → r.to ≡ (get_or ss p d).to) → IsMarked places (set ss p r)
marked_set places ss p r marked h is = record {
  within = λ i d low.
      let below : i < length ss = omega (arith, length-set ss p r) in
      omega (arith, same_to ss p r h i d below (is d), marked.within i d below);
  place = λ i d low.
      let below : i < length ss = omega (arith, length-set ss p r) in
      ap (λ t. get_or places t 0) (same_to ss p r h i d below (is d)) ∙ marked.place i d below;
}

-- the spoke in its place, lowered
pub lowered_is : (ss : List Spoke) (p : ℕ) (x s r : Spoke) → p < length ss → x ≡ get_or ss p x → r ≡ lowered x s → r ≡ lowered (get_or ss p s) s
lowered_is ss p x s r h read is = is ∙ ap (λ y. lowered y s) (read ∙ get_or_default ss p x s h)
