-- Where no arc leads to its own vertex, the loops of each list are paired.
use Rattle.std.proofs.Common.{◌≡◌, ◌<◌, ◌+◌, ◌&&◌, ℕ, zero, suc, List, [], ◌∷◌, Option, Some, None, Bool, true, false, refl, sym, ap, subst, ◌∙◌, arith, inl, inr}
use Rattle.std.specs.List.{list_all, range_with_len}
use Rattle.std.proofs.lemmas.Bool.{cases_Bool, cases_lt, eq-eqb}
use Rattle.sgb_graph.specs.declared.graph.read.ArcView.{ArcView}
use Rattle.sgb_graph.specs.Graph.{GraphOf, ArcOf, IsGraph, n_of, made_of, arcs_of, arc_at}
use Rattle.sgb_graph.specs.Edit.{owner_of}
use Rattle.sgb_graph.specs.Read.{entry_view, arc_view}
use Rattle.sgb_graph.specs.Paired.{goes, is_vertex, leads_from, is_loop, are_loops_paired}
use Rattle.sgb_graph.proofs.Halves.{leads_goes}
use Rattle.sgb_graph.proofs.PairedLemmas.{skip_other, below_all_more}
use Rattle.sgb_graph.proofs.TakeOut.{found_live}

-- what is shown of an arc tells whether it is a loop
own_loop : Option ArcView → Bool
own_loop None = false
own_loop (Some a) = is_vertex a.owner.0 a.tip

own_view : (v : ℕ) (o : Option ArcOf) → own_loop (entry_view v o) ≡ goes v v (entry_view v o)
unfolding own_loop
own_view v None = refl
own_view v (Some e) = sym (ap (λ b. b && is_vertex v e.tip) (eq-eqb v v refl))

pub own_loop_some : (g : GraphOf) (k : ℕ) (a : ArcView) → Some a ≡ arc_view g k → is_vertex a.owner.0 a.tip ≡ is_loop g (owner_of g k) k
unfolding own_loop leads_from
own_loop_some g k a is = ap own_loop is ∙ own_view (owner_of g k) (arc_at g k)

pub own_loop_none : (g : GraphOf) (k : ℕ) → None ≡ arc_view g k → false ≡ is_loop g (owner_of g k) k
unfolding own_loop leads_from
own_loop_none g k is = ap own_loop is ∙ own_view (owner_of g k) (arc_at g k)

-- the first n arcs are no loops
abbrev pub AreNoLoops : GraphOf → ℕ → Type 0
AreNoLoops g n = (k : ℕ) → k < n → is_loop g (owner_of g k) k ≡ false

pub one_more : (g : GraphOf) (n : ℕ) → AreNoLoops g n → is_loop g (owner_of g n) n ≡ false → AreNoLoops g (n + 1)
one_more g n none here k h =
    elim (cases_lt k n) [
      | inl low ↦ none k low
      | inr last ↦ let same : n ≡ k = omega arith in subst (λ j. is_loop g (owner_of g j) j ≡ false) same here
    ]

no_loop : (g : GraphOf) (v j : ℕ) → IsGraph g → AreNoLoops g (made_of g) → is_loop g v j ≡ false
no_loop g v j sound none =
    elim (cases_Bool (is_loop g v j)) [
      | inl loop ↦ absurd (
          let it = leads_goes g j v v loop in
          let other : is_loop g v j ≡ false = subst (λ w. is_loop g w j ≡ false) it.owner (none j (found_live g j sound it.live).made) in
          let both : true ≡ false = sym loop ∙ other in cc)
      | inr other ↦ other
    ]

list_paired : (g : GraphOf) (v : ℕ) (ks : List ℕ) → ((j : ℕ) → is_loop g v j ≡ false) → are_loops_paired g v ks ≡ true
unfolding are_loops_paired
list_paired g v [] none = refl
list_paired g v (j ∷ ks) none = skip_other g v j ks (none j) ∙ list_paired g v ks none

all_below : (p : ℕ → Bool) (n : ℕ) → ((k : ℕ) → p k ≡ true) → list_all p (range_with_len 0 n) ≡ true
all_below p zero each = refl
all_below p (suc n) each =
    let more : n + 1 ≡ suc n = omega arith in
    subst (λ m. list_all p (range_with_len 0 m) ≡ true) more (below_all_more p n (all_below p n each) (each n))

pub loopless_paired : (g : GraphOf) → IsGraph g → AreNoLoops g (made_of g) → list_all (λ v. are_loops_paired g v (arcs_of g v)) (range_with_len 0 (n_of g)) ≡ true
loopless_paired g sound none = all_below (λ v. are_loops_paired g v (arcs_of g v)) (n_of g) (λ v. list_paired g v (arcs_of g v) (λ j. no_loop g v j sound none))
