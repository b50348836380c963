-- In a paired graph the arc that is numbered after one that draws, the other half of its edge, draws no length.
use Rattle.std.proofs.Common.{◌≡◌, ◌≢◌, ◌<◌, ◌≤◌, ◌+◌, ◌==◌, ◌&&◌, ℕ, zero, suc, List, [], ◌∷◌, filter, Bool, true, false, cond, not, sym, ap, subst, ◌∙◌, refl, arith, inl, inr}
use Rattle.std.proofs.lemmas.Bool.{cases_Bool, cases_lt, and_parts, eqb-true, eqb-false, eq-eqb, leb-true}
use Rattle.std.proofs.lemmas.List.Sums.{sum_by-append}
use Rattle.std.specs.List.{list_all, range_with_len}
use Rattle.sgb_graph.specs.Graph.{GraphOf, IsGraph, n_of, made_of, arc_at, arcs_of, occurrences}
use Rattle.sgb_graph.specs.Edit.{owner_of, entry_at}
use Rattle.sgb_graph.specs.Read.{entry_view}
use Rattle.sgb_graph.specs.Paired.{walk, without_halves, is_loop, is_loop_pair, are_loops_paired, is_matched, is_paired, leads_from, goes, is_vertex, GoesTo}
use Rattle.sgb_graph.proofs.Counts.{occurs_no, occurs_yes, occurs_more}
use Rattle.sgb_graph.proofs.Graphs.{listed_live, one_owner, owner_is}
use Rattle.sgb_graph.proofs.Halves.{pair_tip, pair_up}
use Rattle.sgb_graph.proofs.PairedLemmas.{below_all}
use Rattle.sgb_graph.proofs.TakeOut.{some_entry}
use Rattle.sgb_graph.specs.Operand.{tip_number}
use Rattle.sgb_combine.specs.Drawing.{drawing, drawing_at, is_drawing}
use Rattle.sgb_combine.proofs.DrawCounts.{occurs_filter, occurs_walk, occurs_halves}
use Rattle.sgb_combine.proofs.DrawingArcs.{drawing_before, drawing_more}
use Rattle.sgb_combine.proofs.Sources.{second}

-- ---- loops
-- the next number is in the list, and a second half
abbrev Dropped : ℕ → List ℕ → List ℕ → Type 0
Dropped k walked all = (occurrences (k + 1) walked ≡ 0) × (0 < occurrences (k + 1) all)

dropped_more : (k i : ℕ) (walked all : List ℕ) → occurrences (k + 1) (i ∷ all) ≤ 1 → Dropped k walked all → Dropped k (i ∷ walked) (i ∷ all)
dropped_more k i walked all once later =
    elim (cases_Bool (i == k + 1)) [
      | inl same ↦ absurd (omega (arith, once, later.1, occurs_yes (k + 1) i all (eqb-true i (k + 1) same)))
      | inr other ↦ (omega (arith, later.0, occurs_no (k + 1) i walked (eqb-false i (k + 1) other)), omega (arith, later.1, occurs_more (k + 1) i all))
    ]

dropped_here : (g : GraphOf) (v k i j : ℕ) (ks : List ℕ) → i ≡ k → j ≡ k + 1 → occurrences (k + 1) (i ∷ (j ∷ ks)) ≤ 1 → Dropped k (i ∷ without_halves g v ks) (i ∷ (j ∷ ks))
dropped_here g v k i j ks here half once =
    let other : i ≢ k + 1 = λ same. omega (arith, same, here) in
    let all = occurs_no (k + 1) i (j ∷ ks) other in
    let next = occurs_yes (k + 1) j ks half in
    (omega (arith, once, all, next, occurs_no (k + 1) i (without_halves g v ks) other, occurs_halves g v (k + 1) ks), omega (arith, all, next))

no_loop : (g : GraphOf) (v k i : ℕ) → i ≡ k → is_loop g v k ≡ true → not (is_loop g v i) ≡ true → ⊥
no_loop g v k i here loop none = let none' : not (is_loop g v i) ≡ false = ap (λ x. not (is_loop g v x)) here ∙ ap not loop in cc

half_dropped : (g : GraphOf) (v k : ℕ) (ks : List ℕ) → are_loops_paired g v ks ≡ true → ((x : ℕ) → occurrences x ks ≤ 1) → is_loop g v k ≡ true → 0 < occurrences k (without_halves g v ks) → Dropped k (without_halves g v ks) ks
unfolding without_halves are_loops_paired
half_dropped g v k [] paired once loop some = absurd (omega arith)
half_dropped g v k (i ∷ []) paired once loop some =
    elim (cases_Bool (i == k)) [
      | inl here ↦ absurd (no_loop g v k i (eqb-true i k here) loop paired)
      | inr past ↦ absurd (omega (arith, some, occurs_no k i [] (eqb-false i k past)))
    ]
half_dropped g v k (i ∷ (j ∷ ks)) paired once loop some =
    let split : Bool → List ℕ = λ b. cond b (i ∷ without_halves g v ks) (i ∷ without_halves g v (j ∷ ks)) in
    let tests : Bool → Bool = λ b. cond b (are_loops_paired g v ks) (not (is_loop g v i) && are_loops_paired g v (j ∷ ks)) in
    let P : List ℕ → Type 0 = λ ws. Dropped k ws (i ∷ (j ∷ ks)) in
    elim (cases_Bool (is_loop_pair g v i j)) [
      | inl pair ↦
          let some' : 0 < occurrences k (i ∷ without_halves g v ks) = subst (λ ws. 0 < occurrences k ws) (ap split pair) some in
          let step : i + 1 ≡ j = eqb-true (i + 1) j (second (is_loop g v i && is_loop g v j) (i + 1 == j) pair) in
          subst P (sym (ap split pair)) (elim (cases_Bool (i == k)) [
            | inl here ↦ let at = eqb-true i k here in dropped_here g v k i j ks at (omega (arith, step, at)) (once (k + 1))
            | inr past ↦
                let later = half_dropped g v k ks (sym (ap tests pair) ∙ paired) (λ x. omega (arith, once x, occurs_more x i (j ∷ ks), occurs_more x j ks)) loop (omega (arith, some', occurs_no k i (without_halves g v ks) (eqb-false i k past))) in
                dropped_more k i (without_halves g v ks) (j ∷ ks) (once (k + 1)) (later.0, omega (arith, later.1, occurs_more (k + 1) j ks))
          ])
      | inr apart ↦
          let some' : 0 < occurrences k (i ∷ without_halves g v (j ∷ ks)) = subst (λ ws. 0 < occurrences k ws) (ap split apart) some in
          let p = and_parts (not (is_loop g v i)) (are_loops_paired g v (j ∷ ks)) (sym (ap tests apart) ∙ paired) in
          subst P (sym (ap split apart)) (elim (cases_Bool (i == k)) [
            | inl here ↦ absurd (no_loop g v k i (eqb-true i k here) loop p.0)
            | inr past ↦
                let later = half_dropped g v k (j ∷ ks) p.1 (λ x. omega (arith, once x, occurs_more x i (j ∷ ks))) loop (omega (arith, some', occurs_no k i (without_halves g v (j ∷ ks)) (eqb-false i k past))) in
                dropped_more k i (without_halves g v (j ∷ ks)) (j ∷ ks) (once (k + 1)) later
          ])
    ]

-- ---- an arc that draws
passes : (p : ℕ → Bool) (k : ℕ) (ks : List ℕ) → 0 < occurrences k (filter p ks) → p k ≡ true
passes p k [] some = absurd (omega arith)
passes p k (j ∷ ks) some =
    elim (cases_Bool (p j)) [
      | inl e ↦
          let is : filter p (j ∷ ks) ≡ j ∷ filter p ks = rw e refl in
          let some' : 0 < occurrences k (j ∷ filter p ks) = subst (λ xs. 0 < occurrences k xs) is some in
          elim (cases_Bool (j == k)) [
            | inl here ↦ ap p (sym (eqb-true j k here)) ∙ e
            | inr past ↦ passes p k ks (omega (arith, some', occurs_no k j (filter p ks) (eqb-false j k past)))
          ]
      | inr e ↦
          let is : filter p (j ∷ ks) ≡ filter p ks = rw e refl in
          passes p k ks (subst (λ xs. 0 < occurrences k xs) is some)
    ]

-- the vertex of which it is an arc, and that it is in its walk
record DrawsAt (directed : Bool) (g : GraphOf) (k v : ℕ) : Type 0 where
  walked : 0 < occurrences k (walk directed g v)
  listed : 0 < occurrences k (arcs_of g v)
  draws : is_drawing directed g v k ≡ true

draws_at : (directed : Bool) (g : GraphOf) (k v : ℕ) → 0 < occurrences k (drawing_at directed g v) → DrawsAt directed g k v
unfolding drawing_at
draws_at directed g k v some =
    let walked : 0 < occurrences k (walk directed g v) = omega (arith, some, occurs_filter (is_drawing directed g v) k (walk directed g v)) in
    record {
      walked = walked;
      listed = omega (arith, walked, occurs_walk directed g v k);
      draws = passes (is_drawing directed g v) k (walk directed g v) some;
    }

draws_before : (directed : Bool) (g : GraphOf) (k n : ℕ) → 0 < occurrences k (drawing_before directed g n) → (v : ℕ) × DrawsAt directed g k v
draws_before directed g k zero some = absurd (omega arith)
draws_before directed g k (suc n) some =
    let next : n + 1 ≡ suc n = omega arith in
    let more = drawing_more directed g n ∙ ap (drawing_before directed g) next in
    let both = sym (ap (occurrences k) more) ∙ sum_by-append (λ x. cond (x == k) 1 0) (drawing_before directed g n) (drawing_at directed g n) in
    elim (cases_lt 0 (occurrences k (drawing_at directed g n))) [
      | inl here ↦ (n, draws_at directed g k n here)
      | inr none ↦ draws_before directed g k n (omega (arith, some, both, none))
    ]

drawn_by : (directed : Bool) (g : GraphOf) (k : ℕ) → 0 < occurrences k (drawing directed g) → (v : ℕ) × DrawsAt directed g k v
unfolding drawing
drawn_by directed g k some = draws_before directed g k (n_of g) some

-- ---- both halves
goes_leads : (g : GraphOf) (k u v : ℕ) → GoesTo g k u v → leads_from g k u v ≡ true
unfolding leads_from
goes_leads g k u v x =
    ap (λ o. goes u v (entry_view (owner_of g k) o)) (some_entry (arc_at g k) x.live)
    ∙ (ap (λ b. b && is_vertex v (entry_at g k).tip) (eq-eqb (owner_of g k) u x.owner)
    ∙ (ap (is_vertex v) x.tip ∙ eq-eqb v v refl))

once_listed : (g : GraphOf) (v : ℕ) → IsGraph g → (x : ℕ) → occurrences x (arcs_of g v) ≤ 1
once_listed g v sound x =
    elim (cases_lt 0 (occurrences x (arcs_of g v))) [
      | inl some ↦ let once = (listed_live g x v sound some).once in omega (arith, once)
      | inr none ↦ omega (arith, none)
    ]

loops_of : (g : GraphOf) (v : ℕ) → is_paired g ≡ true → v < n_of g → are_loops_paired g v (arcs_of g v) ≡ true
loops_of g v paired inside =
    let p = and_parts (list_all (is_matched g) (range_with_len 0 (made_of g))) (list_all (λ w. are_loops_paired g w (arcs_of g w)) (range_with_len 0 (n_of g))) paired in
    below_all (λ w. are_loops_paired g w (arcs_of g w)) (n_of g) v p.1 inside

upward_tip : (g : GraphOf) (k v : ℕ) → is_drawing false g v k ≡ true → v ≤ tip_number (entry_at g k).tip
upward_tip g k v draws = leb-true v (tip_number (entry_at g k).tip) draws

clash_up : (g : GraphOf) (k u t w : ℕ) → IsGraph g → is_paired g ≡ true → GoesTo g k u t → u < t → DrawsAt false g (k + 1) w → ⊥
clash_up g k u t w sound paired leads up b =
    let back : GoesTo g (k + 1) t u = pair_up g k u t paired leads up in
    let owner : owner_of g (k + 1) ≡ w = owner_is g (k + 1) w sound b.listed in
    omega (arith, up, owner, back.owner, ap tip_number back.tip, upward_tip g (k + 1) w b.draws)

clash_loop : (g : GraphOf) (k u w : ℕ) → IsGraph g → is_paired g ≡ true → GoesTo g k u u → DrawsAt false g k u → DrawsAt false g (k + 1) w → ⊥
clash_loop g k u w sound paired leads a b =
    let inside = (listed_live g k u sound a.listed).vertex in
    let half = half_dropped g u k (arcs_of g u) (loops_of g u paired inside) (once_listed g u sound) (goes_leads g k u u leads) a.walked in
    let same : w ≡ u = one_owner g (k + 1) w u sound b.listed half.1 in
    let here : 0 < occurrences (k + 1) (walk false g u) = subst (λ v. 0 < occurrences (k + 1) (walk false g v)) same b.walked in
    omega (arith, here, half.0)

clash : (g : GraphOf) (k u w : ℕ) → IsGraph g → is_paired g ≡ true → DrawsAt false g k u → DrawsAt false g (k + 1) w → ⊥
clash g k u w sound paired a b =
    let owner : owner_of g k ≡ u = owner_is g k u sound a.listed in
    let tip = pair_tip g k paired (listed_live g k u sound a.listed).live in
    let leads : GoesTo g k u tip.0 = subst (λ v. GoesTo g k v tip.0) owner tip.1 in
    let low : u ≤ tip.0 = omega (arith, upward_tip g k u a.draws, ap tip_number leads.tip) in
    elim (cases_lt u tip.0) [
      | inl up ↦ clash_up g k u tip.0 w sound paired leads up b
      | inr down ↦
          let loop : tip.0 ≡ u = omega (arith, low, down) in
          clash_loop g k u w sound paired (subst (λ t. GoesTo g k u t) loop leads) a b
    ]

-- the other half of an edge does not draw
pub half_silent : (g : GraphOf) (k : ℕ) → IsGraph g → is_paired g ≡ true → 0 < occurrences k (drawing false g) → occurrences (k + 1) (drawing false g) ≡ 0
half_silent g k sound paired some =
    elim (cases_lt 0 (occurrences (k + 1) (drawing false g))) [
      | inl both ↦
          let a = drawn_by false g k some in
          let b = drawn_by false g (k + 1) both in
          absurd (clash g k a.0 b.0 sound paired a.1 b.1)
      | inr none ↦ omega (arith, none)
    ]
