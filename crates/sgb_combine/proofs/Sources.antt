-- Each arc has its length from a draw.
use Rattle.std.proofs.Common.{◌≡◌, ◌≢◌, ◌<◌, ◌≤◌, ◌+◌, ◌-◌, ◌==◌, ◌&&◌, ◌⊎◌, ℕ, zero, suc, List, [], ◌∷◌, length, filter, Bool, true, false, cond, nat_lt, Option, Some, None, sym, ap, subst, ◌∙◌, refl, arith, inl, inr}
use Rattle.std.proofs.lemmas.Bool.{cases_Bool, cases_lt, eqb-true, eqb-false, le-leb, lt-ltb, ltb-true}
use Rattle.std.proofs.lemmas.List.Sums.{sum_by-cons, sum_by-append}
use Rattle.sgb_graph.specs.declared.field.Tip.{Tip}
use Rattle.sgb_graph.specs.declared.field.Tip.TheVariants.{Zero, One, To}
use Rattle.sgb_graph.specs.Graph.{GraphOf, ArcOf, IsGraph, n_of, has_arc, arc_at, arcs_of, no_vertex, occurrences, listings}
use Rattle.sgb_graph.specs.declared.refusal.Refusal.TheVariants.{BadOperand}
use Rattle.sgb_graph.specs.Edit.{refusal_unless, entry_at, owner_of, arc_or, no_arc}
use Rattle.sgb_graph.specs.Read.{entry_view}
use Rattle.sgb_graph.specs.Paired.{walk, without_halves, is_loop, is_loop_pair, is_paired, leads_from, goes, is_vertex, GoesTo}
use Rattle.sgb_graph.proofs.Counts.{sum_some, occurs_no, occurs_yes, occurs_more}
use Rattle.sgb_graph.proofs.Graphs.{owner_is}
use Rattle.sgb_graph.proofs.Halves.{pair_tip, pair_down}
use Rattle.sgb_graph.specs.Operand.{tip_number}
use Rattle.sgb_combine.specs.Drawing.{drawing, drawing_at, is_drawing, place_in, source_of}
use Rattle.sgb_combine.specs.Lengths.{refusal_of_arcs}
use Rattle.sgb_combine.proofs.DrawingArcs.{drawing_before, drawing_more}

occurs_cons : (k j : ℕ) (ks : List ℕ) → occurrences k (j ∷ ks) ≡ cond (j == k) 1 0 + occurrences k ks
occurs_cons k j ks = sum_by-cons (λ x. cond (x == k) 1 0) j ks

-- ---- numbers that a list has
place_below : (k : ℕ) (ks : List ℕ) → 0 < occurrences k ks → place_in ks k < length ks
place_below k [] some = absurd (omega arith)
place_below k (j ∷ ks) some =
    elim (cases_Bool (j == k)) [
      | inl e ↦ rw e (omega arith)
      | inr e ↦ let later : occurrences k (j ∷ ks) ≡ occurrences k ks = occurs_no k j ks (eqb-false j k e) in
          rw e (omega (arith, place_below k ks (omega (arith, some, later))))
    ]

occurs_kept : (p : ℕ → Bool) (k : ℕ) (ks : List ℕ) → p k ≡ true → occurrences k ks ≤ occurrences k (filter p ks)
occurs_kept p k [] passes = omega arith
occurs_kept p k (j ∷ ks) passes =
    elim (cases_Bool (p j)) [
      | inl e ↦ rw e (omega (arith, occurs_cons k j ks, occurs_cons k j (filter p ks), occurs_kept p k ks passes))
      | inr e ↦
          let other : j ≢ k = λ same. (let yes_k : p k ≡ false = ap p (sym same) ∙ e in cc) in
          rw e (omega (arith, occurs_no k j ks other, occurs_kept p k ks passes))
    ]

occurs_run : (directed : Bool) (g : GraphOf) (k v n : ℕ) → v < n → occurrences k (drawing_at directed g v) ≤ occurrences k (drawing_before directed g n)
occurs_run directed g k v zero inside = absurd (omega arith)
occurs_run directed g k v (suc n) inside =
    let f : ℕ → List ℕ = drawing_at directed g in
    let next : n + 1 ≡ suc n = omega arith in
    let more = drawing_more directed g n ∙ ap (drawing_before directed g) next in
    let both = sym (ap (occurrences k) more) ∙ sum_by-append (λ x. cond (x == k) 1 0) (drawing_before directed g n) (f n) in
    elim (cases_lt v n) [
      | inl low ↦ omega (arith, both, occurs_run directed g k v n low)
      | inr last ↦
          let same : v ≡ n = omega (arith, inside, last) in
          omega (arith, both, ap (λ w. occurrences k (f w)) same)
    ]

-- an arc of a walk that draws has a place among those that do
drawn_place : (directed : Bool) (g : GraphOf) (k v : ℕ) → v < n_of g → 0 < occurrences k (walk directed g v) → is_drawing directed g v k ≡ true → place_in (drawing directed g) k < length (drawing directed g)
unfolding drawing drawing_at
drawn_place directed g k v inside some draws =
    place_below k (drawing directed g)
    (omega (arith, some, occurs_kept (is_drawing directed g v) k (walk directed g v) draws, occurs_run directed g k v (n_of g) inside))

-- ---- second halves of loops
pub second : (a b : Bool) → (a && b) ≡ true → b ≡ true
second true b h = h
second false b h = absurd cc

pub first : (a b : Bool) → (a && b) ≡ true → a ≡ true
first true b h = refl
first false b h = absurd cc

tip_is : (v : ℕ) (t : Tip) → is_vertex v t ≡ true → tip_number t ≡ v
tip_is v Zero h = absurd cc
tip_is v One h = absurd cc
tip_is v (To w) h = eqb-true w.0 v h

loop_view : (g : GraphOf) (k v : ℕ) (o : Option ArcOf) → goes v v (entry_view (owner_of g k) o) ≡ true → tip_number (arc_or no_arc o).tip ≡ v
loop_view g k v None h = absurd cc
loop_view g k v (Some e) h = tip_is v e.tip (second (owner_of g k == v) (is_vertex v e.tip) h)

loop_tip : (g : GraphOf) (k v : ℕ) → is_loop g v k ≡ true → tip_number (entry_at g k).tip ≡ v
unfolding leads_from
loop_tip g k v h = loop_view g k v (arc_at g k) h

-- an arc of the list is in the walk, or it is the second half of a loop whose first half is
abbrev Kept : GraphOf → ℕ → ℕ → List ℕ → Type 0
Kept g v k ws = (0 < occurrences k ws) ⊎ ((0 < occurrences (k - 1) ws) × (is_loop g v (k - 1) ≡ true) × (is_loop g v k ≡ true))

kept_first : (g : GraphOf) (v k i : ℕ) (ws : List ℕ) → i ≡ k → Kept g v k (i ∷ ws)
kept_first g v k i ws same = inl (omega (arith, occurs_yes k i ws same))

kept_second : (g : GraphOf) (v k i j : ℕ) (ws : List ℕ) → is_loop_pair g v i j ≡ true → j ≡ k → Kept g v k (i ∷ ws)
kept_second g v k i j ws pair same =
    let step : i + 1 ≡ j = eqb-true (i + 1) j (second (is_loop g v i && is_loop g v j) (i + 1 == j) pair) in
    let before : i ≡ k - 1 = omega (arith, step, same) in
    let loops = first (is_loop g v i && is_loop g v j) (i + 1 == j) pair in
    inr (
      omega (arith, occurs_yes (k - 1) i ws before),
      subst (λ x. is_loop g v x ≡ true) before (first (is_loop g v i) (is_loop g v j) loops),
      subst (λ x. is_loop g v x ≡ true) same (second (is_loop g v i) (is_loop g v j) loops),
    )

kept_more : (g : GraphOf) (v k i : ℕ) (ws : List ℕ) → Kept g v k ws → Kept g v k (i ∷ ws)
kept_more g v k i ws (inl here) = inl (omega (arith, here, occurs_more k i ws))
kept_more g v k i ws (inr half) = inr (omega (arith, half.0, occurs_more (k - 1) i ws), half.1, half.2)

kept_or_half : (g : GraphOf) (v k : ℕ) (ks : List ℕ) → 0 < occurrences k ks → Kept g v k (without_halves g v ks)
unfolding without_halves
kept_or_half g v k [] some = absurd (omega arith)
kept_or_half g v k (i ∷ []) some = inl some
kept_or_half g v k (i ∷ (j ∷ ks)) some =
    elim (cases_Bool (i == k)) [
      | inl here ↦
          elim (cases_Bool (is_loop_pair g v i j)) [
            | inl pair ↦ rw pair (kept_first g v k i (without_halves g v ks) (eqb-true i k here))
            | inr apart ↦ rw apart (kept_first g v k i (without_halves g v (j ∷ ks)) (eqb-true i k here))
          ]
      | inr past ↦
          let later : occurrences k (i ∷ (j ∷ ks)) ≡ occurrences k (j ∷ ks) = occurs_no k i (j ∷ ks) (eqb-false i k past) in
          elim (cases_Bool (is_loop_pair g v i j)) [
            | inl pair ↦
                elim (cases_Bool (j == k)) [
                  | inl half ↦ rw pair (kept_second g v k i j (without_halves g v ks) pair (eqb-true j k half))
                  | inr on ↦
                      let rest : occurrences k (j ∷ ks) ≡ occurrences k ks = occurs_no k j ks (eqb-false j k on) in
                      rw pair (kept_more g v k i (without_halves g v ks) (kept_or_half g v k ks (omega (arith, some, later, rest))))
                ]
            | inr apart ↦ rw apart (kept_more g v k i (without_halves g v (j ∷ ks)) (kept_or_half g v k (j ∷ ks) (omega (arith, some, later))))
          ]
    ]

-- ---- every arc
pub paired_of : (paired : Bool) → refusal_unless paired BadOperand None ≡ None → paired ≡ true
paired_of true whole = refl
paired_of false whole = absurd cc

-- the vertex that has an arc lists it
listed_by : (g : GraphOf) (k : ℕ) → IsGraph g → has_arc g k ≡ true → (owner_of g k < n_of g) × (0 < occurrences k (arcs_of g (owner_of g k)))
listed_by g k sound live =
    let one : listings k g.vertices ≡ cond true 1 0 = sound.listed k ∙ ap (λ b. cond b 1 0) live in
    let some = sum_some (λ v. occurrences k v.arcs) g.vertices no_vertex (omega (arith, one)) in
    let owner : owner_of g k ≡ some.0 = owner_is g k some.0 sound some.2 in
    (subst (λ v. v < n_of g) (sym owner) some.1, subst (λ v. 0 < occurrences k (arcs_of g v)) (sym owner) some.2)

-- an arc that leads to its own vertex or to a later one draws, or it is the second half of a loop, and the first draws
upward : (g : GraphOf) (k u v : ℕ) → IsGraph g → GoesTo g k u v → u ≤ v → (place_in (drawing false g) k < length (drawing false g)) ⊎ ((place_in (drawing false g) (k - 1) < length (drawing false g)) × (is_loop g u k ≡ true))
upward g k u v sound leads high =
    let by = listed_by g k sound leads.live in
    let inside : u < n_of g = subst (λ w. w < n_of g) leads.owner by.0 in
    let some : 0 < occurrences k (arcs_of g u) = subst (λ w. 0 < occurrences k (arcs_of g w)) leads.owner by.1 in
    elim (kept_or_half g u k (arcs_of g u) some) [
      | inl here ↦ inl (drawn_place false g k u inside here (le-leb u (tip_number (entry_at g k).tip) (subst (λ t. u ≤ tip_number t) (sym leads.tip) high)))
      | inr half ↦
          let own : u ≤ tip_number (entry_at g (k - 1)).tip = omega (arith, loop_tip g (k - 1) u half.1) in
          inr (drawn_place false g (k - 1) u inside half.0 (le-leb u (tip_number (entry_at g (k - 1)).tip) own), half.2)
    ]

from_place : (g : GraphOf) (k : ℕ) → (place_in (drawing false g) k < length (drawing false g)) ⊎ (place_in (drawing false g) (k - 1) < length (drawing false g)) → source_of false (drawing false g) k < length (drawing false g)
unfolding source_of
from_place g k place =
    elim (cases_Bool (nat_lt (place_in (drawing false g) k) (length (drawing false g)))) [
      | inl own ↦ rw own (ltb-true (place_in (drawing false g) k) (length (drawing false g)) own)
      | inr other ↦ rw other (elim place [
        | inl here ↦ absurd (let true_too = lt-ltb (place_in (drawing false g) k) (length (drawing false g)) here in cc)
        | inr before ↦ before
      ])
    ]

paired_source : (g : GraphOf) (k : ℕ) → IsGraph g → is_paired g ≡ true → has_arc g k ≡ true → source_of false (drawing false g) k < length (drawing false g)
paired_source g k sound paired live =
    let tip = pair_tip g k paired live in
    let u : ℕ = owner_of g k in
    elim (cases_lt tip.0 u) [
      | inl down ↦
          let mate = pair_down g k u tip.0 paired tip.1 down in
          from_place g k (elim (upward g (k - 1) tip.0 u sound mate.1 (omega arith)) [
            | inl drawn ↦ inr drawn
            | inr loop ↦ absurd (omega (arith, down, loop_tip g (k - 1) tip.0 loop.1, ap tip_number mate.1.tip))
          ])
      | inr up ↦ from_place g k (elim (upward g k u tip.0 sound tip.1 up) [ inl drawn ↦ inl drawn | inr half ↦ inr half.0 ])
    ]

pub has_source : (directed : Bool) (g : GraphOf) (k : ℕ) → IsGraph g → refusal_of_arcs directed g ≡ None → has_arc g k ≡ true → source_of directed (drawing directed g) k < length (drawing directed g)
unfolding source_of
has_source true g k sound whole live =
    let by = listed_by g k sound live in
    drawn_place true g k (owner_of g k) by.0 by.1 refl
has_source false g k sound whole live = paired_source g k sound (paired_of (is_paired g) whole) live
