-- No arc draws twice, and there are no more draws than arcs.
use Rattle.std.proofs.Common.{◌≡◌, ◌≤◌, ◌+◌, ◌==◌, ℕ, zero, suc, List, [], ◌∷◌, ◌++◌, length, take, filter, Bool, true, false, cond, Option, Some, None, is_some, sym, ap, ◌∙◌, arith, inl, inr}
use Rattle.std.proofs.lemmas.Bool.{cases_Bool}
use Rattle.std.proofs.lemmas.List.{take_more}
use Rattle.std.proofs.lemmas.List.Sums.{sum_by-cons, sum_by-append, sum_by-take-le}
use Rattle.sgb_graph.specs.Graph.{GraphOf, ArcOf, IsGraph, n_of, made_of, has_arc, arc_at, arcs_of, vertex_at, no_vertex, occurrences, listings}
use Rattle.sgb_graph.specs.Paired.{walk, without_halves, is_loop_pair}
use Rattle.sgb_graph.proofs.Counts.{few_numbers}
use Rattle.sgb_graph.proofs.Graphs.{no_arc_past}
use Rattle.sgb_combine.specs.Drawing.{drawing, drawing_at, is_drawing}
use Rattle.sgb_combine.proofs.DrawingArcs.{drawing_before, drawing_more}

occurs_cons : (k j : ℕ) (ks : List ℕ) → occurrences k (j ∷ ks) ≡ cond (j == k) 1 0 + occurrences k ks
occurs_cons k j ks = sum_by-cons (λ x. cond (x == k) 1 0) j ks

pub occurs_filter : (p : ℕ → Bool) (k : ℕ) (ks : List ℕ) → occurrences k (filter p ks) ≤ occurrences k ks
occurs_filter p k [] = omega arith
occurs_filter p k (j ∷ ks) =
    elim (cases_Bool (p j)) [
      | inl e ↦ rw e (omega (arith, occurs_cons k j ks, occurs_cons k j (filter p ks), occurs_filter p k ks))
      | inr e ↦ rw e (omega (arith, occurs_cons k j ks, occurs_filter p k ks))
    ]

pub occurs_halves : (g : GraphOf) (v k : ℕ) (ks : List ℕ) → occurrences k (without_halves g v ks) ≤ occurrences k ks
unfolding without_halves
occurs_halves g v k [] = omega arith
occurs_halves g v k (i ∷ []) = omega arith
occurs_halves g v k (i ∷ (j ∷ ks)) =
    elim (cases_Bool (is_loop_pair g v i j)) [
      | inl e ↦ rw e (omega (arith, occurs_cons k i (j ∷ ks), occurs_cons k j ks, occurs_cons k i (without_halves g v ks), occurs_halves g v k ks))
      | inr e ↦ rw e (omega (arith, occurs_cons k i (j ∷ ks), occurs_cons k i (without_halves g v (j ∷ ks)), occurs_halves g v k (j ∷ ks)))
    ]

pub occurs_walk : (directed : Bool) (g : GraphOf) (v k : ℕ) → occurrences k (walk directed g v) ≤ occurrences k (arcs_of g v)
occurs_walk true g v k = omega arith
occurs_walk false g v k = occurs_halves g v k (arcs_of g v)

occurs_drawing_at : (directed : Bool) (g : GraphOf) (v k : ℕ) → occurrences k (drawing_at directed g v) ≤ occurrences k (arcs_of g v)
unfolding drawing_at
occurs_drawing_at directed g v k = omega (arith, occurs_filter (is_drawing directed g v) k (walk directed g v), occurs_walk directed g v k)

occurs_front : (directed : Bool) (g : GraphOf) (k n : ℕ) → n ≤ n_of g → occurrences k (drawing_before directed g n) ≤ listings k (take n g.vertices)
occurs_front directed g k zero within = omega arith
occurs_front directed g k (suc n) within =
    let f : ℕ → List ℕ = drawing_at directed g in
    let next : n + 1 ≡ suc n = omega arith in
    let more = drawing_more directed g n ∙ ap (drawing_before directed g) next in
    let longer : take (suc n) g.vertices ≡ take n g.vertices ++ vertex_at g n ∷ [] = ap (λ i. take i g.vertices) (sym next) ∙ take_more g.vertices n no_vertex within in
    let left = sym (ap (occurrences k) more) ∙ sum_by-append (λ x. cond (x == k) 1 0) (drawing_before directed g n) (f n) in
    let right = ap (listings k) longer ∙ sum_by-append (λ v. occurrences k v.arcs) (take n g.vertices) (vertex_at g n ∷ []) in
    omega (arith, left, right, sum_by-cons (λ v. occurrences k v.arcs) (vertex_at g n) [], occurs_front directed g k n (omega (arith, within)), occurs_drawing_at directed g n k)

pub occurs_before : (directed : Bool) (g : GraphOf) (k n : ℕ) → n ≤ n_of g → occurrences k (drawing_before directed g n) ≤ listings k g.vertices
occurs_before directed g k n within =
    omega (arith, occurs_front directed g k n within, sum_by-take-le (λ v. occurrences k v.arcs) g.vertices n)

one_at_most : (b : Bool) → cond b 1 0 ≤ 1
one_at_most true = omega arith
one_at_most false = omega arith

none_past : (o : Option ArcOf) → o ≡ None → cond (is_some o) 1 0 ≤ 0
none_past None none = omega arith
none_past (Some e) none = cc

pub few_draw : (directed : Bool) (g : GraphOf) (n : ℕ) → n ≤ n_of g → IsGraph g → length (drawing_before directed g n) ≤ made_of g
few_draw directed g n within sound =
    few_numbers (made_of g) (drawing_before directed g n)
    (λ k. omega (arith, occurs_before directed g k n within, sound.listed k, one_at_most (has_arc g k)))
    (λ k past. omega (arith, occurs_before directed g k n within, sound.listed k, none_past (arc_at g k) (no_arc_past g k past)))

pub draws_once : (directed : Bool) (g : GraphOf) (k : ℕ) → IsGraph g → occurrences k (drawing directed g) ≤ 1
unfolding drawing
draws_once directed g k sound =
    omega (arith, occurs_before directed g k (n_of g) (omega arith), sound.listed k, one_at_most (has_arc g k))
