-- Lemmas on a graph with an arc or an edge more: it is sound, and which arcs of a vertex are written.
use Rattle.std.proofs.Common.{◌≡◌, ◌≢◌, ◌<◌, ◌≤◌, ◌+◌, ℕ, ℤ, List, [], ◌∷◌, ◌++◌, get_or, set, Some, None, true, false, ◌==◌, cond, min, max, inl, inr, FitsSigned, refl, sym, ap, subst, ◌∙◌, arith}
use Rattle.std.specs.Int.{w64}
use Rattle.std.proofs.lemmas.Bool.{cases_Bool, eqb-true, eqb-false}
use Rattle.std.proofs.lemmas.List.{length-set, length_push, get_or-set_same, get_or-set_other, get_or_append_left, get_or_push}
use Rattle.sgb_graph.specs.Graph.{GraphOf, VertexOf, IsGraph, n_of, made_of, vertex_at, no_vertex, arcs_of, arc_at, occurrences}
use Rattle.sgb_graph.specs.Edit.{with_listed, with_entry_last, arc_to, with_arc, with_edge}
use Rattle.sgb_graph.proofs.Counts.{occurs_more}
use Rattle.sgb_graph.proofs.Holes.{hole_sound, hole_made, with_arc_is, new_can, with_edge_is, first_can, second_can, second_cut}
use Rattle.sgb_graph.specs.Private.Holes.{with_hole}
use Rattle.sgb_graph.proofs.ShowsPut.{put_sound}
use Rattle.sgb_import.proofs.Extensions.{Extends}

-- ---- lists with one number more in front
abbrev pub grown_list : ℕ → ℕ → ℕ → List ℕ → List ℕ
grown_list u k v ks = cond (u == v) (k ∷ ks) ks

arcs_listed : (g : GraphOf) (u k v : ℕ) → u < n_of g → arcs_of (with_listed g u 0 k) v ≡ grown_list u k v (arcs_of g v)
unfolding with_listed
arcs_listed g u k v inside =
    let x : VertexOf = record (vertex_at g u) { arcs = k ∷ arcs_of g u } in
    elim (cases_Bool (u == v)) [
      | inl same ↦
          let is : u ≡ v = eqb-true u v same in
          ap (λ w. (get_or (set g.vertices u x) w no_vertex).arcs) (sym is)
          ∙ (ap (λ (y : VertexOf). y.arcs) (get_or-set_same g.vertices u x no_vertex inside)
          ∙ (ap (λ w. k ∷ arcs_of g w) is ∙ sym (ap (λ b. cond b (k ∷ arcs_of g v) (arcs_of g v)) same)))
      | inr other ↦
          let ne : v ≢ u = λ e. eqb-false u v other (sym e) in
          ap (λ (y : VertexOf). y.arcs) (get_or-set_other g.vertices u v x no_vertex ne)
          ∙ sym (ap (λ b. cond b (k ∷ arcs_of g v) (arcs_of g v)) other)
    ]

n_listed : (g : GraphOf) (u i k : ℕ) → n_of (with_listed g u i k) ≡ n_of g
unfolding with_listed
n_listed g u i k = length-set g.vertices u _

pub grown_more : (j u k v : ℕ) (ks : List ℕ) → occurrences j ks ≤ occurrences j (grown_list u k v ks)
grown_more j u k v ks =
    elim (u == v) as (λ b. occurrences j ks ≤ occurrences j (cond b (k ∷ ks) ks)) [
      | true ↦ occurs_more j k ks
      | false ↦ omega arith
    ]

-- ---- an arc more
pub arcs-with_arc : (g : GraphOf) (u w : ℕ) (len : ℤ) (v : ℕ) → u < n_of g → arcs_of (with_arc g u w len) v ≡ grown_list u (made_of g) v (arcs_of g v)
unfolding with_arc with_entry_last
arcs-with_arc g u w len v inside = arcs_listed (with_entry_last g (arc_to w len)) u (made_of g) v inside

old-with_arc : (g : GraphOf) (u w : ℕ) (len : ℤ) (k : ℕ) → k < made_of g → arc_at (with_arc g u w len) k ≡ arc_at g k
unfolding with_arc with_listed with_entry_last
old-with_arc g u w len k made = get_or_append_left g.entries (Some (arc_to w len) ∷ []) None k made

pub new-with_arc : (g : GraphOf) (u w : ℕ) (len : ℤ) → arc_at (with_arc g u w len) (made_of g) ≡ Some (arc_to w len)
unfolding with_arc with_listed with_entry_last
new-with_arc g u w len = get_or_push g.entries (Some (arc_to w len)) None (made_of g) refl

pub sound-with_arc : (g : GraphOf) (u w : ℕ) (len : ℤ) → IsGraph g → u < n_of g → w < n_of g → FitsSigned w64 len → made_of g < 1000000 → IsGraph (with_arc g u w len)
sound-with_arc g u w len sound from to fits few =
    rw (with_arc_is g u w len) (put_sound (with_hole g) _ (hole_sound g sound few) (new_can g u w len sound from to fits))

pub extends-with_arc : (g : GraphOf) (u w : ℕ) (len : ℤ) → IsGraph g → u < n_of g → w < n_of g → FitsSigned w64 len → made_of g < 1000000 → Extends g (with_arc g u w len)
extends-with_arc g u w len sound from to fits few = record {
  before = sound;
  after = sound-with_arc g u w len sound from to fits few;
  arcs = λ k made. old-with_arc g u w len k made;
  lists = λ k v. subst (λ ks. occurrences k (arcs_of g v) ≤ occurrences k ks) (sym (arcs-with_arc g u w len v from)) (grown_more k u (made_of g) v (arcs_of g v));
}

-- ---- an edge more
pub arcs-with_edge : (g : GraphOf) (u w : ℕ) (len : ℤ) (v : ℕ) → u < n_of g → w < n_of g
    → arcs_of (with_edge g u w len) v ≡ grown_list (min u w) (made_of g) v (grown_list (max u w) (made_of g + 1) v (arcs_of g v))
unfolding with_edge with_entry_last
arcs-with_edge g u w len v from to =
    let both = with_entry_last (with_entry_last g (arc_to (max u w) len)) (arc_to (min u w) len) in
    let one = with_listed both (max u w) 0 (made_of g + 1) in
    let low : min u w < n_of g = omega arith in
    let high : max u w < n_of g = omega arith in
    arcs_listed one (min u w) (made_of g) v (omega (arith, low, n_listed both (max u w) 0 (made_of g + 1)))
    ∙ ap (grown_list (min u w) (made_of g) v) (arcs_listed both (max u w) (made_of g + 1) v high)

old-with_edge : (g : GraphOf) (u w : ℕ) (len : ℤ) (k : ℕ) → k < made_of g → arc_at (with_edge g u w len) k ≡ arc_at g k
unfolding with_edge with_listed with_entry_last
old-with_edge g u w len k made =
    let es = g.entries ++ Some (arc_to (max u w) len) ∷ [] in
    get_or_append_left es (Some (arc_to (min u w) len) ∷ []) None k (omega (arith, made, length_push g.entries (Some (arc_to (max u w) len))))
    ∙ get_or_append_left g.entries (Some (arc_to (max u w) len) ∷ []) None k made

pub first-with_edge : (g : GraphOf) (u w : ℕ) (len : ℤ) → arc_at (with_edge g u w len) (made_of g) ≡ Some (arc_to (max u w) len)
unfolding with_edge with_listed with_entry_last
first-with_edge g u w len =
    let a = Some (arc_to (max u w) len) in
    get_or_append_left (g.entries ++ a ∷ []) (Some (arc_to (min u w) len) ∷ []) None (made_of g) (omega (arith, length_push g.entries a))
    ∙ get_or_push g.entries a None (made_of g) refl

pub second-with_edge : (g : GraphOf) (u w : ℕ) (len : ℤ) → arc_at (with_edge g u w len) (made_of g + 1) ≡ Some (arc_to (min u w) len)
unfolding with_edge with_listed with_entry_last
second-with_edge g u w len =
    let a = Some (arc_to (max u w) len) in
    get_or_push (g.entries ++ a ∷ []) (Some (arc_to (min u w) len)) None (made_of g + 1) (length_push g.entries a)

pub sound-with_edge : (g : GraphOf) (u w : ℕ) (len : ℤ) → IsGraph g → u < n_of g → w < n_of g → FitsSigned w64 len → made_of g + 1 < 1000000 → IsGraph (with_edge g u w len)
sound-with_edge g u w len sound from to fits few =
    let low : min u w < n_of g = omega arith in
    let high : max u w < n_of g = omega arith in
    let h = with_hole (with_hole g) in
    let holes : IsGraph h = hole_sound (with_hole g) (hole_sound g sound (omega arith)) (omega (arith, hole_made g)) in
    let one = put_sound h (second_cut g (min u w) (max u w) len) holes (second_can g (min u w) (max u w) len sound low high fits) in
    rw (with_edge_is g u w len) (put_sound _ _ one (first_can g (min u w) (max u w) len sound low high fits))

pub extends-with_edge : (g : GraphOf) (u w : ℕ) (len : ℤ) → IsGraph g → u < n_of g → w < n_of g → FitsSigned w64 len → made_of g + 1 < 1000000 → Extends g (with_edge g u w len)
extends-with_edge g u w len sound from to fits few = record {
  before = sound;
  after = sound-with_edge g u w len sound from to fits few;
  arcs = λ k made. old-with_edge g u w len k made;
  lists = λ k v.
      let ks = arcs_of g v in
      let more = grown_list (max u w) (made_of g + 1) v ks in
      let one : occurrences k ks ≤ occurrences k more = grown_more k (max u w) (made_of g + 1) v ks in
      let two : occurrences k more ≤ occurrences k (grown_list (min u w) (made_of g) v more) = grown_more k (min u w) (made_of g) v more in
      let both : occurrences k ks ≤ occurrences k (grown_list (min u w) (made_of g) v more) = omega (arith, one, two) in
      subst (λ js. occurrences k ks ≤ occurrences k js) (sym (arcs-with_edge g u w len v from to)) both;
}
