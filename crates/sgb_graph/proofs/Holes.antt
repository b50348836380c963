-- Lemmas on a number that is given out as a hole, and on new arcs.
use Rattle.std.proofs.Common.{◌≡◌, ◌<◌, ◌+◌, ℕ, ℤ, zero, suc, List, [], ◌∷◌, ◌++◌, length, get_or, set, Option, Some, None, is_some, IfSome, All, refl, sym, ap, subst, ◌∙◌, arith, cond, inl, inr, FitsSigned, min, max}
use Rattle.std.specs.Int.{w64}
use Rattle.std.proofs.lemmas.Bool.{cases_lt, cases_order, le-leb, lt-ltb}
use Rattle.std.proofs.lemmas.List.{get_or_past, get_or_append_left, length_push, get_or_push, set_at, get_or_default, set-append_left}
use Rattle.std.proofs.lemmas.List.Sums.{sum_by_push}
use Rattle.sgb_graph.specs.declared.field.Util.TheVariants as utils
use Rattle.sgb_graph.specs.declared.graph.Vertex.{Vertex}
use Rattle.sgb_graph.specs.declared.delta.CutArc.{CutArc}
use Rattle.sgb_graph.specs.Graph.{GraphOf, ArcOf, IsGraph, IsArc, IsValue, n_of, made_of, m_of, arcs_of, occurrences, names_in_entry, names_of}
use Rattle.sgb_graph.specs.Edit.{with_listed, with_entry_last, with_cut_arc, with_arc, with_edge, arc_to, refusal_of_arc, refusal_of_edge}
use Rattle.sgb_graph.specs.Private.Holes.{with_hole}
use Rattle.sgb_graph.specs.Private.Insert.{new_cut}
use Rattle.sgb_graph.specs.Private.Arena.{Slots, Shows, slot_at, next_of, next_at, entry_of, owner_in, names_counted}
use Rattle.sgb_graph.specs.Field.{arc_no}
use Rattle.sgb_graph.specs.Private.Link.{CanPutBack}
use Rattle.sgb_graph.proofs.ShowsPut.{put_n, put_made, put_entry_other}
use Rattle.sgb_graph.proofs.Chains.{Leads-agree}
use Rattle.sgb_graph.proofs.Sound.{Keeps, IsValue-keeps, IsVertex-keeps, IsEntry-keeps}

-- a hole at the end is like no entry
pub at_hole : {X : Type 0} (os : List (Option X)) (k : ℕ) → get_or (os ++ None ∷ []) k None ≡ get_or os k None
at_hole {X} os k =
    elim (cases_order k (length os)) [
      | inl same ↦ get_or_push os None None k (sym same) ∙ sym (get_or_past os k None (omega arith))
      | inr (inl low) ↦ get_or_append_left os (None ∷ []) None k low
      | inr (inr high) ↦ get_or_past (os ++ None ∷ []) k None (omega (arith, length_push os None)) ∙ sym (get_or_past os k None (omega arith))
    ]

pub hole_made : (g : GraphOf) → made_of (with_hole g) ≡ made_of g + 1
hole_made g = length_push g.entries None

pub hole_names : (g : GraphOf) (k : ℕ) → names_of (with_hole g) k ≡ names_of g k
hole_names g k = omega (arith, sum_by_push (names_in_entry k) g.entries None)

pub hole_m : (g : GraphOf) → m_of (with_hole g) ≡ m_of g
hole_m g = omega (arith, sum_by_push (λ o. cond (is_some o) 1 0) g.entries None)

pub hole_keeps : (g : GraphOf) → Keeps (n_of g) g.entries (n_of g) (with_hole g).entries
hole_keeps g = record { vertices = omega arith; arcs = λ k live. ap is_some (at_hole g.entries k) ∙ live }

pub hole_sound : (g : GraphOf) → IsGraph g → made_of g < 1000000 → IsGraph (with_hole g)
hole_sound g sound few =
    let h = with_hole g in
    let keeps = hole_keeps g in
    record {
      listed = λ k. sound.listed k ∙ ap (λ o. cond (is_some o) 1 0) (sym (at_hole g.entries k));
      id = sound.id;
      types = sound.types;
      six = sound.six;
      values = λ i d l. IsValue-keeps (n_of g) (n_of g) g.entries h.entries (get_or g.fields i d) keeps (sound.values i d l);
      vertices = λ i d l. IsVertex-keeps (n_of g) (n_of g) g.entries h.entries (get_or g.vertices i d) keeps (sound.vertices i d l);
      arcs = λ i d l.
          let entry : get_or h.entries i d ≡ get_or g.entries i None =
          get_or_default h.entries i d None l ∙ at_hole g.entries i in
          subst (λ o. IfSome o (IsArc (n_of g) h.entries)) (sym entry)
          (elim (cases_lt i (made_of g)) [
            | inl low ↦ IsEntry-keeps (n_of g) (n_of g) g.entries h.entries (get_or g.entries i None) keeps (sound.arcs i None low)
            | inr high ↦ subst (λ o. IfSome o (IsArc (n_of g) h.entries)) (sym (get_or_past g.entries i None high)) tt
          ]);
      few_vertices = sound.few_vertices;
      few_arcs = omega (arith, hole_made g);
    }

pub hole_shows : (vs : List Vertex) (ss : Slots) (g : GraphOf) → Shows vs ss g → Shows vs (ss ++ None ∷ []) (with_hole g)
hole_shows vs ss g x =
    let ts = ss ++ None ∷ [] in
    record {
      n = x.n;
      vertices = λ v d h.
          let y = x.vertices v d h in
          record {
            label = y.label;
            fields = y.fields;
            arcs = Leads-agree (next_at ss) (next_at ts) (get_or vs v d).first (arcs_of g v) None (λ j _. ap next_of (at_hole ss j)) y.arcs;
          };
      made = omega (arith, length_push ss None, hole_made g, x.made);
      entries = λ k. ap entry_of (at_hole ss k) ∙ (x.entries k ∙ sym (at_hole g.entries k));
      owners = λ k. subst (λ o. IfSome (owner_in o) (λ v. occurrences k (arcs_of g v.0) ≡ 1)) (sym (at_hole ss k)) (x.owners k);
      names = λ k. subst (λ o. IfSome (names_counted o) (λ m. m ≡ names_of (with_hole g) k)) (sym (at_hole ss k))
          (subst (λ z. IfSome (names_counted (slot_at ss k)) (λ m. m ≡ z)) (sym (hole_names g k)) (x.names k));
    }

-- a new arc is put at a new hole
pub with_arc_is : (g : GraphOf) (u v : ℕ) (len : ℤ) → with_arc g u v len ≡ with_cut_arc (with_hole g) (new_cut (arc_no (made_of g)) (record { 0 = u }) (record { 0 = v }) len)
unfolding with_arc with_entry_last with_listed with_cut_arc
with_arc_is g u v len =
    let h = with_listed g u 0 (made_of g) in
    ap (λ es. record h { entries = es }) (sym (set_at g.entries None [] (Some (arc_to v len)) (made_of g) refl))

pub zero_value : (n : ℕ) (es : List (Option ArcOf)) → All (IsValue n es) (utils.Zero ∷ utils.Zero ∷ [])
zero_value n es zero d h = tt
zero_value n es (suc zero) d h = tt
zero_value n es (suc (suc i)) d h = absurd (omega arith)

zeros_arc : (n : ℕ) (es : List (Option ArcOf)) (v : ℕ) (len : ℤ) → v < n → FitsSigned w64 len → IsArc n es (arc_to v len)
zeros_arc n es v len h fits =
    record { tip = h; len = fits; two = refl; values = zero_value n es }

pub new_can : (g : GraphOf) (u v : ℕ) (len : ℤ) → IsGraph g → u < n_of g → v < n_of g → FitsSigned w64 len
    → CanPutBack (with_hole g) (new_cut (arc_no (made_of g)) (record { 0 = u }) (record { 0 = v }) len)
new_can g u v len sound from to fits =
    record {
      hole = at_hole g.entries (made_of g) ∙ get_or_past g.entries (made_of g) None (omega arith);
      made = omega (arith, hole_made g);
      owner = from;
      place = omega arith;
      arc = zeros_arc (n_of g) (with_hole g).entries v len to fits;
    }

-- what the test before a new arc tells
pub arc_accepted : (g : GraphOf) (u v : ℕ) → u < n_of g → v < n_of g → made_of g < 1000000 → refusal_of_arc g u v ≡ None
arc_accepted g u v from to few = rw (lt-ltb u (n_of g) from, lt-ltb v (n_of g) to, le-leb (made_of g + 1) 1000000 (omega arith)) refl

-- a new edge is two arcs put at two new holes, the second first
abbrev pub first_cut : GraphOf → ℕ → ℕ → ℤ → CutArc
first_cut g low high len = new_cut (arc_no (made_of g)) (record { 0 = low }) (record { 0 = high }) len

abbrev pub second_cut : GraphOf → ℕ → ℕ → ℤ → CutArc
second_cut g low high len = new_cut (arc_no (made_of g + 1)) (record { 0 = high }) (record { 0 = low }) len

pub two_set_last : {X : Type 0} (xs : List X) (x a b : X) → set (set (xs ++ x ∷ [] ++ x ∷ []) (length xs + 1) b) (length xs) a ≡ xs ++ a ∷ [] ++ b ∷ []
two_set_last xs x a b =
    ap (λ ys. set ys (length xs) a) (set_at (xs ++ x ∷ []) x [] b (length xs + 1) (length_push xs x))
    ∙ (set-append_left (xs ++ x ∷ []) (b ∷ []) (length xs) a (omega (arith, length_push xs x))
    ∙ ap (λ ys. ys ++ b ∷ []) (set_at xs x [] a (length xs) refl))

pub with_edge_is : (g : GraphOf) (u v : ℕ) (len : ℤ) → with_edge g u v len ≡ with_cut_arc (with_cut_arc (with_hole (with_hole g)) (second_cut g (min u v) (max u v) len)) (first_cut g (min u v) (max u v) len)
unfolding with_edge with_entry_last with_listed with_cut_arc
with_edge_is g u v len =
    let h = with_listed (with_listed g (max u v) 0 (made_of g + 1)) (min u v) 0 (made_of g) in
    ap (λ es. record h { entries = es }) (sym (two_set_last g.entries None (Some (arc_to (max u v) len)) (Some (arc_to (min u v) len))))

pub second_can : (g : GraphOf) (low high : ℕ) (len : ℤ) → IsGraph g → low < n_of g → high < n_of g → FitsSigned w64 len → CanPutBack (with_hole (with_hole g)) (second_cut g low high len)
second_can g low high len sound from to fits =
    let h = with_hole (with_hole g) in
    record {
      hole = at_hole (with_hole g).entries (made_of g + 1) ∙ (at_hole g.entries (made_of g + 1) ∙ get_or_past g.entries (made_of g + 1) None (omega arith));
      made = omega (arith, hole_made g, hole_made (with_hole g));
      owner = to;
      place = omega arith;
      arc = zeros_arc (n_of g) h.entries low len from fits;
    }

pub first_can : (g : GraphOf) (low high : ℕ) (len : ℤ) → IsGraph g → low < n_of g → high < n_of g → FitsSigned w64 len → CanPutBack (with_cut_arc (with_hole (with_hole g)) (second_cut g low high len)) (first_cut g low high len)
first_can g low high len sound from to fits =
    let h = with_hole (with_hole g) in
    let c = second_cut g low high len in
    let k = with_cut_arc h c in
    let n : n_of k ≡ n_of g = put_n h c in
    record {
      hole = put_entry_other h c (made_of g) (λ e. omega (arith, e)) ∙ (at_hole (with_hole g).entries (made_of g) ∙ (at_hole g.entries (made_of g) ∙ get_or_past g.entries (made_of g) None (omega arith)));
      made = omega (arith, put_made h c, hole_made g, hole_made (with_hole g));
      owner = omega (arith, n, from);
      place = omega arith;
      arc = zeros_arc (n_of k) k.entries high len (omega (arith, n, to)) fits;
    }

pub edge_accepted : (g : GraphOf) (u v : ℕ) → u < n_of g → v < n_of g → made_of g + 1 < 1000000 → refusal_of_edge g u v ≡ None
edge_accepted g u v from to few = rw (lt-ltb u (n_of g) from, lt-ltb v (n_of g) to, le-leb (made_of g + 2) 1000000 (omega arith)) refl
