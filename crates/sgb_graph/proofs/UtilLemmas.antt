-- Lemmas on what setting a field leaves of the fields of a graph.
use Rattle.std.proofs.Common.{◌≡◌, ◌<◌, ℕ, List, length, get_or, set, Option, Some, None, IsSome, true, ◌&&◌, pos, refl, sym, ap, subst, ◌∙◌, arith, inl, inr, ◌==◌}
use Rattle.std.specs.Ordering.{int_eq}
use Rattle.std.proofs.lemmas.Bool.{cases_Bool, and_parts, ltb-true, lt-ltb}
use Rattle.std.proofs.lemmas.List.{set-set, set-get_or, get_or-set_same}
use Rattle.sgb_graph.specs.declared.field.Util.{Util}
use Rattle.sgb_graph.specs.declared.field.Util.TheVariants.{Zero, Int, Vertex, Arc, Text}
use Rattle.sgb_graph.specs.declared.field.Place.{Place}
use Rattle.sgb_graph.specs.declared.field.Place.TheVariants as places
use Rattle.sgb_graph.specs.Field.{vertex_place, arc_place, graph_place}
use Rattle.sgb_graph.specs.Graph.{GraphOf, VertexOf, ArcOf, IsGraph, IsValue, n_of, vertex_at, no_vertex, arc_at}
use Rattle.sgb_graph.specs.Edit.{with_util, util_at, has_place, can_name, stored, entry_at, arc_or, no_arc}
use Rattle.sgb_graph.specs.Delta.{LeftByUtil}
use Rattle.sgb_graph.specs.Private.Exchange.{CanExchange}
use Rattle.sgb_graph.specs.Set.{IsStorable}
use Rattle.sgb_graph.proofs.Graphs.{made_of_live}
use Rattle.sgb_graph.proofs.Sound.{entry_same, IsValue-keeps}
use Rattle.sgb_graph.proofs.TakeOut.{some_entry}
use Rattle.sgb_graph.proofs.ExchangeLemmas.{util_facts}
use Rattle.sgb_graph.proofs.SetLemmas.{unless_ok}

-- what the value names is there
abbrev IsNamed : ℕ → List (Option ArcOf) → Util → Type 0
IsNamed n es Zero = Unit {0}
IsNamed n es (Int z) = Unit {0}
IsNamed n es (Vertex v) = v.0 < n
IsNamed n es (Arc a) = IsSome (get_or es a.0 None)
IsNamed n es (Text t) = Unit {0}

value_from : (n : ℕ) (es : List (Option ArcOf)) (u : Util) → IsStorable u → IsNamed n es u → IsValue n es u
value_from n es Zero s h = tt
value_from n es (Int z) s h = s
value_from n es (Vertex v) s h = h
value_from n es (Arc a) s h = h
value_from n es (Text t) s h = s

named_stored : (g : GraphOf) (u : Util) → can_name g u ≡ true → IsNamed (n_of g) g.entries (stored u)
named_stored g Zero e = tt
named_stored g (Int z) e = elim (cases_Bool (int_eq z (pos 0))) [ inl b ↦ rw b tt | inr b ↦ rw b tt ]
named_stored g (Vertex v) e = ltb-true v.0 (n_of g) e
named_stored g (Arc a) e = e
named_stored g (Text t) e = elim (cases_Bool (length t == 0)) [ inl b ↦ rw b tt | inr b ↦ rw b tt ]

pub value_sound : (g : GraphOf) (u w : Util) → can_name g u ≡ true → w ≡ stored u → IsStorable w → IsValue (n_of g) g.entries w
value_sound g u w named is storable =
    value_from (n_of g) g.entries w storable (subst (IsNamed (n_of g) g.entries) (sym is) (named_stored g u named))

-- putting the old value back
pub with_util-with_util : (g : GraphOf) (p : Place) (u : Util) → IsGraph g → has_place g p ≡ true → with_util (with_util g p u) p (util_at g p) ≡ g
unfolding with_util util_at
with_util-with_util g (places.Graph f) u sound there =
    ap (λ us. record g { fields = us }) (set-set g.fields (graph_place f) u (get_or g.fields (graph_place f) Zero) ∙ set-get_or g.fields (graph_place f) Zero)
with_util-with_util g (places.Vertex v f) u sound there =
    let i = vertex_place f in
    let x = vertex_at g v.0 in
    let low = ltb-true v.0 (n_of g) there in
    let y : VertexOf = record x { fields = set x.fields i u } in
    let old = get_or x.fields i Zero in
    let back : (z : VertexOf) → z ≡ y → record z { fields = set z.fields i old } ≡ x = λ z e.
    ap (λ (q : VertexOf). record q { fields = set q.fields i old }) e
    ∙ ap (λ us. record x { fields = us }) (set-set x.fields i u old ∙ set-get_or x.fields i Zero) in
    let here : get_or (set g.vertices v.0 y) v.0 no_vertex ≡ y = get_or-set_same g.vertices v.0 y no_vertex low in
    ap (λ vs. record g { vertices = vs })
    (ap (set (set g.vertices v.0 y) v.0) (back (get_or (set g.vertices v.0 y) v.0 no_vertex) here)
    ∙ (set-set g.vertices v.0 y x ∙ set-get_or g.vertices v.0 no_vertex))
with_util-with_util g (places.Arc k f) u sound there =
    let i = arc_place f in
    let e = entry_at g k.0 in
    let low = made_of_live g k.0 there in
    let y : ArcOf = record e { fields = set e.fields i u } in
    let h = with_util g (places.Arc k f) u in
    let old = get_or e.fields i Zero in
    let here : entry_at h k.0 ≡ y = ap (arc_or no_arc) (entry_same g.entries k.0 (Some y) low) in
    let back : record (entry_at h k.0) { fields = set (entry_at h k.0).fields i old } ≡ e =
    ap (λ (q : ArcOf). record q { fields = set q.fields i old }) here
    ∙ ap (λ us. record e { fields = us }) (set-set e.fields i u old ∙ set-get_or e.fields i Zero) in
    ap (λ es. record g { entries = es })
    (ap (λ q. set (set g.entries k.0 (Some y)) k.0 (Some q)) back
    ∙ (set-set g.entries k.0 (Some y) (Some e) ∙ (ap (set g.entries k.0) (sym (some_entry (arc_at g k.0) there)) ∙ set-get_or g.entries k.0 None)))

-- undoing a set field
place_there : (g : GraphOf) (p : Place) (u : Util) → IsGraph g → CanExchange g p u → has_place (with_util g p u) p ≡ true
unfolding with_util
place_there g (places.Graph f) u sound can = refl
place_there g (places.Vertex v f) u sound can =
    lt-ltb v.0 (n_of (with_util g (places.Vertex v f) u)) (omega (arith, (util_facts g (places.Vertex v f) u sound can).n, ltb-true v.0 (n_of g) can.place))
place_there g (places.Arc k f) u sound can = (util_facts g (places.Arc k f) u sound can).keeps.arcs k.0 can.place

pub record LeftUtil (g : GraphOf) (p : Place) (old : Util) (h : GraphOf) : Type 0 where
  pub can : CanExchange h p old
  pub back : with_util h p old ≡ g

pub left_util : (g h : GraphOf) (p : Place) (old : Util) → LeftByUtil g p old h → LeftUtil g p old h
left_util g h p old l =
    let both = and_parts (has_place g p) (can_name g l.value) (unless_ok (has_place g p && can_name g l.value) l.accepted) in
    let w = stored l.value in
    let can : CanExchange g p w = record { place = both.0; value = value_from (n_of g) g.entries w l.fits (named_stored g l.value both.1) } in
    let y = util_facts g p w l.graph can in
    record {
      can = subst (λ k. CanExchange k p old) (sym l.left)
          (record {
            place = place_there g p w l.graph can;
            value = IsValue-keeps (n_of g) (n_of (with_util g p w)) g.entries (with_util g p w).entries old y.keeps (subst (IsValue (n_of g) g.entries) (sym l.kept) y.value);
          });
      back = ap (λ k. with_util k p old) l.left ∙ (ap (with_util (with_util g p w) p) l.kept ∙ with_util-with_util g p w l.graph both.0);
    }
