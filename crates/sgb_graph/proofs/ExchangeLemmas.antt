-- Lemmas on a value that is put into a field.
use Rattle.std.proofs.Common.{◌≡◌, ◌<◌, ◌+◌, ◌^◌, ℕ, List, length, get_or, set, Option, Some, None, is_some, IfSome, true, refl, sym, ap, subst, ◌∙◌, arith, cond, inl, inr}
use Rattle.std.proofs.lemmas.Bool.{cases_eq, ltb-true}
use Rattle.std.proofs.lemmas.List.{get_or-set_same, get_or-set_other, length-set}
use Rattle.std.proofs.lemmas.List.Sums.{sum_by-set}
use Rattle.sgb_graph.specs.declared.field.VertexNo.{VertexNo}
use Rattle.sgb_graph.specs.declared.field.ArcNo.{ArcNo}
use Rattle.sgb_graph.specs.declared.field.Util.{Util}
use Rattle.sgb_graph.specs.declared.field.Util.TheVariants as utils
use Rattle.sgb_graph.specs.declared.field.VertexField.{VertexField}
use Rattle.sgb_graph.specs.declared.field.VertexField.TheVariants.{U, V, W, X, Y, Z}
use Rattle.sgb_graph.specs.declared.field.ArcField.{ArcField}
use Rattle.sgb_graph.specs.declared.field.ArcField.TheVariants.{A, B}
use Rattle.sgb_graph.specs.declared.field.GraphField.{GraphField}
use Rattle.sgb_graph.specs.declared.field.GraphField.TheVariants.{Uu, Vv, Ww, Xx, Yy, Zz}
use Rattle.sgb_graph.specs.declared.field.Place.{Place}
use Rattle.sgb_graph.specs.declared.field.Place.TheVariants.{Vertex, Arc, Graph}
use Rattle.sgb_graph.specs.declared.graph.Vertex as vertex
use Rattle.sgb_graph.specs.declared.graph.arena.Slot.{Slot}
use Rattle.sgb_graph.specs.declared.graph.Graph.TheInside.{Inside}
use Rattle.sgb_graph.specs.Field.{vertex_place, arc_place, graph_place}
use Rattle.sgb_graph.specs.Graph.{GraphOf, VertexOf, ArcOf, IsGraph, IsVertex, IsArc, IsValue, n_of, made_of, m_of, vertex_at, no_vertex, arcs_of, arc_at, has_arc, occurrences, listings, is_name, names_in, names_in_entry, names_of}
use Rattle.sgb_graph.specs.Edit.{with_util, util_at, has_place, entry_at, arc_or, no_arc}
use Rattle.sgb_graph.specs.Private.Arena.{Slots, Shows, ShowsVertex, slot_at, next_of, next_at, entry_of, owner_in, names_counted}
use Rattle.sgb_graph.specs.Private.Link.{any_vertex, vertex_in, IsCounted, slots_gaining, slots_losing}
use Rattle.sgb_graph.specs.Private.Exchange.{fields_in, with_field, value_in, fields_with, vertices_with, slots_with, CanExchange}
use Rattle.sgb_graph.specs.Chain.{Leads}
use Rattle.sgb_graph.proofs.Chains.{Leads-agree}
use Rattle.sgb_graph.proofs.Graphs.{made_of_live}
use Rattle.sgb_graph.proofs.Slots.{one_name, slot_same, slot_other, slot_unseen, length-gaining, counted_more, counted_less}
use Rattle.sgb_graph.proofs.Sound.{Keeps, IsValue-keeps, IsVertex-keeps, IsArc-keeps, IsEntry-keeps, All-set, entry_same, entry_other, few_names}
use Rattle.sgb_graph.proofs.Shows.{Opened, ShowsBut, but_of}
use Rattle.sgb_graph.proofs.ShowsPut.{gaining_but, losing_but, one_at_most}
use Rattle.sgb_graph.proofs.ShowsTake.{counted_enough}
use Rattle.sgb_graph.proofs.TakeOut.{some_entry}

pub vertex_six : (f : VertexField) → vertex_place f < 6
vertex_six U = omega arith
vertex_six V = omega arith
vertex_six W = omega arith
vertex_six X = omega arith
vertex_six Y = omega arith
vertex_six Z = omega arith

pub arc_two : (f : ArcField) → arc_place f < 2
arc_two A = omega arith
arc_two B = omega arith

pub graph_six : (f : GraphField) → graph_place f < 6
graph_six Uu = omega arith
graph_six Vv = omega arith
graph_six Ww = omega arith
graph_six Xx = omega arith
graph_six Yy = omega arith
graph_six Zz = omega arith

-- names in fields of which one is another
names_set : (j : ℕ) (us : List Util) (i : ℕ) (u : Util) → i < length us → names_in j (set us i u) + one_name j (get_or us i utils.Zero) ≡ names_in j us + one_name j u
names_set j us i u h = sum_by-set (λ x. cond (is_name j x) 1 0) us i u utils.Zero h

-- what a graph with another value has
pub record UtilFacts (g h : GraphOf) (u old : Util) : Type 0 where
  pub sound : IsGraph h
  pub n : n_of h ≡ n_of g
  pub made : made_of h ≡ made_of g
  pub m : m_of h ≡ m_of g
  pub id : h.id ≡ g.id
  pub types : h.types ≡ g.types
  pub arcs : (v : ℕ) → arcs_of h v ≡ arcs_of g v
  pub names : (j : ℕ) → names_of h j + one_name j old ≡ names_of g j + one_name j u
  pub value : IsValue (n_of g) g.entries old
  pub keeps : Keeps (n_of g) g.entries (n_of h) h.entries

vertex_facts : (g : GraphOf) (v : VertexNo) (f : VertexField) (u : Util) → IsGraph g → CanExchange g (Vertex v f) u → UtilFacts g (with_util g (Vertex v f) u) u (util_at g (Vertex v f))
unfolding with_util util_at
vertex_facts g v f u sound can =
    let h = with_util g (Vertex v f) u in
    let low : v.0 < n_of g = ltb-true v.0 (n_of g) can.place in
    let x = vertex_at g v.0 in
    let owner = sound.vertices v.0 no_vertex low in
    let i = vertex_place f in
    let within : i < length x.fields = omega (arith, owner.six, vertex_six f) in
    let y : VertexOf = record x { fields = set x.fields i u } in
    let n : n_of h ≡ n_of g = length-set g.vertices v.0 y in
    let keeps : Keeps (n_of g) g.entries (n_of h) h.entries = record { vertices = omega (arith, n); arcs = λ k live. live } in
    record {
      sound = record {
        listed = λ k.
            let s = sum_by-set (λ z. occurrences k z.arcs) g.vertices v.0 y no_vertex low in
            let same : listings k h.vertices ≡ listings k g.vertices = omega (arith, s) in
            same ∙ sound.listed k;
        id = sound.id;
        types = sound.types;
        six = sound.six;
        values = λ k d l. IsValue-keeps (n_of g) (n_of h) g.entries h.entries (get_or g.fields k d) keeps (sound.values k d l);
        vertices = All-set (IsVertex (n_of h) h.entries) g.vertices v.0 y
            (λ k d l. IsVertex-keeps (n_of g) (n_of h) g.entries h.entries (get_or g.vertices k d) keeps (sound.vertices k d l))
            (record {
              label = owner.label;
              six = length-set x.fields i u ∙ owner.six;
              values = All-set (IsValue (n_of h) h.entries) x.fields i u
                  (λ k d l. IsValue-keeps (n_of g) (n_of h) g.entries h.entries (get_or x.fields k d) keeps (owner.values k d l))
                  (IsValue-keeps (n_of g) (n_of h) g.entries h.entries u keeps can.value);
            });
        arcs = λ k d l. IsEntry-keeps (n_of g) (n_of h) g.entries h.entries (get_or g.entries k d) keeps (sound.arcs k d l);
        few_vertices = omega (arith, n, sound.few_vertices);
        few_arcs = sound.few_arcs;
      };
      n = n;
      made = refl;
      m = refl;
      id = refl;
      types = refl;
      arcs = λ w. elim (cases_eq w v.0) [
        | inl same ↦
            ap (λ k. (get_or h.vertices k no_vertex).arcs) same
            ∙ (ap (λ z. z.arcs) (get_or-set_same g.vertices v.0 y no_vertex low) ∙ ap (arcs_of g) (sym same))
        | inr ne ↦ ap (λ z. z.arcs) (get_or-set_other g.vertices v.0 w y no_vertex ne)
      ];
      names = λ j.
          let s = sum_by-set (λ z. names_in j z.fields) g.vertices v.0 y no_vertex low in
          omega (arith, s, names_set j x.fields i u within);
      value = owner.values i utils.Zero within;
      keeps = keeps;
    }

arc_facts : (g : GraphOf) (k : ArcNo) (f : ArcField) (u : Util) → IsGraph g → CanExchange g (Arc k f) u → UtilFacts g (with_util g (Arc k f) u) u (util_at g (Arc k f))
unfolding with_util util_at
arc_facts g k f u sound can =
    let h = with_util g (Arc k f) u in
    let low : k.0 < made_of g = made_of_live g k.0 can.place in
    let e = entry_at g k.0 in
    let entry : arc_at g k.0 ≡ Some e = some_entry (arc_at g k.0) can.place in
    let arc : IsArc (n_of g) g.entries e = subst (λ o. IfSome o (IsArc (n_of g) g.entries)) entry (sound.arcs k.0 None low) in
    let i = arc_place f in
    let within : i < length e.fields = omega (arith, arc.two, arc_two f) in
    let y : ArcOf = record e { fields = set e.fields i u } in
    let made : made_of h ≡ made_of g = length-set g.entries k.0 (Some y) in
    let live : (j : ℕ) → has_arc h j ≡ has_arc g j = λ j.
    elim (cases_eq j k.0) [
      | inl same ↦
          ap (has_arc h) same ∙ (ap is_some (entry_same g.entries k.0 (Some y) low) ∙ (sym can.place ∙ ap (has_arc g) (sym same)))
      | inr ne ↦ ap is_some (entry_other g.entries k.0 j (Some y) ne)
    ] in
    let keeps : Keeps (n_of g) g.entries (n_of h) h.entries = record { vertices = omega arith; arcs = λ j l. live j ∙ l } in
    let arc' : IsArc (n_of h) h.entries e = IsArc-keeps (n_of g) (n_of h) g.entries h.entries e keeps arc in
    let one : Option ArcOf → ℕ = λ o. cond (is_some o) 1 0 in
    record {
      sound = record {
        listed = λ j. sound.listed j ∙ ap (λ b. cond b 1 0) (sym (live j));
        id = sound.id;
        types = sound.types;
        six = sound.six;
        values = λ j d l. IsValue-keeps (n_of g) (n_of h) g.entries h.entries (get_or g.fields j d) keeps (sound.values j d l);
        vertices = λ j d l. IsVertex-keeps (n_of g) (n_of h) g.entries h.entries (get_or g.vertices j d) keeps (sound.vertices j d l);
        arcs = All-set (λ o. IfSome o (IsArc (n_of h) h.entries)) g.entries k.0 (Some y)
            (λ j d l. IsEntry-keeps (n_of g) (n_of h) g.entries h.entries (get_or g.entries j d) keeps (sound.arcs j d l))
            (record {
              tip = arc'.tip;
              len = arc'.len;
              two = length-set e.fields i u ∙ arc.two;
              values = All-set (IsValue (n_of h) h.entries) e.fields i u arc'.values (IsValue-keeps (n_of g) (n_of h) g.entries h.entries u keeps can.value);
            });
        few_vertices = sound.few_vertices;
        few_arcs = omega (arith, made, sound.few_arcs);
      };
      n = refl;
      made = made;
      m =
          (let s = sum_by-set one g.entries k.0 (Some y) None low in
          let was : one (get_or g.entries k.0 None) ≡ 1 = ap one entry in
          omega (arith, s, was));
      id = refl;
      types = refl;
      arcs = λ w. refl;
      names = λ j.
          let s = sum_by-set (names_in_entry j) g.entries k.0 (Some y) None low in
          let was : names_in_entry j (get_or g.entries k.0 None) ≡ names_in j e.fields = ap (names_in_entry j) entry in
          omega (arith, s, was, names_set j e.fields i u within);
      value = arc.values i utils.Zero within;
      keeps = keeps;
    }

graph_facts : (g : GraphOf) (f : GraphField) (u : Util) → IsGraph g → CanExchange g (Graph f) u → UtilFacts g (with_util g (Graph f) u) u (util_at g (Graph f))
unfolding with_util util_at
graph_facts g f u sound can =
    let i = graph_place f in
    let within : i < length g.fields = omega (arith, sound.six, graph_six f) in
    record {
      sound = record {
        listed = sound.listed;
        id = sound.id;
        types = sound.types;
        six = length-set g.fields i u ∙ sound.six;
        values = All-set (IsValue (n_of g) g.entries) g.fields i u sound.values can.value;
        vertices = sound.vertices;
        arcs = sound.arcs;
        few_vertices = sound.few_vertices;
        few_arcs = sound.few_arcs;
      };
      n = refl;
      made = refl;
      m = refl;
      id = refl;
      types = refl;
      arcs = λ w. refl;
      names = λ j. omega (arith, names_set j g.fields i u within);
      value = sound.values i utils.Zero within;
      keeps = record { vertices = omega arith; arcs = λ k l. l };
    }

pub util_facts : (g : GraphOf) (p : Place) (u : Util) → IsGraph g → CanExchange g p u → UtilFacts g (with_util g p u) u (util_at g p)
util_facts g (Vertex v f) u sound can = vertex_facts g v f u sound can
util_facts g (Arc k f) u sound can = arc_facts g k f u sound can
util_facts g (Graph f) u sound can = graph_facts g f u sound can

-- a value put into a slot is seen by nothing but its fields
field_blind_next : (i : ℕ) (u : Util) (o : Option Slot) → next_of (with_field i u o) ≡ next_of o
field_blind_next i u None = refl
field_blind_next i u (Some s) = refl

field_blind_owner : (i : ℕ) (u : Util) (o : Option Slot) → owner_in (with_field i u o) ≡ owner_in o
field_blind_owner i u None = refl
field_blind_owner i u (Some s) = refl

field_blind_names : (i : ℕ) (u : Util) (o : Option Slot) → names_counted (with_field i u o) ≡ names_counted o
field_blind_names i u None = refl
field_blind_names i u (Some s) = refl

slots_unseen : {Y : Type 0} (q : Option Slot → Y) → ((i : ℕ) (u : Util) (o : Option Slot) → q (with_field i u o) ≡ q o) → (ss : Slots) (p : Place) (u : Util) (j : ℕ) → q (slot_at (slots_with ss p u) j) ≡ q (slot_at ss j)
slots_unseen q blind ss (Vertex v f) u j = refl
slots_unseen q blind ss (Arc k f) u j = slot_unseen q ss k.0 j (with_field (arc_place f) u (slot_at ss k.0)) (blind (arc_place f) u (slot_at ss k.0))
slots_unseen q blind ss (Graph f) u j = refl

length-slots_with : (ss : Slots) (p : Place) (u : Util) → length (slots_with ss p u) ≡ length ss
length-slots_with ss (Vertex v f) u = refl
length-slots_with ss (Arc k f) u = length-set ss k.0 (with_field (arc_place f) u (slot_at ss k.0))
length-slots_with ss (Graph f) u = refl

length-vertices_with : (vs : List vertex.Vertex) (p : Place) (u : Util) → length (vertices_with vs p u) ≡ length vs
length-vertices_with vs (Vertex v f) u = length-set vs v.0 (record (vertex_in vs v.0) { fields = set (vertex_in vs v.0).fields (vertex_place f) u })
length-vertices_with vs (Arc k f) u = refl
length-vertices_with vs (Graph f) u = refl

-- the entry of a slot with another value
entry_with : (i : ℕ) (u : Util) (o : Option Slot) (e : Option ArcOf) → entry_of o ≡ e → is_some e ≡ true → entry_of (with_field i u o) ≡ Some (record (arc_or no_arc e) { fields = set (arc_or no_arc e).fields i u })
entry_with i u None None same live = absurd cc
entry_with i u None (Some e) same live = absurd cc
entry_with i u (Some s) None same live = absurd cc
entry_with i u (Some s) (Some e) same live = ap (λ o. Some (record (arc_or no_arc o) { fields = set (arc_or no_arc o).fields i u })) same

pub fields_of_entry : (o : Option Slot) (e : Option ArcOf) → entry_of o ≡ e → is_some e ≡ true → fields_in o ≡ (arc_or no_arc e).fields
fields_of_entry None None same live = absurd cc
fields_of_entry None (Some e) same live = absurd cc
fields_of_entry (Some s) None same live = absurd cc
fields_of_entry (Some s) (Some e) same live = ap (λ o. (arc_or no_arc o).fields) same

entries_shown : (ss : Slots) (g : GraphOf) (p : Place) (u : Util) → length ss ≡ made_of g → ((k : ℕ) → entry_of (slot_at ss k) ≡ arc_at g k) → has_place g p ≡ true → (j : ℕ) → entry_of (slot_at (slots_with ss p u) j) ≡ arc_at (with_util g p u) j
unfolding with_util
entries_shown ss g (Vertex v f) u made shown there j = shown j
entries_shown ss g (Graph f) u made shown there j = shown j
entries_shown ss g (Arc k f) u made shown there j =
    let low : k.0 < made_of g = made_of_live g k.0 there in
    let e = entry_at g k.0 in
    let y : ArcOf = record e { fields = set e.fields (arc_place f) u } in
    let o = with_field (arc_place f) u (slot_at ss k.0) in
    elim (cases_eq j k.0) [
      | inl same ↦
          ap (λ i. entry_of (slot_at (set ss k.0 o) i)) same
          ∙ (ap entry_of (slot_same ss k.0 o (omega (arith, made)))
          ∙ (entry_with (arc_place f) u (slot_at ss k.0) (arc_at g k.0) (shown k.0) there
          ∙ (sym (entry_same g.entries k.0 (Some y) low) ∙ ap (λ i. get_or (set g.entries k.0 (Some y)) i None) (sym same))))
      | inr ne ↦ ap entry_of (slot_other ss k.0 j o ne) ∙ (shown j ∙ sym (entry_other g.entries k.0 j (Some y) ne))
    ]

-- the links of the lists are as before
linked_shown : (ss : Slots) (p : Place) (u : Util) (link : Option ArcNo) (ks : List ℕ) → Leads (next_at ss) link ks None → Leads (next_at (slots_with ss p u)) link ks None
linked_shown ss p u link ks l = Leads-agree (next_at ss) (next_at (slots_with ss p u)) link ks None (λ j _. slots_unseen next_of field_blind_next ss p u j) l

vertices_shown : (vs : List vertex.Vertex) (ss : Slots) (g : GraphOf) (p : Place) (u : Util) → ShowsBut vs ss g → has_place g p ≡ true → (w : ℕ) (d : vertex.Vertex) → w < n_of g
    → ShowsVertex (slots_with ss p u) (get_or (vertices_with vs p u) w d) (vertex_at (with_util g p u) w)
unfolding with_util
vertices_shown vs ss g (Arc k f) u x there w d h =
    let y = x.vertices w d h in
    record { label = y.label; fields = y.fields; arcs = linked_shown ss (Arc k f) u (get_or vs w d).first (arcs_of g w) y.arcs }
vertices_shown vs ss g (Graph f) u x there w d h = x.vertices w d h
vertices_shown vs ss g (Vertex v f) u x there w d h =
    let low : v.0 < n_of g = ltb-true v.0 (n_of g) there in
    let i = vertex_place f in
    let new : vertex.Vertex = record (vertex_in vs v.0) { fields = set (vertex_in vs v.0).fields i u } in
    let z : VertexOf = record (vertex_at g v.0) { fields = set (vertex_at g v.0).fields i u } in
    elim (cases_eq w v.0) [
      | inl same ↦
          let y = x.vertices v.0 any_vertex low in
          let made : ShowsVertex ss new z = record { label = y.label; fields = ap (λ us. set us i u) y.fields; arcs = y.arcs } in
          let one : get_or (set vs v.0 new) w d ≡ new = ap (λ k. get_or (set vs v.0 new) k d) same ∙ get_or-set_same vs v.0 new d (omega (arith, x.n, low)) in
          let two : get_or (set g.vertices v.0 z) w no_vertex ≡ z = ap (λ k. get_or (set g.vertices v.0 z) k no_vertex) same ∙ get_or-set_same g.vertices v.0 z no_vertex low in
          subst (λ r. ShowsVertex ss r (get_or (set g.vertices v.0 z) w no_vertex)) (sym one) (subst (ShowsVertex ss new) (sym two) made)
      | inr ne ↦
          subst (λ r. ShowsVertex ss r (get_or (set g.vertices v.0 z) w no_vertex)) (sym (get_or-set_other vs v.0 w new d ne))
          (subst (ShowsVertex ss (get_or vs w d)) (sym (get_or-set_other g.vertices v.0 w z no_vertex ne)) (x.vertices w d h))
    ]

pub owned_as : (k : ℕ) (o : Option VertexNo) (p q : ℕ → List ℕ) → ((v : ℕ) → q v ≡ p v) → IfSome o (λ v. occurrences k (p v.0) ≡ 1) → IfSome o (λ v. occurrences k (q v.0) ≡ 1)
owned_as k None p q same h = tt
owned_as k (Some v) p q same h = ap (occurrences k) (same v.0) ∙ h

pub exchange_but : (vs : List vertex.Vertex) (ss : Slots) (g : GraphOf) (p : Place) (u : Util) → ShowsBut vs ss g → IsGraph g → CanExchange g p u → ShowsBut (vertices_with vs p u) (slots_with ss p u) (with_util g p u)
exchange_but vs ss g p u x sound can =
    let y = util_facts g p u sound can in
    record {
      n = omega (arith, length-vertices_with vs p u, x.n, y.n);
      vertices = λ w d h. vertices_shown vs ss g p u x can.place w d (omega (arith, h, y.n));
      made = omega (arith, length-slots_with ss p u, x.made, y.made);
      entries = entries_shown ss g p u x.made x.entries can.place;
      owners = λ k. owned_as k (owner_in (slot_at (slots_with ss p u) k)) (arcs_of g) (arcs_of (with_util g p u)) y.arcs
          (subst (λ o. IfSome o (λ v. occurrences k (arcs_of g v.0) ≡ 1)) (sym (slots_unseen owner_in field_blind_owner ss p u k)) (x.owners k));
    }

-- the value that is there
value_shown : (us : List Util) (vs : List vertex.Vertex) (ss : Slots) (g : GraphOf) (p : Place) → us ≡ g.fields → ShowsBut vs ss g → has_place g p ≡ true → value_in us vs ss p ≡ util_at g p
unfolding util_at
value_shown us vs ss g (Vertex v f) same x there = ap (λ r. get_or r (vertex_place f) utils.Zero) (x.vertices v.0 any_vertex (ltb-true v.0 (n_of g) there)).fields
value_shown us vs ss g (Graph f) same x there = ap (λ r. get_or r (graph_place f) utils.Zero) same
value_shown us vs ss g (Arc k f) same x there =
    ap (λ r. get_or r (arc_place f) utils.Zero) (fields_of_entry (slot_at ss k.0) (arc_at g k.0) (x.entries k.0) there)

fields_shown : (us : List Util) (g : GraphOf) (p : Place) (u : Util) → us ≡ g.fields → fields_with us p u ≡ (with_util g p u).fields
unfolding with_util
fields_shown us g (Vertex v f) u same = same
fields_shown us g (Arc k f) u same = same
fields_shown us g (Graph f) u same = ap (λ r. set r (graph_place f) u) same

-- the counts once the new name is counted
exchange_known : (vs : List vertex.Vertex) (ss : Slots) (g : GraphOf) (p : Place) (u : Util) → Shows vs ss g → IsGraph g → CanExchange g p u → (j : ℕ)
    → IfSome (names_counted (slot_at (slots_with (slots_gaining ss u) p u) j)) (λ m. m ≡ names_of (with_util g p u) j + one_name j (util_at g p))
exchange_known vs ss g p u shows sound can j =
    let y = util_facts g p u sound can in
    subst (λ o. IfSome o (λ m. m ≡ names_of (with_util g p u) j + one_name j (util_at g p))) (sym (slots_unseen names_counted field_blind_names (slots_gaining ss u) p u j))
    (subst (λ z. IfSome (names_counted (slot_at (slots_gaining ss u) j)) (λ m. m ≡ z)) (sym (y.names j)) (counted_more ss u j (names_of g j) (shows.names j)))

-- what the steps of `swap_util` leave
pub exchange_done : (a b : Inside) (g : GraphOf) (p : Place) (u : Util) (rs ts : Slots) (old : Util) → Opened a g → CanExchange g p u
    → rs ≡ slots_gaining a.slots u → old ≡ value_in a.fields a.vertices rs p → b.fields ≡ fields_with a.fields p u → b.vertices ≡ vertices_with a.vertices p u → ts ≡ slots_with rs p u → b.slots ≡ slots_losing ts old
    → b.holes ≡ a.holes → b.id ≡ a.id → b.types ≡ a.types → (old ≡ util_at g p) × Opened b (with_util g p u)
exchange_done a b g p u rs ts old o can rs_is old_is us_is ws_is ts_is qs_is holes id types =
    let h = with_util g p u in
    let vs = a.vertices in
    let as' = slots_gaining a.slots u in
    let f = util_facts g p u o.graph can in
    let x : ShowsBut vs as' g = gaining_but vs a.slots g u (but_of vs a.slots g o.shows) in
    let was : old ≡ util_at g p = old_is ∙ (ap (λ r. value_in a.fields vs r p) rs_is ∙ value_shown a.fields vs as' g p o.fields x can.place) in
    let bs = slots_with as' p u in
    let y : ShowsBut (vertices_with vs p u) (slots_losing bs (util_at g p)) h = losing_but (vertices_with vs p u) bs h (util_at g p) (exchange_but vs as' g p u x o.graph can) in
    let shown : Shows (vertices_with vs p u) (slots_losing bs (util_at g p)) h = record {
      n = y.n;
      vertices = y.vertices;
      made = y.made;
      entries = y.entries;
      owners = y.owners;
      names = λ j. counted_less bs (util_at g p) j (names_of h j) (exchange_known vs a.slots g p u o.shows o.graph can j);
    } in
    let slots : b.slots ≡ slots_losing bs (util_at g p) = qs_is ∙ (ap (λ r. slots_losing r old) (ts_is ∙ ap (λ r. slots_with r p u) rs_is) ∙ ap (slots_losing bs) was) in (
      was,
      record {
        graph = f.sound;
        shows = rw (ws_is, slots) shown;
        holes = omega (arith, holes, o.holes, f.m, f.made);
        id = id ∙ (o.id ∙ sym f.id);
        types = types ∙ (o.types ∙ sym f.types);
        fields = us_is ∙ fields_shown a.fields g p u o.fields;
      },
    )

-- what losing the old name requires
pub exchange_room : (us : List Util) (vs : List vertex.Vertex) (ss : Slots) (g : GraphOf) (p : Place) (u : Util) (rs ts : Slots) (old : Util)
    → us ≡ g.fields → Shows vs ss g → IsGraph g → CanExchange g p u
    → rs ≡ slots_gaining ss u → old ≡ value_in us vs rs p → ts ≡ slots_with rs p u → IsCounted ts 1 (2 ^ 32) old
exchange_room us vs ss g p u rs ts old same shows sound can rs_is old_is ts_is =
    let as' = slots_gaining ss u in
    let x : ShowsBut vs as' g = gaining_but vs ss g u (but_of vs ss g shows) in
    let y = util_facts g p u sound can in
    let was : old ≡ util_at g p = old_is ∙ (ap (λ r. value_in us vs r p) rs_is ∙ value_shown us vs as' g p same x can.place) in
    let bs = slots_with as' p u in
    let slots : ts ≡ bs = ts_is ∙ ap (λ r. slots_with r p u) rs_is in
    let size : length bs ≡ length g.entries = length-slots_with as' p u ∙ (length-gaining ss u ∙ shows.made) in
    let room : IsCounted bs 1 (2 ^ 32) (util_at g p) =
    counted_enough bs g.entries (n_of g) (util_at g p) (names_of (with_util g p u)) size y.value (exchange_known vs ss g p u shows sound can)
    (λ j. omega (arith, y.names j, few_names g j sound, one_at_most j u)) in
    rw (slots, was) room
