-- Lemmas on the values that are put into the fields of a graph.
use Rattle.std.proofs.Common.{◌≡◌, ◌≢◌, ◌<◌, ◌≤◌, ◌+◌, ℕ, zero, suc, List, [], ◌∷◌, ◌++◌, length, get_or, set, map, Option, Some, None, is_some, true, false, refl, sym, ap, ◌∙◌, arith, cond, inl, inr, IfSome, ◌&&◌, subst, Result, Ok, Err, is_ok, OnOk}
use Rattle.std.proofs.lemmas.Bool.{cases_lt, cases_eq, and_parts, cases_Bool, lt-ltb}
use Rattle.std.proofs.lemmas.List.{append-nil, get_or-set_same, get_or-set_other, set-set, length-set, get_or_at, length_push, append_assoc, length-append, set-get_or}
use Rattle.sgb_graph.specs.declared.parts.ArcPart.{ArcPart}
use Rattle.sgb_graph.specs.declared.parts.VertexPart.{VertexPart}
use Rattle.sgb_graph.specs.Graph.{GraphOf, VertexOf, ArcOf, IsGraph, n_of, made_of, vertex_at, no_vertex, arc_at, has_arc, IsArc}
use Rattle.sgb_graph.specs.Edit.{with_label, stored, with_util, util_at, with_vertex, with_entry, can_name, has_place, refusal_of_util, refusal_unless, entry_at, arc_or, no_arc}
use Rattle.sgb_graph.specs.Parts.{vertex_part, arc_part, any_vertex_part, any_arc_part}
use Rattle.sgb_graph.specs.Private.Fill.{SameNames, can_name_each, can_name_part, can_name_vertices, can_name_at, can_name_arcs, filled_vertex, filled_entry, with_filled_vertex, with_filled_arc, FillsVertices, FillsArcs, can_lead, with_aim}
use Rattle.sgb_graph.proofs.Graphs.{no_arc_past, made_of_live}
use Rattle.sgb_graph.proofs.PairedLemmas.{below_all_not}
use Rattle.sgb_graph.proofs.Sound.{entry_same, entry_other}
use Rattle.sgb_graph.specs.declared.field.ArcNo.{ArcNo}
use Rattle.sgb_graph.specs.declared.field.VertexNo.{VertexNo}
use Rattle.sgb_graph.specs.declared.field.Util.{Util}
use Rattle.sgb_graph.specs.declared.field.Util.TheVariants as utils
use Rattle.sgb_graph.specs.declared.field.Place.{Place}
use Rattle.sgb_graph.specs.declared.field.Place.TheVariants as places
use Rattle.sgb_graph.specs.declared.refusal.Refusal.TheVariants.{BadOperand}
use Rattle.sgb_graph.proofs.TakeOut.{some_entry}
use Rattle.sgb_graph.specs.Field.{vertex_place, arc_place, graph_place}
use Rattle.sgb_graph.specs.declared.field.VertexField.{VertexField}
use Rattle.sgb_graph.specs.declared.field.VertexField.TheVariants as fields
use Rattle.sgb_graph.specs.declared.field.GraphField.TheVariants as own
use Rattle.sgb_graph.specs.declared.field.ArcField.TheVariants as arcs
use Rattle.sgb_graph.specs.Private.Cells.{is_zero}

pub names_refl : (g : GraphOf) → SameNames g g
names_refl g = record { n = refl; live = λ k. refl }

pub names_then : (g h i : GraphOf) → SameNames g h → SameNames h i → SameNames g i
names_then g h i a b = record { n = b.n ∙ a.n; live = λ k. b.live k ∙ a.live k }

-- a value put into a field changes none of them
pub names-with_util : (g : GraphOf) (p : Place) (u : Util) → has_place g p ≡ true → SameNames g (with_util g p u)
unfolding with_util
names-with_util g (places.Vertex v f) u there = record { n = length-set g.vertices v.0 _; live = λ k. refl }
names-with_util g (places.Graph f) u there = record { n = refl; live = λ k. refl }
names-with_util g (places.Arc k f) u there =
    let y = with_util g (places.Arc k f) u in
    record {
      n = refl;
      live = λ j. elim (cases_eq j k.0) [
        | inl same ↦ ap (has_arc y) same ∙ (ap is_some (entry_same g.entries k.0 _ (made_of_live g k.0 there)) ∙ (sym there ∙ ap (has_arc g) (sym same)))
        | inr ne ↦ ap is_some (entry_other g.entries k.0 j _ ne)
      ];
    }

pub names-with_label : (g : GraphOf) (v : ℕ) (t : List ℕ) → SameNames g (with_label g v t)
unfolding with_label
names-with_label g v t = record { n = length-set g.vertices v _; live = λ k. refl }

pub names_labelled : (g h : GraphOf) (v : ℕ) (l : List ℕ) → h ≡ with_label g v l → SameNames g h
names_labelled g h v l is = subst (SameNames g) (sym is) (names-with_label g v l)

pub can_name-same : (g h : GraphOf) (u : Util) → SameNames g h → can_name h u ≡ can_name g u
can_name-same g h utils.Zero s = refl
can_name-same g h (utils.Int z) s = refl
can_name-same g h (utils.Vertex v) s = rw s.n refl
can_name-same g h (utils.Arc a) s = s.live a.0
can_name-same g h (utils.Text t) s = refl

pub has_place-same : (g h : GraphOf) (p : Place) → SameNames g h → has_place h p ≡ has_place g p
has_place-same g h (places.Vertex v f) s = rw s.n refl
has_place-same g h (places.Graph f) s = refl
has_place-same g h (places.Arc k f) s = s.live k.0

pub each-same : (g h : GraphOf) (us : List Util) → SameNames g h → can_name_each h us ≡ can_name_each g us
each-same g h [] s = refl
each-same g h (u ∷ us) s = ap (λ b. b && can_name_each h us) (can_name-same g h u s) ∙ ap (λ b. can_name g u && b) (each-same g h us s)

-- a value is accepted where there is the field and what it names, there as here
pub accepted : (g h : GraphOf) (p : Place) (u : Util) → SameNames g h → has_place g p ≡ true → can_name g u ≡ true → refusal_of_util h p u ≡ None
accepted g h p u s there named =
    let a : has_place h p ≡ true = has_place-same g h p s ∙ there in
    let b : can_name h u ≡ true = can_name-same g h u s ∙ named in
    ap (λ x. refusal_unless (x && can_name h u) BadOperand None) a ∙ ap (λ x. refusal_unless (true && x) BadOperand None) b

pub accepted_place : (g : GraphOf) (p : Place) (u : Util) → refusal_of_util g p u ≡ None → has_place g p ≡ true
accepted_place g p u ok =
    elim (cases_Bool (has_place g p)) [
      | inl yes' ↦ yes'
      | inr no' ↦ absurd (let bad : Some BadOperand ≡ None = sym (ap (λ x. refusal_unless (x && can_name g u) BadOperand None) no') ∙ ok in cc)
    ]

-- a field that is given the value that it has
with_util-same : (g : GraphOf) (p : Place) → has_place g p ≡ true → with_util g p (util_at g p) ≡ g
unfolding with_util util_at
with_util-same g (places.Graph f) there = ap (λ us. record g { fields = us }) (set-get_or g.fields (graph_place f) utils.Zero)
with_util-same g (places.Vertex v f) there =
    let x = vertex_at g v.0 in
    ap (λ vs. record g { vertices = vs })
    (ap (λ us. set g.vertices v.0 (record x { fields = us })) (set-get_or x.fields (vertex_place f) utils.Zero) ∙ set-get_or g.vertices v.0 no_vertex)
with_util-same g (places.Arc k f) there =
    let e = entry_at g k.0 in
    ap (λ es. record g { entries = es })
    (ap (λ us. set g.entries k.0 (Some (record e { fields = us }))) (set-get_or e.fields (arc_place f) utils.Zero)
    ∙ (ap (set g.entries k.0) (sym (some_entry (arc_at g k.0) there)) ∙ set-get_or g.entries k.0 None))

zero_is : (u : Util) → is_zero u ≡ true → u ≡ utils.Zero
zero_is utils.Zero h = refl
zero_is (utils.Int z) h = absurd cc
zero_is (utils.Vertex v) h = absurd cc
zero_is (utils.Arc a) h = absurd cc
zero_is (utils.Text t) h = absurd cc

pub filled_by_zero : (g : GraphOf) (p : Place) (u : Util) → refusal_of_util g p u ≡ None → is_zero u && is_zero (util_at g p) ≡ true → g ≡ with_util g p (stored u)
filled_by_zero g p u ok zeros =
    let both = and_parts (is_zero u) (is_zero (util_at g p)) zeros in
    sym (ap (with_util g p) (ap stored (zero_is u both.0) ∙ sym (zero_is (util_at g p) both.1)) ∙ with_util-same g p (accepted_place g p u ok))

-- one field of a vertex after another
pub with_util-vertex : (g : GraphOf) (v : VertexNo) (f : VertexField) (x : VertexOf) (u : Util) → v.0 < n_of g → with_util (with_vertex g v.0 x) (places.Vertex v f) u ≡ with_vertex g v.0 (record x { fields = set x.fields (vertex_place f) u })
unfolding with_util
with_util-vertex g v f x u low =
    ap (λ y. with_vertex (with_vertex g v.0 x) v.0 (record y { fields = set y.fields (vertex_place f) u })) (get_or-set_same g.vertices v.0 x no_vertex low)
    ∙ ap (λ vs. record g { vertices = vs }) (set-set g.vertices v.0 x (record x { fields = set x.fields (vertex_place f) u }))

six_set : (us : List Util) (a b c d e f : Util) → length us ≡ 6 → set (set (set (set (set (set us 0 a) 1 b) 2 c) 3 d) 4 e) 5 f ≡ a ∷ b ∷ c ∷ d ∷ e ∷ f ∷ []
six_set [] a b c d e f h = absurd (omega arith)
six_set (u ∷ []) a b c d e f h = absurd (omega arith)
six_set (u ∷ (v ∷ [])) a b c d e f h = absurd (omega arith)
six_set (u ∷ (v ∷ (w ∷ []))) a b c d e f h = absurd (omega arith)
six_set (u ∷ (v ∷ (w ∷ (x ∷ [])))) a b c d e f h = absurd (omega arith)
six_set (u ∷ (v ∷ (w ∷ (x ∷ (y ∷ []))))) a b c d e f h = absurd (omega arith)
six_set (u ∷ (v ∷ (w ∷ (x ∷ (y ∷ (z ∷ [])))))) a b c d e f h = refl
six_set (u ∷ (v ∷ (w ∷ (x ∷ (y ∷ (z ∷ (t ∷ ts))))))) a b c d e f h = absurd (omega arith)

pub on_ok : (T E P : Type 0) (r : Result T E) → OnOk r P → is_ok r ≡ true → P
on_ok T E P (Ok x) p ok = p
on_ok T E P (Err e) p ok = absurd cc

-- each of some values can be named
pub each_first : (g : GraphOf) (u : Util) (us : List Util) → can_name_each g (u ∷ us) ≡ true → can_name g u ≡ true
each_first g u us all = (and_parts (can_name g u) (can_name_each g us) all).0

pub each_rest : (g : GraphOf) (u : Util) (us : List Util) → can_name_each g (u ∷ us) ≡ true → can_name_each g us ≡ true
each_rest g u us all = (and_parts (can_name g u) (can_name_each g us) all).1

-- six values put into a vertex, one after the other
pub record SixNamed (g : GraphOf) (a b c d e f : Util) : Type 0 where
  pub first : can_name g a ≡ true
  pub second : can_name g b ≡ true
  pub third : can_name g c ≡ true
  pub fourth : can_name g d ≡ true
  pub fifth : can_name g e ≡ true
  pub sixth : can_name g f ≡ true

pub six_named : (g : GraphOf) (us : List Util) (a b c d e f : Util) → us ≡ a ∷ b ∷ c ∷ d ∷ e ∷ f ∷ [] → can_name_each g us ≡ true → SixNamed g a b c d e f
six_named g us a b c d e f is all =
    let one : can_name_each g (a ∷ b ∷ c ∷ d ∷ e ∷ f ∷ []) ≡ true = subst (λ x. can_name_each g x ≡ true) is all in
    let two = each_rest g a (b ∷ c ∷ d ∷ e ∷ f ∷ []) one in
    let three = each_rest g b (c ∷ d ∷ e ∷ f ∷ []) two in
    let four = each_rest g c (d ∷ e ∷ f ∷ []) three in
    let five = each_rest g d (e ∷ f ∷ []) four in
    let six = each_rest g e (f ∷ []) five in
    record {
      first = each_first g a (b ∷ c ∷ d ∷ e ∷ f ∷ []) one;
      second = each_first g b (c ∷ d ∷ e ∷ f ∷ []) two;
      third = each_first g c (d ∷ e ∷ f ∷ []) three;
      fourth = each_first g d (e ∷ f ∷ []) four;
      fifth = each_first g e (f ∷ []) five;
      sixth = each_first g f [] six;
    }

pub named_vertex : (g h : GraphOf) (v : VertexNo) (f : VertexField) (u : Util) → SameNames g h → v.0 < n_of g → can_name g u ≡ true → refusal_of_util h (places.Vertex v f) u ≡ None
named_vertex g h v f u s low named = accepted g h (places.Vertex v f) u s (lt-ltb v.0 (n_of g) low) named

with_util-first : (g : GraphOf) (v : VertexNo) (f : VertexField) (u : Util) → with_util g (places.Vertex v f) u ≡ with_vertex g v.0 (record (vertex_at g v.0) { fields = set (vertex_at g v.0).fields (vertex_place f) u })
unfolding with_util
with_util-first g v f u = refl

-- a vertex that takes one value more
step : (g h : GraphOf) (v : VertexNo) (f : VertexField) (us : List Util) (u : Util) → v.0 < n_of g → h ≡ with_vertex g v.0 (record (vertex_at g v.0) { fields = us })
    → with_util h (places.Vertex v f) u ≡ with_vertex g v.0 (record (vertex_at g v.0) { fields = set us (vertex_place f) u })
step g h v f us u low is =
    ap (λ x. with_util x (places.Vertex v f) u) is ∙ with_util-vertex g v f (record (vertex_at g v.0) { fields = us }) u low

pub vertex_filled : (g g1 g2 g3 g4 g5 g6 : GraphOf) (v : VertexNo) (us : List Util) (a b c d e f : Util) → v.0 < n_of g → length (vertex_at g v.0).fields ≡ 6 → us ≡ a ∷ b ∷ c ∷ d ∷ e ∷ f ∷ []
    → g1 ≡ with_util g (places.Vertex v fields.U) (stored a) → g2 ≡ with_util g1 (places.Vertex v fields.V) (stored b) → g3 ≡ with_util g2 (places.Vertex v fields.W) (stored c)
    → g4 ≡ with_util g3 (places.Vertex v fields.X) (stored d) → g5 ≡ with_util g4 (places.Vertex v fields.Y) (stored e) → g6 ≡ with_util g5 (places.Vertex v fields.Z) (stored f)
    → g6 ≡ with_filled_vertex g v.0 us
unfolding with_filled_vertex
vertex_filled g g1 g2 g3 g4 g5 g6 v us a b c d e f low six is e1 e2 e3 e4 e5 e6 =
    let zs = (vertex_at g v.0).fields in
    let s1 = e1 ∙ with_util-first g v fields.U (stored a) in
    let s2 = e2 ∙ step g g1 v fields.V _ (stored b) low s1 in
    let s3 = e3 ∙ step g g2 v fields.W _ (stored c) low s2 in
    let s4 = e4 ∙ step g g3 v fields.X _ (stored d) low s3 in
    let s5 = e5 ∙ step g g4 v fields.Y _ (stored e) low s4 in
    let s6 = e6 ∙ step g g5 v fields.Z _ (stored f) low s5 in
    s6
    ∙ (ap (λ xs. with_vertex g v.0 (record (vertex_at g v.0) { fields = xs })) (six_set zs (stored a) (stored b) (stored c) (stored d) (stored e) (stored f) six)
    ∙ ap (λ xs. with_vertex g v.0 (record (vertex_at g v.0) { fields = map stored xs })) (sym is))

-- six values put into the graph's own fields
pub own_filled : (g g1 g2 g3 g4 g5 g6 : GraphOf) (us : List Util) (a b c d e f : Util) → length g.fields ≡ 6 → us ≡ a ∷ b ∷ c ∷ d ∷ e ∷ f ∷ []
    → g1 ≡ with_util g (places.Graph own.Uu) (stored a) → g2 ≡ with_util g1 (places.Graph own.Vv) (stored b) → g3 ≡ with_util g2 (places.Graph own.Ww) (stored c)
    → g4 ≡ with_util g3 (places.Graph own.Xx) (stored d) → g5 ≡ with_util g4 (places.Graph own.Yy) (stored e) → g6 ≡ with_util g5 (places.Graph own.Zz) (stored f)
    → g6 ≡ record g { fields = map stored us }
unfolding with_util
own_filled g g1 g2 g3 g4 g5 g6 us a b c d e f six is e1 e2 e3 e4 e5 e6 =
    let put : GraphOf → ℕ → Util → GraphOf = λ h i u. record h { fields = set h.fields i u } in
    e6
    ∙ (ap (λ h. put h 5 (stored f)) (e5
    ∙ ap (λ h. put h 4 (stored e)) (e4
    ∙ ap (λ h. put h 3 (stored d)) (e3
    ∙ ap (λ h. put h 2 (stored c)) (e2
    ∙ ap (λ h. put h 1 (stored b)) e1))))
    ∙ (ap (λ xs. record g { fields = xs }) (six_set g.fields (stored a) (stored b) (stored c) (stored d) (stored e) (stored f) six)
    ∙ ap (λ xs. record g { fields = map stored xs }) (sym is)))

-- two values put into an arc
two_set : (us : List Util) (a b : Util) → length us ≡ 2 → set (set us 0 a) 1 b ≡ a ∷ b ∷ []
two_set [] a b h = absurd (omega arith)
two_set (u ∷ []) a b h = absurd (omega arith)
two_set (u ∷ (v ∷ [])) a b h = refl
two_set (u ∷ (v ∷ (w ∷ ws))) a b h = absurd (omega arith)

fields_put : (g g1 g2 : GraphOf) (k : ArcNo) (us : List Util) (a b : Util) → has_arc g k.0 ≡ true → length (entry_at g k.0).fields ≡ 2 → us ≡ a ∷ b ∷ []
    → g1 ≡ with_util g (places.Arc k arcs.A) (stored a) → g2 ≡ with_util g1 (places.Arc k arcs.B) (stored b) → g2 ≡ with_entry g k.0 (Some (record (entry_at g k.0) { fields = map stored us }))
unfolding with_util
fields_put g g1 g2 k us a b live two is e1 e2 =
    let e = entry_at g k.0 in
    let y : ArcOf = record e { fields = set e.fields 0 (stored a) } in
    let h = with_entry g k.0 (Some y) in
    let at : arc_at h k.0 ≡ Some y = entry_same g.entries k.0 (Some y) (made_of_live g k.0 live) in
    e2
    ∙ (ap (λ x. with_entry x k.0 (Some (record (entry_at x k.0) { fields = set (entry_at x k.0).fields 1 (stored b) }))) e1
    ∙ (ap (λ o. with_entry h k.0 (Some (record (arc_or no_arc o) { fields = set (arc_or no_arc o).fields 1 (stored b) }))) at
    ∙ (ap (λ es. record g { entries = es }) (set-set g.entries k.0 (Some y) (Some (record e { fields = set y.fields 1 (stored b) })))
    ∙ ap (λ xs. with_entry g k.0 (Some (record e { fields = xs }))) (two_set e.fields (stored a) (stored b) two ∙ ap (map stored) (sym is)))))

-- a tip and a length, and then two values, put into an arc
filled_live : (part : ArcPart) (o : Option ArcOf) → is_some o ≡ true → filled_entry part o ≡ Some (record { tip = part.tip; len = part.len; fields = map stored part.fields })
filled_live part None live = absurd cc
filled_live part (Some e) live = refl

pub arc_filled : (g g1 g2 g3 : GraphOf) (k : ArcNo) (part : ArcPart) (a b : Util) → has_arc g k.0 ≡ true → length (entry_at g1 k.0).fields ≡ 2 → part.fields ≡ a ∷ b ∷ []
    → g1 ≡ with_aim g k.0 part.tip part.len → g2 ≡ with_util g1 (places.Arc k arcs.A) (stored a) → g3 ≡ with_util g2 (places.Arc k arcs.B) (stored b) → g3 ≡ with_filled_arc g k.0 part
unfolding with_aim with_filled_arc
arc_filled g g1 g2 g3 k part a b live two is e1 e2 e3 =
    let e = entry_at g k.0 in
    let y : ArcOf = record e { tip = part.tip; len = part.len } in
    let z : ArcOf = record { tip = part.tip; len = part.len; fields = map stored part.fields } in
    let at : arc_at g1 k.0 ≡ Some y = ap (λ x. arc_at x k.0) e1 ∙ entry_same g.entries k.0 (Some y) (made_of_live g k.0 live) in
    fields_put g1 g2 g3 k part.fields a b (ap is_some at) two is e2 e3
    ∙ (ap (λ o. with_entry g1 k.0 (Some (record (arc_or no_arc o) { fields = map stored part.fields }))) at
    ∙ (ap (λ x. with_entry x k.0 (Some z)) e1
    ∙ (ap (λ es. record g { entries = es }) (set-set g.entries k.0 (Some y) (Some z))
    ∙ ap (with_entry g k.0) (sym (filled_live part (arc_at g k.0) live)))))

pub two_named : (g : GraphOf) (us : List Util) (a b : Util) → us ≡ a ∷ b ∷ [] → can_name_each g us ≡ true → (can_name g a ≡ true) × (can_name g b ≡ true)
two_named g us a b is all =
    let one : can_name_each g (a ∷ b ∷ []) ≡ true = subst (λ x. can_name_each g x ≡ true) is all in
    (each_first g a (b ∷ []) one, each_first g b [] (each_rest g a (b ∷ []) one))

-- what a part of a live arc names
pub part_leads : (g : GraphOf) (part : ArcPart) → can_name_part g part ≡ true → can_lead (n_of g) part.tip ≡ true
part_leads g part all = (and_parts (can_lead (n_of g) part.tip) (can_name_each g part.fields) all).0

pub part_values : (g : GraphOf) (part : ArcPart) → can_name_part g part ≡ true → can_name_each g part.fields ≡ true
part_values g part all = (and_parts (can_lead (n_of g) part.tip) (can_name_each g part.fields) all).1

pub part-same : (g h : GraphOf) (part : ArcPart) → SameNames g h → can_name_part h part ≡ can_name_part g part
part-same g h part s =
    ap (λ b. b && can_name_each h part.fields) (ap (λ n. can_lead n part.tip) s.n) ∙ ap (λ b. can_lead (n_of g) part.tip && b) (each-same g h part.fields s)

pub arc_two : (g : GraphOf) (k : ℕ) → IsGraph g → has_arc g k ≡ true → length (entry_at g k).fields ≡ 2
arc_two g k sound live =
    (subst (λ o. IfSome o (IsArc (n_of g) g.entries)) (some_entry (arc_at g k) live) (sound.arcs k None (made_of_live g k live))).two

pub six_of : (us : List Util) (a b c d e f : Util) → length us ≡ 6 → get_or us 0 a ≡ a → get_or us 1 b ≡ b → get_or us 2 c ≡ c → get_or us 3 d ≡ d → get_or us 4 e ≡ e → get_or us 5 f ≡ f → us ≡ a ∷ b ∷ c ∷ d ∷ e ∷ f ∷ []
six_of [] a b c d e f h p q r s t u = absurd (omega arith)
six_of (i ∷ []) a b c d e f h p q r s t u = absurd (omega arith)
six_of (i ∷ (j ∷ [])) a b c d e f h p q r s t u = absurd (omega arith)
six_of (i ∷ (j ∷ (k ∷ []))) a b c d e f h p q r s t u = absurd (omega arith)
six_of (i ∷ (j ∷ (k ∷ (l ∷ [])))) a b c d e f h p q r s t u = absurd (omega arith)
six_of (i ∷ (j ∷ (k ∷ (l ∷ (m ∷ []))))) a b c d e f h p q r s t u = absurd (omega arith)
six_of (i ∷ (j ∷ (k ∷ (l ∷ (m ∷ (n ∷ [])))))) a b c d e f h p q r s t u = cc
six_of (i ∷ (j ∷ (k ∷ (l ∷ (m ∷ (n ∷ (o ∷ os))))))) a b c d e f h p q r s t u = absurd (omega arith)

-- the vertices from the number of those left on are filled, and the others are as they were
pub record FilledFrom (vs left : List VertexPart) (g h : GraphOf) : Type 0 where
  pub done : List VertexPart
  pub all : vs ≡ left ++ done
  pub n : n_of h ≡ n_of g
  pub filled : (v : ℕ) → length left ≤ v → v < n_of g → vertex_at h v ≡ filled_vertex (vertex_part vs v) (vertex_at g v)
  pub others : (v : ℕ) → v < length left → vertex_at h v ≡ vertex_at g v
  pub rest : record h { vertices = [] } ≡ record g { vertices = [] }
  pub graph : IsGraph h

pub filling_begins : (vs : List VertexPart) (g : GraphOf) → n_of g ≡ length vs → IsGraph g → FilledFrom vs vs g g
filling_begins vs g n sound =
    record {
      done = [];
      all = sym (append-nil vs);
      n = refl;
      filled = λ v a b. absurd (omega arith);
      others = λ v a. refl;
      rest = refl;
      graph = sound;
    }

pub filling_names : (vs left : List VertexPart) (g h : GraphOf) → FilledFrom vs left g h → SameNames g h
filling_names vs left g h x = record { n = x.n; live = λ k. ap (λ y. has_arc y k) x.rest }

-- what is left of a list, with the last of it
pub record LastOf {X : Type 0} (d : X) (xs left : List X) (x : X) : Type 0 where
  pub low : length left < length xs
  pub at : get_or xs (length left) d ≡ x

pub last_of : {X : Type 0} (d : X) (xs left rest done : List X) (x : X) → xs ≡ left ++ done → left ≡ rest ++ x ∷ [] → LastOf d xs rest x
last_of d xs left rest done x all is =
    let whole : xs ≡ rest ++ (x ∷ done) = all ∙ (ap (λ l. l ++ done) is ∙ append_assoc rest (x ∷ []) done) in
    record {
      low = omega (arith, ap length whole, length-append rest (x ∷ done));
      at = ap (λ l. get_or l (length rest) d) whole ∙ get_or_at rest x done d (length rest) refl;
    }

part_names : (g : GraphOf) (vs : List VertexPart) (v : ℕ) → can_name_vertices g vs ≡ true → v < length vs → can_name_each g (vertex_part vs v).fields ≡ true
part_names g [] v all low = absurd (omega arith)
part_names g (p ∷ vs) zero all low = (and_parts (can_name_each g p.fields) (can_name_vertices g vs) all).0
part_names g (p ∷ vs) (suc v) all low = part_names g vs v (and_parts (can_name_each g p.fields) (can_name_vertices g vs) all).1 (omega arith)

-- the last of the parts left can be named when its turn comes
pub turn_names : (vs left rest : List VertexPart) (part : VertexPart) (g h i : GraphOf) → FilledFrom vs left g h → left ≡ rest ++ part ∷ [] → SameNames h i → can_name_vertices g vs ≡ true → can_name_each i part.fields ≡ true
turn_names vs left rest part g h i x is same all =
    let l = last_of any_vertex_part vs left rest x.done part x.all is in
    each-same g i part.fields (names_then g h i (filling_names vs left g h x) same)
    ∙ (ap (λ (p : VertexPart). can_name_each g p.fields) (sym l.at) ∙ part_names g vs (length rest) all l.low)

-- a vertex gets its name and its values
pub filled_more : (vs left rest : List VertexPart) (part : VertexPart) (g h i j : GraphOf) → FilledFrom vs left g h → left ≡ rest ++ part ∷ [] → n_of g ≡ length vs
    → i ≡ with_label h (length rest) part.label → j ≡ with_filled_vertex i (length rest) part.fields → IsGraph j → FilledFrom vs rest g j
unfolding with_label with_filled_vertex
filled_more vs left rest part g h i j x is n labelled filled sound =
    let l = last_of any_vertex_part vs left rest x.done part x.all is in
    let v = length rest in
    let size : length left ≡ v + 1 = ap length is ∙ length_push rest part in
    let y : VertexOf = record (vertex_at h v) { label = part.label } in
    let z : VertexOf = filled_vertex part (vertex_at h v) in
    let low : v < n_of h = omega (arith, l.low, n, x.n) in
    let once : vertex_at i v ≡ y = ap (λ k. vertex_at k v) labelled ∙ get_or-set_same h.vertices v y no_vertex low in
    let vertices : j.vertices ≡ set h.vertices v z =
    ap (λ k. k.vertices) filled
    ∙ (ap (λ w. set i.vertices v (record w { fields = map stored part.fields })) once
    ∙ (ap (λ k. set k.vertices v z) labelled ∙ set-set h.vertices v y z)) in
    let own : GraphOf → GraphOf = λ k. record k { vertices = [] } in
    record {
      done = part ∷ x.done;
      all = x.all ∙ (ap (λ r. r ++ x.done) is ∙ append_assoc rest (part ∷ []) x.done);
      n = ap length vertices ∙ (length-set h.vertices v z ∙ x.n);
      filled = λ w high under. elim (cases_eq w v) [
        | inl same ↦
            ap (vertex_at j) same
            ∙ (ap (λ r. get_or r v no_vertex) vertices
            ∙ (get_or-set_same h.vertices v z no_vertex low
            ∙ (ap (filled_vertex part) (x.others v (omega arith))
            ∙ (ap (λ p. filled_vertex p (vertex_at g v)) (sym l.at) ∙ ap (λ k. filled_vertex (vertex_part vs k) (vertex_at g k)) (sym same)))))
        | inr ne ↦
            let other : w ≢ v = ne in
            ap (λ r. get_or r w no_vertex) vertices ∙ (get_or-set_other h.vertices v w z no_vertex ne ∙ x.filled w (omega arith) under)
      ];
      others = λ w under.
          let other : w ≢ v = λ e. omega arith in
          ap (λ r. get_or r w no_vertex) vertices ∙ (get_or-set_other h.vertices v w z no_vertex other ∙ x.others w (omega arith));
      rest = ap own filled ∙ (ap own labelled ∙ x.rest);
      graph = sound;
    }

pub filling_ends : (vs left : List VertexPart) (g h : GraphOf) → FilledFrom vs left g h → left ≡ [] → FillsVertices vs g h
filling_ends vs left g h x none =
    record { n = x.n; vertices = λ v low. x.filled v (omega (arith, ap length none)) low; rest = x.rest; graph = x.graph }

-- the same for arcs
pub record ArcsFilledFrom (rs left : List ArcPart) (g h : GraphOf) : Type 0 where
  pub done : List ArcPart
  pub all : rs ≡ left ++ done
  pub rest : record h { entries = [] } ≡ record g { entries = [] }
  pub made : made_of h ≡ made_of g
  pub filled : (k : ℕ) → length left ≤ k → arc_at h k ≡ filled_entry (arc_part rs k) (arc_at g k)
  pub others : (k : ℕ) → k < length left → arc_at h k ≡ arc_at g k
  pub graph : IsGraph h

nothing_filled : (part : ArcPart) (g : GraphOf) (k : ℕ) → made_of g ≤ k → arc_at g k ≡ filled_entry part (arc_at g k)
nothing_filled part g k past =
    let none : arc_at g k ≡ None = no_arc_past g k past in
    none ∙ ap (filled_entry part) (sym none)

pub arcs_filling_begins : (rs : List ArcPart) (g : GraphOf) → made_of g ≡ length rs → IsGraph g → ArcsFilledFrom rs rs g g
arcs_filling_begins rs g made sound =
    record {
      done = [];
      all = sym (append-nil rs);
      rest = refl;
      made = refl;
      filled = λ k past. nothing_filled (arc_part rs k) g k (omega arith);
      others = λ k a. refl;
      graph = sound;
    }

pub filled_lives : (part : ArcPart) (o : Option ArcOf) → is_some (filled_entry part o) ≡ is_some o
filled_lives part None = refl
filled_lives part (Some e) = refl

pub arcs_filling_names : (rs left : List ArcPart) (g h : GraphOf) → ArcsFilledFrom rs left g h → SameNames g h
arcs_filling_names rs left g h x =
    record {
      n = ap n_of x.rest;
      live = λ k. elim (cases_lt k (length left)) [
        | inl low ↦ ap is_some (x.others k low)
        | inr high ↦ ap is_some (x.filled k high) ∙ filled_lives (arc_part rs k) (arc_at g k)
      ];
    }

-- a live record whose values cannot be named when its turn comes
pub arc_unnamed : (rs left rest : List ArcPart) (part : ArcPart) (g h : GraphOf) → ArcsFilledFrom rs left g h → left ≡ rest ++ part ∷ [] → has_arc h (length rest) ≡ true → can_name_part h part ≡ false → can_name_arcs g rs ≡ false
arc_unnamed rs left rest part g h x is live unnamed =
    let l = last_of any_arc_part rs left rest x.done part x.all is in
    let k = length rest in
    let same = arcs_filling_names rs left g h x in
    let alive : has_arc g k ≡ true = sym (same.live k) ∙ live in
    below_all_not (can_name_at g rs) (length rs) k l.low
    (ap (λ b. cond b (can_name_part g (arc_part rs k)) true) alive
    ∙ (ap (can_name_part g) l.at ∙ (sym (part-same g h part same) ∙ unnamed)))

-- an arc gets its values, or is a hole
pub arc_filled_more : (rs left rest : List ArcPart) (part : ArcPart) (g h i : GraphOf) → ArcsFilledFrom rs left g h → left ≡ rest ++ part ∷ [] → made_of g ≡ length rs
    → i ≡ with_filled_arc h (length rest) part → IsGraph i → ArcsFilledFrom rs rest g i
unfolding with_filled_arc
arc_filled_more rs left rest part g h i x is made filled sound =
    let l = last_of any_arc_part rs left rest x.done part x.all is in
    let k = length rest in
    let size : length left ≡ k + 1 = ap length is ∙ length_push rest part in
    let o = filled_entry part (arc_at h k) in
    let entries : i.entries ≡ set h.entries k o = ap (λ y. y.entries) filled in
    let low : k < made_of h = omega (arith, l.low, made, x.made) in
    record {
      done = part ∷ x.done;
      all = x.all ∙ (ap (λ r. r ++ x.done) is ∙ append_assoc rest (part ∷ []) x.done);
      rest = ap (λ (y : GraphOf). record y { entries = [] }) filled ∙ x.rest;
      made = ap length entries ∙ (length-set h.entries k o ∙ x.made);
      filled = λ j high. elim (cases_eq j k) [
        | inl same ↦
            ap (arc_at i) same
            ∙ (ap (λ es. get_or es k None) entries
            ∙ (entry_same h.entries k o low
            ∙ (ap (filled_entry part) (x.others k (omega arith))
            ∙ (ap (λ (p : ArcPart). filled_entry p (arc_at g k)) (sym l.at) ∙ ap (λ y. filled_entry (arc_part rs y) (arc_at g y)) (sym same)))))
        | inr ne ↦
            let other : j ≢ k = ne in
            ap (λ es. get_or es j None) entries ∙ (entry_other h.entries k j o ne ∙ x.filled j (omega arith))
      ];
      others = λ j under.
          let other : j ≢ k = λ e. omega arith in
          ap (λ es. get_or es j None) entries ∙ (entry_other h.entries k j o other ∙ x.others j (omega arith));
      graph = sound;
    }

hole_filled : (part : ArcPart) (o : Option ArcOf) → is_some o ≡ false → o ≡ filled_entry part o
hole_filled part None hole = refl
hole_filled part (Some e) hole = absurd cc

pub arc_passed : (rs left rest : List ArcPart) (part : ArcPart) (g h : GraphOf) → ArcsFilledFrom rs left g h → left ≡ rest ++ part ∷ [] → has_arc h (length rest) ≡ false → ArcsFilledFrom rs rest g h
arc_passed rs left rest part g h x is hole =
    let k = length rest in
    let size : length left ≡ k + 1 = ap length is ∙ length_push rest part in
    record {
      done = part ∷ x.done;
      all = x.all ∙ (ap (λ r. r ++ x.done) is ∙ append_assoc rest (part ∷ []) x.done);
      rest = x.rest;
      made = x.made;
      filled = λ j high. elim (cases_eq j k) [
        | inl same ↦
            let here : arc_at h j ≡ arc_at g j = x.others j (omega arith) in
            let none : is_some (arc_at g j) ≡ false = ap is_some (sym here) ∙ (ap (has_arc h) same ∙ hole) in
            here ∙ hole_filled (arc_part rs j) (arc_at g j) none
        | inr ne ↦ let other : j ≢ k = ne in x.filled j (omega arith)
      ];
      others = λ j under. x.others j (omega arith);
      graph = x.graph;
    }

pub arcs_filling_ends : (rs left : List ArcPart) (g h : GraphOf) → ArcsFilledFrom rs left g h → left ≡ [] → FillsArcs rs g h
arcs_filling_ends rs left g h x none =
    record { rest = x.rest; made = x.made; entries = λ k. x.filled k (omega (arith, ap length none)); graph = x.graph }

-- the vertex is there when its turn comes
pub turn_low : (vs left rest : List VertexPart) (part : VertexPart) (g h i : GraphOf) → FilledFrom vs left g h → left ≡ rest ++ part ∷ [] → n_of g ≡ length vs → SameNames h i → length rest < n_of i
turn_low vs left rest part g h i x is n same = omega (arith, (last_of any_vertex_part vs left rest x.done part x.all is).low, x.n, same.n)

pub empty_of : {X : Type 0} (xs : List X) → length xs ≡ 0 → xs ≡ []
empty_of [] h = refl
empty_of (x ∷ xs) h = absurd (omega arith)
