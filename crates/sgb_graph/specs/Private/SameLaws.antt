-- The tests by which graphs and values are compared tell whether they are the same.
use Rattle.std.proofs.Common.{◌≡◌, List, [], ◌∷◌, Option, Some, None, Bool, true, ◌&&◌, nat_eq, inl, inr, refl, sym, ap, ◌∙◌}
use Rattle.std.specs.Cmp.{IsPartialEquivalence, IsEquivalence}
use Rattle.std.specs.Cmp.Lexicographic.{pointwise}
use Rattle.std.specs.Ordering.{int_eq}
use Rattle.std.proofs.lemmas.Bool.{false≢true, cases_Bool, and_parts, and_from, eqb-true, eq-eqb}
use Rattle.std.proofs.lemmas.Bool.Decides.{Decides-int_eq}
use Rattle.sgb_graph.specs.declared.field.Tip.{Tip}
use Rattle.sgb_graph.specs.declared.field.Tip.TheVariants as tips
use Rattle.sgb_graph.specs.declared.field.Util.{Util}
use Rattle.sgb_graph.specs.declared.field.Util.TheVariants.{Zero, Int, Vertex, Arc, Text}
use Rattle.sgb_graph.specs.Graph.{GraphOf, VertexOf, ArcOf}
use Rattle.sgb_graph.specs.Same.{tip_eq, util_eq, entry_eq, vertex_eq, graph_eq}

pub same_vertex : (x y : VertexOf) → x.label ≡ y.label → x.fields ≡ y.fields → x.arcs ≡ y.arcs → x ≡ y
same_vertex x y label fields arcs =
    ap (λ l. record x { label = l }) label
    ∙ (ap (λ f. record x { label = y.label; fields = f }) fields ∙ ap (λ a. record y { arcs = a }) arcs)

pub same_graph : (g h : GraphOf) → g.id ≡ h.id → g.types ≡ h.types → g.fields ≡ h.fields → g.vertices ≡ h.vertices → g.entries ≡ h.entries → g ≡ h
same_graph g h id types fields vertices entries =
    ap (λ x. record g { id = x }) id
    ∙ (ap (λ x. record g { id = h.id; types = x }) types
    ∙ (ap (λ x. record g { id = h.id; types = h.types; fields = x }) fields
    ∙ (ap (λ x. record h { vertices = x; entries = g.entries }) vertices
    ∙ ap (λ x. record h { entries = x }) entries)))

-- a test that tells whether two values are the same
pub record Tells {K : Type 0} (E : K → K → Bool) : Type 0 where
  pub same : (x y : K) → E x y ≡ true → x ≡ y
  pub self : (x : K) → E x x ≡ true

tells_back : {K : Type 0} (E : K → K → Bool) → Tells E → (x y : K) → E x y ≡ true → E y x ≡ true
tells_back E t x y h = ap (λ z. E z x) (sym (t.same x y h)) ∙ t.self x

pub per_of : {K : Type 0} (E : K → K → Bool) → Tells E → IsPartialEquivalence E
per_of E t =
    record {
      symm = λ x y.
          elim (cases_Bool (E x y)) [
            | inl h ↦ h ∙ sym (tells_back E t x y h)
            | inr h ↦
                elim (cases_Bool (E y x)) [
                  | inl k ↦ absurd (false≢true (sym h ∙ tells_back E t y x k))
                  | inr k ↦ h ∙ sym k
                ]
          ];
      trans = λ x y z h k. ap (λ w. E w z) (t.same x y h) ∙ k;
    }

pub equiv_of : {K : Type 0} (E : K → K → Bool) → Tells E → IsEquivalence E
equiv_of E t =
    record {
      refl = t.self;
      symm = (per_of E t).symm;
      congr = λ x y z h. ap (λ w. E w z) (t.same x y h);
    }

pointwise_same : {K : Type 0} (E : K → K → Bool) → Tells E → (xs ys : List K) → pointwise E xs ys ≡ true → xs ≡ ys
pointwise_same E t [] [] h = refl
pointwise_same E t [] (y ∷ ys) h = absurd (false≢true h)
pointwise_same E t (x ∷ xs) [] h = absurd (false≢true h)
pointwise_same E t (x ∷ xs) (y ∷ ys) h =
    let p = and_parts (E x y) (pointwise E xs ys) h in
    ap (λ z. z ∷ xs) (t.same x y p.0) ∙ ap (λ zs. y ∷ zs) (pointwise_same E t xs ys p.1)

pointwise_self : {K : Type 0} (E : K → K → Bool) → Tells E → (xs : List K) → pointwise E xs xs ≡ true
pointwise_self E t [] = refl
pointwise_self E t (x ∷ xs) = and_from (E x x) (pointwise E xs xs) (t.self x) (pointwise_self E t xs)

pub lists_tell : {K : Type 0} (E : K → K → Bool) → Tells E → Tells (pointwise E)
lists_tell E t = record { same = pointwise_same E t; self = pointwise_self E t }

pub numbers_tell : Tells nat_eq
numbers_tell = record { same = eqb-true; self = λ x. eq-eqb x x refl }

pub texts_tell : Tells (pointwise nat_eq)
texts_tell = lists_tell nat_eq numbers_tell

pub ints_tell : Tells int_eq
ints_tell = record { same = λ x y h. (Decides-int_eq x y).0 h; self = λ x. (Decides-int_eq x x).1 refl }

pub tip_same : (t u : Tip) → tip_eq t u ≡ true → t ≡ u
tip_same tips.Zero tips.Zero h = refl
tip_same tips.One tips.One h = refl
tip_same (tips.To v) (tips.To w) h = ap (λ x. tips.To (record { 0 = x })) (eqb-true v.0 w.0 h)
tip_same _ _ h = absurd (false≢true h)

pub tip_self : (t : Tip) → tip_eq t t ≡ true
tip_self tips.Zero = refl
tip_self tips.One = refl
tip_self (tips.To v) = eq-eqb v.0 v.0 refl

util_same : (a b : Util) → util_eq a b ≡ true → a ≡ b
util_same Zero Zero h = refl
util_same (Int z) (Int y) h = ap Int (ints_tell.same z y h)
util_same (Vertex v) (Vertex w) h = ap (λ x. Vertex (record { 0 = x })) (eqb-true v.0 w.0 h)
util_same (Arc v) (Arc w) h = ap (λ x. Arc (record { 0 = x })) (eqb-true v.0 w.0 h)
util_same (Text s) (Text t) h = ap Text (texts_tell.same s t h)
util_same _ _ h = absurd (false≢true h)

util_self : (a : Util) → util_eq a a ≡ true
util_self Zero = refl
util_self (Int z) = ints_tell.self z
util_self (Vertex v) = eq-eqb v.0 v.0 refl
util_self (Arc a) = eq-eqb a.0 a.0 refl
util_self (Text t) = texts_tell.self t

pub values_tell : Tells util_eq
values_tell = record { same = util_same; self = util_self }

pub util_eq_laws : IsPartialEquivalence util_eq
util_eq_laws = per_of util_eq values_tell

pub util_eq_equiv : IsEquivalence util_eq
util_eq_equiv = equiv_of util_eq values_tell

pub utils_tell : Tells (pointwise util_eq)
utils_tell = lists_tell util_eq values_tell

entry_same : (d e : Option ArcOf) → entry_eq d e ≡ true → d ≡ e
entry_same None None h = refl
entry_same (Some d) (Some e) h =
    let p = and_parts (tip_eq d.tip e.tip && int_eq d.len e.len) (pointwise util_eq d.fields e.fields) h in
    let q = and_parts (tip_eq d.tip e.tip) (int_eq d.len e.len) p.0 in
    ap (λ t. Some (record { tip = t; len = d.len; fields = d.fields })) (tip_same d.tip e.tip q.0)
    ∙ (ap (λ z. Some (record { tip = e.tip; len = z; fields = d.fields })) (ints_tell.same d.len e.len q.1)
    ∙ ap (λ us. Some (record { tip = e.tip; len = e.len; fields = us })) (utils_tell.same d.fields e.fields p.1))
entry_same _ _ h = absurd (false≢true h)

entry_self : (d : Option ArcOf) → entry_eq d d ≡ true
entry_self None = refl
entry_self (Some d) =
    and_from (tip_eq d.tip d.tip && int_eq d.len d.len) (pointwise util_eq d.fields d.fields)
    (and_from (tip_eq d.tip d.tip) (int_eq d.len d.len) (tip_self d.tip) (ints_tell.self d.len))
    (utils_tell.self d.fields)

vertex_same : (x y : VertexOf) → vertex_eq x y ≡ true → x ≡ y
vertex_same x y h =
    let p = and_parts (pointwise nat_eq x.label y.label && pointwise util_eq x.fields y.fields) (pointwise nat_eq x.arcs y.arcs) h in
    let q = and_parts (pointwise nat_eq x.label y.label) (pointwise util_eq x.fields y.fields) p.0 in
    same_vertex x y (texts_tell.same x.label y.label q.0) (utils_tell.same x.fields y.fields q.1) (texts_tell.same x.arcs y.arcs p.1)

vertex_self : (x : VertexOf) → vertex_eq x x ≡ true
vertex_self x =
    and_from (pointwise nat_eq x.label x.label && pointwise util_eq x.fields x.fields) (pointwise nat_eq x.arcs x.arcs)
    (and_from (pointwise nat_eq x.label x.label) (pointwise util_eq x.fields x.fields) (texts_tell.self x.label) (utils_tell.self x.fields))
    (texts_tell.self x.arcs)

vertices_tell : Tells (pointwise vertex_eq)
vertices_tell = lists_tell vertex_eq (record { same = vertex_same; self = vertex_self })

entries_tell : Tells (pointwise entry_eq)
entries_tell = lists_tell entry_eq (record { same = entry_same; self = entry_self })

graph_same : (g h : GraphOf) → graph_eq g h ≡ true → g ≡ h
unfolding graph_eq
graph_same g h is =
    let a = pointwise nat_eq g.id h.id in
    let b = pointwise nat_eq g.types h.types in
    let c = pointwise util_eq g.fields h.fields in
    let d = pointwise vertex_eq g.vertices h.vertices in
    let p = and_parts (a && b && c && d) (pointwise entry_eq g.entries h.entries) is in
    let q = and_parts (a && b && c) d p.0 in
    let r = and_parts (a && b) c q.0 in
    let s = and_parts a b r.0 in
    same_graph g h (texts_tell.same g.id h.id s.0) (texts_tell.same g.types h.types s.1) (utils_tell.same g.fields h.fields r.1)
    (vertices_tell.same g.vertices h.vertices q.1) (entries_tell.same g.entries h.entries p.1)

graph_self : (g : GraphOf) → graph_eq g g ≡ true
unfolding graph_eq
graph_self g =
    let a = pointwise nat_eq g.id g.id in
    let b = pointwise nat_eq g.types g.types in
    let c = pointwise util_eq g.fields g.fields in
    let d = pointwise vertex_eq g.vertices g.vertices in
    and_from (a && b && c && d) (pointwise entry_eq g.entries g.entries)
    (and_from (a && b && c) d
    (and_from (a && b) c (and_from a b (texts_tell.self g.id) (texts_tell.self g.types)) (utils_tell.self g.fields))
    (vertices_tell.self g.vertices))
    (entries_tell.self g.entries)

pub graphs_tell : Tells graph_eq
graphs_tell = record { same = graph_same; self = graph_self }

pub graph_eq_laws : IsPartialEquivalence graph_eq
graph_eq_laws = per_of graph_eq graphs_tell

pub graph_eq_equiv : IsEquivalence graph_eq
graph_eq_equiv = equiv_of graph_eq graphs_tell
