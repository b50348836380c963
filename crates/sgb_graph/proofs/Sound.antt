-- Lemmas on what keeps a graph sound.
use Rattle.std.proofs.Common.{◌≡◌, ◌≢◌, ◌<◌, ◌≤◌, ◌+◌, ◌*◌, ℕ, List, [], ◌∷◌, length, get_or, set, Option, Some, None, is_some, IsSome, IfSome, All, true, false, refl, sym, ap, subst, ◌∙◌, arith, cond, ◌==◌, inl, inr}
use Rattle.std.specs.List.{sum_by}
use Rattle.std.proofs.lemmas.Bool.{cases_Bool, eqb-true, cases_eq}
use Rattle.std.proofs.lemmas.List.{get_or-set_same, get_or-set_other, length-set}
use Rattle.std.proofs.lemmas.List.Sums.{sum_by-le, count_by-le-length}
use Rattle.sgb_graph.specs.declared.field.Util.{Util}
use Rattle.sgb_graph.specs.declared.field.Util.TheVariants.{Zero, Int, Vertex, Arc, Text}
use Rattle.sgb_graph.specs.declared.field.Tip.{Tip}
use Rattle.sgb_graph.specs.declared.field.Tip.TheVariants as tips
use Rattle.sgb_graph.specs.Graph.{GraphOf, VertexOf, ArcOf, IsGraph, IsVertex, IsArc, IsValue, IsTip, n_of, arc_at, is_name, names_in, names_in_entry, names_of}
use Rattle.sgb_graph.specs.Private.Link.{value_at}
use Rattle.sgb_graph.proofs.Counts.{sum_zero}
use Rattle.sgb_graph.proofs.Slots.{one_name}

abbrev Entries : Type 0
Entries = List (Option ArcOf)

-- every vertex and every live arc stays
pub record Keeps (n : ℕ) (es : Entries) (m : ℕ) (fs : Entries) : Type 0 where
  pub vertices : n ≤ m
  pub arcs : (k : ℕ) → IsSome (get_or es k None) → IsSome (get_or fs k None)

pub IsValue-keeps : (n m : ℕ) (es fs : Entries) (u : Util) → Keeps n es m fs → IsValue n es u → IsValue m fs u
IsValue-keeps n m es fs Zero k v = tt
IsValue-keeps n m es fs (Int z) k v = v
IsValue-keeps n m es fs (Vertex w) k v = omega (arith, v, k.vertices)
IsValue-keeps n m es fs (Arc a) k v = k.arcs a.0 v
IsValue-keeps n m es fs (Text t) k v = v

pub IsTip-keeps : (n m : ℕ) (t : Tip) → n ≤ m → IsTip n t → IsTip m t
IsTip-keeps n m tips.Zero h x = tt
IsTip-keeps n m tips.One h x = tt
IsTip-keeps n m (tips.To v) h x = omega (arith, h, x)

pub IsVertex-keeps : (n m : ℕ) (es fs : Entries) (v : VertexOf) → Keeps n es m fs → IsVertex n es v → IsVertex m fs v
IsVertex-keeps n m es fs v k x =
    record { label = x.label; six = x.six; values = λ i d h. IsValue-keeps n m es fs (get_or v.fields i d) k (x.values i d h) }

pub IsArc-keeps : (n m : ℕ) (es fs : Entries) (e : ArcOf) → Keeps n es m fs → IsArc n es e → IsArc m fs e
IsArc-keeps n m es fs e k x =
    record {
      tip = IsTip-keeps n m e.tip k.vertices x.tip;
      len = x.len;
      two = x.two;
      values = λ i d h. IsValue-keeps n m es fs (get_or e.fields i d) k (x.values i d h);
    }

pub IsEntry-keeps : (n m : ℕ) (es fs : Entries) (o : Option ArcOf) → Keeps n es m fs → IfSome o (IsArc n es) → IfSome o (IsArc m fs)
IsEntry-keeps n m es fs None k x = tt
IsEntry-keeps n m es fs (Some e) k x = IsArc-keeps n m es fs e k x

-- one element changed
pub All-set : {X : Type 0} (P : X → Type 0) (xs : List X) (i : ℕ) (y : X) → All P xs → P y → All P (set xs i y)
All-set {X} P xs i y all new j d h =
    let size : length (set xs i y) ≡ length xs = length-set xs i y in
    elim (cases_eq j i) [
      | inl same ↦ subst P (sym (ap (λ k. get_or (set xs i y) k d) same ∙ get_or-set_same xs i y d (omega arith))) new
      | inr ne ↦ subst P (sym (get_or-set_other xs i j y d ne)) (all j d (omega arith))
    ]

-- at an entry that is set
pub entry_same : (es : Entries) (k : ℕ) (o : Option ArcOf) → k < length es → get_or (set es k o) k None ≡ o
entry_same es k o h = get_or-set_same es k o None h

pub entry_other : (es : Entries) (k j : ℕ) (o : Option ArcOf) → j ≢ k → get_or (set es k o) j None ≡ get_or es j None
entry_other es k j o ne = get_or-set_other es k j o None ne

-- what a list of two fields names
pub names_in_two : (k : ℕ) (us : List Util) → length us ≡ 2 → names_in k us ≡ one_name k (value_at us 0) + one_name k (value_at us 1)
names_in_two k [] h = absurd (omega arith)
names_in_two k (a ∷ []) h = absurd (omega arith)
names_in_two k (a ∷ (b ∷ [])) h = omega arith
names_in_two k (a ∷ (b ∷ (c ∷ us))) h = absurd (omega arith)

-- a value that is sound where the number is a hole does not name it
pub value_unnamed : (n : ℕ) (es : Entries) (k : ℕ) (u : Util) → get_or es k None ≡ None → IsValue n es u → is_name k u ≡ false
value_unnamed n es k Zero hole v = refl
value_unnamed n es k (Int z) hole v = refl
value_unnamed n es k (Vertex w) hole v = refl
value_unnamed n es k (Arc a) hole v =
    elim (cases_Bool (a.0 == k)) [
      | inl e ↦ absurd (let is : get_or es a.0 None ≡ None = ap (λ i. get_or es i None) (eqb-true a.0 k e) ∙ hole in let live : is_some (get_or es a.0 None) ≡ true = v in let none : is_some (get_or es a.0 None) ≡ false = ap is_some is in cc)
      | inr e ↦ e
    ]
value_unnamed n es k (Text t) hole v = refl

pub names_none : (n : ℕ) (es : Entries) (k : ℕ) (us : List Util) → get_or es k None ≡ None → All (IsValue n es) us → names_in k us ≡ 0
names_none n es k us hole all =
    sum_zero (λ u. cond (is_name k u) 1 0) us (λ i d h. ap (λ b. cond b 1 0) (value_unnamed n es k (get_or us i d) hole (all i d h)))

entry_unnamed : (n : ℕ) (es : Entries) (k : ℕ) (o : Option ArcOf) → get_or es k None ≡ None → IfSome o (IsArc n es) → names_in_entry k o ≡ 0
entry_unnamed n es k None hole x = refl
entry_unnamed n es k (Some e) hole x = names_none n es k e.fields hole x.values

pub hole_unnamed : (g : GraphOf) (k : ℕ) → IsGraph g → arc_at g k ≡ None → names_of g k ≡ 0
hole_unnamed g k sound hole =
    let own = names_none (n_of g) g.entries k g.fields hole sound.values in
    let vertices = sum_zero (λ v. names_in k v.fields) g.vertices (λ i d h. names_none (n_of g) g.entries k (get_or g.vertices i d).fields hole (sound.vertices i d h).values) in
    let arcs = sum_zero (names_in_entry k) g.entries (λ i d h. entry_unnamed (n_of g) g.entries k (get_or g.entries i d) hole (sound.arcs i d h)) in
    omega (arith, own, vertices, arcs)

-- few fields name an arc
few_in_entry : (n : ℕ) (es : Entries) (k : ℕ) (o : Option ArcOf) → IfSome o (IsArc n es) → names_in_entry k o ≤ 2
few_in_entry n es k None x = omega arith
few_in_entry n es k (Some e) x = omega (arith, x.two, count_by-le-length (is_name k) e.fields)

pub few_names : (g : GraphOf) (k : ℕ) → IsGraph g → names_of g k ≤ 2393216
few_names g k sound =
    let own = count_by-le-length (is_name k) g.fields in
    let vertices : sum_by (λ v. names_in k v.fields) g.vertices ≤ length g.vertices * 6 =
    sum_by-le (λ v. names_in k v.fields) 6 g.vertices (λ i d h. omega (arith, count_by-le-length (is_name k) (get_or g.vertices i d).fields, (sound.vertices i d h).six)) in
    let arcs : sum_by (names_in_entry k) g.entries ≤ length g.entries * 2 =
    sum_by-le (names_in_entry k) 2 g.entries (λ i d h. few_in_entry (n_of g) g.entries k (get_or g.entries i d) (sound.arcs i d h)) in
    omega (arith, sound.six, sound.few_vertices, sound.few_arcs)
