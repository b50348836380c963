-- Lemmas on a new vertex.
use Rattle.std.proofs.Common.{◌≡◌, ◌<◌, ◌+◌, ℕ, zero, suc, List, [], ◌∷◌, ◌++◌, length, get_or, map, Option, None, IfSome, All, false, refl, sym, ap, subst, ◌∙◌, arith, cond, inl, inr}
use Rattle.std.proofs.Common.{ℤ, pos, ◌==◌}
use Rattle.std.specs.Ordering.{int_eq}
use Rattle.std.proofs.lemmas.Bool.{cases_lt, cases_Bool, cases_order}
use Rattle.std.proofs.lemmas.List.{get_or_past, get_or_append_left, get_or_push, length_push, length-map, get_or-map}
use Rattle.std.proofs.lemmas.List.Sums.{sum_by_push}
use Rattle.std.proofs.lemmas.List.Elements.{All-append}
use Rattle.sgb_graph.specs.declared.field.Util.{Util}
use Rattle.sgb_graph.specs.declared.field.Util.TheVariants.{Zero, Int, Vertex, Arc, Text}
use Rattle.sgb_graph.specs.declared.graph.Vertex as vertex
use Rattle.sgb_graph.specs.declared.graph.Graph.TheInside.{Inside}
use Rattle.sgb_graph.specs.Text.{IsText}
use Rattle.sgb_graph.specs.Graph.{GraphOf, VertexOf, ArcOf, IsVertex, IsValue, n_of, vertex_at, no_vertex, arcs_of, occurrences, listings, is_name, names_in, names_of}
use Rattle.sgb_graph.specs.Edit.{stored}
use Rattle.sgb_graph.specs.Set.{IsStorable}
use Rattle.sgb_graph.specs.Vertex.{NamesNothing, new_vertex, with_vertex_last}
use Rattle.sgb_graph.specs.Chain.{Leads}
use Rattle.sgb_graph.specs.Private.Arena.{Shows, ShowsVertex, slot_at, owner_in, names_counted}
use Rattle.sgb_graph.proofs.Counts.{sum_zero}
use Rattle.sgb_graph.proofs.Sound.{Keeps, IsValue-keeps, IsVertex-keeps, IsEntry-keeps}
use Rattle.sgb_graph.proofs.Shows.{Opened}
use Rattle.sgb_graph.proofs.ExchangeLemmas.{owned_as}

-- a storable value that names nothing is sound in each graph, and names no arc
stored_int : (n : ℕ) (es : List (Option ArcOf)) (z : ℤ) → IsStorable (stored (Int z)) → IsValue n es (stored (Int z))
stored_int n es z s = elim (cases_Bool (int_eq z (pos 0))) [
  | inl b ↦ rw b tt
  | inr b ↦ subst (IsValue n es) (sym (ap (λ c. cond c Zero (Int z)) b)) (let t : IsStorable (Int z) = subst IsStorable (ap (λ c. cond c Zero (Int z)) b) s in t)
]

stored_text : (n : ℕ) (es : List (Option ArcOf)) (t : List ℕ) → IsStorable (stored (Text t)) → IsValue n es (stored (Text t))
stored_text n es t s = elim (cases_Bool (length t == 0)) [
  | inl b ↦ rw b tt
  | inr b ↦ subst (IsValue n es) (sym (ap (λ c. cond c Zero (Text t)) b)) (let w : IsStorable (Text t) = subst IsStorable (ap (λ c. cond c Zero (Text t)) b) s in w)
]

plain_value : (n : ℕ) (es : List (Option ArcOf)) (u : Util) → NamesNothing u → IsStorable (stored u) → IsValue n es (stored u)
plain_value n es Zero p s = tt
plain_value n es (Int z) p s = stored_int n es z s
plain_value n es (Vertex v) p s = absurd p
plain_value n es (Arc a) p s = absurd p
plain_value n es (Text t) p s = stored_text n es t s

plain_unnamed : (k : ℕ) (u : Util) → NamesNothing u → is_name k (stored u) ≡ false
plain_unnamed k Zero p = refl
plain_unnamed k (Int z) p = elim (cases_Bool (int_eq z (pos 0))) [ inl b ↦ rw b refl | inr b ↦ rw b refl ]
plain_unnamed k (Vertex v) p = absurd p
plain_unnamed k (Arc a) p = absurd p
plain_unnamed k (Text t) p = elim (cases_Bool (length t == 0)) [ inl b ↦ rw b refl | inr b ↦ rw b refl ]

plain_values : (n : ℕ) (es : List (Option ArcOf)) (us : List Util) → All NamesNothing us → All IsStorable (map stored us) → All (IsValue n es) (map stored us)
plain_values n es us p s i d h =
    let low : i < length us = omega (arith, length-map us stored) in
    let at : (e : Util) → get_or (map stored us) i e ≡ stored (get_or us i Zero) = λ e. get_or-map stored us i Zero e low in
    subst (IsValue n es) (sym (at d)) (plain_value n es (get_or us i Zero) (p i Zero low) (subst IsStorable (at d) (s i d h)))

plain_names : (k : ℕ) (us : List Util) → All NamesNothing us → names_in k (map stored us) ≡ 0
plain_names k us p =
    sum_zero (λ u. cond (is_name k u) 1 0) (map stored us)
    (λ i d h.
    let low : i < length us = omega (arith, length-map us stored) in
    ap (λ u. cond (is_name k u) 1 0) (get_or-map stored us i Zero d low) ∙ ap (λ b. cond b 1 0) (plain_unnamed k (get_or us i Zero) (p i Zero low)))

all_one : {X : Type 0} (P : X → Type 0) (x : X) → P x → All P (x ∷ [])
all_one P x p zero d h = p
all_one P x p (suc i) d h = absurd (omega arith)

-- the vertices before stay as they are
vertex_before : (g : GraphOf) (x : VertexOf) (v : ℕ) (d : VertexOf) → v < n_of g → get_or (g.vertices ++ x ∷ []) v d ≡ get_or g.vertices v d
vertex_before g x v d h = get_or_append_left g.vertices (x ∷ []) d v h

new_arcs : (g : GraphOf) (x : VertexOf) (v : ℕ) → x.arcs ≡ [] → arcs_of (with_vertex_last g x) v ≡ arcs_of g v
unfolding with_vertex_last
new_arcs g x v none =
    elim (cases_order v (n_of g)) [
      | inl same ↦ ap (λ y. y.arcs) (get_or_push g.vertices x no_vertex v (sym same)) ∙ (none ∙ sym (ap (λ y. y.arcs) (get_or_past g.vertices v no_vertex (omega arith))))
      | inr (inl low) ↦ ap (λ y. y.arcs) (vertex_before g x v no_vertex low)
      | inr (inr high) ↦ ap (λ y. y.arcs) (get_or_past (g.vertices ++ x ∷ []) v no_vertex (omega (arith, length_push g.vertices x)) ∙ sym (get_or_past g.vertices v no_vertex (omega arith)))
    ]

pub grow_opened : (a b : Inside) (g : GraphOf) (label : List ℕ) (us : List Util) (y : vertex.Vertex) → Opened a g → n_of g < 65535 → IsText label → length (map stored us) ≡ 6 → All NamesNothing us → All IsStorable (map stored us)
    → y ≡ record { label = label; fields = map stored us; first = None }
    → b.id ≡ a.id → b.types ≡ a.types → b.fields ≡ a.fields → b.holes ≡ a.holes → b.slots ≡ a.slots → b.vertices ≡ a.vertices ++ y ∷ []
    → Opened b (with_vertex_last g (new_vertex label us))
unfolding with_vertex_last Leads
grow_opened a b g label us y o few text six plain storable is id types fields holes slots vertices =
    let x = new_vertex label us in
    let h = with_vertex_last g x in
    let sound = o.graph in
    let n : n_of h ≡ n_of g + 1 = length_push g.vertices x in
    let keeps : Keeps (n_of g) g.entries (n_of h) h.entries = record { vertices = omega (arith, n); arcs = λ k l. l } in
    let new : vertex.Vertex = record { label = label; fields = map stored us; first = None } in
    let vs = a.vertices in
    let ss = a.slots in
    let m : length (vs ++ new ∷ []) ≡ length vs + 1 = length_push vs new in
    let shown : Shows (vs ++ new ∷ []) ss h = record {
      n = omega (arith, m, n, o.shows.n);
      vertices = λ v d l.
          elim (cases_lt v (n_of g)) [
            | inl low ↦
                subst (λ q. ShowsVertex ss q (vertex_at h v)) (sym (get_or_append_left vs (new ∷ []) d v (omega (arith, o.shows.n, low))))
                (subst (ShowsVertex ss (get_or vs v d)) (sym (vertex_before g x v no_vertex low)) (o.shows.vertices v d low))
            | inr high ↦
                let at : v ≡ n_of g = omega (arith, n) in
                let one : get_or (vs ++ new ∷ []) v d ≡ new = get_or_push vs new d v (omega (arith, o.shows.n, at)) in
                let two : vertex_at h v ≡ x = get_or_push g.vertices x no_vertex v (sym at) in
                let made : ShowsVertex ss new x = record { label = refl; fields = refl; arcs = refl } in
                subst (λ q. ShowsVertex ss q (vertex_at h v)) (sym one) (subst (ShowsVertex ss new) (sym two) made)
          ];
      made = o.shows.made;
      entries = o.shows.entries;
      owners = λ k. owned_as k (owner_in (slot_at ss k)) (arcs_of g) (arcs_of h) (λ v. new_arcs g x v refl) (o.shows.owners k);
      names = λ k.
          let same : names_of h k ≡ names_of g k = omega (arith, sum_by_push (λ v. names_in k v.fields) g.vertices x, plain_names k us plain) in
          subst (λ z. IfSome (names_counted (slot_at ss k)) (λ c. c ≡ z)) (sym same) (o.shows.names k);
    } in
    record {
      graph = record {
        listed = λ k.
            let s = sum_by_push (λ v. occurrences k v.arcs) g.vertices x in
            let same : listings k h.vertices ≡ listings k g.vertices = omega (arith, s) in
            same ∙ sound.listed k;
        id = sound.id;
        types = sound.types;
        six = sound.six;
        values = λ k d l. IsValue-keeps (n_of g) (n_of h) g.entries h.entries (get_or g.fields k d) keeps (sound.values k d l);
        vertices = All-append (IsVertex (n_of h) h.entries) g.vertices (x ∷ [])
            (λ k d l. IsVertex-keeps (n_of g) (n_of h) g.entries h.entries (get_or g.vertices k d) keeps (sound.vertices k d l))
            (all_one (IsVertex (n_of h) h.entries) x (record { label = text; six = six; values = plain_values (n_of h) h.entries us plain storable }));
        arcs = λ k d l. IsEntry-keeps (n_of g) (n_of h) g.entries h.entries (get_or g.entries k d) keeps (sound.arcs k d l);
        few_vertices = omega (arith, n, few);
        few_arcs = sound.few_arcs;
      };
      shows = rw (vertices, slots, is) shown;
      holes = rw holes o.holes;
      id = id ∙ o.id;
      types = types ∙ o.types;
      fields = fields ∙ o.fields;
    }

abbrev pub vertex_made : List ℕ → List Util → vertex.Vertex
vertex_made label fields = record { label = label; fields = fields; first = None }

pub vertex_is : (l m : List ℕ) (us ws : List Util) → l ≡ m → us ≡ ws → vertex_made l us ≡ vertex_made m ws
vertex_is l m us ws label fields = ap (λ x. vertex_made x us) label ∙ ap (vertex_made m) fields
