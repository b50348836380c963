-- What linked parts are, and when they are the graph of the parts.
use Rattle.std.proofs.Common.{◌≡◌, ◌≢◌, ◌<◌, ◌≤◌, ◌^◌, ℕ, ℤ, pos, negsuc, List, [], ◌∷◌, length, get_or, Option, Some, None, is_some, IfSome, All, Bool, true, not, ◌&&◌, ◌==◌, nat_lt, nat_le, refl, sym, ap, subst, ◌∙◌, arith, cond, inl, inr, FitsSigned, w64, ◌+◌, zero, suc}
use Rattle.std.specs.Bool.{Decides}
use Rattle.std.specs.List.{list_all, range_with_len}
use Rattle.std.specs.Ordering.{int_eq}
use Rattle.std.proofs.lemmas.Bool.{cases_lt, ltb-true, lt-ltb, leb-true, le-leb, eqb-true, eq-eqb, ne_eqb, and_parts, and_from, cases_Bool}
use Rattle.std.proofs.lemmas.Bool.Decides.{Decides-and, Decides-not, Decides-eqb, Decides-ltb, Decides-int_eq, Decides-by_and}
use Rattle.std.proofs.lemmas.List.{get_or_default, length-map, get_or-map, same_lists}
use Rattle.std.proofs.lemmas.List.Sums.{AllPass-from_list_all, list_all-from_AllPass}
use Rattle.std.proofs.lemmas.List.FromFn.{length-range_with_len, get_or-range_with_len, length-map-range_with_len, get_or-map-range_with_len}
use Rattle.sgb_graph.specs.declared.field.Tip.{Tip}
use Rattle.sgb_graph.specs.declared.field.Tip.TheVariants as tips
use Rattle.sgb_graph.specs.declared.field.Util.{Util}
use Rattle.sgb_graph.specs.declared.field.Util.TheVariants as utils
use Rattle.sgb_graph.specs.Text.{IsText, is_text_byte}
use Rattle.sgb_graph.specs.Types.{IsTypes, is_letter}
use Rattle.sgb_graph.specs.Graph.{GraphOf, VertexOf, ArcOf, IsGraph, IsVertex, IsArc, IsValue, IsTip, IsId, n_of, made_of, no_vertex, has_arc, occurrences, listings, vertex_at, arcs_of, arc_at}
use Rattle.sgb_graph.proofs.Counts.{sum_zero}
use Rattle.sgb_graph.proofs.Graphs.{no_arc_past, arcs_live, few_arcs_of}
use Rattle.sgb_graph.specs.Sound.{fits_i64, is_text, is_id, is_types, is_tip, is_value, are_values, is_vertex, is_entry, is_listed, are_listed, is_graph}
use Rattle.sgb_graph.specs.declared.field.ArcNo.{ArcNo}
use Rattle.sgb_graph.specs.declared.parts.ArcPart.{ArcPart}
use Rattle.sgb_graph.specs.declared.parts.Parts.{Parts}
use Rattle.sgb_graph.specs.Chain.{Leads, chain}
use Rattle.sgb_graph.specs.Parts.{any_vertex_part, vertex_part, arc_part, next_part, IsVertexOf, IsArcOf, Builds}
use Rattle.sgb_graph.proofs.Chains.{chain_is}
use Rattle.sgb_graph.specs.Linked.{linked_vertex, linked_arc, linked_entry, linked_vertices, linked_entries, linked, graph_of_parts}
use Rattle.sgb_graph.specs.Private.SameLaws.{same_vertex, same_graph}

all_tells : {X : Type 0} (p : X → Bool) (P : X → Type 0) → ((x : X) → Decides (p x) (P x)) → (xs : List X) → Decides (list_all p xs) (All P xs)
all_tells p P each xs = Decides-by_and p P (list_all p) each refl (λ _ _. refl) xs

-- numbers and texts
fits_tells : (z : ℤ) → Decides (fits_i64 z) (FitsSigned w64 z)
fits_tells (pos n) = (λ h. record { sfits = ltb-true n (2 ^ 63) h }, λ f. lt-ltb n (2 ^ 63) f.sfits)
fits_tells (negsuc n) = (λ h. record { sfits = ltb-true n (2 ^ 63) h }, λ f. lt-ltb n (2 ^ 63) f.sfits)

text_tells : (t : List ℕ) → Decides (is_text t) (IsText t)
text_tells t =
    let short = nat_le (length t) 4095 in
    let printable = list_all is_text_byte t in (
      λ h.
          let p = and_parts short printable h in
          record { short = leb-true (length t) 4095 p.0; printable = p.1 },
      λ x. and_from short printable (le-leb (length t) 4095 x.short) x.printable,
    )

id_tells : (t : List ℕ) → Decides (is_id t) (IsId t)
id_tells t =
    let short = nat_le (length t) 160 in (
      λ h.
          let p = and_parts (is_text t) short h in
          record { text = (text_tells t).0 p.0; short = leb-true (length t) 160 p.1 },
      λ x. and_from (is_text t) short ((text_tells t).1 x.text) (le-leb (length t) 160 x.short),
    )

types_tells : (ts : List ℕ) → Decides (is_types ts) (IsTypes ts)
types_tells ts =
    let fourteen = length ts == 14 in
    let letters = list_all is_letter ts in (
      λ h.
          let p = and_parts fourteen letters h in
          record { fourteen = eqb-true (length ts) 14 p.0; letters = p.1 },
      λ x. and_from fourteen letters (eq-eqb (length ts) 14 x.fourteen) x.letters,
    )

-- tips and values
tip_tells : (n : ℕ) (t : Tip) → Decides (is_tip n t) (IsTip n t)
tip_tells n tips.Zero = (λ _. tt, λ _. refl)
tip_tells n tips.One = (λ _. tt, λ _. refl)
tip_tells n (tips.To v) = Decides-ltb v.0 n

some_tells : (t : List ℕ) → Decides (not (length t == 0)) (t ≢ [])
some_tells [] = (λ h. absurd cc, λ ne. absurd (ne refl))
some_tells (c ∷ cs) = (λ _ e. omega (arith, ap length e), λ _. ap not (ne_eqb (length (c ∷ cs)) 0 (λ e. omega arith)))

module _ (n : ℕ) (es : List (Option ArcOf)) where
  value_tells : (u : Util) → Decides (is_value n es u) (IsValue n es u)
  value_tells utils.Zero = (λ _. tt, λ _. refl)
  value_tells (utils.Int z) = Decides-and (not (int_eq z (pos 0))) (fits_i64 z) (Decides-not (int_eq z (pos 0)) (Decides-int_eq z (pos 0))) (fits_tells z)
  value_tells (utils.Vertex v) = Decides-ltb v.0 n
  value_tells (utils.Arc a) = (λ h. h, λ h. h)
  value_tells (utils.Text t) = Decides-and (not (length t == 0)) (is_text t) (some_tells t) (text_tells t)

  values_tells : (size : ℕ) (us : List Util) → Decides (are_values n es size us) ((length us ≡ size) × All (IsValue n es) us)
  values_tells size us =
      Decides-and (length us == size) (list_all (is_value n es) us) (Decides-eqb (length us) size)
      (all_tells (is_value n es) (IsValue n es) value_tells us)

  vertex_tells : (v : VertexOf) → Decides (is_vertex n es v) (IsVertex n es v)
  vertex_tells v =
      let values = are_values n es 6 v.fields in (
        λ h.
            let p = and_parts (is_text v.label) values h in
            let q = (values_tells 6 v.fields).0 p.1 in
            record { label = (text_tells v.label).0 p.0; six = q.0; values = q.1 },
        λ x. and_from (is_text v.label) values ((text_tells v.label).1 x.label) ((values_tells 6 v.fields).1 (x.six, x.values)),
      )

  entry_tells : (o : Option ArcOf) → Decides (is_entry n es o) (IfSome o (IsArc n es))
  entry_tells None = (λ _. tt, λ _. refl)
  entry_tells (Some e) =
      let values = are_values n es 2 e.fields in (
        λ h.
            let p = and_parts (is_tip n e.tip && fits_i64 e.len) values h in
            let q = and_parts (is_tip n e.tip) (fits_i64 e.len) p.0 in
            let r = (values_tells 2 e.fields).0 p.1 in
            record { tip = (tip_tells n e.tip).0 q.0; len = (fits_tells e.len).0 q.1; two = r.0; values = r.1 },
        λ x.
            and_from (is_tip n e.tip && fits_i64 e.len) values
            (and_from (is_tip n e.tip) (fits_i64 e.len) ((tip_tells n e.tip).1 x.tip) ((fits_tells e.len).1 x.len))
            ((values_tells 2 e.fields).1 (x.two, x.values)),
      )

-- listed numbers
few_occur : (k m : ℕ) (ks : List ℕ) → All (λ j. j < m) ks → m ≤ k → occurrences k ks ≡ 0
few_occur k m ks below past =
    sum_zero (λ j. cond (j == k) 1 0) ks
    (λ i d low. ap (λ b. cond b 1 0) (ne_eqb (get_or ks i d) k (λ e. omega (arith, below i d low, e))))

none_listed : (k m : ℕ) (vs : List VertexOf) → All (λ v. All (λ j. j < m) v.arcs) vs → m ≤ k → listings k vs ≡ 0
none_listed k m vs below past =
    sum_zero (λ v. occurrences k v.arcs) vs (λ i d low. few_occur k m (get_or vs i d).arcs (below i d low) past)

abbrev numbers_made : GraphOf → VertexOf → Bool
numbers_made g v = list_all (λ k. nat_lt k (made_of g)) v.arcs

below_tells : (g : GraphOf) → Decides (list_all (numbers_made g) g.vertices) (All (λ v. All (λ k. k < made_of g) v.arcs) g.vertices)
below_tells g =
    all_tells (numbers_made g) (λ v. All (λ k. k < made_of g) v.arcs)
    (λ v. all_tells (λ k. nat_lt k (made_of g)) (λ k. k < made_of g) (λ k. Decides-ltb k (made_of g)) v.arcs) g.vertices

listed_from : (g : GraphOf) → are_listed g ≡ true → (k : ℕ) → listings k g.vertices ≡ cond (has_arc g k) 1 0
listed_from g h k =
    let ks = range_with_len 0 (made_of g) in
    let p = and_parts (list_all (is_listed g) ks) (list_all (numbers_made g) g.vertices) h in
    elim (cases_lt k (made_of g)) [
      | inl low ↦
          let at : is_listed g (get_or ks k 0) ≡ true =
          AllPass-from_list_all (is_listed g) ks p.0 k 0 (omega (arith, low, length-range_with_len 0 (made_of g))) in
          let is : get_or ks k 0 ≡ k = get_or-range_with_len 0 (made_of g) k 0 low ∙ omega arith in
          eqb-true (listings k g.vertices) (cond (has_arc g k) 1 0) (subst (λ j. is_listed g j ≡ true) is at)
      | inr past ↦
          none_listed k (made_of g) g.vertices ((below_tells g).0 p.1) past
          ∙ sym (ap (λ o. cond (is_some o) 1 0) (no_arc_past g k past))
    ]

listed_too : (g : GraphOf) → IsGraph g → are_listed g ≡ true
listed_too g sound =
    let ks = range_with_len 0 (made_of g) in
    and_from (list_all (is_listed g) ks) (list_all (numbers_made g) g.vertices)
    (list_all-from_AllPass (is_listed g) ks
    (λ i d low. let k = get_or ks i d in eq-eqb (listings k g.vertices) (cond (has_arc g k) 1 0) (sound.listed k)))
    ((below_tells g).1
    (λ v d low. subst (λ (x : VertexOf). All (λ k. k < made_of g) x.arcs) (sym (get_or_default g.vertices v d no_vertex low))
    (λ i e there. (arcs_live g v sound i e there).made)))

-- the whole graph
sound_from : (g : GraphOf) → is_graph g ≡ true → IsGraph g
unfolding is_graph
sound_from g h =
    let n = n_of g in
    let es = g.entries in
    let a = are_listed g in
    let b = is_id g.id in
    let c = is_types g.types in
    let d = are_values n es 6 g.fields in
    let e = list_all (is_vertex n es) g.vertices in
    let f = list_all (is_entry n es) es in
    let few = nat_le n 65535 in
    let made = and_parts (a && b && c && d && e && f && few) (nat_le (made_of g) 1000000) h in
    let vertices = and_parts (a && b && c && d && e && f) few made.0 in
    let entries = and_parts (a && b && c && d && e) f vertices.0 in
    let lists = and_parts (a && b && c && d) e entries.0 in
    let own = and_parts (a && b && c) d lists.0 in
    let types = and_parts (a && b) c own.0 in
    let first = and_parts a b types.0 in
    let values = (values_tells n es 6 g.fields).0 own.1 in
    record {
      listed = listed_from g first.0;
      id = (id_tells g.id).0 first.1;
      types = (types_tells g.types).0 types.1;
      six = values.0;
      values = values.1;
      vertices = (all_tells (is_vertex n es) (IsVertex n es) (vertex_tells n es) g.vertices).0 lists.1;
      arcs = (all_tells (is_entry n es) (λ o. IfSome o (IsArc n es)) (entry_tells n es) es).0 entries.1;
      few_vertices = leb-true n 65535 vertices.1;
      few_arcs = leb-true (made_of g) 1000000 made.1;
    }

sound_too : (g : GraphOf) → IsGraph g → is_graph g ≡ true
unfolding is_graph
sound_too g x =
    let n = n_of g in
    let es = g.entries in
    let a = are_listed g in
    let b = is_id g.id in
    let c = is_types g.types in
    let d = are_values n es 6 g.fields in
    let e = list_all (is_vertex n es) g.vertices in
    let f = list_all (is_entry n es) es in
    let few = nat_le n 65535 in
    let first = and_from a b (listed_too g x) ((id_tells g.id).1 x.id) in
    let types = and_from (a && b) c first ((types_tells g.types).1 x.types) in
    let own = and_from (a && b && c) d types ((values_tells n es 6 g.fields).1 (x.six, x.values)) in
    let lists = and_from (a && b && c && d) e own ((all_tells (is_vertex n es) (IsVertex n es) (vertex_tells n es) g.vertices).1 x.vertices) in
    let entries = and_from (a && b && c && d && e) f lists ((all_tells (is_entry n es) (λ o. IfSome o (IsArc n es)) (entry_tells n es) es).1 x.arcs) in
    let vertices = and_from (a && b && c && d && e && f) few entries (le-leb n 65535 x.few_vertices) in
    and_from (a && b && c && d && e && f && few) (nat_le (made_of g) 1000000) vertices (le-leb (made_of g) 1000000 x.few_arcs)

pub graph_tells : (g : GraphOf) → Decides (is_graph g) (IsGraph g)
graph_tells g = (sound_from g, sound_too g)

-- a chain of fewer numbers than were asked for has come to its end
chain_ends : (next : ℕ → Option ArcNo) (m : ℕ) (link : Option ArcNo) → length (chain next m link) < m → Leads next link (chain next m link) None
unfolding Leads chain
chain_ends next zero link h = absurd (omega arith)
chain_ends next (suc m) None h = refl
chain_ends next (suc m) (Some k) h = (refl, chain_ends next m (next k.0) (omega arith))

-- the vertices and the entries of linked parts
n_linked : (p : Parts) → n_of (linked p) ≡ length p.vertices
unfolding linked
n_linked p = length-map p.vertices (linked_vertex p.arcs)

made_linked : (p : Parts) → made_of (linked p) ≡ length p.arcs
unfolding linked
made_linked p = length-map-range_with_len (linked_entry (linked_vertices p) p.arcs) 0 (length p.arcs)

vertex_linked : (p : Parts) (v : ℕ) → v < length p.vertices → vertex_at (linked p) v ≡ linked_vertex p.arcs (vertex_part p.vertices v)
unfolding linked
vertex_linked p v low = get_or-map (linked_vertex p.arcs) p.vertices v any_vertex_part no_vertex low

entry_linked : (p : Parts) (k : ℕ) → k < length p.arcs → arc_at (linked p) k ≡ linked_entry (linked_vertices p) p.arcs k
unfolding linked
entry_linked p k low = get_or-map-range_with_len (linked_entry (linked_vertices p) p.arcs) 0 (length p.arcs) k k None low (omega arith)

-- the arc that stands at a number is its record
entry_is : (vs : List VertexOf) (rs : List ArcPart) (k : ℕ) → IfSome (linked_entry vs rs k) (IsArcOf (arc_part rs k))
entry_is vs rs k =
    let arc : Option ArcOf = Some (linked_arc (arc_part rs k)) in
    elim (cases_Bool (listings k vs == 0)) [
      | inl none ↦ subst (λ b. IfSome (cond b None arc) (IsArcOf (arc_part rs k))) (sym none) tt
      | inr some ↦ subst (λ b. IfSome (cond b None arc) (IsArcOf (arc_part rs k))) (sym some) (record { tip = refl; len = refl; fields = refl })
    ]

linked_arcs : (p : Parts) (k : ℕ) → IfSome (arc_at (linked p) k) (IsArcOf (arc_part p.arcs k))
linked_arcs p k =
    elim (cases_lt k (length p.arcs)) [
      | inl low ↦ subst (λ o. IfSome o (IsArcOf (arc_part p.arcs k))) (sym (entry_linked p k low)) (entry_is (linked_vertices p) p.arcs k)
      | inr past ↦ subst (λ o. IfSome o (IsArcOf (arc_part p.arcs k))) (sym (no_arc_past (linked p) k (omega (arith, past, made_linked p)))) tt
    ]

-- where they are sound, each list is its whole chain
vertex_is : (p : Parts) (v : ℕ) → IsGraph (linked p) → v < length p.vertices → IsVertexOf p.arcs (vertex_part p.vertices v) (vertex_at (linked p) v)
vertex_is p v sound low =
    let part = vertex_part p.vertices v in
    let is = vertex_linked p v low in
    let few : length (chain (next_part p.arcs) (length p.arcs + 1) part.first) < length p.arcs + 1 =
    omega (arith, few_arcs_of (linked p) v sound, made_linked p, ap (λ (x : VertexOf). length x.arcs) is) in
    subst (IsVertexOf p.arcs part) (sym is)
    (record { label = refl; fields = refl; arcs = chain_ends (next_part p.arcs) (length p.arcs + 1) part.first few })

sound_builds : (p : Parts) → IsGraph (linked p) → Builds p (linked p)
unfolding linked
sound_builds p sound =
    record {
      id = refl;
      types = refl;
      fields = refl;
      n = n_linked p;
      vertices = λ v low. vertex_is p v sound (omega (arith, low, n_linked p));
      made = made_linked p;
      arcs = linked_arcs p;
      graph = sound;
    }

-- a graph that parts build is what they are linked to
vertices_same : (p : Parts) (g : GraphOf) → Builds p g → linked_vertices p ≡ g.vertices
vertices_same p g b =
    let f = linked_vertex p.arcs in
    let n : length (linked_vertices p) ≡ length p.vertices = length-map p.vertices f in
    same_lists (linked_vertices p) g.vertices (n ∙ sym b.n)
    (λ v d low.
    let there : v < length p.vertices = omega (arith, low, n) in
    let here : v < n_of g = omega (arith, there, b.n) in
    let x = b.vertices v here in
    let part = vertex_part p.vertices v in
    let list : chain (next_part p.arcs) (length p.arcs + 1) part.first ≡ arcs_of g v =
    chain_is (next_part p.arcs) part.first (arcs_of g v) (length p.arcs + 1) x.arcs (omega (arith, few_arcs_of g v b.graph, b.made)) in
    get_or-map f p.vertices v any_vertex_part d there
    ∙ (same_vertex (f part) (vertex_at g v) (sym x.label) (sym x.fields) list
    ∙ get_or_default g.vertices v no_vertex d here))

same_arc : (part : ArcPart) (e : ArcOf) → IsArcOf part e → linked_arc part ≡ e
same_arc part e x =
    ap (λ t. record (linked_arc part) { tip = t }) (sym x.tip)
    ∙ (ap (λ z. record (linked_arc part) { tip = e.tip; len = z }) (sym x.len)
    ∙ ap (λ us. record e { fields = us }) (sym x.fields))

entry_same : (vs : List VertexOf) (rs : List ArcPart) (k : ℕ) (o : Option ArcOf) → listings k vs ≡ cond (is_some o) 1 0 → IfSome o (IsArcOf (arc_part rs k)) → linked_entry vs rs k ≡ o
entry_same vs rs k None count arc =
    ap (λ b. cond b None (Some (linked_arc (arc_part rs k)))) (eq-eqb (listings k vs) 0 count)
entry_same vs rs k (Some e) count arc =
    ap (λ b. cond b None (Some (linked_arc (arc_part rs k)))) (ne_eqb (listings k vs) 0 (λ none. omega (arith, count, none)))
    ∙ ap Some (same_arc (arc_part rs k) e arc)

entries_same : (p : Parts) (g : GraphOf) → Builds p g → linked_entries p ≡ g.entries
entries_same p g b =
    let f = linked_entry (linked_vertices p) p.arcs in
    let made : length (linked_entries p) ≡ length p.arcs = length-map-range_with_len f 0 (length p.arcs) in
    same_lists (linked_entries p) g.entries (made ∙ sym b.made)
    (λ k d low.
    let there : k < length p.arcs = omega (arith, low, made) in
    get_or-map-range_with_len f 0 (length p.arcs) k k d there (omega arith)
    ∙ (ap (λ vs. linked_entry vs p.arcs k) (vertices_same p g b)
    ∙ (entry_same g.vertices p.arcs k (arc_at g k) (b.graph.listed k) (b.arcs k)
    ∙ get_or_default g.entries k None d (omega (arith, there, b.made)))))

linked_is : (p : Parts) (g : GraphOf) → Builds p g → linked p ≡ g
unfolding linked
linked_is p g b = same_graph (linked p) g (sym b.id) (sym b.types) (sym b.fields) (vertices_same p g b) (entries_same p g b)

-- the two laws
pub built_some : (p : Parts) (g : GraphOf) → Builds p g → graph_of_parts p ≡ Some g
unfolding graph_of_parts
built_some p g b =
    let is = linked_is p g b in
    let sound : is_graph (linked p) ≡ true = ap is_graph is ∙ (graph_tells g).1 b.graph in
    ap (λ b. cond b (Some (linked p)) None) sound ∙ ap Some is

some_of : {A : Type 0} (x y : A) → Some x ≡ Some y → x ≡ y
some_of x y e = cc

pub some_built : (p : Parts) (g : GraphOf) → graph_of_parts p ≡ Some g → Builds p g
unfolding graph_of_parts
some_built p g e =
    elim (cases_Bool (is_graph (linked p))) [
      | inl sound ↦
          let found : Some (linked p) ≡ Some g = sym (ap (λ b. cond b (Some (linked p)) None) sound) ∙ e in
          subst (Builds p) (some_of (linked p) g found) (sound_builds p ((graph_tells (linked p)).0 sound))
      | inr bad ↦ absurd (let none : None ≡ Some g = sym (ap (λ b. cond b (Some (linked p)) None) bad) ∙ e in cc)
    ]
