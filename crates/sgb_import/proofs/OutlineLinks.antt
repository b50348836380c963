-- Lemmas on the graph of an outline: its id, its vertices, and which of its arcs are written.
use Rattle.std.proofs.Common.{◌≡◌, ◌≢◌, ◌<◌, ◌≤◌, ◌+◌, ◌*◌, ℕ, List, [], ◌∷◌, ◌++◌, length, get_or, set, map, reverse, Bool, true, false, ◌&&◌, not, ◌==◌, cond, min, max, inl, inr, All, refl, sym, ap, ap₂, subst, ◌∙◌, arith, lit≤}
use Rattle.std.specs.List.{filter, flat_map, fold, insert, list_all, range_with_len}
use Rattle.std.proofs.lemmas.Bool.{cases_Bool, cases_lt, and_from, eqb-true, eqb-false}
use Rattle.std.proofs.lemmas.List.{length-map, reverse-append, map-append, map-id, get_or-map, get_or_past, get_or-set_same, get_or-set_other, set_past}
use Rattle.std.proofs.lemmas.List.Elements.{All-head, All-tail}
use Rattle.std.proofs.lemmas.List.Sums.{fold-append}
use Rattle.sgb_graph.specs.Graph.{GraphOf, VertexOf, IsGraph, IsVertex, n_of, made_of, vertex_at, no_vertex, label_of, arcs_of, occurrences}
use Rattle.sgb_graph.specs.Builder.{Insertion, insertion, inserted, with_all}
use Rattle.sgb_graph.specs.Edit.{with_listed, with_entry_last, with_arc, with_edge, arc_to}
use Rattle.sgb_graph.specs.New.{bare_graph}
use Rattle.sgb_graph.specs.Paired.{walk, without_halves, is_matched, are_loops_paired, is_paired}
use Rattle.sgb_graph.proofs.Counts.{sum_zero}
use Rattle.sgb_graph.proofs.Graphs.{no_arcs_past}
use Rattle.sgb_graph.proofs.Insertions.{numbers_each, n-inserted, made-inserted, n-with_all}
use Rattle.sgb_graph.proofs.NewLemmas.{zeros_are}
use Rattle.sgb_graph.proofs.PairedLemmas.{none_alone, range_all}
use Rattle.sgb_plan.specs.Plan.{vertex_of, no_letters, graph_of_plan}
use Rattle.sgb_export.specs.Links.{link, is_written, links_at, links, is_even, are_even_at, is_directed}
use Rattle.sgb_import.specs.Laws.{written, upward, leaving, by_source}
use Rattle.sgb_import.specs.Outline.{Outline, IsOutline, IsLink, named, graph_of_outline, arcs_of_links}
use Rattle.sgb_import.proofs.Extensions.{matched_hole}
use Rattle.sgb_import.proofs.NewLinks.{extends-with_arc, extends-with_edge}
use Rattle.sgb_import.proofs.NewNumbers.{up_at, numbers_at, ends_at, ends_more, even_at, even-new_edge, numbers-with_arc, entry-with_arc, NewEdge, new_edge, first_entry, numbers-new_edge, loops-new_edge, matched-new_edge}

-- ---- lists
map_filter_map : {X Y Z : Type 0} (h : Y → Z) (p : Y → Bool) (f : X → Y) (xs : List X) → map h (filter p (map f xs)) ≡ map (λ x. h (f x)) (filter (λ x. p (f x)) xs)
map_filter_map h p f [] = refl
map_filter_map h p f (x ∷ xs) =
    let rest = map_filter_map h p f xs in
    elim (p (f x)) as (λ b. map h (cond b (f x ∷ filter p (map f xs)) (filter p (map f xs))) ≡ map (λ y. h (f y)) (cond b (x ∷ filter (λ y. p (f y)) xs) (filter (λ y. p (f y)) xs))) [
      | true ↦ ap (λ l. h (f x) ∷ l) rest
      | false ↦ rest
    ]

all_filter_map : {X Y : Type 0} (q : Y → Bool) (p : Y → Bool) (f : X → Y) (xs : List X) → list_all q (filter p (map f xs)) ≡ list_all (λ x. q (f x)) (filter (λ x. p (f x)) xs)
all_filter_map q p f [] = refl
all_filter_map q p f (x ∷ xs) =
    let rest = all_filter_map q p f xs in
    elim (p (f x)) as (λ b. list_all q (cond b (f x ∷ filter p (map f xs)) (filter p (map f xs))) ≡ list_all (λ y. q (f y)) (cond b (x ∷ filter (λ y. p (f y)) xs) (filter (λ y. p (f y)) xs))) [
      | true ↦ ap (λ b. q (f x) && b) rest
      | false ↦ rest
    ]

pub map-flat_map : {X Y Z : Type 0} (h : Y → Z) (f : X → List Y) (xs : List X) → map h (flat_map f xs) ≡ flat_map (λ x. map h (f x)) xs
map-flat_map h f [] = refl
map-flat_map h f (x ∷ xs) = map-append h (f x) (flat_map f xs) ∙ ap (λ l. map h (f x) ++ l) (map-flat_map h f xs)

pub flat_map_same : {X Y : Type 0} (f g : X → List Y) (xs : List X) → ((x : X) → f x ≡ g x) → flat_map f xs ≡ flat_map g xs
flat_map_same f g [] same = refl
flat_map_same f g (x ∷ xs) same = ap₂ (λ a b. a ++ b) (same x) (flat_map_same f g xs same)

-- what is written, by the numbers
pub written_is : (directed : Bool) (g : GraphOf) → written directed g ≡ flat_map (λ v. map (ends_at g v) (numbers_at directed g v)) (range_with_len 0 (n_of g))
unfolding links links_at
written_is directed g =
    map-flat_map (λ l. insertion l.from l.to l.len) (links_at directed g) (range_with_len 0 (n_of g))
    ∙ flat_map_same _ (λ v. map (ends_at g v) (numbers_at directed g v)) (range_with_len 0 (n_of g))
    (λ v. map_filter_map (λ l. insertion l.from l.to l.len) (is_written directed) (link g v) (walk directed g v))

pub even_is : (g : GraphOf) (v : ℕ) → are_even_at g v ≡ list_all (even_at g) (numbers_at false g v)
unfolding links_at
even_is g v = all_filter_map (is_even g) (is_written false) (link g v) (walk false g v)

-- ---- the graph without arcs
abbrev pub bare : Outline → GraphOf
bare o = bare_graph o.id no_letters (map vertex_of (map named o.names))

bare_n : (o : Outline) → n_of (bare o) ≡ length o.names
bare_n o = length-map (map named o.names) vertex_of ∙ length-map o.names named

bare_at : (o : Outline) (v : ℕ) (d : VertexOf) → v < length o.names → get_or (bare o).vertices v d ≡ vertex_of (named (get_or o.names v []))
bare_at o v d inside =
    get_or-map vertex_of (map named o.names) v (named []) d (omega (arith, length-map o.names named))
    ∙ ap vertex_of (get_or-map named o.names v [] (named []) inside)

bare_arcs : (o : Outline) (v : ℕ) → arcs_of (bare o) v ≡ []
bare_arcs o v =
    elim (cases_lt v (length o.names)) [
      | inl inside ↦ ap (λ (x : VertexOf). x.arcs) (bare_at o v no_vertex inside)
      | inr past ↦ no_arcs_past (bare o) v (omega (arith, past, bare_n o))
    ]

bare_label : (o : Outline) (v : ℕ) → label_of (bare o) v ≡ get_or o.names v []
bare_label o v =
    elim (cases_lt v (length o.names)) [
      | inl inside ↦ ap (λ (x : VertexOf). x.label) (bare_at o v no_vertex inside)
      | inr past ↦ ap (λ (x : VertexOf). x.label) (get_or_past (bare o).vertices v no_vertex (omega (arith, past, bare_n o))) ∙ sym (get_or_past o.names v [] past)
    ]

bare_sound : (o : Outline) → IsOutline o → IsGraph (bare o)
bare_sound o is = record {
  listed = λ k. sum_zero (λ (x : VertexOf). occurrences k x.arcs) (bare o).vertices
      (λ v d h. ap (λ (x : VertexOf). occurrences k x.arcs) (bare_at o v d (omega (arith, h, bare_n o))));
  id = is.id;
  types = record { fourteen = refl; letters = refl };
  six = refl;
  values = zeros_are (n_of (bare o));
  vertices = λ v d h.
      let inside : v < length o.names = omega (arith, h, bare_n o) in
      subst (IsVertex (n_of (bare o)) []) (sym (bare_at o v d inside))
      (record { label = is.names v [] inside; six = refl; values = zeros_are (n_of (bare o)) });
  arcs = λ k d h. absurd (omega arith);
  few_vertices = let few = is.few_vertices in omega (arith, bare_n o);
  few_arcs = lit≤ tt;
}

-- ---- the links, last first
pub grown_step : (d : Bool) (g : GraphOf) (e : Insertion) (ls : List Insertion) → with_all d g (reverse (e ∷ ls)) ≡ inserted d (with_all d g (reverse ls)) e
unfolding with_all
grown_step d g e ls = ap (fold (inserted d) g) (reverse-append (e ∷ []) ls) ∙ fold-append (inserted d) g (reverse ls) (e ∷ [])

-- how an arc or an edge is told
abbrev pub told : Bool → Insertion → Insertion
told directed e = cond directed e (upward e)

-- a sound graph of n vertices, which lists these links at each of them
pub record Grown (directed : Bool) (size : ℕ) (ls : List Insertion) (g : GraphOf) : Type 0 where
  pub sound : IsGraph g
  pub n : n_of g ≡ size
  pub made : made_of g ≡ length ls * numbers_each directed
  pub ends : (v : ℕ) → map (ends_at g v) (numbers_at directed g v) ≡ leaving (map (told directed) ls) v

arc_more : (n : ℕ) (e : Insertion) (ls : List Insertion) (g : GraphOf) → Grown true n ls g → IsLink n e → length (e ∷ ls) ≤ 1000000 → Grown true n (e ∷ ls) (inserted true g e)
unfolding inserted
arc_more n e ls g x is few =
    let x_n = x.n in
    let x_made = x.made in
    let is_from = is.from in
    let is_to = is.to in
    let from : e.from < n_of g = omega arith in
    let more = extends-with_arc g e.from e.to e.len x.sound from (omega arith) is.len (omega arith) in
    record {
      sound = more.after;
      n = n-inserted true g e ∙ x.n;
      made = omega (arith, made-inserted true g e);
      ends = λ v. ends_more true g (with_arc g e.from e.to e.len) e v (leaving (map (told true) ls) v) more (numbers-with_arc g e.from e.to e.len more from v) (entry-with_arc g e.from e.to e.len) (x.ends v);
    }

-- each arc has its other half, of the same length
pub record Halved (g : GraphOf) : Type 0 where
  pub matched : (k : ℕ) → is_matched g k ≡ true
  pub loops : (v : ℕ) → are_loops_paired g v (arcs_of g v) ≡ true
  pub even : (v : ℕ) → list_all (even_at g) (numbers_at false g v) ≡ true

edge_new : (n : ℕ) (e : Insertion) (ls : List Insertion) (g : GraphOf) → Grown false n ls g → IsLink n e → 2 * length (e ∷ ls) ≤ 1000000 → NewEdge g (inserted false g e) (min e.from e.to) (max e.from e.to) e.len
unfolding inserted
edge_new n e ls g x is few =
    let x_n = x.n in
    let x_made = x.made in
    let is_from = is.from in
    let is_to = is.to in
    let from : e.from < n_of g = omega arith in
    let to : e.to < n_of g = omega arith in
    new_edge g e.from e.to e.len (extends-with_edge g e.from e.to e.len x.sound from to is.len (omega arith)) from to

edge_more : (n : ℕ) (e : Insertion) (ls : List Insertion) (g : GraphOf) → Grown false n ls g → IsLink n e → 2 * length (e ∷ ls) ≤ 1000000 → Grown false n (e ∷ ls) (inserted false g e)
edge_more n e ls g x is few =
    let y = edge_new n e ls g x is few in
    let h = inserted false g e in
    let x_made = x.made in
    record {
      sound = y.extends.after;
      n = n-inserted false g e ∙ x.n;
      made = omega (arith, made-inserted false g e);
      ends = λ v. ends_more false g h (upward e) v (leaving (map (told false) ls) v) y.extends (numbers-new_edge g h (min e.from e.to) (max e.from e.to) e.len y v) (first_entry g h (min e.from e.to) (max e.from e.to) e.len y) (x.ends v);
    }

halved_more : (n : ℕ) (e : Insertion) (ls : List Insertion) (g : GraphOf) → Grown false n ls g → Halved g → IsLink n e → 2 * length (e ∷ ls) ≤ 1000000 → Halved (inserted false g e)
halved_more n e ls g x halved is few =
    let y = edge_new n e ls g x is few in
    let h = inserted false g e in
    record {
      matched = λ k. matched-new_edge g h (min e.from e.to) (max e.from e.to) e.len y k (halved.matched k);
      loops = λ v. loops-new_edge g h (min e.from e.to) (max e.from e.to) e.len y v (halved.loops v);
      even = λ v. even-new_edge g h (min e.from e.to) (max e.from e.to) e.len y v (halved.even v);
    }

-- ---- all of them
pub no_walk : (g : GraphOf) (v : ℕ) → without_halves g v [] ≡ []
unfolding without_halves
no_walk g v = refl

nothing_listed : (directed : Bool) (o : Outline) (v : ℕ) → numbers_at directed (bare o) v ≡ []
nothing_listed true o v = ap (filter (up_at true (bare o) v)) (bare_arcs o v)
nothing_listed false o v = ap (λ ks. filter (up_at false (bare o) v) (without_halves (bare o) v ks)) (bare_arcs o v) ∙ ap (filter (up_at false (bare o) v)) (no_walk (bare o) v)

bare_grown : (directed : Bool) (o : Outline) → IsOutline o → Grown directed (length o.names) [] (bare o)
bare_grown directed o is = record {
  sound = bare_sound o is;
  n = bare_n o;
  made = omega arith;
  ends = λ v. ap (map (ends_at (bare o) v)) (nothing_listed directed o v);
}

bare_halved : (o : Outline) → Halved (bare o)
bare_halved o = record {
  matched = λ k. matched_hole (bare o) k refl;
  loops = λ v. ap (are_loops_paired (bare o) v) (bare_arcs o v) ∙ none_alone (bare o) v;
  even = λ v. ap (list_all (even_at (bare o))) (nothing_listed false o v);
}

pub all_arcs : (o : Outline) → IsOutline o → (ls : List Insertion) → All (IsLink (length o.names)) ls → length ls ≤ 1000000 → Grown true (length o.names) ls (with_all true (bare o) (reverse ls))
unfolding with_all
all_arcs o is [] links few = bare_grown true o is
all_arcs o is (e ∷ ls) links few =
    subst (Grown true (length o.names) (e ∷ ls)) (sym (grown_step true (bare o) e ls))
    (arc_more (length o.names) e ls (with_all true (bare o) (reverse ls)) (all_arcs o is ls (All-tail (IsLink (length o.names)) e ls links) (omega arith)) (All-head (IsLink (length o.names)) e ls links) few)

all_edges : (o : Outline) → IsOutline o → (ls : List Insertion) → All (IsLink (length o.names)) ls → 2 * length ls ≤ 1000000 → (Grown false (length o.names) ls (with_all false (bare o) (reverse ls))) × (Halved (with_all false (bare o) (reverse ls)))
unfolding with_all
all_edges o is [] links few = (bare_grown false o is, bare_halved o)
all_edges o is (e ∷ ls) links few =
    let n = length o.names in
    let g = with_all false (bare o) (reverse ls) in
    let rest = all_edges o is ls (All-tail (IsLink n) e ls links) (omega arith) in
    let first = All-head (IsLink n) e ls links in
    subst (λ h. (Grown false n (e ∷ ls) h) × (Halved h)) (sym (grown_step false (bare o) e ls))
    (edge_more n e ls g rest.0 first few, halved_more n e ls g rest.0 rest.1 first few)

-- ---- the graph of the outline
pub graph_is : (o : Outline) → graph_of_outline o ≡ with_all o.directed (bare o) (reverse o.links)
unfolding graph_of_outline graph_of_plan
graph_is o = refl

few_links : (directed : Bool) (o : Outline) → IsOutline o → o.directed ≡ directed → arcs_of_links directed (length o.links) ≤ 1000000
few_links directed o is same = subst (λ d. arcs_of_links d (length o.links) ≤ 1000000) same is.few_arcs

pub outline_arcs : (o : Outline) → IsOutline o → o.directed ≡ true → Grown true (length o.names) o.links (graph_of_outline o)
outline_arcs o is directed =
    subst (Grown true (length o.names) o.links) (sym (graph_is o ∙ ap (λ d. with_all d (bare o) (reverse o.links)) directed))
    (all_arcs o is o.links is.links (few_links true o is directed))

pub outline_edges : (o : Outline) → IsOutline o → o.directed ≡ false → (Grown false (length o.names) o.links (graph_of_outline o)) × (Halved (graph_of_outline o))
outline_edges o is directed =
    subst (λ g. (Grown false (length o.names) o.links g) × (Halved g)) (sym (graph_is o ∙ ap (λ d. with_all d (bare o) (reverse o.links)) directed))
    (all_edges o is o.links is.links (few_links false o is directed))

pub outline_sound : (o : Outline) → IsOutline o → IsGraph (graph_of_outline o)
outline_sound o is =
    elim (cases_Bool o.directed) [
      | inl directed ↦ (outline_arcs o is directed).sound
      | inr edges ↦ (outline_edges o is edges).0.sound
    ]

grown_written : (directed : Bool) (n : ℕ) (ls : List Insertion) (g : GraphOf) → Grown directed n ls g → written directed g ≡ by_source n (map (told directed) ls)
grown_written directed n ls g x =
    written_is directed g
    ∙ (flat_map_same (λ v. map (ends_at g v) (numbers_at directed g v)) (leaving (map (told directed) ls)) (range_with_len 0 (n_of g)) x.ends
    ∙ ap (λ m. flat_map (leaving (map (told directed) ls)) (range_with_len 0 m)) x.n)

pub written_told : (o : Outline) → IsOutline o → (directed : Bool) → o.directed ≡ directed → written directed (graph_of_outline o) ≡ by_source (length o.names) (map (told directed) o.links)
written_told o is true same = grown_written true (length o.names) o.links (graph_of_outline o) (outline_arcs o is same)
written_told o is false same = grown_written false (length o.names) o.links (graph_of_outline o) (outline_edges o is same).0

pub written_arcs : (o : Outline) → IsOutline o → o.directed ≡ true → written true (graph_of_outline o) ≡ by_source (length o.names) o.links
written_arcs o is directed =
    written_told o is true directed
    ∙ ap (by_source (length o.names)) (map-id o.links)

pub written_edges : (o : Outline) → IsOutline o → o.directed ≡ false → written false (graph_of_outline o) ≡ by_source (length o.names) (map upward o.links)
written_edges o is edges = written_told o is false edges

pub halved_undirected : (g : GraphOf) → Halved g → is_directed g ≡ false
unfolding is_directed
halved_undirected g x =
    let ks = range_with_len 0 (made_of g) in
    let vs = range_with_len 0 (n_of g) in
    let paired : is_paired g ≡ true =
    and_from (list_all (is_matched g) ks) (list_all (λ v. are_loops_paired g v (arcs_of g v)) vs)
    (range_all (is_matched g) 0 (made_of g) x.matched)
    (range_all (λ v. are_loops_paired g v (arcs_of g v)) 0 (n_of g) x.loops) in
    let even : list_all (are_even_at g) vs ≡ true = range_all (are_even_at g) 0 (n_of g) (λ v. even_is g v ∙ x.even v) in
    ap not (and_from (is_paired g) (list_all (are_even_at g) vs) paired even)

pub outline_undirected : (o : Outline) → IsOutline o → o.directed ≡ false → is_directed (graph_of_outline o) ≡ false
outline_undirected o is edges = halved_undirected (graph_of_outline o) (outline_edges o is edges).1

-- ---- its id and its vertices
pub n_of_outline : (o : Outline) → n_of (graph_of_outline o) ≡ length o.names
n_of_outline o = ap n_of (graph_is o) ∙ (n-with_all o.directed (bare o) (reverse o.links) ∙ bare_n o)

label_listed : (g : GraphOf) (u i k v : ℕ) → label_of (with_listed g u i k) v ≡ label_of g v
unfolding with_listed
label_listed g u i k v =
    let x : VertexOf = record (vertex_at g u) { arcs = insert (arcs_of g u) i k } in
    elim (cases_lt u (n_of g)) [
      | inl inside ↦ elim (cases_Bool (u == v)) [
        | inl same ↦
            let is : u ≡ v = eqb-true u v same in
            ap (λ w. label_of (record g { vertices = set g.vertices u x }) w) (sym is) ∙ (ap (λ (y : VertexOf). y.label) (get_or-set_same g.vertices u x no_vertex inside) ∙ ap (label_of g) is)
        | inr other ↦
            let ne : v ≢ u = λ e. eqb-false u v other (sym e) in
            ap (λ (y : VertexOf). y.label) (get_or-set_other g.vertices u v x no_vertex ne)
      ]
      | inr past ↦ ap (λ vs. label_of (record g { vertices = vs }) v) (set_past g.vertices u x past)
    ]

label_inserted : (d : Bool) (g : GraphOf) (e : Insertion) (v : ℕ) → label_of (inserted d g e) v ≡ label_of g v
unfolding inserted with_arc with_edge with_entry_last
label_inserted true g e v = label_listed (with_entry_last g (arc_to e.to e.len)) e.from 0 (made_of g) v
label_inserted false g e v =
    let low = min e.from e.to in
    let high = max e.from e.to in
    let both = with_entry_last (with_entry_last g (arc_to high e.len)) (arc_to low e.len) in
    label_listed (with_listed both high 0 (made_of g + 1)) low 0 (made_of g) v ∙ label_listed both high 0 (made_of g + 1) v

label_all : (d : Bool) (g : GraphOf) (es : List Insertion) (v : ℕ) → label_of (with_all d g es) v ≡ label_of g v
unfolding with_all
label_all d g [] v = refl
label_all d g (e ∷ es) v = label_all d (inserted d g e) es v ∙ label_inserted d g e v

pub label_of_outline : (o : Outline) (v : ℕ) → label_of (graph_of_outline o) v ≡ get_or o.names v []
label_of_outline o v = ap (λ g. label_of g v) (graph_is o) ∙ (label_all o.directed (bare o) (reverse o.links) v ∙ bare_label o v)

id_inserted : (d : Bool) (g : GraphOf) (e : Insertion) → (inserted d g e).id ≡ g.id
unfolding inserted with_arc with_edge with_entry_last with_listed
id_inserted true g e = refl
id_inserted false g e = refl

id_all : (d : Bool) (g : GraphOf) (es : List Insertion) → (with_all d g es).id ≡ g.id
unfolding with_all
id_all d g [] = refl
id_all d g (e ∷ es) = id_all d (inserted d g e) es ∙ id_inserted d g e

pub id_of_outline : (o : Outline) → (graph_of_outline o).id ≡ o.id
id_of_outline o = ap (λ (g : GraphOf). g.id) (graph_is o) ∙ id_all o.directed (bare o) (reverse o.links)
