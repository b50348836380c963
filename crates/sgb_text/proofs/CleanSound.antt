-- What a graph becomes by cleaning is sound and honest, and an honest graph stays as it is.
use Rattle.std.proofs.Common.{◌≡◌, ℕ, zero, suc, ◌+◌, ◌<◌, ◌&&◌, true, List, [], ◌∷◌, map, drop, length, slice_index_or, sum_by, Option, Some, None, IsSome, IfSome, is_some, refl, sym, ap, ◌∙◌, inl, inr, arith, subst, All, length-take, length-drop, if◌then◌else◌}
use Rattle.std.specs.Option.{option_map}
use Rattle.std.specs.List.{list_all}
use Rattle.std.proofs.lemmas.Bool.{cases_Bool, and_parts}
use Rattle.std.proofs.lemmas.List.Sums.{sum_by-cons}
use Rattle.std.proofs.lemmas.List.Elements.{All-tail}
use Rattle.sgb_graph.specs.declared.field.Tip.{Tip}
use Rattle.sgb_graph.specs.declared.field.Tip.TheVariants as tips
use Rattle.sgb_graph.specs.declared.field.Util.{Util}
use Rattle.sgb_graph.specs.declared.field.Util.TheVariants.{Zero, Int, Vertex, Arc, Text}
use Rattle.sgb_graph.specs.Graph.{GraphOf, VertexOf, ArcOf, IsGraph, IsVertex, IsArc, IsValue, IsTip, n_of, arc_at, has_arc, occurrences, listings}
use Rattle.sgb_graph.specs.Honest.{vertex_letters, arc_letters, graph_letters, is_allowed, are_allowed, is_honest, is_honest_vertex, is_honest_entry}
use Rattle.sgb_text.specs.Clean.{cleaned, clean_fields, clean_vertex, clean_arc, clean_of, dirt_in, dirt_in_entry, dirt_of}
use Rattle.sgb_text.proofs.CleanGraphs.{some_map, n_clean, made_clean, arc_clean}
use Rattle.sgb_text.proofs.Fields.{dirt_first}

all_nil : {X : Type 0} (P : X → Type 0) → All P []
all_nil P i d l = absurd (omega arith)

all_cons : {X : Type 0} (P : X → Type 0) (x : X) (xs : List X) → P x → All P xs → All P (x ∷ xs)
all_cons P x xs p ps zero d h = p
all_cons P x xs p ps (suc i) d h = ps i d (omega arith)

all_map : {X Y : Type 0} (P : X → Type 0) (Q : Y → Type 0) (f : X → Y) (xs : List X) → ((x : X) → P x → Q (f x)) → All P xs → All Q (map f xs)
all_map P Q f [] step h = all_nil Q
all_map P Q f (x ∷ xs) step h = all_cons Q (f x) (map f xs) (step x (h 0 x (omega arith))) (all_map P Q f xs step (All-tail P x xs h))

-- ---- fields
pub length_clean : (ls : List ℕ) (us : List Util) → length us ≡ length ls → length (clean_fields ls us) ≡ length us
length_clean [] [] same = refl
length_clean [] (u ∷ us) same = absurd (omega arith)
length_clean (l ∷ ls) [] same = absurd (omega arith)
length_clean (l ∷ ls) (u ∷ us) same = ap suc (length_clean ls us (omega arith))

cleaned_allowed : (l : ℕ) (u : Util) → is_allowed l (cleaned l u) ≡ true
cleaned_allowed l u = elim (cases_Bool (is_allowed l u)) [
  | inl allowed ↦ rw allowed allowed
  | inr other ↦ rw other refl
]

clean_allowed : (ls : List ℕ) (us : List Util) → are_allowed ls (clean_fields ls us) ≡ true
clean_allowed ls [] = refl
clean_allowed [] (u ∷ us) = refl
clean_allowed (l ∷ ls) (u ∷ us) = ap (λ b. b && are_allowed ls (clean_fields ls us)) (cleaned_allowed l u) ∙ clean_allowed ls us

clean_same : (ls : List ℕ) (us : List Util) → length us ≡ length ls → are_allowed ls us ≡ true → clean_fields ls us ≡ us
clean_same [] [] same allowed = refl
clean_same [] (u ∷ us) same allowed = absurd (omega arith)
clean_same (l ∷ ls) [] same allowed = absurd (omega arith)
clean_same (l ∷ ls) (u ∷ us) same allowed =
    let p = and_parts (is_allowed l u) (are_allowed ls us) allowed in
    rw p.0 (ap (λ xs. u ∷ xs) (clean_same ls us (omega arith) p.1))

spotless : (ls : List ℕ) (us : List Util) → are_allowed ls us ≡ true → dirt_in ls us ≡ 0
spotless ls [] allowed = refl
spotless [] (u ∷ us) allowed = refl
spotless (l ∷ ls) (u ∷ us) allowed =
    let p = and_parts (is_allowed l u) (are_allowed ls us) allowed in
    let none : dirt_in (l ∷ ls) (u ∷ us) ≡ 0 + dirt_in ls us = dirt_first l u ls us ∙ ap (λ b. (if b then 0 else 1) + dirt_in ls us) p.0 in
    omega (arith, none, spotless ls us p.1)

-- ---- values
module _ (n n' : ℕ) (es es' : List (Option ArcOf)) (same : n ≡ n') (live : (k : ℕ) → IsSome (slice_index_or es k None) → IsSome (slice_index_or es' k None)) where
  value_kept : (u : Util) → IsValue n es u → IsValue n' es' u
  value_kept Zero v = tt
  value_kept (Int z) v = v
  value_kept (Vertex w) v = subst (λ (k : ℕ). w.0 < k) same v
  value_kept (Arc a) v = live a.0 v
  value_kept (Text t) v = v

  value_cleaned : (l : ℕ) (u : Util) → IsValue n es u → IsValue n' es' (cleaned l u)
  value_cleaned l u v = elim (cases_Bool (is_allowed l u)) [
    | inl allowed ↦ rw allowed (value_kept u v)
    | inr other ↦ rw other tt
  ]

  pub values_cleaned : (ls : List ℕ) (us : List Util) → All (IsValue n es) us → All (IsValue n' es') (clean_fields ls us)
  values_cleaned ls [] h = all_nil (IsValue n' es')
  values_cleaned [] (u ∷ us) h = all_nil (IsValue n' es')
  values_cleaned (l ∷ ls) (u ∷ us) h =
      all_cons (IsValue n' es') (cleaned l u) (clean_fields ls us) (value_cleaned l u (h 0 u (omega arith))) (values_cleaned ls us (All-tail (IsValue n es) u us h))

  tip_kept : (t : Tip) → IsTip n t → IsTip n' t
  tip_kept tips.Zero h = tt
  tip_kept tips.One h = tt
  tip_kept (tips.To w) h = subst (λ (k : ℕ). w.0 < k) same h

  vertex_cleaned : (types : List ℕ) → length types ≡ 14 → (v : VertexOf) → IsVertex n es v → IsVertex n' es' (clean_vertex types v)
  vertex_cleaned types fourteen v h = record {
    label = h.label;
    six = length_clean (vertex_letters types) v.fields (omega (arith, h.six, fourteen, length-take 6 types)) ∙ h.six;
    values = values_cleaned (vertex_letters types) v.fields h.values;
  }

  arc_cleaned : (types : List ℕ) → length types ≡ 14 → (e : ArcOf) → IsArc n es e → IsArc n' es' (clean_arc types e)
  arc_cleaned types fourteen e h = record {
    tip = tip_kept e.tip h.tip;
    len = h.len;
    two = length_clean (arc_letters types) e.fields (omega (arith, h.two, fourteen, length-take 2 (drop 6 types), length-drop 6 types)) ∙ h.two;
    values = values_cleaned (arc_letters types) e.fields h.values;
  }

  entry_cleaned : (types : List ℕ) → length types ≡ 14 → (o : Option ArcOf) → IfSome o (IsArc n es) → IfSome (option_map (clean_arc types) o) (IsArc n' es')
  entry_cleaned types fourteen None h = tt
  entry_cleaned types fourteen (Some e) h = arc_cleaned types fourteen e h

listings_clean : (types : List ℕ) (vs : List VertexOf) (k : ℕ) → listings k (map (clean_vertex types) vs) ≡ listings k vs
listings_clean types [] k = refl
listings_clean types (v ∷ vs) k =
    sum_by-cons (λ (x : VertexOf). occurrences k x.arcs) (clean_vertex types v) (map (clean_vertex types) vs)
    ∙ ap (λ n. occurrences k v.arcs + n) (listings_clean types vs k)
    ∙ sym (sum_by-cons (λ (x : VertexOf). occurrences k x.arcs) v vs)

live_clean : (g : GraphOf) (k : ℕ) → has_arc (clean_of g) k ≡ has_arc g k
live_clean g k = ap is_some (arc_clean g k) ∙ some_map (clean_arc g.types) (arc_at g k)

pub clean_is_sound : (g : GraphOf) → IsGraph g → IsGraph (clean_of g)
unfolding clean_of
clean_is_sound g h =
    let n' = n_of (clean_of g) in
    let es' = (clean_of g).entries in
    let same : n_of g ≡ n' = sym (n_clean g) in
    let live : (k : ℕ) → IsSome (slice_index_or g.entries k None) → IsSome (slice_index_or es' k None) = λ k s. live_clean g k ∙ s in
    record {
      listed = λ k. listings_clean g.types g.vertices k ∙ h.listed k ∙ ap (λ b. if b then 1 else 0) (sym (live_clean g k));
      id = h.id;
      types = h.types;
      six = length_clean (graph_letters g.types) g.fields (omega (arith, h.six, h.types.fourteen, length-drop 8 g.types)) ∙ h.six;
      values = values_cleaned (n_of g) n' g.entries es' same live (graph_letters g.types) g.fields h.values;
      vertices = all_map (IsVertex (n_of g) g.entries) (IsVertex n' es') (clean_vertex g.types) g.vertices (vertex_cleaned (n_of g) n' g.entries es' same live g.types h.types.fourteen) h.vertices;
      arcs = all_map (λ o. IfSome o (IsArc (n_of g) g.entries)) (λ o. IfSome o (IsArc n' es')) (option_map (clean_arc g.types)) g.entries (entry_cleaned (n_of g) n' g.entries es' same live g.types h.types.fourteen) h.arcs;
      few_vertices = omega (arith, h.few_vertices, n_clean g);
      few_arcs = omega (arith, h.few_arcs, made_clean g);
    }

-- ---- honest
vertices_honest : (types : List ℕ) (vs : List VertexOf) → list_all (is_honest_vertex types) (map (clean_vertex types) vs) ≡ true
vertices_honest types [] = refl
vertices_honest types (v ∷ vs) =
    ap (λ b. b && list_all (is_honest_vertex types) (map (clean_vertex types) vs)) (clean_allowed (vertex_letters types) v.fields) ∙ vertices_honest types vs

entry_honest : (types : List ℕ) (o : Option ArcOf) → is_honest_entry types (option_map (clean_arc types) o) ≡ true
entry_honest types None = refl
entry_honest types (Some e) = clean_allowed (arc_letters types) e.fields

entries_honest : (types : List ℕ) (os : List (Option ArcOf)) → list_all (is_honest_entry types) (map (option_map (clean_arc types)) os) ≡ true
entries_honest types [] = refl
entries_honest types (o ∷ os) =
    ap (λ b. b && list_all (is_honest_entry types) (map (option_map (clean_arc types)) os)) (entry_honest types o) ∙ entries_honest types os

pub clean_is_honest : (g : GraphOf) → is_honest (clean_of g) ≡ true
unfolding clean_of
clean_is_honest g = rw (clean_allowed (graph_letters g.types) g.fields, vertices_honest g.types g.vertices, entries_honest g.types g.entries) refl

-- ---- honest graphs stay
vertices_same : (n : ℕ) (es : List (Option ArcOf)) (types : List ℕ) (vs : List VertexOf) → length types ≡ 14 → All (IsVertex n es) vs → list_all (is_honest_vertex types) vs ≡ true → map (clean_vertex types) vs ≡ vs
vertices_same n es types [] fourteen h honest = refl
vertices_same n es types (v ∷ vs) fourteen h honest =
    let p = and_parts (is_honest_vertex types v) (list_all (is_honest_vertex types) vs) honest in
    let x = h 0 v (omega arith) in
    ap (λ us. record v { fields = us } ∷ map (clean_vertex types) vs) (clean_same (vertex_letters types) v.fields (omega (arith, x.six, fourteen, length-take 6 types)) p.0)
    ∙ ap (λ ys. v ∷ ys) (vertices_same n es types vs fourteen (All-tail (IsVertex n es) v vs h) p.1)

entry_same : (n : ℕ) (es : List (Option ArcOf)) (types : List ℕ) (o : Option ArcOf) → length types ≡ 14 → IfSome o (IsArc n es) → is_honest_entry types o ≡ true → option_map (clean_arc types) o ≡ o
entry_same n es types None fourteen h honest = refl
entry_same n es types (Some e) fourteen h honest =
    ap (λ us. Some (record e { fields = us })) (clean_same (arc_letters types) e.fields (omega (arith, h.two, fourteen, length-take 2 (drop 6 types), length-drop 6 types)) honest)

entries_same : (n : ℕ) (es : List (Option ArcOf)) (types : List ℕ) (os : List (Option ArcOf)) → length types ≡ 14 → All (λ o. IfSome o (IsArc n es)) os → list_all (is_honest_entry types) os ≡ true
    → map (option_map (clean_arc types)) os ≡ os
entries_same n es types [] fourteen h honest = refl
entries_same n es types (o ∷ os) fourteen h honest =
    let p = and_parts (is_honest_entry types o) (list_all (is_honest_entry types) os) honest in
    ap (λ x. x ∷ map (option_map (clean_arc types)) os) (entry_same n es types o fourteen (h 0 o (omega arith)) p.0)
    ∙ ap (λ ys. o ∷ ys) (entries_same n es types os fourteen (All-tail (λ x. IfSome x (IsArc n es)) o os h) p.1)

vertices_spotless : (types : List ℕ) (vs : List VertexOf) → list_all (is_honest_vertex types) vs ≡ true → sum_by (λ v. dirt_in (vertex_letters types) v.fields) vs ≡ 0
vertices_spotless types [] honest = refl
vertices_spotless types (v ∷ vs) honest =
    let p = and_parts (is_honest_vertex types v) (list_all (is_honest_vertex types) vs) honest in
    let more = sum_by-cons (λ (x : VertexOf). dirt_in (vertex_letters types) x.fields) v vs in
    omega (arith, more, spotless (vertex_letters types) v.fields p.0, vertices_spotless types vs p.1)

entry_spotless : (types : List ℕ) (o : Option ArcOf) → is_honest_entry types o ≡ true → dirt_in_entry types o ≡ 0
entry_spotless types None honest = refl
entry_spotless types (Some e) honest = spotless (arc_letters types) e.fields honest

entries_spotless : (types : List ℕ) (os : List (Option ArcOf)) → list_all (is_honest_entry types) os ≡ true → sum_by (dirt_in_entry types) os ≡ 0
entries_spotless types [] honest = refl
entries_spotless types (o ∷ os) honest =
    let p = and_parts (is_honest_entry types o) (list_all (is_honest_entry types) os) honest in
    omega (arith, sum_by-cons (dirt_in_entry types) o os, entry_spotless types o p.0, entries_spotless types os p.1)

module _ (g : GraphOf) (honest : is_honest g ≡ true) where
  parts : ((are_allowed (graph_letters g.types) g.fields && list_all (is_honest_vertex g.types) g.vertices) ≡ true) × (list_all (is_honest_entry g.types) g.entries ≡ true)
  parts = and_parts (are_allowed (graph_letters g.types) g.fields && list_all (is_honest_vertex g.types) g.vertices) (list_all (is_honest_entry g.types) g.entries) honest

  first_parts : (are_allowed (graph_letters g.types) g.fields ≡ true) × (list_all (is_honest_vertex g.types) g.vertices ≡ true)
  first_parts = and_parts (are_allowed (graph_letters g.types) g.fields) (list_all (is_honest_vertex g.types) g.vertices) parts.0

  pub honest_stays : IsGraph g → clean_of g ≡ g
  unfolding clean_of
  honest_stays h =
      ap (λ us. record g { fields = us; vertices = map (clean_vertex g.types) g.vertices; entries = map (option_map (clean_arc g.types)) g.entries })
      (clean_same (graph_letters g.types) g.fields (omega (arith, h.six, h.types.fourteen, length-drop 8 g.types)) first_parts.0)
      ∙ ap (λ vs. record g { vertices = vs; entries = map (option_map (clean_arc g.types)) g.entries }) (vertices_same (n_of g) g.entries g.types g.vertices h.types.fourteen h.vertices first_parts.1)
      ∙ ap (λ es. record g { entries = es }) (entries_same (n_of g) g.entries g.types g.entries h.types.fourteen h.arcs parts.1)

  pub honest_spotless : dirt_of g ≡ 0
  unfolding dirt_of
  honest_spotless = omega (arith, spotless (graph_letters g.types) g.fields first_parts.0, vertices_spotless g.types g.vertices first_parts.1, entries_spotless g.types g.entries parts.1)
