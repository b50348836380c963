-- The parts that are read of a graph's text build the graph.
use Rattle.std.proofs.Common.{◌≡◌, ℕ, ◌<◌, true, List, [], ◌∷◌, ◌++◌, map, Option, Some, None, IfSome, is_some, refl, sym, ap, ◌∙◌, arith, subst, append_assoc}
use Rattle.std.specs.List.{range_with_len}
use Rattle.std.proofs.lemmas.List.{length-map}
use Rattle.std.proofs.lemmas.List.FromFn.{get_or-map-range_with_len, length-map-range_with_len}
use Rattle.sgb_graph.specs.declared.field.ArcNo.{ArcNo}
use Rattle.sgb_graph.specs.declared.parts.VertexPart.{VertexPart}
use Rattle.sgb_graph.specs.declared.parts.ArcPart.{ArcPart}
use Rattle.sgb_graph.specs.Chain.{Leads}
use Rattle.sgb_graph.specs.Edit.{stored}
use Rattle.sgb_graph.specs.Graph.{GraphOf, ArcOf, IsGraph, n_of, made_of, no_vertex, vertex_at, arcs_of, arc_at}
use Rattle.sgb_graph.specs.Honest.{vertex_letters, arc_letters, graph_letters, is_honest}
use Rattle.sgb_graph.specs.Parts.{BuildsOf, IsVertexOf, IsArcOf, any_arc_part, vertex_part, arc_part, next_part}
use Rattle.sgb_graph.specs.Read.{first_of}
use Rattle.sgb_graph.proofs.Graphs.{listed_live, made_of_live}
use Rattle.sgb_text.specs.Save.{next_link, hole}
use Rattle.sgb_text.proofs.CleanGraphs.{get_or_map}
use Rattle.sgb_text.proofs.Links.{next_along, occurs_along}
use Rattle.sgb_text.proofs.FieldItems.{raws, stored_raws}
use Rattle.sgb_text.proofs.RecordLayout.{vertex_part_of, arc_part_of}
use Rattle.sgb_text.proofs.Sound.{own_fields, vertex_fields, arc_fields}

-- the part that is read of an arc number
abbrev pub entry_part : List ℕ → Option ArcNo → Option ArcOf → ArcPart
entry_part types link None = arc_part_of types None hole
entry_part types link (Some e) = arc_part_of types link e

abbrev pub number_part : GraphOf → ℕ → ArcPart
number_part g k = entry_part g.types (next_link g k) (arc_at g k)

abbrev pub arc_parts : GraphOf → List ArcPart
arc_parts g = map (number_part g) (range_with_len 0 (made_of g))

abbrev pub vertex_parts : GraphOf → List VertexPart
vertex_parts g = map (vertex_part_of g.types) g.vertices

some_live : {A : Type 0} (o : Option A) (e : A) → o ≡ Some e → is_some o ≡ true
some_live o e at = ap is_some at

live_some : {A : Type 0} (o : Option A) → is_some o ≡ true → (e : A) × (o ≡ Some e)
live_some None live = cc
live_some (Some e) live = (e, refl)

module _ (g : GraphOf) (sound : IsGraph g) (honest : is_honest g ≡ true) where
  live_part : (k : ℕ) (e : ArcOf) → arc_at g k ≡ Some e → arc_part (arc_parts g) k ≡ arc_part_of g.types (next_link g k) e
  live_part k e at =
      let within = made_of_live g k (some_live (arc_at g k) e at) in
      get_or-map-range_with_len (number_part g) 0 (made_of g) k k any_arc_part within (omega arith)
      ∙ ap (entry_part g.types (next_link g k)) at

  arc_is : (k : ℕ) (e : ArcOf) → arc_at g k ≡ Some e → IsArcOf (arc_part (arc_parts g) k) e
  arc_is k e at =
      let part = live_part k e at in
      let f = arc_fields g sound honest k e at in
      record {
        tip = sym (ap (λ (p : ArcPart). p.tip) part);
        len = sym (ap (λ (p : ArcPart). p.len) part);
        fields = stored_raws (arc_letters g.types) e.fields f.same f.good ∙ sym (ap (λ (p : ArcPart). map stored p.fields) part);
      }

  if_some : (k : ℕ) (o : Option ArcOf) → arc_at g k ≡ o → IfSome o (IsArcOf (arc_part (arc_parts g) k))
  if_some k None at = tt
  if_some k (Some e) at = arc_is k e at

  -- along a vertex's list
  leads : (v : ℕ) (before ks : List ℕ) → arcs_of g v ≡ before ++ ks → Leads (next_part (arc_parts g)) (first_of ks) ks None
  unfolding Leads
  leads v before [] whole = refl
  leads v before (k ∷ ks) whole =
      let listed = occurs_along g v k before ks whole in
      let live = live_some (arc_at g k) (listed_live g k v sound listed).live in
      let next : next_part (arc_parts g) k ≡ first_of ks = ap (λ (p : ArcPart). p.next) (live_part k live.0 live.1) ∙ next_along g v k before ks sound whole in (
        refl,
        subst (λ (l : Option ArcNo). Leads (next_part (arc_parts g)) l ks None) (sym next)
            (leads v (before ++ k ∷ []) ks (whole ∙ sym (append_assoc before (k ∷ []) ks))),
      )

  vertex_is : (v : ℕ) → v < n_of g → IsVertexOf (arc_parts g) (vertex_part (vertex_parts g) v) (vertex_at g v)
  vertex_is v h =
      let part : vertex_part (vertex_parts g) v ≡ vertex_part_of g.types (vertex_at g v) = get_or_map (vertex_part_of g.types) g.vertices v no_vertex in
      let f = vertex_fields g sound honest v h in
      record {
        label = sym (ap (λ (p : VertexPart). p.label) part);
        fields = stored_raws (vertex_letters g.types) (vertex_at g v).fields f.same f.good ∙ sym (ap (λ (p : VertexPart). map stored p.fields) part);
        arcs = subst (λ (l : Option ArcNo). Leads (next_part (arc_parts g)) l (arcs_of g v) None) (sym (ap (λ (p : VertexPart). p.first) part)) (leads v [] (arcs_of g v) refl);
      }

  pub builds : BuildsOf g.id g.types (raws (graph_letters g.types) g.fields) (vertex_parts g) (arc_parts g) g
  builds = record {
    id = refl;
    types = refl;
    fields = stored_raws (graph_letters g.types) g.fields (own_fields g sound honest).same (own_fields g sound honest).good;
    n = sym (length-map g.vertices (vertex_part_of g.types));
    vertices = vertex_is;
    made = sym (length-map-range_with_len (number_part g) 0 (made_of g));
    arcs = λ k. if_some k (arc_at g k) refl;
    graph = sound;
  }
