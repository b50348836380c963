-- Lemmas on vertices and slots that show a graph.
use Rattle.std.proofs.Common.{◌≡◌, ◌<◌, ◌+◌, ℕ, List, length, get_or, map, Option, Some, None, is_some, IsSome, IfSome, All, true, refl, sym, ap, subst, ◌∙◌, arith, FitsSigned}
use Rattle.std.specs.Int.{w64}
use Rattle.sgb_graph.specs.Read.{entry_view, arc_view}
use Rattle.std.proofs.lemmas.List.{get_or-map, length-map, same_lists, get_or_default}
use Rattle.sgb_graph.specs.declared.field.ArcNo.{ArcNo}
use Rattle.sgb_graph.specs.declared.graph.Vertex.{Vertex}
use Rattle.sgb_graph.specs.declared.graph.arena.Slot.{Slot}
use Rattle.sgb_graph.specs.declared.graph.read.ArcView.{ArcView}
use Rattle.sgb_graph.specs.declared.graph.Graph.TheInside.{Inside}
use Rattle.sgb_graph.specs.Graph.{GraphOf, ArcOf, IsGraph, IsArc, n_of, made_of, m_of, vertex_at, no_vertex, arcs_of, arc_at, has_arc, occurrences}
use Rattle.sgb_graph.specs.Edit.{owner_of}
use Rattle.sgb_graph.specs.Chain.{Leads}
use Rattle.sgb_graph.specs.Private.Arena.{Slots, Shows, ShowsVertex, IsLinked, IsArena, slot_at, next_at, entry_of, owner_in, view_in, numbers, vertex_of, graph_of}
use Rattle.sgb_graph.specs.Private.Link.{any_vertex, vertex_in}
use Rattle.sgb_graph.proofs.Graphs.{owner_is, arcs_live, few_arcs_of, made_of_live}
use Rattle.sgb_graph.proofs.Cells.{live_low}
use Rattle.sgb_graph.proofs.Chains.{chain_is}
use Rattle.sgb_graph.specs.Private.SameLaws.{same_vertex, same_graph}

-- what is known of the fields of a graph g
pub record Opened (a : Inside) (g : GraphOf) : Type 0 where
  pub graph : IsGraph g
  pub shows : Shows a.vertices a.slots g
  pub holes : a.holes + m_of g ≡ made_of g
  pub id : a.id ≡ g.id
  pub types : a.types ≡ g.types
  pub fields : a.fields ≡ g.fields

pub opened : (a : Inside) (g : GraphOf) → graph_of a ≡ g → IsArena a → Opened a g
opened a g same arena =
    subst (Opened a) same
    (record { graph = arena.graph; shows = arena.shows; holes = arena.holes; id = refl; types = refl; fields = refl })

-- what the slots show apart from their counts of names
pub record ShowsBut (vs : List Vertex) (ss : Slots) (g : GraphOf) : Type 0 where
  pub n : length vs ≡ n_of g
  pub vertices : (v : ℕ) (d : Vertex) → v < n_of g → ShowsVertex ss (get_or vs v d) (vertex_at g v)
  pub made : length ss ≡ made_of g
  pub entries : (k : ℕ) → entry_of (slot_at ss k) ≡ arc_at g k
  pub owners : (k : ℕ) → IfSome (owner_in (slot_at ss k)) (λ v. occurrences k (arcs_of g v.0) ≡ 1)

pub but_of : (vs : List Vertex) (ss : Slots) (g : GraphOf) → Shows vs ss g → ShowsBut vs ss g
but_of vs ss g x = record { n = x.n; vertices = x.vertices; made = x.made; entries = x.entries; owners = x.owners }

-- the slot of a live arc
pub slot_lives : (o : Option Slot) (e : Option ArcOf) → entry_of o ≡ e → is_some e ≡ true → IsSome o
slot_lives None None same live = absurd cc
slot_lives None (Some e) same live = absurd cc
slot_lives (Some s) e same live = refl

-- the links of a vertex give its arcs
pub numbers_are : (vs : List Vertex) (ss : Slots) (g : GraphOf) (v : ℕ) (d : Vertex) → ShowsBut vs ss g → IsGraph g → v < n_of g → numbers ss (get_or vs v d).first ≡ arcs_of g v
numbers_are vs ss g v d shows sound h =
    chain_is (next_at ss) (get_or vs v d).first (arcs_of g v) (length ss) (shows.vertices v d h).arcs
    (omega (arith, few_arcs_of g v sound, shows.made))

pub linked_first : (vs : List Vertex) (ss : Slots) (g : GraphOf) (v : ℕ) (d : Vertex) → ShowsBut vs ss g → IsGraph g → v < n_of g → IsLinked ss (get_or vs v d).first
linked_first vs ss g v d shows sound h =
    let same = numbers_are vs ss g v d shows sound h in
    record {
      ends = subst (λ ks. Leads (next_at ss) (get_or vs v d).first ks None) (sym same) (shows.vertices v d h).arcs;
      live = subst (λ ks. All (λ k. IsSome (slot_at ss k)) ks) (sym same) (λ i e l.
          let k = get_or (arcs_of g v) i e in
          slot_lives (slot_at ss k) (arc_at g k) (shows.entries k) (arcs_live g v sound i e l).live);
    }

-- fields that show a sound graph are an arena whose view is that graph
pub closed_vertices : (vs : List Vertex) (ss : Slots) (g : GraphOf) → Shows vs ss g → IsGraph g → map (vertex_of ss) vs ≡ g.vertices
closed_vertices vs ss g shows sound =
    same_lists (map (vertex_of ss) vs) g.vertices (length-map vs (vertex_of ss) ∙ shows.n)
    (λ v d h.
    let low : v < length vs = omega (arith, length-map vs (vertex_of ss)) in
    let low' : v < n_of g = omega (arith, shows.n) in
    let x = shows.vertices v any_vertex low' in
    get_or-map (vertex_of ss) vs v any_vertex d low
    ∙ (same_vertex (vertex_of ss (get_or vs v any_vertex)) (vertex_at g v) x.label x.fields (numbers_are vs ss g v any_vertex (but_of vs ss g shows) sound low')
    ∙ get_or_default g.vertices v no_vertex d low'))

pub closed_entries : (vs : List Vertex) (ss : Slots) (g : GraphOf) → Shows vs ss g → map entry_of ss ≡ g.entries
closed_entries vs ss g shows =
    same_lists (map entry_of ss) g.entries (length-map ss entry_of ∙ shows.made)
    (λ k d h.
    let low : k < length ss = omega (arith, length-map ss entry_of) in
    get_or-map entry_of ss k None d low
    ∙ (shows.entries k ∙ get_or_default g.entries k None d (omega (arith, shows.made))))

pub closed : (a : Inside) (g : GraphOf) → Opened a g → graph_of a ≡ g
closed a g o =
    same_graph (graph_of a) g o.id o.types o.fields
    (closed_vertices a.vertices a.slots g o.shows o.graph)
    (closed_entries a.vertices a.slots g o.shows)

pub closed_arena : (a : Inside) (g : GraphOf) → Opened a g → IsArena a
closed_arena a g o =
    let same : g ≡ graph_of a = sym (closed a g o) in
    record {
      graph = subst IsGraph same o.graph;
      shows = subst (Shows a.vertices a.slots) same o.shows;
      holes = subst (λ h. a.holes + m_of h ≡ made_of h) same o.holes;
    }

-- the slot of a live arc shows the arc and its owner
pub record ShowsArc (g : GraphOf) (k : ℕ) (s : Slot) : Type 0 where
  pub entry : arc_at g k ≡ Some (record { tip = s.tip; len = s.len; fields = s.fields })
  pub owner : owner_of g k ≡ s.owner.0
  pub len : FitsSigned w64 s.len

pub shows_arc : (vs : List Vertex) (ss : Slots) (g : GraphOf) (k : ℕ) (s : Slot) → Shows vs ss g → IsGraph g → slot_at ss k ≡ Some s → ShowsArc g k s
shows_arc vs ss g k s shows sound is =
    let entry : arc_at g k ≡ Some (record { tip = s.tip; len = s.len; fields = s.fields }) = sym (shows.entries k) ∙ ap entry_of is in
    let live : has_arc g k ≡ true = ap is_some entry in
    let once : occurrences k (arcs_of g s.owner.0) ≡ 1 =
    subst (λ o. IfSome (owner_in o) (λ v. occurrences k (arcs_of g v.0) ≡ 1)) is (shows.owners k) in
    let arc : IsArc (n_of g) g.entries (record { tip = s.tip; len = s.len; fields = s.fields }) =
    subst (λ o. IfSome o (IsArc (n_of g) g.entries)) entry (sound.arcs k None (made_of_live g k live)) in
    record { entry = entry; owner = owner_is g k s.owner.0 sound (omega arith); len = arc.len }

-- what `arc` answers
view_of_slot : (a : Inside) (g : GraphOf) (k : ℕ) (o : Option Slot) → Opened a g → slot_at a.slots k ≡ o → view_in o ≡ arc_view g k
view_of_slot a g k None x is = ap (entry_view (owner_of g k)) (sym (ap entry_of is) ∙ x.shows.entries k)
view_of_slot a g k (Some s) x is =
    let y = shows_arc a.vertices a.slots g k s x.shows x.graph is in
    ap (λ v. Some (record { owner = record { 0 = v }; tip = s.tip; len = s.len })) (sym y.owner)
    ∙ ap (entry_view (owner_of g k)) (sym y.entry)

pub view_is : (a : Inside) (g : GraphOf) (k : ℕ) (r : Option ArcView) → graph_of a ≡ g → IsArena a → r ≡ view_in (slot_at a.slots k) → r ≡ arc_view g k
view_is a g k r same arena is = is ∙ view_of_slot a g k (slot_at a.slots k) (opened a g same arena) refl

-- what `arcs` walks along
pub linked_at : (a : Inside) (g : GraphOf) (v : ℕ) (link : Option ArcNo) (ss : Slots) → graph_of a ≡ g → IsArena a → v < n_of g → link ≡ (vertex_in a.vertices v).first → ss ≡ a.slots → IsLinked ss link
linked_at a g v link ss same arena h read is =
    let o = opened a g same arena in
    subst (λ s. IsLinked s link) (sym is)
    (subst (IsLinked a.slots) (sym read) (linked_first a.vertices a.slots g v any_vertex (but_of a.vertices a.slots g o.shows) o.graph h))

pub within_made : (a : Inside) (g : GraphOf) (v : ℕ) (link : Option ArcNo) (ss : Slots) (ks : List ℕ) → graph_of a ≡ g → IsArena a → v < n_of g → link ≡ (vertex_in a.vertices v).first → ss ≡ a.slots → ks ≡ numbers ss link → All (λ k. k < made_of g) ks
within_made a g v link ss ks same arena h read is are =
    let o = opened a g same arena in
    let l = linked_at a g v link ss same arena h read is in
    subst (λ js. All (λ k. k < made_of g) js) (sym are) (λ i d low. omega (arith, live_low ss (get_or (numbers ss link) i d) (l.live i d low), ap length is, o.shows.made))
