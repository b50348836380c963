-- Lemmas on what the readers of a graph show.
use Rattle.std.proofs.Common.{◌≡◌, ◌<◌, ℕ, List, [], ◌∷◌, ◌++◌, get_or, Option, Some, None, IsSome, IfSome, All, refl, ap, subst, ◌∙◌}
use Rattle.sgb_graph.specs.declared.field.ArcNo.{ArcNo}
use Rattle.sgb_graph.specs.declared.graph.Graph.TheInside.{Inside}
use Rattle.sgb_graph.specs.Graph.{GraphOf, ArcOf, IsGraph, IsArc, IsTip, n_of, made_of, arcs_of, arc_at}
use Rattle.sgb_graph.specs.Edit.{owner_of, entry_at, arc_or, no_arc}
use Rattle.sgb_graph.specs.Read.{entry_view, arc_view, ShowsEntry, first_of, IsNextOf}
use Rattle.sgb_graph.specs.Chain.{Leads}
use Rattle.sgb_graph.specs.Private.Arena.{Slots, IsArena, slot_at, next_at, entry_of, numbers, graph_of}
use Rattle.sgb_graph.specs.Private.Link.{any_vertex, vertex_in}
use Rattle.sgb_graph.specs.Private.Exchange.{fields_in}
use Rattle.sgb_graph.proofs.Counts.{occurs_at}
use Rattle.sgb_graph.proofs.Graphs.{owner_is}
use Rattle.sgb_graph.proofs.Shows.{opened, but_of, numbers_are, slot_lives}
use Rattle.sgb_graph.proofs.ExchangeLemmas.{fields_of_entry}

-- the list that `arcs` walks along
pub arcs_are : (a : Inside) (g : GraphOf) (v : ℕ) (link : Option ArcNo) (ss : Slots) (ks : List ℕ) → graph_of a ≡ g → IsArena a → v < n_of g → link ≡ (vertex_in a.vertices v).first → ss ≡ a.slots → ks ≡ numbers ss link → ks ≡ arcs_of g v
arcs_are a g v link ss ks same arena h read is are =
    let o = opened a g same arena in
    are
    ∙ (ap (λ s. numbers s link) is
    ∙ (ap (numbers a.slots) read
    ∙ numbers_are a.vertices a.slots g v any_vertex (but_of a.vertices a.slots g o.shows) o.graph h))

pub arcs_owned : (g : GraphOf) (v : ℕ) → IsGraph g → All (λ k. owner_of g k ≡ v) (arcs_of g v)
arcs_owned g v sound i d h = owner_is g (get_or (arcs_of g v) i d) v sound (occurs_at (arcs_of g v) i d h)

-- what `arc` shows
pub tip_of_view : (n v : ℕ) (es : List (Option ArcOf)) (o : Option ArcOf) → IfSome o (IsArc n es) → IfSome (entry_view v o) (λ a. IsTip n a.tip)
tip_of_view n v es None x = tt
tip_of_view n v es (Some e) x = x.tip

pub entry_of_view : (v : ℕ) (o : Option ArcOf) → IfSome (entry_view v o) (ShowsEntry (arc_or no_arc o))
entry_of_view v None = tt
entry_of_view v (Some e) = record { tip = refl; len = refl }

pub view_tip : (g : GraphOf) (k : ℕ) → IsGraph g → k < made_of g → IfSome (arc_view g k) (λ a. IsTip (n_of g) a.tip)
view_tip g k sound made = tip_of_view (n_of g) (owner_of g k) g.entries (arc_at g k) (sound.arcs k None made)

-- links that lead along a list lead from each number to the next
pub first_is : (next : ℕ → Option ArcNo) (link : Option ArcNo) (ks : List ℕ) → Leads next link ks None → link ≡ first_of ks
unfolding Leads
first_is next link [] l = l
first_is next link (k ∷ ks) l = l.0

next_in : (next : ℕ → Option ArcNo) (link : Option ArcNo) (before : List ℕ) (k : ℕ) (after : List ℕ) → Leads next link (before ++ (k ∷ after)) None → next k ≡ first_of after
unfolding Leads
next_in next link [] k after l = first_is next (next k) after l.1
next_in next link (j ∷ before) k after l = next_in next (next j) before k after l.1

pub next_is : (a : Inside) (g : GraphOf) (k : ℕ) (ss : Slots) (link : Option ArcNo) → graph_of a ≡ g → IsArena a → ss ≡ a.slots → link ≡ next_at ss k → IsNextOf g k link
next_is a g k ss link same arena is link_is v low before after list =
    let o = opened a g same arena in
    let x = get_or a.vertices v any_vertex in
    link_is
    ∙ (ap (λ s. next_at s k) is
    ∙ next_in (next_at a.slots) x.first before k after
    (subst (λ ks. Leads (next_at a.slots) x.first ks None) list (o.shows.vertices v any_vertex low).arcs))

pub live_slot : (a : Inside) (g : GraphOf) (k : ℕ) (ss : Slots) → graph_of a ≡ g → IsArena a → ss ≡ a.slots → IsSome (arc_at g k) → IsSome (slot_at ss k)
live_slot a g k ss same arena is live =
    let o = opened a g same arena in
    slot_lives (slot_at ss k) (arc_at g k) (ap (λ s. entry_of (slot_at s k)) is ∙ o.shows.entries k) live

-- the fields of a live arc
pub fields_are : (a : Inside) (g : GraphOf) (k : ℕ) (ss : Slots) → graph_of a ≡ g → IsArena a → ss ≡ a.slots → IsSome (arc_at g k) → fields_in (slot_at ss k) ≡ (entry_at g k).fields
fields_are a g k ss same arena is live =
    let o = opened a g same arena in
    ap (λ s. fields_in (slot_at s k)) is ∙ fields_of_entry (slot_at a.slots k) (arc_at g k) (o.shows.entries k) live
