use Rattle.std.proofs.Common.{◌≡◌, ◌==◌, ◌||◌, ◌≤◌, ◌<◌, ◌+◌, ℕ, length, get_or, All, IsSome}
use Rattle.std.specs.List.{list_any}
use Rattle.sgb_graph.specs.Graph.{arc_at, made_of, n_of}
use Rattle.sgb_export.specs.Private.Marks.{has_arc_to, leads_to}
use Rattle.sgb_export.proofs.graph6.mark_neighbours.Given as goal

abbrev pub invariant-loop-number : goal.invariant-loop-number
invariant-loop-number l = record {
  marked : (w : ℕ) → ((get_or l.marks w 0 == (l.fn.vertex.0 + 1)) || list_any (leads_to l.graph w) l.number-iterator) ≡ has_arc_to l.graph l.fn.vertex.0 w;
  count : length l.marks ≡ n_of l.graph;
  low : All (λ m. m ≤ l.fn.vertex.0 + 1) l.marks;
  live : All (λ k. IsSome (arc_at l.graph k)) l.number-iterator;
  within : All (λ k. k < made_of l.graph) l.number-iterator;
}
