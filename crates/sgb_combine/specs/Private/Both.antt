-- Spokes that are read from the arcs of a vertex.
use Rattle.std.specs.Prelude.{ℕ, List, map, Bool}
use Rattle.std.specs.List.{filter}
use Rattle.sgb_graph.specs.Graph.{GraphOf}
use Rattle.sgb_graph.specs.Edit.{entry_at}
use Rattle.sgb_graph.specs.declared.spoke.Spoke.{Spoke}
use Rattle.sgb_graph.specs.Operand.{spoke_of}

-- the spokes of the arcs of these numbers, of those that pass
abbrev pub passing : GraphOf → (Spoke → Bool) → List ℕ → List Spoke
passing g p ks = filter p (map (λ k. spoke_of (entry_at g k)) ks)
