use Rattle.sgb_graph.specs.Graph.{n_of}
use Rattle.sgb_plan.proofs.Plans.{NamesFrom}
use Rattle.sgb_combine.specs.Combined.{named_as, vertices_of}
use Rattle.sgb_combine.proofs.begin.name_vertices.Given as goal

abbrev pub invariant-loop-v : goal.invariant-loop-v
invariant-loop-v l = NamesFrom l.fn.builder (vertices_of l.graph) l.builder (named_as l.graph) l.v (n_of l.graph)
