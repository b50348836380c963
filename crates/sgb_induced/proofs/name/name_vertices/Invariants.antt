use Rattle.sgb_graph.specs.Graph.{n_of}
use Rattle.sgb_induced.specs.Fate.{fates_of}
use Rattle.sgb_induced.specs.Image.{named, named_at}
use Rattle.sgb_induced.proofs.CopyNames.{NamesRuns}
use Rattle.sgb_induced.proofs.name.name_vertices.Given as goal

abbrev pub invariant-loop-v : goal.invariant-loop-v
invariant-loop-v l = NamesRuns l.initial.builder (named l.graph (fates_of l.graph)) l.builder (named_at l.graph (fates_of l.graph)) l.v (n_of l.graph)
