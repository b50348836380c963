use Rattle.std.proofs.Common.{map}
use Rattle.std.specs.List.{range_with_len}
use Rattle.sgb_plan.proofs.Plans.{NamesFrom}
use Rattle.sgb_graph_tests.specs.Path.{path_vertex}
use Rattle.sgb_graph_tests.proofs.plan.example.name_vertices.Given as goal

abbrev pub invariant-loop-v : goal.invariant-loop-v
invariant-loop-v l = NamesFrom l.initial.builder (map path_vertex (range_with_len 0 l.n)) l.builder path_vertex l.v l.n
