use Rattle.std.proofs.Common.{refl}
use Rattle.sgb_graph.specs.Chain.{chain}
use Rattle.sgb_graph.specs.Sound.{is_graph}
use Rattle.sgb_graph.specs.Linked.{linked, graph_of_parts}
use Rattle.sgb_graph_tests.proofs.saved.computed.tangled.Goals as goal

pub returns : goal.returns
unfolding chain is_graph linked graph_of_parts
returns c = record { returns = refl; leaves = refl; meets = refl }
