use Rattle.std.proofs.Common.{rules}
use Rattle.sgb_graph.proofs.NewLemmas.{new_graph_is}
use Rattle.sgb_graph.proofs.graph.Graph.new.Goals as goal

pub returns-clause-ok : goal.returns-clause-ok
returns-clause-ok c = (
  search rules,
  new_graph_is _ _ _ _ c.args.n c.bare_graph.ensures.value c.in_ok-id.ensures.0 c.none.ensures.value c.in_ok-vertices.ensures.ok,
  c.bare_graph.ensures.graph,
)
