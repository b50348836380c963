use Rattle.std.proofs.Common.{◌∙◌}
use Rattle.sgb_graph.proofs.Loopless.{own_loop_none, own_loop_some}
use Rattle.sgb_graph.proofs.graph.Graph.is_own_loop.Goals as goal

pub returns-in-Some : goal.returns-in-Some
returns-in-Some c = c.is_vertex.ensures ∙ own_loop_some c.args.self.now c.args.number.0 c.in-Some.arc c.in-Some.ensures.value

pub returns-in-None : goal.returns-in-None
returns-in-None c = own_loop_none c.args.self.now c.args.number.0 c.in-None.ensures.value
