use Rattle.std.proofs.Common.{◌∙◌, sym}
use Rattle.sgb_graph.proofs.PairedLemmas.{is_matched_is}
use Rattle.sgb_graph.proofs.graph.Graph.is_matched.Goals as goal

pub returns-in-Some : goal.returns-in-Some
returns-in-Some c = c.is_tip_matched.ensures ∙ sym (is_matched_is c.args.self.now c.args.number.0 _ c.in-Some.ensures.value)

pub returns-in-None : goal.returns-in-None
returns-in-None c = sym (is_matched_is c.args.self.now c.args.number.0 _ c.in-None.ensures.value)
