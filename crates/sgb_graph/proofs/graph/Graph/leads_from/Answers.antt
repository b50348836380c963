use Rattle.std.proofs.Common.{◌∙◌, sym, arith}
use Rattle.sgb_graph.proofs.PairedLemmas.{leads_from_past, leads_from_is}
use Rattle.sgb_graph.proofs.graph.Graph.leads_from.Goals as goal

pub returns-then-number-made : goal.returns-then-number-made
returns-then-number-made c = sym (leads_from_past c.args.self.now c.args.number c.args.from c.args.to (omega arith))

pub returns : goal.returns
returns c = c.goes.ensures ∙ sym (leads_from_is c.args.self.now c.args.number c.args.from c.args.to _ c.arc.ensures.value)
