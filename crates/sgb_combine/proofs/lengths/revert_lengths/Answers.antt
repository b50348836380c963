use Rattle.std.proofs.Common.{◌∙◌}
use Rattle.sgb_combine.proofs.LengthUndo.{before_is}
use Rattle.sgb_combine.proofs.lengths.revert_lengths.Goals as goal

pub returns-clause-graph : goal.returns-clause-graph
returns-clause-graph c = before_is c.args.delta c.args.graph.now c.give_lengths.new.graph c.swap_id.new.self _ (c.deref.ensures.value ∙ c.into_vec-lengths.ensures) c.give_lengths.ensures.graph c.swap_id.ensures.graph
