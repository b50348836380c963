use Rattle.std.proofs.Common.{ap, ◌∙◌}
use Rattle.sgb_combine.specs.Lengths.{with_lengths, lengthened, new_lengths}
use Rattle.sgb_combine.proofs.LengthUndo.{back_is, can_revert_is}
use Rattle.sgb_combine.proofs.lengths.random_lengths.Goals as goal

pub returns-clause-graph : goal.returns-clause-graph
unfolding lengthened
returns-clause-graph c = c.draw_prepared.ensures.graph ∙ ap (λ i. record (with_lengths c.args.graph.now (new_lengths c.args.spec.now c.args.graph.now c.args.flip.now)) { id = i }) c.in_ok-prepared.ensures.id

pub returns-clause-can_revert : goal.returns-clause-can_revert
returns-clause-can_revert c =
    can_revert_is c.draw_prepared.result.0 c.args.graph.now c.draw_prepared.new.graph _ _ c.draw_prepared.ensures.graph c.draw_prepared.ensures.lengths c.draw_prepared.ensures.id c.n.ensures.graph.id.short

pub returns-clause-back : goal.returns-clause-back
returns-clause-back c =
    back_is c.draw_prepared.result.0 c.args.graph.now c.draw_prepared.new.graph _ _ c.draw_prepared.ensures.graph c.draw_prepared.ensures.lengths c.draw_prepared.ensures.id
