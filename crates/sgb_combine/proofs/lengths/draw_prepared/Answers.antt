use Rattle.std.proofs.Common.{ap, ◌∙◌}
use Rattle.sgb_combine.specs.Lengths.{with_lengths}
use Rattle.sgb_combine.proofs.lengths.draw_prepared.Goals as goal

pub returns-clause-id : goal.returns-clause-id
unfolding with_lengths
returns-clause-id c = c.swap_id-id.ensures.value ∙ ap (λ g. g.id) c.exchange_lengths.ensures.graph
