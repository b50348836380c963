use Rattle.sgb_undo.proofs.GroupSteps.{fold-all, deltas_of-all}
use Rattle.sgb_undo.proofs.group.group_law.Goals as goal

pub returns-clause-value : goal.returns-clause-value
returns-clause-value g c = fold-all g.M.Reversible.step

pub returns-clause-deltas : goal.returns-clause-deltas
returns-clause-deltas g c = deltas_of-all g.M.Reversible.step
