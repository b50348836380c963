use Rattle.std.proofs.Common.{arith}
use Rattle.sgb_undo.proofs.JournalLists.{IsJournal-seen, length-deltas, length-undone}
use Rattle.sgb_undo.proofs.journal.Journal.undone.Goals as goal

pub overflow_sub-result : goal.overflow_sub-result
overflow_sub-result g c =
    let held = length-deltas c.self.invariant in
    omega (arith, c.self.inside.commands.ok.0, c.self.inside.deltas.ok.0)

pub returns-clause-value : goal.returns-clause-value
returns-clause-value g c =
    let told = length-undone c.self.invariant c.self.inside.deltas.ok.0 c.self.view_is in
    omega (arith, c.self.inside.commands.ok.0)

pub returns-clause-sound : goal.returns-clause-sound
returns-clause-sound g c = IsJournal-seen c.self.invariant c.self.inside.deltas.ok.0 c.self.view_is
