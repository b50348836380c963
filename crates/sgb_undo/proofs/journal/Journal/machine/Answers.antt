use Rattle.sgb_undo.proofs.JournalLists.{IsJournal-seen}
use Rattle.sgb_undo.proofs.journal.Journal.machine.Goals as goal

pub returns-clause-sound : goal.returns-clause-sound
returns-clause-sound g c = IsJournal-seen c.self.invariant c.self.inside.deltas.ok.0 c.self.view_is
