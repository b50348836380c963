use Rattle.std.proofs.Common.{sym, ◌∙◌}
use Rattle.sgb_undo.proofs.JournalLists.{IsJournal-seen, length-standing}
use Rattle.sgb_undo.proofs.journal.Journal.standing.Goals as goal

pub returns-clause-value : goal.returns-clause-value
returns-clause-value g c =
    c.len.ensures ∙ sym (length-standing c.self.invariant c.self.inside.deltas.ok.0 c.self.view_is)

pub returns-clause-sound : goal.returns-clause-sound
returns-clause-sound g c = IsJournal-seen c.self.invariant c.self.inside.deltas.ok.0 c.self.view_is
