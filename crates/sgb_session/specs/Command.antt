-- What a command does to the session: a single one, or a group.
use Rattle.std.specs.Prelude.{Bool, nat_lt, length}
use Rattle.sgb_script.specs.declared.command.Command.{Command}
use Rattle.sgb_script.specs.declared.command.Command.TheVariants.{One, Group}
use Rattle.sgb_script.specs.declared.refusal.ShellRefusal.{ShellRefusal}
use Rattle.sgb_session.specs.declared.reply.Delta.{Delta}
use Rattle.sgb_session.specs.declared.reply.Delta.TheVariants as deltas
use Rattle.sgb_session.specs.declared.reply.Reply.{Reply}
use Rattle.sgb_session.specs.declared.reply.Reply.TheVariants as replies
use Rattle.sgb_session.specs.State.{State}
use Rattle.sgb_session.specs.State as single
use Rattle.sgb_undo.specs.Group.{step_all, answered_as, CanRevertAll}
use Rattle.sgb_undo.specs.Outcome.{Outcome}
use Rattle.sgb_undo.specs.Replay.{start_of}

abbrev pub CommandOutcome : Type 0
CommandOutcome = Outcome State Delta Reply ShellRefusal

-- a group does what its members do one after another, and is refused as the first of them that is refused
abbrev pub step : State → Command → CommandOutcome
step s (One c) = answered_as deltas.One replies.One (single.step s c)
step s (Group cs) = answered_as deltas.Group replies.Group (step_all single.step s cs)

-- a group, unless it is empty, allocates for what its members leave and reply
abbrev pub may_want : State → Command → Bool
may_want s (One c) = single.may_want s c
may_want s (Group cs) = nat_lt 0 (length cs)

-- members are undone one after another, the last first
abbrev pub before : State → Delta → State
before s (deltas.One d) = single.before s d
before s (deltas.Group ds) = start_of single.before s ds

abbrev pub can_revert : State → Delta → Type 0
can_revert s (deltas.One d) = single.can_revert s d
can_revert s (deltas.Group ds) = CanRevertAll single.before single.can_revert s ds
