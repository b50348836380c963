use Rattle.std.proofs.Common.{sym, ◌∙◌}
use Rattle.sgb_graph.proofs.LoopWalks.{live_linked, within_linked}
use Rattle.sgb_graph.proofs.graph.walk.past.Goals as goal

pub is_pair-requires-clause-second : goal.is_pair-requires-clause-second
is_pair-requires-clause-second c = within_linked c.args.slots.now c.args.next c.in-Some.second c.requires.linked (sym c.get.ensures ∙ c.in-Some.is)

pub next_after-requires : goal.next_after-requires
next_after-requires c = live_linked c.args.slots.now c.args.next c.in-Some.second c.requires.linked (sym c.get.ensures ∙ c.in-Some.is)
