use Rattle.std.proofs.Common.{refl, ◌∙◌}
use Rattle.sgb_graph.proofs.Readers.{live_slot, next_is}
use Rattle.sgb_graph.proofs.graph.Graph.next_of.Goals as goal

pub next_after-requires : goal.next_after-requires
next_after-requires c = live_slot c.self.inside c.args.self.now c.args.number.0 c.self.inside.slots c.self.view_is c.self.invariant refl c.requires

pub returns : goal.returns
returns c =
    next_is c.self.inside c.args.self.now c.args.number.0 c.self.inside.slots _ c.self.view_is c.self.invariant refl (c.get.ensures ∙ c.next_after.ensures)
