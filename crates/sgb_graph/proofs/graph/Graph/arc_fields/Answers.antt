use Rattle.std.proofs.Common.{refl, ◌∙◌}
use Rattle.sgb_graph.proofs.Readers.{fields_are}
use Rattle.sgb_graph.proofs.graph.Graph.arc_fields.Goals as goal

pub returns : goal.returns
returns c =
    c.fields.ensures
    ∙ fields_are c.self.inside c.args.self.now c.args.number.0 c.self.inside.slots c.self.view_is c.self.invariant refl c.requires
