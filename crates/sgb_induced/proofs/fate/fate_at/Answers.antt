use Rattle.std.proofs.Common.{ap, ◌∙◌, rules}
use Rattle.sgb_induced.specs.Fate.{fate_of}
use Rattle.sgb_induced.proofs.Roles.{z_read}
use Rattle.sgb_induced.proofs.fate.fate_at.Goals as goal

pub returns : goal.returns
returns c =
    c.fate_of.ensures ∙ ap fate_of (z_read c.args.graph.now c.args.vertex.0 c.vertex_fields.result.now c.index-vertex_fields-place.result c.vertex_fields.ensures c.place.ensures (search rules))
