use Rattle.std.proofs.Common.{◌≡◌, map, rules}
use Rattle.sgb_import.specs.Graph6.{edges_in}
use Rattle.sgb_import.specs.Private.Outlined.{insertion_of}
use Rattle.sgb_import.proofs.Graph6Outlines.{outline_sound}
use Rattle.sgb_import.proofs.Graph6Texts.{outline_read}
use Rattle.sgb_import.proofs.graph6.read_graph6.Goals as goal

pub returns-clause-outline : goal.returns-clause-outline
returns-clause-outline c =
    let edges : map insertion_of c.in_ok-links.links.items ≡ edges_in c.in_ok-triangle.triangle.size c.in_ok-triangle.triangle.body.now = search rules in
    outline_read c.args.text.now c.in_ok-triangle.triangle.size c.in_ok-triangle.triangle.body.now (map insertion_of c.in_ok-links.links.items)
    c.in_ok-triangle.ensures.triangle edges

pub returns-clause-sound : goal.returns-clause-sound
returns-clause-sound c = outline_sound c.args.text.now c.in_ok-triangle.triangle.size c.in_ok-triangle.triangle.body.now c.in_ok-triangle.ensures.triangle
