use Rattle.std.proofs.Common.{sym, ap, ◌∙◌}
use Rattle.sgb_graph.specs.Builder.{grown}
use Rattle.sgb_graph.proofs.Insertions.{grown-nil}
use Rattle.sgb_combine.proofs.Joint.{joints_none}
use Rattle.sgb_combine.proofs.intersect.insert_joint.Goals as goal

pub returns-in-None : goal.returns-in-None
returns-in-None c =
    let b = c.args.builder.now in
    sym (grown-nil b) ∙ ap (grown b) (sym (joints_none c.args.vertex.0 c.args.others.now.spokes.items c.args.spoke c.in-None.ensures))
