use Rattle.std.specs.List.{flat_map}
use Rattle.sgb_graph.proofs.InsertionRuns.{LeftOf}
use Rattle.sgb_combine.specs.Intersection.{joints}
use Rattle.sgb_combine.proofs.intersect.insert_joints.Given as goal

abbrev pub invariant-loop-spoke : goal.invariant-loop-spoke
invariant-loop-spoke l =
    LeftOf l.initial.builder (flat_map (joints l.vertex.0 l.others.spokes.items) l.firsts) l.builder (joints l.vertex.0 l.others.spokes.items) l.firsts l.spoke-index
