use Rattle.std.proofs.Common.{◌≡◌, ◌+◌, ◌-◌, length, take}
use Rattle.sgb_graph.proofs.InsertionRuns.{LeftFrom}
use Rattle.sgb_make.specs.Private.Signs.{along_parts}
use Rattle.sgb_make.proofs.Parts.{behind_part}
use Rattle.sgb_make.proofs.vector.+insert_parts.Given as goal

abbrev pub decreases-insert_parts : goal.decreases-insert_parts
decreases-insert_parts l = length l.parts.now - l.at

abbrev pub invariant-loop-part : goal.invariant-loop-part
invariant-loop-part l =
    let sides = l.course.sides.items in
    record {
      left : LeftFrom l.fn.builder (along_parts sides l.course.rides l.course.most (take l.at l.fn.parts) (length sides - l.at) l.left) l.builder (behind_part sides l.course.rides l.course.most (take l.at l.fn.parts) (length sides - (l.at + 1)) l.left) l.part l.part-end;
      kept : take l.at l.parts ≡ take l.at l.fn.parts;
    }
