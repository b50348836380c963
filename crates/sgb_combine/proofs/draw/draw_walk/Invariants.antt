use Rattle.sgb_combine.proofs.WalkLengths.{Walked}
use Rattle.sgb_combine.proofs.draw.draw_walk.Given as goal

abbrev pub invariant-loop-number : goal.invariant-loop-number
invariant-loop-number l =
    Walked l.directed l.range.min l.range.max l.graph l.fn.vertex.0
    (record { lens = l.initial.lengths; draws = l.initial.draws; rest = l.initial.flip })
    (record { lens = l.lengths; draws = l.draws; rest = l.flip }) l.number-iterator
