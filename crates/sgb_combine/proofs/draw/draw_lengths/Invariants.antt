use Rattle.sgb_combine.proofs.WalkLengths.{Over}
use Rattle.sgb_combine.proofs.draw.draw_lengths.Given as goal

abbrev pub invariant-loop-v : goal.invariant-loop-v
invariant-loop-v l =
    Over l.directed l.range.min l.range.max l.graph
    (record { lens = l.initial.lengths; draws = 0; rest = l.initial.flip })
    (record { lens = l.lengths; draws = l.draws; rest = l.flip }) l.v
