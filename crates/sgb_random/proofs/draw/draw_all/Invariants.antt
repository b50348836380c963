use Rattle.sgb_random.proofs.AttemptRuns.{IsRun}
use Rattle.sgb_random.proofs.draw.draw_all.Given as goal

abbrev pub invariant-loop-attempt : goal.invariant-loop-attempt
invariant-loop-attempt l = IsRun l.spec l.initial.progress.builder l.initial.flip l.progress l.flip l._attempt
