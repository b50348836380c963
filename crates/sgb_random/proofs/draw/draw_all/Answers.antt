use Rattle.std.proofs.Common.{inr, refl, arith}
use Rattle.sgb_random.specs.Random.{attempts}
use Rattle.sgb_random.proofs.DrawCounts.{follows_start, follows_then}
use Rattle.sgb_random.proofs.AttemptRuns.{run_start, run_next, run_places, run_ready, run_room, run_course, run_all, run_stuck}
use Rattle.sgb_random.proofs.draw.draw_all.Goals as goal

pub loop-attempt-init : goal.loop-attempt-init
loop-attempt-init c = run_start c.args.spec.now c.args.progress.now c.args.flip.now c.requires.fresh

pub returns-then-progress-m-clause-ok : goal.returns-then-progress-m-clause-ok
returns-then-progress-m-clause-ok c = run_course c.loop-attempt.invariant (omega arith) (omega (arith, c.wanted-m.ensures.value))

pub returns-then-progress-m-clause-all : goal.returns-then-progress-m-clause-all
returns-then-progress-m-clause-all c =
    run_all c.loop-attempt.invariant (omega arith) (omega (arith, c.wanted-m.ensures.value))

pub returns-then-progress-m-clause-rest : goal.returns-then-progress-m-clause-rest
returns-then-progress-m-clause-rest c = follows_start c.requires.fresh.generator c.loop-attempt.invariant.follows

pub attempt-requires-clause-ready : goal.attempt-requires-clause-ready
attempt-requires-clause-ready c =
    run_ready c.loop-attempt.invariant c.requires.judged c.requires.fresh.bare (omega (arith, c.wanted-m.ensures.value))

pub attempt-requires-clause-places : goal.attempt-requires-clause-places
attempt-requires-clause-places c =
    run_places c.loop-attempt.invariant (omega (arith, c.wanted-m.ensures.value, c.wanted-m.ensures.few))

pub attempt-requires-clause-room : goal.attempt-requires-clause-room
attempt-requires-clause-room c =
    run_room c.loop-attempt.invariant (omega (arith, c.wanted-m.ensures.value))

pub returns-in_err-attempt-clause-rest : goal.returns-in_err-attempt-clause-rest
returns-in_err-attempt-clause-rest c =
    follows_start c.requires.fresh.generator (follows_then c.loop-attempt.invariant.follows c.attempt.ensures.follows)

pub loop-attempt-preserved : goal.loop-attempt-preserved
loop-attempt-preserved c =
    let run = c.loop-attempt.invariant in
    run_next run (omega (arith, c.wanted-m.ensures.value))
    (c.in_ok-attempt.ensures.ok c.args.progress.now.builder (attempts c.args.spec.now c.args.flip.now c.loop-attempt._attempt) run.indexed)
    c.attempt.ensures.follows c.attempt.ensures.few_draws c.attempt.ensures.generator

pub returns-then-progress-m-2-clause-err : goal.returns-then-progress-m-2-clause-err
returns-then-progress-m-2-clause-err c =
    inr (refl, run_stuck c.loop-attempt.invariant (omega arith) (omega (arith, c.wanted-m.ensures.value)))

pub returns-then-progress-m-2-clause-rest : goal.returns-then-progress-m-2-clause-rest
returns-then-progress-m-2-clause-rest c = follows_start c.requires.fresh.generator c.loop-attempt.invariant.follows

pub returns-clause-ok : goal.returns-clause-ok
returns-clause-ok c = run_course c.loop-attempt.invariant (omega arith) (omega (arith, c.wanted-m.ensures.value))

pub returns-clause-all : goal.returns-clause-all
returns-clause-all c =
    run_all c.loop-attempt.invariant (omega arith) (omega (arith, c.wanted-m.ensures.value))

pub returns-clause-rest : goal.returns-clause-rest
returns-clause-rest c = follows_start c.requires.fresh.generator c.loop-attempt.invariant.follows
