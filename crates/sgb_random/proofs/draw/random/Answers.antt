use Rattle.std.proofs.Common.{◌≡◌, Ok, Err, Some, sym, ap, subst, ◌∙◌}
use Rattle.std.proofs.lemmas.Result.{err_from_is_err_and}
use Rattle.sgb_graph.specs.declared.refusal.Refusal.TheVariants.{NoRoom}
use Rattle.sgb_graph.specs.Graph.{IsGraph}
use Rattle.sgb_plan.specs.Plan.{Plan, IsMade}
use Rattle.sgb_plan.proofs.Plans.{made, refused_before}
use Rattle.sgb_random.specs.Random.{course, random_plan}
use Rattle.sgb_random.proofs.RandomGraphs.{bare_is}
use Rattle.sgb_random.proofs.Refusals.{judge_room}
use Rattle.sgb_random.proofs.AttemptRuns.{plan_before, plan_after, stuck_refused, whole_made}
use Rattle.sgb_random.proofs.draw.random.Goals as goal

pub returns-in_err-range-clause-err : goal.returns-in_err-range-clause-err
returns-in_err-range-clause-err c =
    let p = err_from_is_err_and c.from_residual.result c.from_residual.ensures.1 in
    rw (p.1, p.2, plan_before c.args.spec.now c.args.seed c.args.flip.now c.in_err-range.ensures.err) (refused_before c.in_err-range.field-0.0)

pub draw_graph-requires-clause-fresh : goal.draw_graph-requires-clause-fresh
draw_graph-requires-clause-fresh c =
    let fresh = c.in_ok-progress.ensures in
    record {
      bare = bare_is c.args.spec.now c.args.seed fresh.builder;
      no_edges = fresh.edges;
      no_pairs = fresh.pairs;
      room = fresh.room;
      numbers = fresh.numbers;
      none_made = fresh.made;
      no_draws = fresh.draws;
      generator = c.unread.ensures.generator;
    }

pub returns-in-Ok-clause-graph : goal.returns-in-Ok-clause-graph
returns-in-Ok-clause-graph c =
    let s = c.args.spec.now in
    let k = course s c.args.flip.now in
    let plan : Plan = random_plan s c.args.seed k.insertions in
    let whole = made plan c.in_ok-progress.ensures.builder c.in-Ok.ensures.ok (subst IsGraph c.finish.ensures.value c.finish.ensures.sound) in
    subst (λ plan. IsMade plan (Ok c.finish.result)) (sym (plan_after s c.args.seed c.args.flip.now c.in_ok-range.ensures.ok))
    (whole_made s c.args.seed k c.in-Ok.ensures.all (subst (λ g. IsMade (Ok plan) (Ok g)) (sym c.finish.ensures.value) whole))

pub returns-in-Err-clause-err : goal.returns-in-Err-clause-err
returns-in-Err-clause-err c =
    let s = c.args.spec.now in
    subst (λ plan. IsMade plan (Err c.in-Err.refusal)) (sym (plan_after s c.args.seed c.args.flip.now c.in_ok-range.ensures.ok))
    (stuck_refused s c.args.seed (course s c.args.flip.now) c.in-Err.ensures.err)

pub returns-in_err-range-clause-room : goal.returns-in_err-range-clause-room
returns-in_err-range-clause-room c = λ is.
    let p = err_from_is_err_and c.from_residual.result c.from_residual.ensures.1 in
    let room = sym (p.1 ∙ ap (λ e. Err e) p.2) ∙ is in
    let same : c.in_err-range.field-0.0 ≡ NoRoom = cc in
    absurd (judge_room c.args.spec.now (c.in_err-range.ensures.err ∙ ap (λ e. Some e) same))
