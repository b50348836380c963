use Rattle.std.proofs.Common.{◌≡◌, ◌==◌, ap, subst, ◌∙◌, arith, to_z, of_z}
use Rattle.std.specs.Int.{w64}
use Rattle.std.proofs.lemmas.Int.{to_z-of_z}
use Rattle.std.proofs.lemmas.Result.{err_from_is_err_and}
use Rattle.sgb_graph.specs.Builder.{grown, insertion}
use Rattle.sgb_graph.proofs.InsertionRuns.{RefusesInsertions, from_some, from_none, from_refused, from_end, from_n}
use Rattle.sgb_induced.specs.Induced.{is_wanted}
use Rattle.sgb_induced.proofs.RunInsertions.{begin_filtered, made_at_one, skips}
use Rattle.sgb_induced.proofs.expand.insert_from.Goals as goal

pub loop-y-init : goal.loop-y-init
loop-y-init c = begin_filtered c.args.builder.now (λ y. insertion c.args.x y c.args.run.len) (is_wanted c.args.loops c.args.directed (c.args.run.from == c.args.run.to) c.args.x) c.args.to.start c.args.to.count

pub insert-requires-clause-from : goal.insert-requires-clause-from
insert-requires-clause-from c = omega (arith, c.requires.from, from_n c.loop-y.invariant)

pub insert-requires-clause-to : goal.insert-requires-clause-to
insert-requires-clause-to c = omega (arith, c.requires.to, from_n c.loop-y.invariant)

pub loop-y-preserved-then-not-is_wanted : goal.loop-y-preserved-then-not-is_wanted
loop-y-preserved-then-not-is_wanted c = from_none (omega arith) c.loop-y.invariant (skips (λ y. insertion c.args.x y c.args.run.len) (is_wanted c.args.loops c.args.directed (c.args.run.from == c.args.run.to) c.args.x) c.loop-y.y c.is_wanted.result c.is_wanted.ensures c.if-not-is_wanted.true)

pub returns-in_err-insert : goal.returns-in_err-insert
returns-in_err-insert c =
    let p = err_from_is_err_and c.from_residual.result c.from_residual.ensures.1 in
    let len : to_z w64 (of_z w64 c.length-len.result) ≡ c.args.run.len = to_z-of_z w64 c.length-len.result c.length-len.ensures.fits ∙ c.length-len.ensures.value in
    let same = made_at_one c.args.x c.loop-y.y c.args.run.len (is_wanted c.args.loops c.args.directed (c.args.run.from == c.args.run.to) c.args.x) c.is_wanted.result len c.is_wanted.ensures c.if-not-is_wanted.false in
    rw (p.1, p.2) (from_refused (omega arith) c.loop-y.invariant (subst (λ es. RefusesInsertions c.loop-y.builder es c.in_err-insert.field-0.0) same c.in_err-insert.ensures.value))

pub loop-y-preserved : goal.loop-y-preserved
loop-y-preserved c =
    let len : to_z w64 (of_z w64 c.length-len.result) ≡ c.args.run.len = to_z-of_z w64 c.length-len.result c.length-len.ensures.fits ∙ c.length-len.ensures.value in
    from_some (omega arith) c.loop-y.invariant (c.in_ok-insert.ensures.value ∙ ap (grown c.loop-y.builder) (made_at_one c.args.x c.loop-y.y c.args.run.len (is_wanted c.args.loops c.args.directed (c.args.run.from == c.args.run.to) c.args.x) c.is_wanted.result len c.is_wanted.ensures c.if-not-is_wanted.false))

pub returns : goal.returns
returns c = from_end (omega arith) c.loop-y.invariant
