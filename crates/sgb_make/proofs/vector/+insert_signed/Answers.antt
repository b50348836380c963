use Rattle.std.proofs.Common.{rules, ◌≡◌, ◌+◌, List, length, map, set, true, false, ap, sym, subst, ◌∙◌, arith}
use Rattle.std.proofs.Math.ListN.{length-set}
use Rattle.std.proofs.lemmas.Result.{err_from_is_err_and}
use Rattle.sgb_graph.specs.declared.builder.Builder.{Builder}
use Rattle.sgb_graph.specs.Graph.{n_of}
use Rattle.sgb_graph.specs.Builder.{Insertion, Inserts, grown}
use Rattle.sgb_graph.proofs.Insertions.{n-grown, Inserts-append}
use Rattle.sgb_make.specs.Ride.{rides_along}
use Rattle.sgb_make.specs.Private.Link.{part_of}
use Rattle.sgb_make.proofs.SignSequences.{signed_from, step_of, kept_before, end_is, zero_more, first_more, both_more, refused_first}
use Rattle.sgb_make.proofs.vector.+insert_signed.Goals as goal

pub returns-then-at-parts-clause-value : goal.returns-then-at-parts-clause-value
returns-then-at-parts-clause-value t c =
    let sides = c.args.course.now.sides.items in
    let rides = c.args.course.now.rides in
    let same : rides_along c.deref.result.now rides (map part_of c.args.steps.now) ≡ signed_from sides rides c.args.steps.now c.args.parts.now c.args.at c.args.seen =
    ap (λ ss. rides_along ss rides (map part_of c.args.steps.now)) c.deref.ensures.value
    ∙ sym (end_is sides rides c.args.steps.now c.args.parts.now c.args.at c.args.seen c.if-at-parts.true (c.requires.steps ∙ sym c.requires.parts)) in
    subst (λ (es : List Insertion). Inserts c.args.builder.now c.insert_rides.new.builder es c.insert_rides.result) same c.insert_rides.ensures

pub returns-then-by-eq0-clause-value : goal.returns-then-by-eq0-clause-value
returns-then-by-eq0-clause-value t c =
    let same = zero_more c.args.course.now.sides.items c.args.course.now.rides c.args.steps.now c.args.parts.now c.args.at c.args.seen (omega arith) (c.requires.steps ∙ sym c.requires.parts) c.if-by-eq0.true in
    subst (λ (es : List Insertion). Inserts c.args.builder.now c.insert_signed.new.builder es c.insert_signed.result) (sym same) c.insert_signed.ensures.value

pub returns-then-by-eq0-clause-kept : goal.returns-then-by-eq0-clause-kept
returns-then-by-eq0-clause-kept t c =
    kept_before c.args.steps.now c.insert_signed.new.steps c.args.at (step_of c.args.parts.now c.args.at false) (omega arith) c.insert_signed.ensures.kept

pub returns-in_err-insert_signed-clause-value : goal.returns-in_err-insert_signed-clause-value
returns-in_err-insert_signed-clause-value t c =
    let p = err_from_is_err_and c.from_residual.result c.from_residual.ensures.1 in
    rw (p.1, p.2)
    (refused_first c.args.course.now.sides.items c.args.course.now.rides c.args.steps.now c.args.parts.now c.args.at c.args.seen c.args.builder.now c.in_err-insert_signed.field-0.0 (omega arith) (c.requires.steps ∙ sym c.requires.parts) c.if-by-eq0.false c.in_err-insert_signed.ensures.value)

pub returns-in_err-insert_signed-clause-kept : goal.returns-in_err-insert_signed-clause-kept
returns-in_err-insert_signed-clause-kept t c =
    kept_before c.args.steps.now c.insert_signed-2.new.steps c.args.at (step_of c.args.parts.now c.args.at false) (omega arith) c.insert_signed-2.ensures.kept

pub returns-then-not-seen-clause-value : goal.returns-then-not-seen-clause-value
returns-then-not-seen-clause-value t c =
    let sides = c.args.course.now.sides.items in
    let rides = c.args.course.now.rides in
    let first = first_more sides rides c.args.steps.now c.args.parts.now c.args.at (omega arith) (c.requires.steps ∙ sym c.requires.parts) c.if-by-eq0.false in
    c.in_ok-insert_signed.ensures.value
    ∙ ap (grown c.args.builder.now) (sym first ∙ ap (signed_from sides rides c.args.steps.now c.args.parts.now c.args.at) (sym c.if-not-seen.true))

pub returns-then-not-seen-clause-kept : goal.returns-then-not-seen-clause-kept
returns-then-not-seen-clause-kept t c =
    kept_before c.args.steps.now c.insert_signed-2.new.steps c.args.at (step_of c.args.parts.now c.args.at false) (omega arith) c.insert_signed-2.ensures.kept

pub insert_signed-requires-3 : goal.insert_signed-requires-3
insert_signed-requires-3 t c =
    let count : n_of c.insert_signed-2.new.builder.graph ≡ n_of c.args.builder.now.graph = ap (λ (b : Builder). n_of b.graph) c.in_ok-insert_signed.ensures.value ∙ n-grown c.args.builder.now _ in
    (search rules, (c.requires.parts, (search rules, (omega arith, (c.requires.small, count ∙ c.requires.count)))))

pub returns-clause-value : goal.returns-clause-value
returns-clause-value t c =
    let sides = c.args.course.now.sides.items in
    let rides = c.args.course.now.rides in
    let steps = c.args.steps.now in
    let later = c.insert_signed-2.new.steps in
    let parts = c.args.parts.now in
    let at = c.args.at in
    let kept = kept_before steps later at (step_of parts at false) (omega arith) c.insert_signed-2.ensures.kept in
    let long : length later ≡ length parts = c.insert_signed-2.auto.steps ∙ (length-set steps at (step_of parts at false) ∙ (c.requires.steps ∙ sym c.requires.parts)) in
    let first = signed_from sides rides (set steps at (step_of parts at false)) parts (at + 1) true in
    let second = signed_from sides rides (set later at (step_of parts at true)) parts (at + 1) true in
    let both = both_more sides rides steps later parts at (omega arith) (c.requires.steps ∙ sym c.requires.parts) long kept c.if-by-eq0.false in
    subst (λ (es : List Insertion). Inserts c.args.builder.now c.insert_signed-3.new.builder es c.insert_signed-3.result)
    (sym (ap (signed_from sides rides steps parts at) c.if-not-seen.false ∙ both))
    (Inserts-append c.args.builder.now c.insert_signed-2.new.builder c.insert_signed-3.new.builder first second c.insert_signed-3.result (tt {0}) c.in_ok-insert_signed.ensures.value c.insert_signed-3.ensures.value)

pub returns-clause-kept : goal.returns-clause-kept
returns-clause-kept t c =
    let kept = kept_before c.args.steps.now c.insert_signed-2.new.steps c.args.at (step_of c.args.parts.now c.args.at false) (omega arith) c.insert_signed-2.ensures.kept in
    let long : length c.insert_signed-2.new.steps ≡ length c.args.steps.now = c.insert_signed-2.auto.steps ∙ length-set c.args.steps.now c.args.at (step_of c.args.parts.now c.args.at false) in
    kept_before c.insert_signed-2.new.steps c.insert_signed-3.new.steps c.args.at (step_of c.args.parts.now c.args.at true) (omega arith) c.insert_signed-3.ensures.kept ∙ kept
