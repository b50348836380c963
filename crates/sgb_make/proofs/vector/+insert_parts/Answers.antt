use Rattle.std.proofs.Common.{rules, ◌≡◌, ◌<◌, ◌+◌, ◌-◌, ◌*◌, ℕ, List, length, take, refl, ap, ap₂, sym, subst, ◌∙◌, arith}
use Rattle.std.proofs.lemmas.List.{take_all}
use Rattle.std.proofs.lemmas.Result.{err_from_is_err_and}
use Rattle.sgb_graph.specs.Builder.{Insertion, Inserts, grown}
use Rattle.sgb_graph.proofs.InsertionRuns.{RefusesInsertions, from_some, from_refused, from_end, from_n}
use Rattle.sgb_graph.proofs.Insertions.{grown-nil}
use Rattle.sgb_make.specs.Private.Signs.{along_parts}
use Rattle.sgb_make.specs.Private.Still.{IsStillAt}
use Rattle.sgb_make.proofs.SizeMultiples.{still_parts}
use Rattle.sgb_make.proofs.Parts.{parts_start, kept_parts, begun_more}
use Rattle.sgb_make.proofs.StillVectors.{idle_above}
use Rattle.sgb_make.proofs.vector.+insert_parts.Goals as goal

pub returns-then-are_still-clause-value : goal.returns-then-are_still-clause-value
returns-then-are_still-clause-value t c =
    let sides = c.args.course.now.sides.items in
    let all = c.are_still.ensures c.if-are_still.true in
    let still = subst (λ ss. (k : ℕ) → k < length ss → IsStillAt ss c.args.parts.now c.args.at k) c.deref.ensures.value all in
    let none = still_parts sides c.args.course.now.rides c.args.course.now.most c.args.parts.now c.args.at (length sides - c.args.at) c.args.left c.if-course.true (omega arith) still in
    sym (grown-nil c.args.builder.now) ∙ ap (grown c.args.builder.now) (sym none)

pub returns-then-at-parts-clause-value : goal.returns-then-at-parts-clause-value
returns-then-at-parts-clause-value t c =
    let sides = c.args.course.now.sides.items in
    let none : 0 ≡ length sides - c.args.at = omega arith in
    let all : c.args.parts.now ≡ take c.args.at c.args.parts.now = sym (take_all c.args.at c.args.parts.now (omega arith)) in
    let same : along_parts sides c.args.course.now.rides c.args.course.now.most c.args.parts.now 0 c.args.left ≡ along_parts sides c.args.course.now.rides c.args.course.now.most (take c.args.at c.args.parts.now) (length sides - c.args.at) c.args.left =
    ap₂ (λ ps d. along_parts sides c.args.course.now.rides c.args.course.now.most ps d c.args.left) all none in
    subst (λ (es : List Insertion). Inserts c.args.builder.now c.insert_whole.new.builder es c.insert_whole.result) same c.insert_whole.ensures

pub loop-part-init : goal.loop-part-init
loop-part-init t c =
    let sides = c.args.course.now.sides.items in
    record {
      left = parts_start sides c.args.course.now.rides c.args.course.now.most (take c.args.at c.args.parts.now) (length sides - c.args.at) (length sides - (c.args.at + 1)) c.args.left c.parts_end-part-end.result c.args.builder.now (omega arith) c.requires.left c.parts_end-part-end.ensures.few
          (idle_above sides c.args.course.now.rides c.args.parts.now c.args.at c.args.left c.parts_end-part-end.result c.index.result.now (omega arith) (omega arith) c.index.ensures c.parts_end-part-end.ensures.all);
      kept = refl;
    }

pub insert_parts-requires : goal.insert_parts-requires
insert_parts-requires t c =
    let square = c.parts_end-part-end.ensures.few c.loop-part.part (omega arith) in
    (search rules, (search rules, (search rules, (omega arith, (omega (arith, square), (c.requires.most, (c.requires.small, from_n c.loop-part.invariant.left ∙ c.requires.count)))))))

pub returns-in_err-insert_parts-clause-value : goal.returns-in_err-insert_parts-clause-value
returns-in_err-insert_parts-clause-value t c =
    let p = err_from_is_err_and c.from_residual.result c.from_residual.ensures.1 in
    let sides = c.args.course.now.sides.items in
    let begun = begun_more c.args.parts.now c.loop-part.parts c.args.at c.loop-part.part (omega arith) c.loop-part.invariant.kept in
    rw (p.1, p.2)
    (from_refused (omega arith) c.loop-part.invariant.left
    (subst (λ ps. RefusesInsertions c.loop-part.builder (along_parts sides c.args.course.now.rides c.args.course.now.most ps (length sides - (c.args.at + 1)) (c.args.left - c.loop-part.part * c.loop-part.part)) c.in_err-insert_parts.field-0.0) begun c.in_err-insert_parts.ensures.value))

pub returns-in_err-insert_parts-clause-kept : goal.returns-in_err-insert_parts-clause-kept
returns-in_err-insert_parts-clause-kept t c =
    kept_parts c.loop-part.parts c.insert_parts.new.parts c.args.at c.loop-part.part (omega arith) c.insert_parts.ensures.kept ∙ c.loop-part.invariant.kept

pub loop-part-preserved : goal.loop-part-preserved
loop-part-preserved t c =
    let sides = c.args.course.now.sides.items in
    let begun = begun_more c.args.parts.now c.loop-part.parts c.args.at c.loop-part.part (omega arith) c.loop-part.invariant.kept in
    record {
      left = from_some (omega arith) c.loop-part.invariant.left
          (c.in_ok-insert_parts.ensures.value
          ∙ ap (λ ps. grown c.loop-part.builder (along_parts sides c.args.course.now.rides c.args.course.now.most ps (length sides - (c.args.at + 1)) (c.args.left - c.loop-part.part * c.loop-part.part))) begun);
      kept = kept_parts c.loop-part.parts c.insert_parts.new.parts c.args.at c.loop-part.part (omega arith) c.insert_parts.ensures.kept ∙ c.loop-part.invariant.kept;
    }

pub returns-clause-value : goal.returns-clause-value
returns-clause-value t c = from_end (omega arith) c.loop-part.invariant.left

pub returns-clause-kept : goal.returns-clause-kept
returns-clause-kept t c = c.loop-part.invariant.kept
