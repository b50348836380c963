use Rattle.std.proofs.Common.{◌≡◌, List, [], false, ap, sym, subst, ◌∙◌, arith}
use Rattle.sgb_graph.specs.Builder.{Insertion, Inserts, grown}
use Rattle.sgb_graph.proofs.Insertions.{grown-nil}
use Rattle.sgb_make.specs.Private.Signs.{along_signings, along_parts}
use Rattle.sgb_make.proofs.Parts.{whole_zero, whole_some}
use Rattle.sgb_make.proofs.Signs.{along_from_nothing}
use Rattle.sgb_make.proofs.vector.insert_whole.Goals as goal

pub returns-then-left-gt0 : goal.returns-then-left-gt0
returns-then-left-gt0 c =
    sym (grown-nil c.args.builder.now)
    ∙ ap (grown c.args.builder.now) (sym (whole_some c.args.course.now.sides.items c.args.course.now.rides c.args.course.now.most c.args.parts.now c.args.left (omega arith)))

pub returns : goal.returns
returns c =
    let sides = c.args.course.now.sides.items in
    let rides = c.args.course.now.rides in
    let same : along_signings sides rides [] c.args.parts.now false ≡ along_parts sides rides c.args.course.now.most c.args.parts.now 0 c.args.left =
    along_from_nothing sides rides c.args.parts.now ∙ sym (whole_zero sides rides c.args.course.now.most c.args.parts.now c.args.left (omega arith)) in
    subst (λ (es : List Insertion). Inserts c.args.builder.now c.insert_signed.new.builder es c.insert_signed.result) same c.insert_signed.ensures.value
