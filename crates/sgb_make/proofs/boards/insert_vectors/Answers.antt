use Rattle.std.proofs.Common.{◌≡◌, ◌-◌, List, [], length, ap, sym, subst, ◌∙◌, arith}
use Rattle.sgb_graph.specs.Builder.{Insertion, Inserts}
use Rattle.sgb_make.specs.Private.Signs.{along_parts}
use Rattle.sgb_make.proofs.Parts.{all_vectors}
use Rattle.sgb_make.proofs.boards.insert_vectors.Goals as goal

pub returns : goal.returns
returns c =
    let sides = c.args.course.now.sides.items in
    let all : length sides - 0 ≡ length sides = omega arith in
    subst (λ (es : List Insertion). Inserts c.args.builder.now c.insert_parts.new.builder es c.insert_parts.result)
    (ap (λ d. along_parts sides c.args.course.now.rides c.args.course.now.most [] d c.args.course.now.most) all
    ∙ sym (all_vectors sides c.args.course.now.rides (length sides) c.args.course.now.most))
    (subst (λ b. Inserts b c.insert_parts.new.builder (along_parts sides c.args.course.now.rides c.args.course.now.most [] (length sides - 0) c.args.course.now.most) c.insert_parts.result) c.in_ok-reserve.ensures.same c.insert_parts.ensures.value)
