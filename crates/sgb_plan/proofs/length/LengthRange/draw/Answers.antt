use Rattle.std.proofs.Common.{◌≡◌, rules, pos, ◌+ℤ◌, ap, sym, ◌∙◌, FitsSigned, to_z, of_z, w64, arith}
use Rattle.std.proofs.lemmas.Int.{ints, to_z-of_z}
use Rattle.sgb_flip.specs.Generator.{uniform}
use Rattle.sgb_flip.proofs.Draws.{after-none}
use Rattle.sgb_plan.specs.Length.{LengthDraw}
use Rattle.sgb_plan.proofs.Lengths.{same_held, drawn-equal, drawn-apart, bound-is}
use Rattle.sgb_plan.proofs.length.LengthRange.draw.Goals as goal

pub returns-then-self-clause-len : goal.returns-then-self-clause-len
returns-then-self-clause-len c =
    let r = c.args.self.now in
    let low : FitsSigned w64 r.min = search rules in
    let high : FitsSigned w64 r.max = search rules in
    to_z-of_z w64 r.min low ∙ sym (ap (λ (d : LengthDraw). d.len) (drawn-equal r.min r.max c.args.flip.now (same_held r.min r.max low high c.if-self.true)))

pub returns-then-self-clause-draws : goal.returns-then-self-clause-draws
returns-then-self-clause-draws c =
    let r = c.args.self.now in
    let low : FitsSigned w64 r.min = search rules in
    let high : FitsSigned w64 r.max = search rules in
    sym (ap (λ (d : LengthDraw). d.draws) (drawn-equal r.min r.max c.args.flip.now (same_held r.min r.max low high c.if-self.true)))

pub returns-then-self-clause-rest : goal.returns-then-self-clause-rest
returns-then-self-clause-rest c =
    let r = c.args.self.now in
    let low : FitsSigned w64 r.min = search rules in
    let high : FitsSigned w64 r.max = search rules in
    sym (ap (λ (d : LengthDraw). d.rest) (drawn-equal r.min r.max c.args.flip.now (same_held r.min r.max low high c.if-self.true)))

pub returns-then-self-clause-after : goal.returns-then-self-clause-after
returns-then-self-clause-after c = sym (after-none c.args.flip.now c.unread.ensures.generator)

pub returns-clause-len : goal.returns-clause-len
returns-clause-len c =
    let r = c.args.self.now in
    let w = c.args.flip.now in
    let low : FitsSigned w64 r.min = search rules in
    let high : FitsSigned w64 r.max = search rules in
    let shown : to_z w64 (of_z w64 (to_z w64 (of_z w64 r.min) +ℤ to_z w64 c.uniform-drawn.result.value)) ≡ r.min +ℤ pos c.uniform-drawn.result.value = omega (arith, ints) in
    shown
    ∙ (ap (λ v. r.min +ℤ pos v) (c.uniform-drawn.ensures.value ∙ ap (λ m. (uniform w m).value) (bound-is r.min r.max c.abs_diff.result low high c.abs_diff.ensures))
    ∙ sym (ap (λ (d : LengthDraw). d.len) (drawn-apart r.min r.max w (λ same. c.if-self.false (ap (of_z w64) same)))))

pub returns-clause-draws : goal.returns-clause-draws
returns-clause-draws c =
    let r = c.args.self.now in
    let w = c.args.flip.now in
    let low : FitsSigned w64 r.min = search rules in
    let high : FitsSigned w64 r.max = search rules in
    c.uniform-drawn.ensures.draws
    ∙ (ap (λ m. (uniform w m).draws) (bound-is r.min r.max c.abs_diff.result low high c.abs_diff.ensures)
    ∙ sym (ap (λ (d : LengthDraw). d.draws) (drawn-apart r.min r.max w (λ same. c.if-self.false (ap (of_z w64) same)))))

pub returns-clause-rest : goal.returns-clause-rest
returns-clause-rest c =
    let r = c.args.self.now in
    let w = c.args.flip.now in
    let low : FitsSigned w64 r.min = search rules in
    let high : FitsSigned w64 r.max = search rules in
    c.uniform-drawn.ensures.rest
    ∙ (ap (λ m. (uniform w m).rest) (bound-is r.min r.max c.abs_diff.result low high c.abs_diff.ensures)
    ∙ sym (ap (λ (d : LengthDraw). d.rest) (drawn-apart r.min r.max w (λ same. c.if-self.false (ap (of_z w64) same)))))
