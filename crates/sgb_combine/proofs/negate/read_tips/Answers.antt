use Rattle.std.proofs.Common.{[], ◌∷◌, ◌++◌, true, map, sym, ap, ◌∙◌, arith}
use Rattle.std.specs.List.{filter}
use Rattle.std.proofs.lemmas.List.{take_all}
use Rattle.sgb_combine.specs.Complement.{is_wanted}
use Rattle.sgb_combine.proofs.SpokeBounds.{no_spoke, spoke_in}
use Rattle.sgb_combine.proofs.Complements.{tips_push, tips_skip}
use Rattle.sgb_combine.proofs.negate.read_tips.Goals as goal

pub loop-spoke-preserved-then-not-is_wanted : goal.loop-spoke-preserved-then-not-is_wanted
loop-spoke-preserved-then-not-is_wanted c =
    c.loop-spoke.invariant
    ∙ sym (tips_skip c.args.spec c.args.vertex.0 c.args.spokes.now c.loop-spoke.spoke-index no_spoke (omega arith) (sym c.is_wanted.ensures ∙ c.if-not-is_wanted.true))

pub loop-spoke-preserved : goal.loop-spoke-preserved
loop-spoke-preserved c =
    let to = (spoke_in c.args.spokes.now c.loop-spoke.spoke-index).to in
    c.in_ok-push.ensures.items
    ∙ (ap (λ ws. ws ++ to ∷ []) c.loop-spoke.invariant
    ∙ sym (tips_push c.args.spec c.args.vertex.0 c.args.spokes.now c.loop-spoke.spoke-index no_spoke (omega arith) (sym c.is_wanted.ensures ∙ c.if-not-is_wanted.false)))

pub returns : goal.returns
returns c =
    c.loop-spoke.invariant ∙ ap (λ ss. filter (is_wanted c.args.spec c.args.vertex.0 true) (map (λ s. s.to) ss)) (take_all c.loop-spoke.spoke-index c.args.spokes.now (omega arith))
