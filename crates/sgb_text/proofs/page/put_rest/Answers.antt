use Rattle.std.proofs.Common.{◌++◌, ◌∷◌, [], ap, ◌∙◌, arith}
use Rattle.sgb_text.proofs.Cuts.{begins_cutting, cuts_line, cut_text, cut_width}
use Rattle.sgb_text.proofs.page.put_rest.Goals as goal

pub loop-rest-init : goal.loop-rest-init
loop-rest-init c = begins_cutting _ _ _ c.requires.bytes

pub loop-rest-preserved : goal.loop-rest-preserved
loop-rest-preserved c =
    cuts_line _ _ _ _ _ _ _ _ c.loop-rest.invariant c.loop-rest-test.true c.requires.end c.split_at.ensures.front c.split_at.ensures.back
    (c.in_ok-extend_from_slice-2.ensures.items ∙ ap (λ t. t ++ (92 ∷ 10 ∷ [])) c.in_ok-extend_from_slice.ensures.items)

pub returns-clause-text : goal.returns-clause-text
returns-clause-text c =
    cut_text _ _ _ _ _ _ c.loop-rest.invariant (omega (arith, c.loop-rest-test.false))
    (c.in_ok-extend_from_slice-4.ensures.items ∙ ap (λ t. t ++ c.args.end.now) c.in_ok-extend_from_slice-3.ensures.items)

pub returns-clause-column : goal.returns-clause-column
returns-clause-column c = cut_width _ _ _ _ _ c.loop-rest.invariant (omega (arith, c.loop-rest-test.false))
