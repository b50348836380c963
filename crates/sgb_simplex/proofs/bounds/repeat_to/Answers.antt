use Rattle.std.proofs.Common.{◌≡◌, ◌++◌, ◌∷◌, [], replicate, take, sym, ap, ◌∙◌, arith}
use Rattle.std.proofs.lemmas.List.{take_more_set, replicate-append-replicate}
use Rattle.sgb_simplex.proofs.bounds.repeat_to.Goals as goal

pub loop-i-preserved : goal.loop-i-preserved
loop-i-preserved c =
    take_more_set c.loop-i.places c.loop-i.i c.args.n (omega arith)
    ∙ (ap (λ l. l ++ c.args.n ∷ []) c.loop-i.invariant ∙ replicate-append-replicate c.loop-i.i 1 c.args.n)

pub returns : goal.returns
returns c =
    let all : c.loop-i.i ≡ c.args.count = omega arith in
    ap (λ k. take k c.loop-i.places) (sym all) ∙ (c.loop-i.invariant ∙ ap (λ k. replicate k c.args.n) all)
