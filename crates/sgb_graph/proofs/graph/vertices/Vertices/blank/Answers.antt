use Rattle.std.proofs.Common.{◌≡◌, ◌∙◌, ap, arith, [], None, replicate}
use Rattle.sgb_graph.proofs.Vertices.{blank_are}
use Rattle.sgb_graph.proofs.graph.vertices.Vertices.blank.Goals as goal

pub returns-clause-ok : goal.returns-clause-ok
returns-clause-ok c =
    let all : c.loop-i._i ≡ c.args.n = omega (arith, c.loop-i.auto._i-end, c.loop-i-test.false) in
    blank_are c.loop-i.labels.items c.loop-i.firsts.items c.in_ok-fields.fields.items c.args.n
    (c.loop-i.invariant.labels ∙ ap (λ i. replicate i []) all) (c.loop-i.invariant.firsts ∙ ap (λ i. replicate i None) all) c.in_ok-fields.ensures.items
