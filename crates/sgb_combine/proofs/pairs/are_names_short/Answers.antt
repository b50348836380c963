use Rattle.std.proofs.Common.{◌<◌, inl, inr, sym, arith, ◌∙◌}
use Rattle.sgb_graph.specs.Graph.{n_of}
use Rattle.sgb_combine.proofs.PairNames.{names_tell, no_names}
use Rattle.sgb_combine.proofs.pairs.are_names_short.Goals as goal

pub returns-then-n-eq0 : goal.returns-then-n-eq0
returns-then-n-eq0 c = sym (no_names c.args.first.now c.args.second.now (inl (sym c.n.ensures.value ∙ c.if-n-eq0.true)))

pub returns-then-n-eq0-2 : goal.returns-then-n-eq0-2
returns-then-n-eq0-2 c = sym (no_names c.args.first.now c.args.second.now (inr (sym c.n-2.ensures.value ∙ c.if-n-eq0-2.true)))

pub returns : goal.returns
returns c =
    let some : 0 < n_of c.args.first.now = omega (arith, c.n.ensures.value, c.if-n-eq0.false) in
    let more : 0 < n_of c.args.second.now = omega (arith, c.n-2.ensures.value, c.if-n-eq0-2.false) in
    names_tell c.args.first.now c.args.second.now c.longest.result c.longest-2.result some more c.longest.ensures.value c.longest-2.ensures.value
