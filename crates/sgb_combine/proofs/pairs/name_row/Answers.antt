use Rattle.std.proofs.Common.{◌∷◌, [], ap, ◌∙◌, arith}
use Rattle.std.proofs.lemmas.Result.{err_from_is_err_and}
use Rattle.sgb_graph.specs.New.{six_zeros}
use Rattle.sgb_plan.specs.Plan.{with_named}
use Rattle.sgb_plan.proofs.Plans.{pushed, push_refused, names_from_some, names_from_refused, names_from_end}
use Rattle.sgb_combine.specs.Product.{pair_name}
use Rattle.sgb_combine.proofs.PairNames.{short_pair}
use Rattle.sgb_combine.proofs.pairs.name_row.Goals as goal

pub name_of-requires-clause-short : goal.name_of-requires-clause-short
name_of-requires-clause-short c = short_pair c.args.first.now c.args.second.now c.args.a.0 c.loop-b.b c.requires.a (omega arith) c.requires.short

pub returns-in_err-push_named : goal.returns-in_err-push_named
returns-in_err-push_named c =
    let p = err_from_is_err_and c.from_residual-in_err-push_named.result c.from_residual-in_err-push_named.ensures.1 in
    let name = pair_name c.args.first.now c.args.second.now c.args.a.0 c.loop-b.b in
    rw (p.1, p.2) (names_from_refused (omega arith) c.loop-b.invariant (push_refused c.loop-b.builder name.label six_zeros c.in_err-push_named.ensures.err))

pub loop-b-preserved : goal.loop-b-preserved
loop-b-preserved c =
    let builder = c.loop-b.builder in
    names_from_some (omega arith) c.loop-b.invariant
    (c.in_ok-push_named.ensures.ok
    ∙ (pushed builder c.in_ok-label.label six_zeros
    ∙ ap (λ label. with_named builder (record { label = label; fields = six_zeros } ∷ [])) c.in_ok-label.ensures.value))

pub returns : goal.returns
returns c = names_from_end (omega arith) c.loop-b.invariant
