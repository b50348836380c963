use Rattle.std.proofs.Common.{◌≡◌, ◌∙◌, ◌-◌, ◌+◌, [], ◌∷◌, ◌++◌, replicate, sym, ap, arith}
use Rattle.sgb_grammar.specs.Reading.{behind, each_at}
use Rattle.sgb_grammar.specs.Record.{arc_at}
use Rattle.sgb_grammar.proofs.ItemSequences.{each_more, each_stops, each_all, fails_along, when_ok}
use Rattle.sgb_grammar.proofs.records.arcs.Goals as goal

pub returns-in-Err : goal.returns-in-Err
returns-in-Err c =
    fails_along _ _ _ c.in-Err.ensures
    (λ none. c.records.invariant ∙ each_stops arc_at c.args.letters.now c.args.count c.records._i c.records.rest.now c.records.parts c.records-test.true none)

pub records-preserved : goal.records-preserved
records-preserved c =
    let letters = c.args.letters.now in
    let rest = c.in-Ok.behind.now in
    let kept : c.push.new.self ≡ c.records.parts ++ (c.in-Ok.part ∷ []) =
    when_ok c.push.result (c.push.new.self ≡ c.records.parts ++ (c.in-Ok.part ∷ [])) (sym c.is_err.ensures.value ∙ c.if-is_err.false) c.push.ensures.ok in
    c.records.invariant
    ∙ each_more arc_at letters c.args.count c.records._i c.records.rest.now rest c.records.parts c.in-Ok.part c.records-test.true c.in-Ok.ensures
    ∙ ap (λ ps. behind ps (each_at arc_at (replicate (c.args.count - (c.records._i + 1)) letters) rest)) (sym kept)

pub returns : goal.returns
returns c = c.records.invariant ∙ each_all arc_at c.args.letters.now c.args.count c.records._i _ c.records.parts (omega arith)
