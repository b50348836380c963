use Rattle.std.proofs.Common.{◌∷◌, ◌++◌, [], get_or, map, sym, ap, ◌∙◌, arith}
use Rattle.std.proofs.lemmas.List.{map_more, take_all}
use Rattle.sgb_perms.specs.Perms.{symbol}
use Rattle.sgb_perms.proofs.names.write_name.Goals as goal

pub loop-kind-preserved : goal.loop-kind-preserved
loop-kind-preserved c =
    let low = c.loop-kind-test.true in
    let kind = get_or c.args.row.now c.loop-kind.kind-index 0 in
    c.in_ok-push.ensures.items
    ∙ (ap (λ s. s ++ symbol kind ∷ []) c.loop-kind.invariant
    ∙ sym (map_more symbol c.args.row.now c.loop-kind.kind-index 0 low))

pub returns-clause-ok : goal.returns-clause-ok
returns-clause-ok c = c.loop-kind.invariant ∙ ap (map symbol) (take_all c.loop-kind.kind-index c.args.row.now (omega arith))
