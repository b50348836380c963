use Rattle.std.proofs.Common.{◌≡◌, ◌∷◌, [], ◌++◌, subst, sym, ap, ◌∙◌, arith}
use Rattle.std.specs.List.{range_with_len}
use Rattle.sgb_info.specs.Private.Forest.{IsForest, roots}
use Rattle.sgb_info.proofs.ForestLemmas.{start_forest, start_roots, range_more}
use Rattle.sgb_info.proofs.classes.Classes.new.Goals as goal

pub invariant_of-result : goal.invariant_of-result
invariant_of-result c = subst IsForest (sym c.loop-v.invariant) (start_forest c.loop-v.v)

pub loop-v-preserved : goal.loop-v-preserved
loop-v-preserved c = c.in_ok-push.ensures.items ∙ (ap (λ l. l ++ c.loop-v.v ∷ []) c.loop-v.invariant ∙ sym (range_more c.loop-v.v))

pub returns-clause-ok : goal.returns-clause-ok
returns-clause-ok c =
    let all : c.loop-v.v ≡ c.args.count = omega arith in
    ap roots (c.loop-v.invariant ∙ ap (range_with_len 0) all) ∙ start_roots c.args.count
