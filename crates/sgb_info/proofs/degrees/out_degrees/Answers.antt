use Rattle.std.proofs.Common.{◌∷◌, [], ◌++◌, map, ap, ap₂, sym, ◌∙◌, arith}
use Rattle.std.specs.List.{range_with_len}
use Rattle.std.proofs.lemmas.List.FromFn.{map-range_with_len_more}
use Rattle.sgb_info.specs.Degrees.{out_degree, out_degrees}
use Rattle.sgb_info.proofs.degrees.out_degrees.Goals as goal

pub loop-v-preserved : goal.loop-v-preserved
loop-v-preserved c =
    let degree = out_degree c.args.graph.now in
    c.in_ok-push.ensures.items
    ∙ (ap₂ (λ ds d. ds ++ d ∷ []) c.loop-v.invariant c.out_degree.ensures ∙ sym (map-range_with_len_more degree 0 c.loop-v.v c.loop-v.v (omega arith)))

pub returns-clause-ok : goal.returns-clause-ok
unfolding out_degrees
returns-clause-ok c = c.loop-v.invariant ∙ ap (λ n. map (out_degree c.args.graph.now) (range_with_len 0 n)) (omega arith)
