use Rattle.std.proofs.Common.{◌+◌, [], map, arith, ap, subst, ◌∙◌}
use Rattle.std.specs.List.{range_with_len}
use Rattle.std.proofs.lemmas.Result.{err_from_is_err_and}
use Rattle.sgb_graph.specs.Graph.{n_of}
use Rattle.sgb_graph.specs.New.{bare_graph}
use Rattle.sgb_plan.specs.Plan.{with_named}
use Rattle.sgb_plan.proofs.Plans.{RefusesNames, names_start, names_some, names_refused, names_end, names_as}
use Rattle.sgb_combine.specs.Product.{pair_name, pair_names}
use Rattle.sgb_combine.proofs.PairNames.{rows_left, rows_all, rows_cons, rows_none}
use Rattle.sgb_combine.proofs.pairs.begin_pairs.Goals as goal

pub loop-a-init : goal.loop-a-init
loop-a-init c =
    let g = c.args.first.now in
    let h = c.args.second.now in
    names_as (names_start c.reserve_vertices.new.self (pair_names g h)) (rows_all g h)

pub returns-in_err-name_row : goal.returns-in_err-name_row
returns-in_err-name_row c =
    let p = err_from_is_err_and c.from_residual-in_err-name_row.result c.from_residual-in_err-name_row.ensures.1 in
    let g = c.args.first.now in
    let h = c.args.second.now in
    let a = c.loop-a.a in
    let left = names_as c.loop-a.invariant (rows_cons g h a (omega arith)) in
    let bare = c.in_ok-reserve_vertices.ensures.same ∙ (c.new-builder.ensures ∙ ap (λ t. record { graph = bare_graph c.args.id t []; directed = c.args.spec.directed }) c.none.ensures.value) in
    rw (p.1, p.2) (subst (λ b. RefusesNames b (pair_names g h) c.in_err-name_row.field-0.0) bare
    (names_refused (map (pair_name g h a) (range_with_len 0 (n_of h))) (rows_left g h (a + 1)) left c.in_err-name_row.ensures))

pub loop-a-preserved : goal.loop-a-preserved
loop-a-preserved c =
    let g = c.args.first.now in
    let h = c.args.second.now in
    let a = c.loop-a.a in
    let left = names_as c.loop-a.invariant (rows_cons g h a (omega arith)) in
    names_some (map (pair_name g h a) (range_with_len 0 (n_of h))) (rows_left g h (a + 1)) left c.in_ok-name_row.ensures

pub returns : goal.returns
returns c =
    let g = c.args.first.now in
    let h = c.args.second.now in
    let bare = c.in_ok-reserve_vertices.ensures.same ∙ (c.new-builder.ensures ∙ ap (λ t. record { graph = bare_graph c.args.id t []; directed = c.args.spec.directed }) c.none.ensures.value) in
    c.in_ok-reserve.ensures.same ∙ (names_end (names_as c.loop-a.invariant (rows_none g h c.loop-a.a (omega arith))) ∙ ap (λ b. with_named b (pair_names g h)) bare)
