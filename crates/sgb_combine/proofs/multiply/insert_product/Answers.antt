use Rattle.std.proofs.Common.{◌≤◌, All, arith, sym, ap, subst, ◌∙◌}
use Rattle.std.specs.List.{filter}
use Rattle.std.proofs.lemmas.List.Elements.{All-filter}
use Rattle.std.proofs.lemmas.Result.{err_from_is_err_and}
use Rattle.sgb_graph.specs.Graph.{n_of}
use Rattle.sgb_graph.specs.Builder.{grown}
use Rattle.sgb_graph.proofs.InsertionRuns.{RefusesInsertions, from_some, from_refused, from_end, from_n}
use Rattle.sgb_combine.specs.Private.Pruned.{is_above, IsRowWithin}
use Rattle.sgb_combine.specs.Private.Rows.{row_of}
use Rattle.sgb_combine.proofs.Products.{row_is, rows_within}
use Rattle.sgb_combine.proofs.GraphRows.{row_sound}
use Rattle.sgb_combine.proofs.LowerPairs.{next_row}
use Rattle.sgb_combine.proofs.multiply.insert_product.Goals as goal

pub insert_row-requires-clause-few : goal.insert_row-requires-clause-few
insert_row-requires-clause-few c =
    let few : n_of c.args.builder.now.graph ≤ 65535 = omega (arith, c.n.ensures.value, c.n.ensures.limit, ap n_of c.graph.ensures.value) in
    omega (arith, few, from_n c.loop-a.invariant)

pub insert_row-requires-clause-row : goal.insert_row-requires-clause-row
insert_row-requires-clause-row c =
    let row = next_row c.loop-a.a (n_of c.args.first.now) (n_of c.args.second.now) (omega arith) in
    omega (arith, row, from_n c.loop-a.invariant, c.requires)

pub insert_row-requires-clause-from : goal.insert_row-requires-clause-from
insert_row-requires-clause-from c =
    let g = c.args.first.now in
    let h = c.args.second.now in
    let d = c.args.spec.directed in
    let m = n_of c.loop-a.builder.graph in
    let all = rows_within (n_of h) (n_of g) m (row_of d d g c.loop-a.a) (row_sound d d g c.loop-a.a c.n-a-end.ensures.graph (omega arith)) (from_n c.loop-a.invariant ∙ c.requires) in
    subst (λ ss. All (IsRowWithin (n_of h) m) ss) (sym (c.deref.ensures.value ∙ c.in_ok-read_across.ensures.from)) all

pub insert_row-requires-clause-above : goal.insert_row-requires-clause-above
insert_row-requires-clause-above c =
    let g = c.args.first.now in
    let h = c.args.second.now in
    let d = c.args.spec.directed in
    let m = n_of c.loop-a.builder.graph in
    let all = rows_within (n_of h) (n_of g) m (row_of d d g c.loop-a.a) (row_sound d d g c.loop-a.a c.n-a-end.ensures.graph (omega arith)) (from_n c.loop-a.invariant ∙ c.requires) in
    let high = All-filter (is_above c.loop-a.a) (IsRowWithin (n_of h) m) (row_of d d g c.loop-a.a) all in
    subst (λ ss. All (IsRowWithin (n_of h) m) ss) (sym (c.deref-in-loop-a.ensures.value ∙ (c.in_ok-read_across.ensures.above ∙ ap (filter (is_above c.loop-a.a)) c.in_ok-read_across.ensures.from))) high

pub returns-in_err-insert_row : goal.returns-in_err-insert_row
returns-in_err-insert_row c =
    let p = err_from_is_err_and c.from_residual-in_err-insert_row.result c.from_residual-in_err-insert_row.ensures.1 in
    let from_is = c.deref.ensures.value ∙ c.in_ok-read_across.ensures.from in
    let above_is = c.deref-in-loop-a.ensures.value ∙ (c.in_ok-read_across.ensures.above ∙ ap (filter (is_above c.loop-a.a)) (sym c.deref.ensures.value)) in
    let same = row_is c.args.spec c.args.first.now c.args.second.now c.loop-a.a c.deref.result.now c.deref-in-loop-a.result.now c.n-2.ensures.graph from_is above_is in
    rw (p.1, p.2) (from_refused (omega arith) c.loop-a.invariant (subst (λ es. RefusesInsertions c.loop-a.builder es c.in_err-insert_row.field-0.0) same c.in_err-insert_row.ensures))

pub loop-a-preserved : goal.loop-a-preserved
loop-a-preserved c =
    let from_is = c.deref.ensures.value ∙ c.in_ok-read_across.ensures.from in
    let above_is = c.deref-in-loop-a.ensures.value ∙ (c.in_ok-read_across.ensures.above ∙ ap (filter (is_above c.loop-a.a)) (sym c.deref.ensures.value)) in
    let same = row_is c.args.spec c.args.first.now c.args.second.now c.loop-a.a c.deref.result.now c.deref-in-loop-a.result.now c.n-2.ensures.graph from_is above_is in
    from_some (omega arith) c.loop-a.invariant (c.in_ok-insert_row.ensures ∙ ap (grown c.loop-a.builder) same)

pub returns : goal.returns
returns c = from_end (omega arith) c.loop-a.invariant
