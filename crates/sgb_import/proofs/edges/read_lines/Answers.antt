use Rattle.std.proofs.Common.{[], ◌∷◌, ◌++◌, ◌≡◌, List, Err, map, subst, sym, ap, ◌∙◌}
use Rattle.std.proofs.lemmas.List.{append-nil}
use Rattle.std.proofs.lemmas.Result.{err_from_is_err_and}
use Rattle.std.proofs.lemmas.Map.Iter.{rest_so_far}
use Rattle.sgb_import.specs.declared.refusal.ImportRefusal.TheVariants.{NoRoom}
use Rattle.sgb_import.specs.Edges.{edges_in, first_line_fault}
use Rattle.sgb_import.specs.Lines.{LineOf, lines}
use Rattle.sgb_import.specs.Private.Cursors.{seen}
use Rattle.sgb_import.specs.Private.EdgesRead.{IsRead}
use Rattle.sgb_import.proofs.EdgesRun.{edge_line_fault, none_read, some_edge}
use Rattle.sgb_import.proofs.LineFaults.{free_end, free_start, line_refused}
use Rattle.sgb_import.proofs.edges.read_lines.Goals as goal

pub loop-line-init : goal.loop-line-init
loop-line-init c = record {
  free = free_start (edge_line_fault c.args.list c.args.header);
  read =
      subst (λ items. IsRead c.args.list c.args.header (edges_in []) c.first_names.result items) (sym c.new.ensures.items)
      (none_read c.args.list c.args.header c.first_names.result c.first_names.ensures.kind c.first_names.ensures.names c.requires);
}

pub returns-in_err-read_line-clause-err : goal.returns-in_err-read_line-clause-err
returns-in_err-read_line-clause-err c =
    let p = err_from_is_err_and c.from_residual.result c.from_residual.ensures.1 in
    let before : List LineOf = map seen c.loop-line.yielded in
    let line : LineOf = seen c.in-Some.line in
    let whole : lines c.args.text.now ≡ before ++ line ∷ c.next.new.self =
    sym c.new-line-items.ensures
    ∙ (sym c.into_iter-line-iterator.ensures.into_iter_gives
    ∙ (rest_so_far seen c.loop-line.yielded _ c.loop-line.line-iterator c.loop-line.yielded_by ∙ ap (λ ls. before ++ ls) c.in-Some.ensures.steps)) in
    rw (p.1, p.2)
    (line_refused (edge_line_fault c.args.list c.args.header) before line c.next.new.self whole c.loop-line.invariant.free
    (c.in_err-read_line.ensures.err before c.loop-line.invariant.read))

pub returns-clause-none : goal.returns-clause-none
returns-clause-none c =
    let before : List LineOf = map seen c.loop-line.yielded in
    let whole : lines c.args.text.now ≡ before =
    sym c.new-line-items.ensures
    ∙ (sym c.into_iter-line-iterator.ensures.into_iter_gives
    ∙ (rest_so_far seen c.loop-line.yielded _ c.loop-line.line-iterator c.loop-line.yielded_by ∙ (ap (λ ls. before ++ ls) c.in-None.ensures.steps.0 ∙ append-nil before))) in
    ap (first_line_fault c.args.list c.args.header) whole ∙ free_end (edge_line_fault c.args.list c.args.header) c.loop-line.invariant.free

pub returns-clause-read : goal.returns-clause-read
returns-clause-read c =
    let before : List LineOf = map seen c.loop-line.yielded in
    let whole : lines c.args.text.now ≡ before =
    sym c.new-line-items.ensures
    ∙ (sym c.into_iter-line-iterator.ensures.into_iter_gives
    ∙ (rest_so_far seen c.loop-line.yielded _ c.loop-line.line-iterator c.loop-line.yielded_by ∙ (ap (λ ls. before ++ ls) c.in-None.ensures.steps.0 ∙ append-nil before))) in
    subst (λ ls. IsRead c.args.list c.args.header (edges_in ls) c.loop-line.gathered.names c.loop-line.gathered.links.items) (sym whole) c.loop-line.invariant.read

pub returns-in_err-read_line-clause-room : goal.returns-in_err-read_line-clause-room
returns-in_err-read_line-clause-room c = λ is.
    let p = err_from_is_err_and c.from_residual.result c.from_residual.ensures.1 in
    let before : List LineOf = map seen c.loop-line.yielded in
    let line : LineOf = seen c.in-Some.line in
    let whole : lines c.args.text.now ≡ before ++ line ∷ c.next.new.self =
    sym c.new-line-items.ensures
    ∙ (sym c.into_iter-line-iterator.ensures.into_iter_gives
    ∙ (rest_so_far seen c.loop-line.yielded _ c.loop-line.line-iterator c.loop-line.yielded_by ∙ ap (λ ls. before ++ ls) c.in-Some.ensures.steps)) in
    let room : c.in_err-read_line.field-0.0 ≡ NoRoom = cc in
    some_edge before line c.next.new.self whole (c.in_err-read_line.ensures.room (ap (λ e. Err e) room))
