use Rattle.std.proofs.Common.{ap, refl, subst, ◌∙◌, inr}
use Rattle.sgb_graph.specs.Private.Fill.{can_name_vertices, FillsVertices, FillsArcs}
use Rattle.std.proofs.lemmas.Result.{err_from_is_err_and}
use Rattle.sgb_graph.proofs.FieldValues.{names_then, each-same}
use Rattle.sgb_graph.proofs.ArcOwners.{lays_moved, unnamed_refused, named_parts, arc_refused, filled_names, arcs_filled_names, builds, not_laid}
use Rattle.sgb_graph.proofs.graph.Graph.build.Goals as goal

pub returns-in_err-graph-clause-err : goal.returns-in_err-graph-clause-err
returns-in_err-graph-clause-err c =
    let p = err_from_is_err_and c.from_residual.result c.from_residual.ensures.1 in
    rw (p.1, p.2) (not_laid c.args.parts c.in_err-graph.field-0.0 (rw (← (c.deref.ensures.value ∙ c.into_vec-vertices.ensures), ← (c.deref-2.ensures.value ∙ c.into_vec-arcs.ensures)) c.in_err-graph.ensures.err))

pub returns-then-not-can_name_all-clause-err : goal.returns-then-not-can_name_all-clause-err
returns-then-not-can_name_all-clause-err c =
    let x = lays_moved _ _ _ _ c.in_ok-graph.graph (c.deref.ensures.value ∙ c.into_vec-vertices.ensures) (c.deref-2.ensures.value ∙ c.into_vec-arcs.ensures) c.in_ok-graph.ensures.ok in
    inr (refl, unnamed_refused c.args.parts c.in_ok-graph.graph _ c.can_name_all.result x (c.deref-3.ensures.value ∙ c.into_vec-vertices.ensures) c.can_name_all.ensures c.if-not-can_name_all.true)

pub fill_vertices-requires-clause-names : goal.fill_vertices-requires-clause-names
fill_vertices-requires-clause-names c =
    ap (can_name_vertices c.in_ok-graph.graph) c.into_vec-vertices.ensures
    ∙ (named_parts c.args.parts c.in_ok-graph.graph _ c.can_name_all.result (c.deref-3.ensures.value ∙ c.into_vec-vertices.ensures) c.can_name_all.ensures c.if-not-can_name_all.false).vertices

pub returns-in_err-fill_arcs-clause-err : goal.returns-in_err-fill_arcs-clause-err
returns-in_err-fill_arcs-clause-err c =
    let p = err_from_is_err_and c.from_residual-in_err-fill_arcs.result c.from_residual-in_err-fill_arcs.ensures.1 in
    let x = lays_moved _ _ _ _ c.in_ok-graph.graph (c.deref.ensures.value ∙ c.into_vec-vertices.ensures) (c.deref-2.ensures.value ∙ c.into_vec-arcs.ensures) c.in_ok-graph.ensures.ok in
    rw (p.1, p.2) (arc_refused c.args.parts c.in_ok-graph.graph c.fill_vertices.new.self _ c.in_err-fill_arcs.field-0.0 x (filled_names _ _ _ c.fill_vertices.ensures) c.into_vec-arcs.ensures c.in_err-fill_arcs.ensures.err)

pub fill_own-requires : goal.fill_own-requires
fill_own-requires c =
    each-same c.in_ok-graph.graph c.fill_arcs.new.self c.args.parts.fields (names_then _ _ _ (filled_names _ _ _ c.fill_vertices.ensures) (arcs_filled_names _ _ _ c.in_ok-fill_arcs.ensures.ok))
    ∙ (named_parts c.args.parts c.in_ok-graph.graph _ c.can_name_all.result (c.deref-3.ensures.value ∙ c.into_vec-vertices.ensures) c.can_name_all.ensures c.if-not-can_name_all.false).own

pub returns-clause-ok : goal.returns-clause-ok
returns-clause-ok c =
    let x = lays_moved _ _ _ _ c.in_ok-graph.graph (c.deref.ensures.value ∙ c.into_vec-vertices.ensures) (c.deref-2.ensures.value ∙ c.into_vec-arcs.ensures) c.in_ok-graph.ensures.ok in
    builds c.args.parts c.in_ok-graph.graph c.fill_vertices.new.self c.fill_arcs.new.self c.fill_own.new.self x c.in_ok-graph.ensures.own
    (subst (λ vs. FillsVertices vs c.in_ok-graph.graph c.fill_vertices.new.self) c.into_vec-vertices.ensures c.fill_vertices.ensures)
    (subst (λ rs. FillsArcs rs c.fill_vertices.new.self c.fill_arcs.new.self) c.into_vec-arcs.ensures c.in_ok-fill_arcs.ensures.ok)
    c.fill_own.ensures.value c.fill_own.ensures.sound
