use Rattle.std.proofs.Common.{◌∙◌, ◌+◌, ◌∷◌, [], ap, sym, true, false}
use Rattle.std.specs.Int.{w64}
use Rattle.std.proofs.lemmas.Int.{to_z-of_z}
use Rattle.sgb_graph.specs.Edit.{with_arc, with_edge}
use Rattle.std.proofs.lemmas.Result.{err_from_is_err_and}
use Rattle.sgb_graph.specs.Graph.{GraphOf, made_of}
use Rattle.sgb_graph.specs.Builder.{insertion}
use Rattle.sgb_graph.proofs.Insertions.{grown_arc, grown_edge, refused_all, all_room, few_at}
use Rattle.sgb_graph.proofs.builder.Builder.insert.Goals as goal

pub returns-in_err-add_arc-clause-value : goal.returns-in_err-add_arc-clause-value
returns-in_err-add_arc-clause-value c =
    let p = err_from_is_err_and c.from_residual.result c.from_residual.ensures.1 in
    rw (p.1, p.2) (refused_all c.args.self.now true (insertion c.args.from.0 c.args.to.0 c.args.len ∷ []) c.in_err-add_arc.field-0.0 c.if-self.true c.in_err-add_arc.ensures.err)

pub returns-in_err-add_edge-clause-value : goal.returns-in_err-add_edge-clause-value
returns-in_err-add_edge-clause-value c =
    let p = err_from_is_err_and c.from_residual-in_err-add_edge.result c.from_residual-in_err-add_edge.ensures.1 in
    rw (p.1, p.2) (refused_all c.args.self.now false (insertion c.args.from.0 c.args.to.0 c.args.len ∷ []) c.in_err-add_edge.field-0.0 c.if-self.false c.in_err-add_edge.ensures.err)

pub returns-in_ok-add_arc-clause-value : goal.returns-in_ok-add_arc-clause-value
returns-in_ok-add_arc-clause-value c =
    let b = c.args.self.now in
    ap (λ (g : GraphOf). record { graph = g; directed = b.directed }) (c.in_ok-add_arc.ensures.graph ∙ ap (with_arc b.graph c.args.from.0 c.args.to.0) (to_z-of_z w64 c.args.len c.ranges.len))
    ∙ sym (grown_arc b (insertion c.args.from.0 c.args.to.0 c.args.len) c.if-self.true)

pub returns-in_ok-add_edge-clause-value : goal.returns-in_ok-add_edge-clause-value
returns-in_ok-add_edge-clause-value c =
    let b = c.args.self.now in
    ap (λ (g : GraphOf). record { graph = g; directed = b.directed }) (c.in_ok-add_edge.ensures.graph ∙ ap (with_edge b.graph c.args.from.0 c.args.to.0) (to_z-of_z w64 c.args.len c.ranges.len))
    ∙ sym (grown_edge b (insertion c.args.from.0 c.args.to.0 c.args.len) c.if-self.false)

pub returns-in_err-add_arc-clause-room : goal.returns-in_err-add_arc-clause-room
returns-in_err-add_arc-clause-room c =
    let p = err_from_is_err_and c.from_residual.result c.from_residual.ensures.1 in
    λ is. all_room c.args.self.now true (insertion c.args.from.0 c.args.to.0 c.args.len ∷ []) c.if-self.true (few_at (made_of c.args.self.now.graph + 1) c.in_err-add_arc.field-0.0 c.in_err-add_arc.ensures.err (cc (is, p.1, p.2)))

pub returns-in_err-add_edge-clause-room : goal.returns-in_err-add_edge-clause-room
returns-in_err-add_edge-clause-room c =
    let p = err_from_is_err_and c.from_residual-in_err-add_edge.result c.from_residual-in_err-add_edge.ensures.1 in
    λ is. all_room c.args.self.now false (insertion c.args.from.0 c.args.to.0 c.args.len ∷ []) c.if-self.false (few_at (made_of c.args.self.now.graph + 2) c.in_err-add_edge.field-0.0 c.in_err-add_edge.ensures.err (cc (is, p.1, p.2)))
