use Rattle.std.proofs.Common.{ap, ◌∙◌, arith}
use Rattle.std.proofs.lemmas.Result.{err_from_is_err_and}
use Rattle.sgb_graph.specs.Graph.{n_of}
use Rattle.sgb_random.proofs.RandomGraphs.{begins, names_fit}
use Rattle.sgb_random.proofs.build.begin.Goals as goal

pub returns-in_err-name_vertices-clause-err : goal.returns-in_err-name_vertices-clause-err
returns-in_err-name_vertices-clause-err c =
    let p = err_from_is_err_and c.from_residual-in_err-name_vertices.result c.from_residual-in_err-name_vertices.ensures.1 in
    rw (p.1, p.2)
    (names_fit c.reserve_vertices.new.self (ap (λ d. n_of d.graph) (c.reserve_vertices.ensures.same ∙ c.new-builder.ensures)) (omega arith) c.in_err-name_vertices.ensures)

pub returns-clause-ok : goal.returns-clause-ok
returns-clause-ok c =
    begins c.args.spec.now c.args.seed c.in_ok-id.id c.none.result c.new-builder.ensures c.reserve_vertices.ensures.same
    (c.reserve.ensures.same ∙ c.in_ok-name_vertices.ensures) c.in_ok-id.ensures.value c.none.ensures.value c.vertices-n.ensures.value
