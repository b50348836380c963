use Rattle.std.proofs.Common.{◌≡◌, ℕ, List, [], map, ap, ◌∙◌, arith}
use Rattle.std.proofs.lemmas.Result.{err_from_is_err_and}
use Rattle.sgb_graph.specs.declared.builder.Builder.{Builder}
use Rattle.sgb_graph.specs.Graph.{n_of}
use Rattle.sgb_graph.specs.New.{bare_graph}
use Rattle.sgb_plan.specs.Plan.{with_named}
use Rattle.sgb_simplex.specs.Points.{points, point_types, point_vertex}
use Rattle.sgb_simplex.specs.Private.Started.{started}
use Rattle.sgb_simplex.proofs.Generators.{n-started, names_only_room}
use Rattle.sgb_simplex.proofs.generate.start.Goals as goal

pub returns-in_err-name_vertices-clause-err : goal.returns-in_err-name_vertices-clause-err
returns-in_err-name_vertices-clause-err c =
    let p = err_from_is_err_and c.from_residual.result c.from_residual.ensures.1 in
    let list = c.args.list.now in
    rw (p.1, p.2)
    (names_only_room c.new-builder.result c.args.id c.args.directed (points list.total list.bounds.items) c.in_err-name_vertices.field-0.0
    (c.new-builder.ensures ∙ ap (λ t. record { graph = bare_graph c.args.id t []; directed = c.args.directed }) c.point_types.ensures)
    (omega (arith, list.counted, list.few)) c.in_err-name_vertices.ensures)

pub returns-clause-count : goal.returns-clause-count
returns-clause-count c =
    let list = c.args.list.now in
    let all : List (List ℕ) = points list.total list.bounds.items in
    let begins : c.new-builder.result ≡ record { graph = bare_graph c.args.id point_types []; directed = c.args.directed } =
    c.new-builder.ensures ∙ ap (λ t. record { graph = bare_graph c.args.id t []; directed = c.args.directed }) c.point_types.ensures in
    let named : n_of c.name_vertices.new.builder.graph ≡ n_of (with_named c.new-builder.result (map point_vertex all)).graph = ap (λ (b : Builder). n_of b.graph) c.in_ok-name_vertices.ensures in
    let same : n_of (with_named c.new-builder.result (map point_vertex all)).graph ≡ n_of (started c.args.id c.args.directed all).graph = ap (λ (b : Builder). n_of (with_named b (map point_vertex all)).graph) begins in
    omega (arith, named, same, n-started c.args.id c.args.directed all, list.counted)
