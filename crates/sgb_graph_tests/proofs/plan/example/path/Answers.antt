use Rattle.std.proofs.Common.{◌≡◌, ℕ, List, [], map, Bool, Ok, Err, refl, sym, ap, ap₂, subst, ◌∙◌, arith}
use Rattle.std.specs.List.{range_with_len}
use Rattle.std.proofs.lemmas.Bool.{eq-eqb, ne_eqb}
use Rattle.std.proofs.lemmas.List.FromFn.{length-map-range_with_len}
use Rattle.std.proofs.lemmas.Result.{err_from_is_err_and}
use Rattle.sgb_graph.specs.declared.builder.Builder.{Builder}
use Rattle.sgb_graph.specs.declared.refusal.Refusal.TheVariants.{BadSpecs}
use Rattle.sgb_graph.specs.Graph.{IsGraph, n_of}
use Rattle.sgb_graph.specs.New.{bare_graph}
use Rattle.sgb_plan.specs.Plan.{Plan, IsMade, with_named}
use Rattle.sgb_plan.proofs.Plans.{begun, n-with_named, RefusesNames, made, refused_before, refused_names, refused_insertions}
use Rattle.sgb_graph_tests.specs.Path.{path_vertex, path_plan, plan_of_path}
use Rattle.sgb_graph_tests.proofs.plan.example.path.Goals as goal

no_path : (n : ℕ) (directed : Bool) → n ≡ 0 → plan_of_path n directed ≡ Err BadSpecs
no_path n directed none = rw (eq-eqb n 0 none) refl

some_path : (n : ℕ) (directed : Bool) → (n ≡ 0 → ⊥) → plan_of_path n directed ≡ Ok (path_plan n directed)
some_path n directed some = rw (ne_eqb n 0 some) refl

-- the builder that the plan begins with
begins : (n : ℕ) (directed : Bool) (id types : List ℕ) (b : Builder) → b ≡ record { graph = bare_graph id types []; directed = directed } → id ≡ (path_plan n directed).id → types ≡ (path_plan n directed).types → b ≡ begun (path_plan n directed)
begins n directed id types b is named letters = is ∙ ap₂ (λ i t. record { graph = bare_graph i t []; directed = directed }) named letters

pub returns-then-n-eq0 : goal.returns-then-n-eq0
returns-then-n-eq0 c =
    subst (λ plan. IsMade plan (Err BadSpecs)) (sym (no_path c.args.n c.args.directed c.if-n-eq0.true)) (refused_before BadSpecs)

pub returns-in_err-name_vertices : goal.returns-in_err-name_vertices
returns-in_err-name_vertices c =
    let p = err_from_is_err_and c.from_residual-in_err-name_vertices.result c.from_residual-in_err-name_vertices.ensures.1 in
    let plan : Plan = path_plan c.args.n c.args.directed in
    let begun_so = begins c.args.n c.args.directed c.in_ok-id.id c.none.result c.new-builder.result c.new-builder.ensures c.in_ok-id.ensures.value c.none.ensures.value in
    rw (p.1, p.2, some_path c.args.n c.args.directed c.if-n-eq0.false)
    (refused_names plan (subst (λ b. RefusesNames b plan.vertices c.in_err-name_vertices.field-0.0) begun_so c.in_err-name_vertices.ensures))

pub insert_steps-requires : goal.insert_steps-requires
insert_steps-requires c =
    let vs = map path_vertex (range_with_len 0 c.args.n) in
    let begun_so = begins c.args.n c.args.directed c.in_ok-id.id c.none.result c.new-builder.result c.new-builder.ensures c.in_ok-id.ensures.value c.none.ensures.value in
    let none : n_of c.new-builder.result.graph ≡ 0 = ap (λ (b : Builder). n_of b.graph) begun_so in
    let all : n_of c.name_vertices.new.builder.graph ≡ n_of (with_named c.new-builder.result vs).graph = ap (λ (b : Builder). n_of b.graph) c.in_ok-name_vertices.ensures in
    omega (arith, none, all, n-with_named c.new-builder.result vs, length-map-range_with_len path_vertex 0 c.args.n)

pub returns-in_err-insert_steps : goal.returns-in_err-insert_steps
returns-in_err-insert_steps c =
    let p = err_from_is_err_and c.from_residual-in_err-insert_steps.result c.from_residual-in_err-insert_steps.ensures.1 in
    let plan : Plan = path_plan c.args.n c.args.directed in
    let begun_so = begins c.args.n c.args.directed c.in_ok-id.id c.none.result c.new-builder.result c.new-builder.ensures c.in_ok-id.ensures.value c.none.ensures.value in
    rw (p.1, p.2, some_path c.args.n c.args.directed c.if-n-eq0.false)
    (refused_insertions plan (c.in_ok-name_vertices.ensures ∙ ap (λ b. with_named b plan.vertices) begun_so) c.in_err-insert_steps.ensures)

pub returns : goal.returns
returns c =
    let plan : Plan = path_plan c.args.n c.args.directed in
    let begun_so = begins c.args.n c.args.directed c.in_ok-id.id c.none.result c.new-builder.result c.new-builder.ensures c.in_ok-id.ensures.value c.none.ensures.value in
    let whole = made plan (c.in_ok-name_vertices.ensures ∙ ap (λ b. with_named b plan.vertices) begun_so) c.in_ok-insert_steps.ensures (subst IsGraph c.finish.ensures.value c.finish.ensures.sound) in
    rw (some_path c.args.n c.args.directed c.if-n-eq0.false, c.finish.ensures.value) whole
