use Rattle.std.proofs.Common.{◌∷◌, [], ap, ◌∙◌, arith}
use Rattle.std.proofs.lemmas.Result.{err_from_is_err_and}
use Rattle.sgb_graph.specs.New.{six_zeros}
use Rattle.sgb_plan.specs.Name.{dotted}
use Rattle.sgb_plan.specs.Plan.{with_named}
use Rattle.sgb_plan.proofs.Plans.{pushed, push_refused, names_from_some, names_from_refused, names_from_end}
use Rattle.sgb_graph_tests.proofs.plan.example.name_vertices.Goals as goal

pub returns-in_err-push_vertex : goal.returns-in_err-push_vertex
returns-in_err-push_vertex c =
    let p = err_from_is_err_and c.from_residual-in_err-push_vertex.result c.from_residual-in_err-push_vertex.ensures.1 in
    rw (p.1, p.2) (names_from_refused (omega arith) c.loop-v.invariant
    (push_refused c.loop-v.builder (dotted (c.loop-v.v ∷ [])) six_zeros c.in_err-push_vertex.ensures.err))

pub loop-v-preserved : goal.loop-v-preserved
loop-v-preserved c =
    let builder = c.loop-v.builder in
    names_from_some (omega arith) c.loop-v.invariant
    (c.in_ok-push_vertex.ensures.ok
    ∙ (pushed builder c.new.result six_zeros
    ∙ ap (λ label. with_named builder (record { label = label; fields = six_zeros } ∷ [])) (c.new.ensures.value ∙ c.in_ok-label.ensures.value)))

pub returns : goal.returns
returns c = names_from_end (omega arith) c.loop-v.invariant
