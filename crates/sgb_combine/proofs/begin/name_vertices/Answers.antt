use Rattle.std.proofs.Common.{◌∷◌, [], sym, ap, subst, ◌∙◌, arith}
use Rattle.std.proofs.lemmas.Result.{err_from_is_err_and}
use Rattle.sgb_graph.specs.Graph.{n_of, label_of}
use Rattle.sgb_graph.specs.New.{six_zeros}
use Rattle.sgb_plan.specs.Plan.{with_named}
use Rattle.sgb_plan.proofs.Plans.{NamesFrom, pushed, push_refused, names_from_some, names_from_refused, names_from_end, names_from_start}
use Rattle.sgb_combine.specs.Combined.{named_as, vertices_of}
use Rattle.sgb_combine.proofs.begin.name_vertices.Goals as goal

pub loop-v-init : goal.loop-v-init
loop-v-init c =
    let g = c.args.graph.now in
    let start = c.args.builder.now in
    subst (λ b. NamesFrom start (vertices_of g) b (named_as g) 0 (n_of g)) (sym c.in_ok-reserve_vertices.ensures.same)
    (names_from_start start (named_as g) (n_of g))

pub returns-in_err-push_named : goal.returns-in_err-push_named
returns-in_err-push_named c =
    let p = err_from_is_err_and c.from_residual-in_err-push_named.result c.from_residual-in_err-push_named.ensures.1 in
    rw (p.1, p.2) (names_from_refused (omega arith) c.loop-v.invariant
    (push_refused c.loop-v.builder (label_of c.args.graph.now c.loop-v.v) six_zeros c.in_err-push_named.ensures.err))

pub loop-v-preserved : goal.loop-v-preserved
loop-v-preserved c =
    let builder = c.loop-v.builder in
    names_from_some (omega arith) c.loop-v.invariant
    (c.in_ok-push_named.ensures.ok
    ∙ (pushed builder c.in_ok-label.label six_zeros
    ∙ ap (λ label. with_named builder (record { label = label; fields = six_zeros } ∷ [])) (c.in_ok-label.ensures.value ∙ c.label.ensures.value)))

pub returns : goal.returns
returns c = names_from_end (omega arith) c.loop-v.invariant
