use Rattle.std.proofs.Common.{◌∷◌, ◌++◌, ◌+◌, [], ap, map, sym, ◌∙◌, subst, arith}
use Rattle.std.specs.List.{range_with_len}
use Rattle.std.proofs.lemmas.Result.{err_from_is_err_and}
use Rattle.sgb_graph.specs.New.{six_zeros}
use Rattle.sgb_plan.specs.Name.{dotted}
use Rattle.sgb_plan.specs.Plan.{with_named}
use Rattle.sgb_plan.proofs.Plans.{NamesFrom, RefusesNames, pushed, push_refused, names_from_some, names_from_refused, names_from_end}
use Rattle.sgb_import.proofs.OutlineGraphs.{number_name, numbers_named, names_from_first}
use Rattle.sgb_import.proofs.outline.name_by_numbers.Goals as goal

pub loop-v-init : goal.loop-v-init
loop-v-init c =
    subst (λ b. NamesFrom c.args.builder.now (map number_name (range_with_len c.args.first c.args.count)) b number_name c.args.first (c.args.first + c.args.count)) (sym c.in_ok-reserve_vertices.ensures.same)
    (names_from_first c.args.builder.now number_name c.args.first c.args.count)

pub returns-in_err-push_named : goal.returns-in_err-push_named
returns-in_err-push_named c =
    let p = err_from_is_err_and c.from_residual-in_err-push_named.result c.from_residual-in_err-push_named.ensures.1 in
    rw (p.1, p.2)
    (subst (λ vs. RefusesNames c.args.builder.now vs c.in_err-push_named.field-0.0) (numbers_named c.args.first c.args.count)
    (names_from_refused (omega arith) c.loop-v.invariant
    (push_refused c.loop-v.builder (dotted (c.loop-v.v ∷ [])) six_zeros c.in_err-push_named.ensures.err)))

pub loop-v-preserved : goal.loop-v-preserved
loop-v-preserved c =
    let builder = c.loop-v.builder in
    names_from_some (omega arith) c.loop-v.invariant
    (c.in_ok-push_named.ensures.ok
    ∙ (pushed builder c.in_ok-label.label six_zeros
    ∙ ap (λ label. with_named builder (record { label = label; fields = six_zeros } ∷ [])) (c.in_ok-label.ensures.value ∙ (c.deref.ensures.value ∙ (c.in_ok-append_dotted.ensures.ok ∙ ap (λ l. l ++ dotted (c.loop-v.v ∷ [])) c.clear.ensures.items)))))

pub returns : goal.returns
returns c =
    names_from_end (omega arith) c.loop-v.invariant ∙ ap (with_named c.args.builder.now) (numbers_named c.args.first c.args.count)
