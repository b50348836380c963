use Rattle.std.proofs.Common.{[], List, ℕ, map, subst, sym, ◌∙◌, arith}
use Rattle.std.proofs.lemmas.Result.{err_from_is_err_and}
use Rattle.std.proofs.lemmas.List.{get_or_default}
use Rattle.sgb_plan.proofs.Plans.{NamesOf, names_of_start, names_of_some, names_of_refused, names_of_end}
use Rattle.sgb_simplex.specs.Points.{points, point_vertex}
use Rattle.sgb_simplex.proofs.naming.name_vertices.Goals as goal

pub loop-v-init : goal.loop-v-init
loop-v-init c =
    let all : List (List ℕ) = points c.args.list.now.total c.args.list.now.bounds.items in
    subst (λ b. NamesOf c.args.builder.now (map point_vertex all) b point_vertex all 0) (sym c.reserve_vertices.ensures.same) (names_of_start c.args.builder.now point_vertex all)

pub push_point-requires : goal.push_point-requires
push_point-requires c = omega (arith, c.point.ensures.point.long, c.args.list.now.narrow, c.args.list.now.bounds.ok.0)

pub returns-in_err-push_point : goal.returns-in_err-push_point
returns-in_err-push_point c =
    let p = err_from_is_err_and c.from_residual-in_err-push_point.result c.from_residual-in_err-push_point.ensures.1 in
    let list = c.args.list.now in
    let all : List (List ℕ) = points list.total list.bounds.items in
    let x : List ℕ = c.point.result.now in
    rw (p.1, p.2)
    (names_of_refused x (omega (arith, list.counted)) (c.point.ensures.value ∙ get_or_default all c.loop-v.v [] x (omega (arith, list.counted))) c.loop-v.invariant c.in_err-push_point.ensures)

pub loop-v-preserved : goal.loop-v-preserved
loop-v-preserved c =
    let list = c.args.list.now in
    let all : List (List ℕ) = points list.total list.bounds.items in
    let x : List ℕ = c.point.result.now in
    names_of_some x (omega (arith, list.counted)) (c.point.ensures.value ∙ get_or_default all c.loop-v.v [] x (omega (arith, list.counted))) c.loop-v.invariant c.in_ok-push_point.ensures

pub returns : goal.returns
returns c = names_of_end (omega (arith, c.args.list.now.counted)) c.loop-v.invariant
