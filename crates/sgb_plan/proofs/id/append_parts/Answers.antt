use Rattle.std.proofs.Common.{◌≡◌, ◌≤◌, ◌+◌, ◌++◌, map, sym, ap, ◌∙◌, arith}
use Rattle.std.specs.List.{join_with_byte}
use Rattle.std.proofs.lemmas.Result.{on_ok_weaker}
use Rattle.std.proofs.lemmas.List.Sums.{sum_by-cons}
use Rattle.sgb_plan.specs.Id.{part_text, widest, widest_parts}
use Rattle.sgb_plan.proofs.Joins.{wrote_first, short_first}
use Rattle.sgb_plan.proofs.Shorts.{IsShort-more, IsShort-as}
use Rattle.sgb_plan.proofs.id.append_parts.Goals as goal

pub returns-clause-ok : goal.returns-clause-ok
returns-clause-ok c =
    let start = c.args.bytes.now.items in
    let first = c.in-Some.first.now in
    let rest = c.in-Some.rest.now in
    on_ok_weaker c.append_behind_commas.result
    (λ written. wrote_first start 44 (part_text first) (map part_text rest) c.in_ok-append_part.ensures.ok written
    ∙ ap (λ ps. start ++ join_with_byte 44 (map part_text ps)) (sym c.in-Some.ensures.cases.0))
    c.append_behind_commas.ensures.ok

pub returns-clause-short : goal.returns-clause-short
returns-clause-short c =
    let first = c.in-Some.first.now in
    let rest = c.in-Some.rest.now in
    let all = c.in-Some.ensures.cases.0 in
    let total : widest_parts c.args.parts.now ≡ widest first + 1 + widest_parts rest = ap widest_parts all ∙ sum_by-cons (λ p. widest p + 1) first rest in
    let few : widest first + widest_parts rest ≤ widest_parts c.args.parts.now = omega (arith, total) in
    on_ok_weaker c.append_behind_commas.result
    (λ short. IsShort-as (IsShort-more few (short_first 44 (part_text first) (map part_text rest) c.append_part.ensures.short short))
    (ap (λ ps. join_with_byte 44 (map part_text ps)) (sym all)))
    c.append_behind_commas.ensures.short
