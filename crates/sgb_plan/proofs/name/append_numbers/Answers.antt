use Rattle.std.proofs.Common.{◌≡◌, ◌≤◌, ◌+◌, ◌*◌, ◌++◌, length, take, map, decimal, sym, ap, ◌∙◌, arith}
use Rattle.std.proofs.lemmas.List.{take_all}
use Rattle.sgb_plan.specs.Name.{dotted}
use Rattle.sgb_plan.proofs.Joins.{behind, wrote_first, short_first}
use Rattle.sgb_plan.proofs.Shorts.{IsShort-more, IsShort-as}
use Rattle.sgb_plan.proofs.name.append_numbers.Goals as goal

pub returns-clause-ok : goal.returns-clause-ok
returns-clause-ok c =
    let start = c.args.bytes.now.items in
    let first = c.in-Some.first.now in
    let rest = c.in-Some.rest.now in
    let all : take c.loop-part.part-index rest ≡ rest = take_all c.loop-part.part-index rest (omega arith) in
    wrote_first start 46 (decimal first) (map decimal rest) c.in_ok-append_count.ensures.ok
    (c.loop-part.invariant.written ∙ ap (λ ns. c.append_count.new.bytes.items ++ behind 46 (map decimal ns)) all)
    ∙ ap (λ ns. start ++ dotted ns) (sym c.in-Some.ensures.cases.0)

pub returns-clause-short : goal.returns-clause-short
returns-clause-short c =
    let first = c.in-Some.first.now in
    let rest = c.in-Some.rest.now in
    let parts = c.in-Some.ensures.cases in
    let all : take c.loop-part.part-index rest ≡ rest = take_all c.loop-part.part-index rest (omega arith) in
    let few : 10 + 11 * c.loop-part.part-index ≤ 11 * length c.args.parts.now = omega (arith, parts.1) in
    IsShort-as (IsShort-more few (short_first 46 (decimal first) (map decimal rest) c.append_count.ensures.short (IsShort-as c.loop-part.invariant.short (ap (λ ns. behind 46 (map decimal ns)) all))))
    (ap dotted (sym parts.0))
