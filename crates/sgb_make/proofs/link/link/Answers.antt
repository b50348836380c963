use Rattle.std.proofs.Common.{◌≡◌, ◌+◌, ◌-◌, ℕ, [], ◌∷◌, ◌++◌, length, get_or, Vec, Global, false, ap, sym, ◌∙◌, arith}
use Rattle.sgb_make.specs.declared.side.Side.{Side}
use Rattle.sgb_make.specs.declared.side.Step.{Step}
use Rattle.sgb_make.specs.Private.Link.{part_of, rows_of}
use Rattle.sgb_make.proofs.Links.{links_from, links_more, links_end, table_low, table_few}
use Rattle.sgb_make.proofs.link.link.Goals as goal

pub loop-done-init : goal.loop-done-init
loop-done-init c =
    c.in_ok-push.ensures.items
    ∙ (ap (λ t. t ++ 1 ∷ []) c.clear.ensures.items
    ∙ (sym (links_end c.args.sides.now c.args.steps.now) ∙ ap (links_from c.args.sides.now c.args.steps.now) (omega arith)))

pub append_rows-requires-clause-low : goal.append_rows-requires-clause-low
append_rows-requires-clause-low c =
    table_low c.deref.result.now c.args.sides.now c.args.steps.now (length c.args.sides.now - c.loop-done.done) c.requires.parts (c.deref.ensures.value ∙ c.loop-done.invariant)

pub append_rows-requires-clause-few : goal.append_rows-requires-clause-few
append_rows-requires-clause-few c =
    let k : ℕ = length c.args.sides.now - 1 - c.loop-done.done in
    table_few c.deref.result.now c.args.sides.now c.args.steps.now k (record { size = 0; wraps = false }) (omega arith) c.requires.parts c.requires.small
    (c.deref.ensures.value ∙ (c.loop-done.invariant ∙ ap (links_from c.args.sides.now c.args.steps.now) (omega arith)))

pub loop-done-preserved : goal.loop-done-preserved
loop-done-preserved c =
    let k : ℕ = length c.args.sides.now - 1 - c.loop-done.done in
    let d : Side = record { size = 0; wraps = false } in
    let e : Step = record { by = 0; back = false } in
    let rows = rows_of (get_or c.args.sides.now k d) (part_of (get_or c.args.steps.now k e)) in
    let behind : c.loop-done.tables.table.items ≡ links_from c.args.sides.now c.args.steps.now (k + 1) = c.loop-done.invariant ∙ ap (links_from c.args.sides.now c.args.steps.now) (omega arith) in
    ap (λ (v : Vec ℕ Global). v.items) c.swap.ensures.x_after
    ∙ (c.in_ok-append_rows.ensures
    ∙ (ap (λ t. t ++ rows c.deref.result.now) c.clear-in-loop-done.ensures.items
    ∙ (ap rows (c.deref.ensures.value ∙ behind)
    ∙ (sym (links_more c.args.sides.now c.args.steps.now k d e (omega arith) c.requires.parts)
    ∙ ap (links_from c.args.sides.now c.args.steps.now) (omega arith)))))

pub returns : goal.returns
returns c =
    let all : length c.args.sides.now - c.loop-done.done ≡ 0 = omega arith in
    c.loop-done.invariant ∙ ap (links_from c.args.sides.now c.args.steps.now) all
