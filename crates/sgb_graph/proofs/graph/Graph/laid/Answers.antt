use Rattle.std.proofs.Common.{ap, arith, inr, map, ◌∙◌}
use Rattle.std.proofs.lemmas.List.{with_items_is}
use Rattle.std.proofs.lemmas.Result.{err_from_is_err_and}
use Rattle.sgb_graph.specs.declared.graph.Graph.TheInside.{Inside}
use Rattle.sgb_graph.specs.Private.Lay.{laid_slot}
use Rattle.sgb_graph.proofs.ArcOwners.{owns_none, laid_done, laid_all, none_laid}
use Rattle.sgb_graph.proofs.graph.Graph.laid.Goals as goal

pub own_all-requires-clause-owns : goal.own_all-requires-clause-owns
own_all-requires-clause-owns c =
    owns_none c.args.parts.now c.args.arcs.now c.deref_mut.result.now (c.deref_mut.ensures.value ∙ c.in_ok-rows.ensures.ok) c.requires.vertices c.requires.arcs

pub returns-in_err-holes-clause-err : goal.returns-in_err-holes-clause-err
returns-in_err-holes-clause-err c =
    let p = err_from_is_err_and c.from_residual-in_err-holes.result c.from_residual-in_err-holes.ensures.1 in
    rw (p.1, p.2) (inr (none_laid c.args.parts.now c.args.arcs.now c.deref_mut.result.now c.in_err-holes.field-0.0 (c.deref_mut.ensures.value ∙ c.in_ok-rows.ensures.ok) c.in_err-holes.ensures.err))

pub invariant_of-result : goal.invariant_of-result
invariant_of-result c =
    let b : Inside = record { id = c.args.id; types = c.args.types; fields = c.six_zeros.result; vertices = c.link_firsts.new.vertices; slots = c.in_ok-slots.slots; holes = c.in_ok-holes.holes } in
    let rows_is = c.deref.ensures.value ∙ with_items_is c.in_ok-rows.rows c.own_all.new.rows (omega (arith, c.own_all.auto.rows, c.deref_mut.ensures.len)) in
    (laid_done b c.args.parts.now c.own_all.new.rows c.in_ok-vertices.vertices c.in_ok-holes.ensures.ok c.requires.vertices c.in_ok-vertices.ensures.ok c.link_firsts.ensures
    (c.in_ok-slots.ensures.ok ∙ ap (map laid_slot) rows_is) (record { text = c.bytes.ensures.text; short = c.requires.id }) c.letters.ensures.types c.six_zeros.ensures).arena

pub returns-clause-ok : goal.returns-clause-ok
returns-clause-ok c =
    let b : Inside = record { id = c.args.id; types = c.args.types; fields = c.six_zeros.result; vertices = c.link_firsts.new.vertices; slots = c.in_ok-slots.slots; holes = c.in_ok-holes.holes } in
    let rows_is = c.deref.ensures.value ∙ with_items_is c.in_ok-rows.rows c.own_all.new.rows (omega (arith, c.own_all.auto.rows, c.deref_mut.ensures.len)) in
    let done = laid_done b c.args.parts.now c.own_all.new.rows c.in_ok-vertices.vertices c.in_ok-holes.ensures.ok c.requires.vertices c.in_ok-vertices.ensures.ok c.link_firsts.ensures
    (c.in_ok-slots.ensures.ok ∙ ap (map laid_slot) rows_is) (record { text = c.bytes.ensures.text; short = c.requires.id }) c.letters.ensures.types c.six_zeros.ensures in
    laid_all c.args.parts.now c.args.arcs.now c.deref_mut.result.now c.own_all.new.rows _ (c.deref_mut.ensures.value ∙ c.in_ok-rows.ensures.ok) c.own_all.ensures.links done.lays
