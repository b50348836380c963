use Rattle.std.proofs.Common.{◌≡◌, ◌∙◌, ◌<◌, ap, sym, arith, None, get_or}
use Rattle.std.specs.List.{range_with_len}
use Rattle.std.proofs.lemmas.List.FromFn.{get_or-range_with_len, length-range_with_len}
use Rattle.sgb_graph.specs.Graph.{made_of}
use Rattle.sgb_text.specs.Clean.{clean_of, dirt_in_entry}
use Rattle.sgb_text.specs.Save.{arc_record}
use Rattle.sgb_text.specs.Private.Page.{with_line}
use Rattle.sgb_text.proofs.RecordLists.{lists_one, listed_page}
use Rattle.sgb_text.proofs.records.put_arcs.Goals as goal

pub arcs-preserved : goal.arcs-preserved
arcs-preserved c =
    let s = c.args.graph.now in
    let k = c.arcs.k in
    let within : k < made_of s = omega (arith, c.arcs-test.true, c.made-k-end.ensures.value) in
    let here : get_or (range_with_len 0 (made_of s)) k 0 ≡ k = omega (arith, get_or-range_with_len 0 (made_of s) k 0 within) in
    lists_one (arc_record (clean_of s)) (dirt_in_entry s.types) 2 (range_with_len 0 (made_of s)) s.entries _ _ _ k _ _ 0 None c.arcs.invariant
    (omega (arith, within, length-range_with_len 0 (made_of s))) within
    (c.in_ok-cleaned.ensures.record ∙ ap (λ j. with_line c.arcs.page (arc_record (clean_of s) j)) (sym here))
    c.in_ok-cleaned.ensures.cleaned c.in_ok-cleaned.ensures.few

pub returns-clause-records : goal.returns-clause-records
returns-clause-records c =
    let s = c.args.graph.now in
    listed_page (arc_record (clean_of s)) (dirt_in_entry s.types) 2 (range_with_len 0 (made_of s)) s.entries _ _ c.arcs.k _
    (omega (arith, c.arcs-test.false, c.made-k-end.ensures.value, length-range_with_len 0 (made_of s))) c.arcs.invariant
