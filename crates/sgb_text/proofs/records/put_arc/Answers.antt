use Rattle.std.proofs.Common.{◌≡◌, ◌∙◌, ap, refl, length, take, drop, arith, is_some}
use Rattle.sgb_graph.specs.Edit.{entry_at}
use Rattle.sgb_graph.specs.Honest.{arc_letters}
use Rattle.sgb_text.proofs.RecordLists.{when_ok}
use Rattle.sgb_text.proofs.Links.{next_is}
use Rattle.sgb_text.proofs.Entries.{when_if, entry_there, entry_absent, len_is, live_record, hole_record, live_dirt}
use Rattle.sgb_text.proofs.records.put_arc.Goals as goal

pub returns-in-Some-clause-record : goal.returns-in-Some-clause-record
returns-in-Some-clause-record c =
    let s = c.args.graph.now in
    let k = c.args.number.0 in
    let e = entry_at s k in
    let letters = c.split_at-2.ensures.front ∙ ap (take 2) (c.split_at.ensures.back ∙ ap (drop 6) (c.letters.ensures.value ∙ c.types-types.ensures.value)) in
    let at = entry_there s k c.in-Some.arc c.in-Some.ensures.value in
    let shown = c.in-Some.ensures.entry in
    when_ok c.put_entry.result
    (live_record s k e _ _ _ _ _ _ _ at c.requires.column shown.tip
    (next_is s k _ c.arc.ensures.graph (ap is_some at) c.next_of-link.ensures)
    (len_is s k c.in-Some.arc.len e c.arc.ensures.graph c.requires.number at shown.len) letters c.arc_fields.ensures)
    c.put_entry.ensures.record

pub returns-in-Some-clause-cleaned : goal.returns-in-Some-clause-cleaned
returns-in-Some-clause-cleaned c =
    let s = c.args.graph.now in
    let k = c.args.number.0 in
    let letters = c.split_at-2.ensures.front ∙ ap (take 2) (c.split_at.ensures.back ∙ ap (drop 6) (c.letters.ensures.value ∙ c.types-types.ensures.value)) in
    let at = entry_there s k c.in-Some.arc c.in-Some.ensures.value in
    when_if c.put_entry.result (λ n. live_dirt s k (entry_at s k) _ _ n at letters c.arc_fields.ensures) c.put_entry.ensures.cleaned

pub returns-in-None-clause-record : goal.returns-in-None-clause-record
returns-in-None-clause-record c =
    let s = c.args.graph.now in
    let k = c.args.number.0 in
    let letters : c.split_at-2.result.0.now ≡ arc_letters s.types = c.split_at-2.ensures.front ∙ ap (take 2) (c.split_at.ensures.back ∙ ap (drop 6) (c.letters.ensures.value ∙ c.types-types.ensures.value)) in
    let two : length c.split_at-2.result.0.now ≡ 2 = omega (arith, c.split_at-2.ensures.front_len) in
    when_ok c.put_entry-in-None.result
    (hole_record s k _ _ _ _ (entry_absent s k c.in-None.ensures.value) c.requires.column refl letters two)
    c.put_entry-in-None.ensures.record
