use Rattle.std.proofs.Common.{refl, ap, w64}
use Rattle.std.specs.Fmt.{signed_decimal}
use Rattle.std.proofs.lemmas.Int.{to_z-of_z}
use Rattle.sgb_text.specs.Save.{link_text, tip_text}
use Rattle.sgb_text.proofs.RecordLists.{record_of_three, when_ok}
use Rattle.sgb_text.proofs.records.put_entry.Goals as goal

pub returns-clause-record : goal.returns-clause-record
returns-clause-record c =
    let z = c.args.len in
    when_ok c.put_fields.result
    (record_of_three _ _ _ _ _ (tip_text c.args.tip) (link_text c.args.link) (signed_decimal z) _ _ _ c.args.letters.now _ c.args.values.now _ _
    refl refl (ap signed_decimal (to_z-of_z w64 z c.ranges.len)) refl refl c.requires
    c.in_ok-put_tip.ensures c.in_ok-put_link.ensures c.in_ok-put_number.ensures c.is_any_written.ensures)
    c.put_fields.ensures.record
