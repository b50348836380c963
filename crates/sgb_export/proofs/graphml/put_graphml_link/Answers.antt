use Rattle.std.proofs.Common.{◌≡◌, append_assoc, rules}
use Rattle.std.specs.Fmt.{signed_decimal}
use Rattle.sgb_export.proofs.graphml.put_graphml_link.Goals as goal

pub returns : goal.returns
returns g c =
    let len : c.as_bytes-len.result.now ≡ signed_decimal c.args.link.len = search rules in
    simp append_assoc
    (rw (c.as_bytes-digits.ensures.value, c.format.ensures.text, c.as_bytes-from.ensures.value, c.format-2.ensures.text, c.as_bytes-to.ensures.value, c.format-3.ensures.text, len)
    at c.put_all.ensures)
