use Rattle.std.proofs.Common.{◌≡◌, ◌++◌, append_assoc, append-nil, rules}
use Rattle.std.specs.Fmt.{signed_decimal}
use Rattle.sgb_print.proofs.show.print_arc_head.Goals as goal

pub returns : goal.returns
returns g c =
    let len : c.prepend_signed.new.self ≡ signed_decimal c.args.arc.len ++ c.prepend.new.self = search rules in
    simp append_assoc
    (rw (c.prepend-2.ensures.text, c.prepend_number.ensures.text, c.prepend_tip.ensures.text, len, c.prepend.ensures.text, c.new-page.ensures, append-nil) at c.print.ensures)
