use Rattle.std.proofs.Common.{◌+◌, inr, refl, ap, ◌∙◌, arith}
use Rattle.sgb_perms.specs.Private.Rows.{pieces}
use Rattle.sgb_perms.proofs.Pieces.{length_shown, row_pushed}
use Rattle.sgb_perms.proofs.rows.Rows.push.Goals as goal

pub returns-then-self-ge-MOST_ROWS : goal.returns-then-self-ge-MOST_ROWS
returns-then-self-ge-MOST_ROWS c = inr (refl, omega (arith, length_shown c.self.inside c.args.self.now c.self.view_is))

pub returns : goal.returns
returns c =
    ap (λ ks. record { width = c.self.inside.width; rows = pieces (c.self.inside.count + 1) c.self.inside.width ks }) (c.in_ok-extend_from_slice.ensures.items)
    ∙ row_pushed c.self.inside c.args.self.now c.args.row.now c.self.view_is c.self.invariant c.requires
