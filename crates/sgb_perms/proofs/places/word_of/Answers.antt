use Rattle.std.proofs.Common.{◌≡◌, ◌+◌, ◌-◌, length, drop, sym, ap, ◌∙◌, arith}
use Rattle.sgb_perms.specs.Private.Places.{word_of}
use Rattle.sgb_perms.proofs.RowLookup.{word_none, word_more}
use Rattle.sgb_perms.proofs.places.word_of.Goals as goal

pub loop-place-init : goal.loop-place-init
loop-place-init c = sym (word_none c.args.row.now (length c.args.row.now) (omega arith))

pub loop-place-preserved : goal.loop-place-preserved
loop-place-preserved c =
    let back : c.loop-place.place - 1 + 1 ≡ c.loop-place.place = omega arith in
    word_more c.loop-place.word c.args.row.now (c.loop-place.place - 1) (omega arith)
    (c.loop-place.invariant ∙ ap (λ i. word_of (drop i c.args.row.now)) (sym back))
