use Rattle.std.proofs.Common.{◌++◌, get_or, map, set, ap, ap₂, ◌∙◌, arith}
use Rattle.std.proofs.lemmas.List.{take_all, drop_all, append-nil, get_or_default}
use Rattle.std.proofs.lemmas.List.Edits.{map_over_more}
use Rattle.sgb_make.specs.Private.Link.{shifted}
use Rattle.sgb_make.proofs.Rows.{not_yet}
use Rattle.sgb_make.proofs.link.shift.Goals as goal

pub shifted-requires : goal.shifted-requires
shifted-requires c =
    let old = c.args.links.now in
    let i = c.loop-link.link-index in
    let same = not_yet (shifted c.args.base) old c.loop-link.links i (omega arith) c.loop-link.invariant in
    omega (arith, same, c.requires i 0 (omega arith))

pub loop-link-preserved : goal.loop-link-preserved
loop-link-preserved c =
    ap (set c.loop-link.links c.loop-link.link-index) c.shifted.ensures
    ∙ map_over_more (shifted c.args.base) c.args.links.now c.loop-link.links c.loop-link.link-index (get_or c.loop-link.links c.loop-link.link-index 0) (omega arith) c.loop-link.invariant
    (get_or_default c.loop-link.links c.loop-link.link-index 0 _ (omega arith))

pub returns : goal.returns
returns c =
    c.loop-link.invariant
    ∙ (ap₂ (λ s t. map (shifted c.args.base) s ++ t) (take_all c.loop-link.link-index c.args.links.now (omega arith)) (drop_all c.loop-link.link-index c.args.links.now (omega arith))
    ∙ append-nil (map (shifted c.args.base) c.args.links.now))
