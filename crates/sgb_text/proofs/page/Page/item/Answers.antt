use Rattle.std.proofs.Common.{arith}
use Rattle.sgb_text.proofs.Cuts.{item_long, item_short, three_parts}
use Rattle.sgb_text.proofs.page.Page.item.Goals as goal

pub returns-then-width-gt-WIDTH : goal.returns-then-width-gt-WIDTH
returns-then-width-gt-WIDTH c =
    item_long c.put_long.result _ _ _ _ _ (three_parts c.args.mark.now c.args.bytes.now c.args.end.now) c.in_ok-make_room.ensures c.if-width-gt-WIDTH.true c.put_long.ensures

pub returns-else-width-gt-WIDTH : goal.returns-else-width-gt-WIDTH
returns-else-width-gt-WIDTH c =
    item_short c.put_short.result _ _ _ _ _ (three_parts c.args.mark.now c.args.bytes.now c.args.end.now) c.in_ok-make_room.ensures (omega (arith, c.if-width-gt-WIDTH.false)) c.put_short.ensures
