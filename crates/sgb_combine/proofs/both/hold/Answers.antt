use Rattle.std.proofs.Common.{sym, ◌∙◌}
use Rattle.sgb_combine.specs.Gunion.{is_candidate}
use Rattle.sgb_combine.proofs.WalkedSpokes.{held_none, held_one}
use Rattle.sgb_combine.proofs.both.hold.Goals as goal

pub returns-then-not-is_sought : goal.returns-then-not-is_sought
returns-then-not-is_sought c =
    let s = c.args.sought in
    held_none c.args.graph.now (is_candidate s.directed s.n s.vertex.0) c.args.into.now.items c.args.number.0 c.spoke_at-spoke.result c.spoke_at-spoke.ensures (sym c.is_sought.ensures ∙ c.if-not-is_sought.true)

pub returns : goal.returns
returns c =
    let s = c.args.sought in
    c.in_ok-push.ensures.items
    ∙ held_one c.args.graph.now (is_candidate s.directed s.n s.vertex.0) c.args.into.now.items c.args.number.0 c.spoke_at-spoke.result c.spoke_at-spoke.ensures (sym c.is_sought.ensures ∙ c.if-not-is_sought.false)
