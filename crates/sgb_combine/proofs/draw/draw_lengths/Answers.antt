use Rattle.std.proofs.Common.{refl, arith}
use Rattle.sgb_combine.proofs.WalkLengths.{AllDrawn, over_room, over_more, over_all}
use Rattle.sgb_combine.proofs.draw.draw_lengths.Goals as goal

pub draw_walk-draws-requires-clause-few : goal.draw_walk-draws-requires-clause-few
draw_walk-draws-requires-clause-few c =
    let low = c.loop-v-test.true in
    let most = c.loop-v.auto.v-end in
    let count = c.n-v-end.ensures.value in
    let room = over_room c.n-v-end.ensures.graph (omega arith) refl c.loop-v.invariant in
    omega (arith, room)

pub loop-v-preserved : goal.loop-v-preserved
loop-v-preserved c =
    let d = c.draw_walk-draws.ensures in
    over_more c.loop-v.invariant d.table d.few d.generator

pub returns : goal.returns
returns c =
    let low = c.loop-v-test.false in
    let most = c.loop-v.auto.v-end in
    let count = c.n-v-end.ensures.value in
    let all : AllDrawn c.args.directed c.args.range.now.min c.args.range.now.max c.args.graph.now c.args.flip.now (record { lens = c.loop-v.lengths; draws = c.loop-v.draws; rest = c.loop-v.flip }) =
    over_all c.args.flip.now c.args.lengths.now (omega arith) c.n-v-end.ensures.graph c.unread.ensures.generator c.requires.whole c.requires.count c.loop-v.invariant in
    record { count = all.count; lengths = all.lengths; draws = all.draws; rest = all.rest; few = all.few; generator = c.loop-v.invariant.generator }
