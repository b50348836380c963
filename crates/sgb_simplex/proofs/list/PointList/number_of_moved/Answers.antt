use Rattle.std.proofs.Common.{◌+◌, ◌-◌, length, arith}
use Rattle.sgb_simplex.proofs.Rows.{row_at, read_count}
use Rattle.sgb_simplex.proofs.Walks.{moved_point, walk_start, walk_step, walk_end}
use Rattle.sgb_simplex.proofs.list.PointList.number_of_moved.Goals as goal

pub moved_at-x-requires-clause-high : goal.moved_at-x-requires-clause-high
moved_at-x-requires-clause-high c = omega (arith, c.args.self.now.bounded c.args.k 0 (omega (arith, c.requires.point.long)))

pub loop-i-init : goal.loop-i-init
loop-i-init c =
    walk_start (moved_point c.requires.point c.args.j c.args.k c.requires.order c.requires.inside c.requires.low c.requires.high) (omega (arith, c.args.self.now.counted, c.args.self.now.few))

pub overflow_sub-number : goal.overflow_sub-number
overflow_sub-number c =
    let row = row_at c.args.self.now.table (length c.args.point.now - 1 - c.loop-i.i) (c.loop-i.i + 1) c.index-row.result.now (omega (arith, c.requires.point.long)) c.index-row.ensures in
    let high = read_count row (c.loop-i.left + 1) c.index.result.now (omega (arith, c.loop-i.invariant.less)) c.index.ensures in
    let low = read_count row (c.loop-i.left + 1 - c.moved_at-x.result) c.index-in-loop-i.result.now (omega (arith, c.loop-i.invariant.less)) c.index-in-loop-i.ensures in
    (walk_step c.loop-i.invariant c.moved_at-x.result c.index.result.now c.index-in-loop-i.result.now (omega (arith, c.loop-i.invariant.long, c.requires.point.long)) c.moved_at-x.ensures high low).ordered

pub overflow_add-number : goal.overflow_add-number
overflow_add-number c =
    let row = row_at c.args.self.now.table (length c.args.point.now - 1 - c.loop-i.i) (c.loop-i.i + 1) c.index-row.result.now (omega (arith, c.requires.point.long)) c.index-row.ensures in
    let high = read_count row (c.loop-i.left + 1) c.index.result.now (omega (arith, c.loop-i.invariant.less)) c.index.ensures in
    let low = read_count row (c.loop-i.left + 1 - c.moved_at-x.result) c.index-in-loop-i.result.now (omega (arith, c.loop-i.invariant.less)) c.index-in-loop-i.ensures in
    let step = walk_step c.loop-i.invariant c.moved_at-x.result c.index.result.now c.index-in-loop-i.result.now (omega (arith, c.loop-i.invariant.long, c.requires.point.long)) c.moved_at-x.ensures high low in
    record { fits = omega (arith, step.next.place, step.next.found, step.next.most) }

pub loop-i-preserved : goal.loop-i-preserved
loop-i-preserved c =
    let row = row_at c.args.self.now.table (length c.args.point.now - 1 - c.loop-i.i) (c.loop-i.i + 1) c.index-row.result.now (omega (arith, c.requires.point.long)) c.index-row.ensures in
    let high = read_count row (c.loop-i.left + 1) c.index.result.now (omega (arith, c.loop-i.invariant.less)) c.index.ensures in
    let low = read_count row (c.loop-i.left + 1 - c.moved_at-x.result) c.index-in-loop-i.result.now (omega (arith, c.loop-i.invariant.less)) c.index-in-loop-i.ensures in
    (walk_step c.loop-i.invariant c.moved_at-x.result c.index.result.now c.index-in-loop-i.result.now (omega (arith, c.loop-i.invariant.long, c.requires.point.long)) c.moved_at-x.ensures high low).next

pub returns-clause-value : goal.returns-clause-value
returns-clause-value c = walk_end c.loop-i.invariant (omega (arith, c.loop-i.invariant.long, c.requires.point.long))
