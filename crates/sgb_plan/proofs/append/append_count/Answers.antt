use Rattle.std.proofs.Common.{arith}
use Rattle.sgb_plan.proofs.Digits.{one_digit, two_digits, three_digits, four_digits, five_digits, wrote}
use Rattle.sgb_plan.proofs.Shorts.{IsShort-decimal}
use Rattle.sgb_plan.proofs.append.append_count.Goals as goal

pub returns-then-count-ge100000-clause-short : goal.returns-then-count-ge100000-clause-short
returns-then-count-ge100000-clause-short c = IsShort-decimal c.args.count (omega arith)

pub returns-then-count-lt10-clause-ok : goal.returns-then-count-lt10-clause-ok
returns-then-count-lt10-clause-ok c =
    wrote c.extend_from_slice.result c.extend_from_slice.new.self.items c.args.bytes.now.items _ _ c.extend_from_slice.ensures.items
    (one_digit c.args.count (omega arith))

pub returns-then-count-lt10-clause-short : goal.returns-then-count-lt10-clause-short
returns-then-count-lt10-clause-short c = IsShort-decimal c.args.count (omega arith)

pub returns-then-count-lt100-clause-ok : goal.returns-then-count-lt100-clause-ok
returns-then-count-lt100-clause-ok c =
    wrote c.extend_from_slice-then-count-lt100.result c.extend_from_slice-then-count-lt100.new.self.items c.args.bytes.now.items _ _
    c.extend_from_slice-then-count-lt100.ensures.items (two_digits c.args.count (omega arith) (omega arith))

pub returns-then-count-lt100-clause-short : goal.returns-then-count-lt100-clause-short
returns-then-count-lt100-clause-short c = IsShort-decimal c.args.count (omega arith)

pub returns-then-count-lt1000-clause-ok : goal.returns-then-count-lt1000-clause-ok
returns-then-count-lt1000-clause-ok c =
    wrote c.extend_from_slice-then-count-lt1000.result c.extend_from_slice-then-count-lt1000.new.self.items c.args.bytes.now.items _ _
    c.extend_from_slice-then-count-lt1000.ensures.items (three_digits c.args.count (omega arith) (omega arith))

pub returns-then-count-lt1000-clause-short : goal.returns-then-count-lt1000-clause-short
returns-then-count-lt1000-clause-short c = IsShort-decimal c.args.count (omega arith)

pub returns-then-count-lt10000-clause-ok : goal.returns-then-count-lt10000-clause-ok
returns-then-count-lt10000-clause-ok c =
    wrote c.extend_from_slice-then-count-lt10000.result c.extend_from_slice-then-count-lt10000.new.self.items c.args.bytes.now.items _ _
    c.extend_from_slice-then-count-lt10000.ensures.items (four_digits c.args.count (omega arith) (omega arith))

pub returns-then-count-lt10000-clause-short : goal.returns-then-count-lt10000-clause-short
returns-then-count-lt10000-clause-short c = IsShort-decimal c.args.count (omega arith)

pub returns-clause-ok : goal.returns-clause-ok
returns-clause-ok c =
    wrote c.extend_from_slice-2.result c.extend_from_slice-2.new.self.items c.args.bytes.now.items _ _ c.extend_from_slice-2.ensures.items
    (five_digits c.args.count (omega arith) (omega arith))

pub returns-clause-short : goal.returns-clause-short
returns-clause-short c = IsShort-decimal c.args.count (omega arith)
