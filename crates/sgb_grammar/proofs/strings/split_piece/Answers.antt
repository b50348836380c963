use Rattle.std.proofs.Common.{arith}
use Rattle.sgb_grammar.proofs.QuotedRuns.{stops, last_piece, broken_piece, no_piece}
use Rattle.sgb_grammar.proofs.strings.split_piece.Goals as goal

pub split_ending-requires : goal.split_ending-requires
split_ending-requires c = rw (c.split_at.ensures.back, c.count_to_mark.ensures.count) (stops c.args.bytes.now)

pub returns-in-Some-Quote : goal.returns-in-Some-Quote
returns-in-Some-Quote c = last_piece _ _ _ _ _ c.count_to_mark.ensures.count c.split_at.ensures.front c.split_at.ensures.back (rw c.in-Some-Quote.field-0-is at c.in-Some-Quote.ensures)

pub returns-in-Some-Line : goal.returns-in-Some-Line
returns-in-Some-Line c = broken_piece _ _ _ _ _ c.count_to_mark.ensures.count c.split_at.ensures.front c.split_at.ensures.back (omega arith) (rw c.in-Some-Line.field-0-is at c.in-Some-Line.ensures)

pub returns-in-None : goal.returns-in-None
returns-in-None c = no_piece _ _ _ _ c.count_to_mark.ensures.count c.split_at.ensures.front c.split_at.ensures.back c.in-None.ensures
