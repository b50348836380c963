use Rattle.sgb_shell.proofs.Bytes.{first_line_at}
use Rattle.sgb_shell.proofs.reader.first_line.Goals as goal

pub returns : goal.returns
returns c = first_line_at c.args.bytes.now _ c.in-Some.end c.in-Some.ensures.0 c.in-Some.ensures.1 c.split_at.ensures.front c.split_at.ensures.front_len
