use Rattle.std.proofs.Common.{rules}
use Rattle.sgb_make.specs.Private.Link.{row_of}
use Rattle.sgb_make.proofs.link.append_row.Goals as goal

pub returns-in-Some : goal.returns-in-Some
unfolding row_of
returns-in-Some c = search rules

pub returns-in-None : goal.returns-in-None
unfolding row_of
returns-in-None c = search rules
