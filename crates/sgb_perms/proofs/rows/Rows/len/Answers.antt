use Rattle.std.proofs.Common.{sym}
use Rattle.sgb_perms.proofs.Pieces.{length_shown}
use Rattle.sgb_perms.proofs.rows.Rows.len.Goals as goal

pub returns-clause-value : goal.returns-clause-value
returns-clause-value c = sym (length_shown c.self.inside c.args.self.now c.self.view_is)
