use Rattle.std.proofs.Common.{ap}
use Rattle.sgb_print.proofs.TextPieces.{prints_failed, prints_same}
use Rattle.sgb_programs.specs.Checked.{told_of}
use Rattle.sgb_programs.proofs.CheckOutput.{refused_by}
use Rattle.sgb_programs.proofs.checking.check_metered.Goals as goal

pub returns : goal.returns
returns g c =
    record {
      checks = (tt, prints_same (prints_failed c.in-Err-print_refused.ensures) (ap told_of (refused_by _ _ c.in_default.not-NoRoom c.in-Err.ensures.refusal)));
    }
