use Rattle.sgb_print.proofs.TextPieces.{prints_failed}
use Rattle.sgb_programs.proofs.Queens.{queen_prints}
use Rattle.sgb_programs.proofs.moves.queen_metered.Goals as goal

pub returns : goal.returns
returns g c = record { shows = queen_prints c.in-Ok.graph c.in-Ok.ensures (prints_failed c.in-Err.ensures) }
