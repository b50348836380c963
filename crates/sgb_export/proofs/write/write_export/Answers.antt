use Rattle.sgb_print.proofs.TextPieces.{prints_same}
use Rattle.sgb_export.proofs.FormatTexts.{graph6_is, listed_is}
use Rattle.sgb_export.proofs.write.write_export.Goals as goal

pub returns-in-Graph6 : goal.returns-in-Graph6
returns-in-Graph6 g c = prints_same c.put_graph6.ensures (graph6_is c.args.format c.args.graph.now c.in-Graph6.is)

pub returns-in_default : goal.returns-in_default
returns-in_default g c = prints_same c.put_parts.ensures (listed_is c.args.format c.args.graph.now c.in_default.not-Graph6)
