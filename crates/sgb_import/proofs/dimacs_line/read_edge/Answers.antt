use Rattle.std.proofs.Common.{◌∙◌}
use Rattle.sgb_import.proofs.DimacsNumbers.{edge_none, edge_said}
use Rattle.sgb_import.proofs.dimacs_line.read_edge.Goals as goal

pub returns-in-Some : goal.returns-in-Some
returns-in-Some c = c.ends_with.ensures ∙ edge_said c.args.words c.in-Some.from.now c.in-Some.to.now _ _ c.in-Some.ensures c.natural.ensures c.natural-in-Some.ensures

pub returns-in-None : goal.returns-in-None
returns-in-None c = edge_none c.args.words c.in-None.ensures
