use Rattle.std.proofs.Common.{◌∙◌}
use Rattle.sgb_import.proofs.DimacsNumbers.{arc_none, arc_said}
use Rattle.sgb_import.proofs.dimacs_line.read_arc.Goals as goal

pub returns-in-Some : goal.returns-in-Some
returns-in-Some c = c.ends_with.ensures ∙ arc_said c.args.words c.in-Some.from.now c.in-Some.to.now c.in-Some.len.now _ _ _ c.in-Some.ensures c.natural.ensures c.natural-in-Some.ensures c.length.ensures

pub returns-in-None : goal.returns-in-None
returns-in-None c = arc_none c.args.words c.in-None.ensures
