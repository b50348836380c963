use Rattle.std.proofs.Common.{◌∙◌}
use Rattle.sgb_import.proofs.DimacsNumbers.{problem_none, problem_said_is}
use Rattle.sgb_import.proofs.dimacs_line.read_problem.Goals as goal

pub returns-in-Some : goal.returns-in-Some
returns-in-Some c = c.problem_with.ensures ∙ problem_said_is c.args.line c.args.words c.in-Some.kind.now c.in-Some.vertices.now c.in-Some.links.now _ _ _ c.in-Some.ensures c.direction_of.ensures c.natural.ensures c.natural-in-Some.ensures

pub returns-in-None : goal.returns-in-None
returns-in-None c = problem_none c.args.line c.args.words c.in-None.ensures
