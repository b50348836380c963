use Rattle.sgb_import.proofs.Prefixes.{stripped, not_stripped}
use Rattle.sgb_import.proofs.lines.behind.Goals as goal

pub returns-in-Some : goal.returns-in-Some
returns-in-Some c = stripped c.args.front.now c.args.bytes.now c.in-Some.rest c.in-Some.ensures.cases

pub returns-in-None : goal.returns-in-None
returns-in-None c = not_stripped c.args.front.now c.args.bytes.now c.in-None.ensures.cases
