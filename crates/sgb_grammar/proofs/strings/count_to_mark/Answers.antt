use Rattle.sgb_grammar.proofs.Runs.{mark_found, no_mark}
use Rattle.sgb_grammar.proofs.strings.count_to_mark.Goals as goal

pub returns-in-Some-clause-count : goal.returns-in-Some-clause-count
returns-in-Some-clause-count c = mark_found c.args.bytes.now c.in-Some.end c.in-Some.ensures.0 c.in-Some.ensures.1

pub returns-in-None-clause-count : goal.returns-in-None-clause-count
returns-in-None-clause-count c = no_mark c.args.bytes.now c.in-None.ensures
