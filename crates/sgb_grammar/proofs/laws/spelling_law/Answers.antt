use Rattle.sgb_grammar.proofs.SpelledRecords.{saved_spelled, saved_read, saved_once, line_once}
use Rattle.sgb_grammar.proofs.laws.spelling_law.Goals as goal

pub returns-clause-spelled : goal.returns-clause-spelled
returns-clause-spelled c = saved_spelled

pub returns-clause-read : goal.returns-clause-read
returns-clause-read c = saved_read

pub returns-clause-once : goal.returns-clause-once
returns-clause-once c = saved_once

pub returns-clause-first : goal.returns-clause-first
returns-clause-first c = line_once
