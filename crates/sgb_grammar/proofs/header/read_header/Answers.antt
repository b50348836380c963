use Rattle.sgb_grammar.proofs.SpelledRecords.{line_found, line_only, no_line}
use Rattle.sgb_grammar.proofs.header.read_header.Goals as goal

pub returns-clause-ok : goal.returns-clause-ok
returns-clause-ok c = line_found c.first_line.result c.args.bytes.now c.first_line.ensures

pub returns-clause-only : goal.returns-clause-only
returns-clause-only c = line_only c.first_line.result c.args.bytes.now c.first_line.ensures

pub returns-clause-err : goal.returns-clause-err
returns-clause-err c = no_line c.first_line.result c.args.bytes.now c.first_line.ensures
