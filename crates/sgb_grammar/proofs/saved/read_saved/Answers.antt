use Rattle.sgb_grammar.proofs.SpelledRecords.{text_found, text_only, no_text}
use Rattle.sgb_grammar.proofs.saved.read_saved.Goals as goal

pub returns-clause-ok : goal.returns-clause-ok
returns-clause-ok c = text_found c.args.header.now c.saved_text.result c.args.bytes.now c.saved_text.ensures.found

pub returns-clause-only : goal.returns-clause-only
returns-clause-only c = text_only c.args.header.now c.saved_text.result c.args.bytes.now c.saved_text.ensures.found

pub returns-clause-err : goal.returns-clause-err
returns-clause-err c = no_text c.args.header.now c.saved_text.result c.args.bytes.now c.saved_text.ensures.found
