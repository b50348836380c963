use Rattle.sgb_grammar.proofs.RecordParts.{text_spelled, text_read, count_spelled, count_read, number_spelled, number_read}
use Rattle.sgb_grammar.proofs.SpelledItems.{link_spelled, link_read, tip_spelled, tip_read, fields_spelled, fields_read}
use Rattle.sgb_grammar.proofs.laws.items_law.Goals as goal

pub returns-clause-texts : goal.returns-clause-texts
returns-clause-texts c limit = record { spelled = text_spelled limit; is_read = text_read limit }

pub returns-clause-counts : goal.returns-clause-counts
returns-clause-counts c = record { spelled = count_spelled; is_read = count_read }

pub returns-clause-numbers : goal.returns-clause-numbers
returns-clause-numbers c = record { spelled = number_spelled; is_read = number_read }

pub returns-clause-links : goal.returns-clause-links
returns-clause-links c = record { spelled = link_spelled; is_read = link_read }

pub returns-clause-tips : goal.returns-clause-tips
returns-clause-tips c = record { spelled = tip_spelled; is_read = tip_read }

pub returns-clause-fields : goal.returns-clause-fields
returns-clause-fields c letters = record { spelled = fields_spelled letters; is_read = fields_read letters }
