use Rattle.sgb_import.proofs.Graph6Law.{accepted_again, exported, text_read, text_same}
use Rattle.sgb_import.proofs.graph6_laws.graph6_law.Goals as goal

pub returns-clause-read : goal.returns-clause-read
returns-clause-read c g sound accepted = text_read g (exported g sound accepted)

pub returns-clause-same : goal.returns-clause-same
returns-clause-same c g h sound accepted e = text_same g h (exported g sound accepted) e.1

pub returns-clause-accepted : goal.returns-clause-accepted
returns-clause-accepted c g h sound accepted e = accepted_again g h (exported g sound accepted) e.1
