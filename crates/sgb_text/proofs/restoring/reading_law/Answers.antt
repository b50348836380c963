use Rattle.sgb_text.proofs.ReadAs.{accepted_read, read_accepted, refused_read, read_refused}
use Rattle.sgb_text.proofs.restoring.reading_law.Goals as goal

pub returns-clause-read : goal.returns-clause-read
returns-clause-read c = accepted_read

pub returns-clause-accepted : goal.returns-clause-accepted
returns-clause-accepted c = read_accepted

pub returns-clause-refusal : goal.returns-clause-refusal
returns-clause-refusal c = refused_read

pub returns-clause-refused : goal.returns-clause-refused
returns-clause-refused c = read_refused
