use Rattle.sgb_import.proofs.DimacsBack.{dimacs_accepted, dimacs_read, dimacs_same}
use Rattle.sgb_import.proofs.dimacs_laws.dimacs_law.Goals as goal

pub returns-clause-read : goal.returns-clause-read
returns-clause-read c = dimacs_read

pub returns-clause-accepted : goal.returns-clause-accepted
returns-clause-accepted c g h sound spelt = dimacs_accepted g h sound spelt.1

pub returns-clause-same : goal.returns-clause-same
returns-clause-same c g h sound spelt = dimacs_same g h sound spelt.1
