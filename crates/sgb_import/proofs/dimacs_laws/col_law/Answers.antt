use Rattle.sgb_import.proofs.DimacsBack.{col_accepted, col_read, col_same}
use Rattle.sgb_import.proofs.dimacs_laws.col_law.Goals as goal

pub returns-clause-read : goal.returns-clause-read
returns-clause-read c = col_read

pub returns-clause-accepted : goal.returns-clause-accepted
returns-clause-accepted c g h sound accepted spelt = col_accepted g h sound accepted spelt.1

pub returns-clause-same : goal.returns-clause-same
returns-clause-same c g h sound accepted spelt = col_same g h sound accepted spelt.1
