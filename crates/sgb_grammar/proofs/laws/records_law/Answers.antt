use Rattle.sgb_grammar.proofs.SpelledRecords.{own_spelled, own_read, vertex_spelled, vertex_read, arc_spelled, arc_read, header_spelled, header_read}
use Rattle.sgb_grammar.proofs.laws.records_law.Goals as goal

pub returns-clause-own : goal.returns-clause-own
returns-clause-own c letters = record { spelled = own_spelled letters; is_read = own_read letters }

pub returns-clause-vertices : goal.returns-clause-vertices
returns-clause-vertices c letters = record { spelled = vertex_spelled letters; is_read = vertex_read letters }

pub returns-clause-arcs : goal.returns-clause-arcs
returns-clause-arcs c letters = record { spelled = arc_spelled letters; is_read = arc_read letters }

pub returns-clause-headers : goal.returns-clause-headers
returns-clause-headers c = record { spelled = header_spelled; is_read = header_read }
