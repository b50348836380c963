use Rattle.sgb_text.proofs.Exactness.{one_graph, refused_for_room}
use Rattle.sgb_text.proofs.restoring.answers_are_exact.Goals as goal

pub returns-clause-graph : goal.returns-clause-graph
returns-clause-graph c = one_graph c.build_law.ensures.one c.spelling_law.ensures.once

pub returns-clause-refusals : goal.returns-clause-refusals
returns-clause-refusals c = refused_for_room c.spelling_law.ensures.first c.spelling_law.ensures.once
