use Rattle.sgb_import.proofs.OutlineLinks.{outline_sound, written_arcs, outline_undirected, written_edges, label_of_outline, id_of_outline, n_of_outline}
use Rattle.sgb_import.proofs.laws.outline_law.Goals as goal

pub returns-clause-sound : goal.returns-clause-sound
returns-clause-sound c = outline_sound

pub returns-clause-arcs : goal.returns-clause-arcs
returns-clause-arcs c = written_arcs

pub returns-clause-undirected : goal.returns-clause-undirected
returns-clause-undirected c = outline_undirected

pub returns-clause-edges : goal.returns-clause-edges
returns-clause-edges c = written_edges

pub returns-clause-id : goal.returns-clause-id
returns-clause-id c = id_of_outline

pub returns-clause-vertices : goal.returns-clause-vertices
returns-clause-vertices c = n_of_outline

pub returns-clause-labels : goal.returns-clause-labels
returns-clause-labels c = label_of_outline
