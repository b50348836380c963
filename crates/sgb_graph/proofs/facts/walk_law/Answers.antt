use Rattle.sgb_graph.proofs.Halves.{walk_undirected}
use Rattle.sgb_graph.proofs.facts.walk_law.Goals as goal

pub returns-clause-undirected : goal.returns-clause-undirected
returns-clause-undirected c = walk_undirected
