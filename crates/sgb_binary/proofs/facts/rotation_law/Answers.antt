use Rattle.sgb_binary.proofs.RotatedTrees.{turned_tree, found_tree}
use Rattle.sgb_binary.proofs.facts.rotation_law.Goals as goal

pub returns-clause-turned : goal.returns-clause-turned
returns-clause-turned c = turned_tree

pub returns-clause-found : goal.returns-clause-found
returns-clause-found c = found_tree
