use Rattle.sgb_binary.proofs.Shapes.{trees_all, trees_only, trees_distinct, trees_ordered}
use Rattle.sgb_binary.proofs.facts.binary_law.Goals as goal

pub returns-clause-all : goal.returns-clause-all
returns-clause-all c = trees_all

pub returns-clause-only : goal.returns-clause-only
returns-clause-only c = trees_only

pub returns-clause-once : goal.returns-clause-once
returns-clause-once c = trees_distinct

pub returns-clause-ordered : goal.returns-clause-ordered
returns-clause-ordered c = trees_ordered
