use Rattle.std.proofs.Common.{map}
use Rattle.sgb_plan.proofs.Plans.{NamesOf}
use Rattle.sgb_binary.specs.Binary.{tree_vertex}
use Rattle.sgb_binary.proofs.NameIndexes.{names_of}
use Rattle.sgb_binary.proofs.generator.name_vertices.Given as goal

abbrev pub invariant-loop-tree : goal.invariant-loop-tree
invariant-loop-tree l = NamesOf l.fn.builder (map tree_vertex (names_of l.trees)) l.builder tree_vertex (names_of l.trees) l.tree-index
