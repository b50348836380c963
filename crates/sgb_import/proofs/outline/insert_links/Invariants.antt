use Rattle.std.proofs.Common.{map, reverse}
use Rattle.sgb_graph.proofs.InsertionRuns.{Left}
use Rattle.sgb_import.specs.Private.Outlined.{insertion_of}
use Rattle.sgb_import.proofs.OutlineGraphs.{left_links}
use Rattle.sgb_import.proofs.outline.insert_links.Given as goal

abbrev pub invariant-loop-done : goal.invariant-loop-done
invariant-loop-done l = Left l.fn.builder (reverse (map insertion_of l.links)) l.builder (left_links l.links l.done)
