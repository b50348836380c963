use Rattle.std.specs.List.{range_with_len}
use Rattle.sgb_graph.specs.Graph.{made_of}
use Rattle.sgb_text.specs.Clean.{clean_of, dirt_in_entry}
use Rattle.sgb_text.specs.Save.{arc_record}
use Rattle.sgb_text.proofs.RecordLists.{Listing}
use Rattle.sgb_text.proofs.records.put_arcs.Given as goal

abbrev pub invariant-arcs : goal.invariant-arcs
invariant-arcs l =
    Listing (arc_record (clean_of l.graph)) (dirt_in_entry l.graph.types) 2 (range_with_len 0 (made_of l.graph)) l.graph.entries
    l.initial.page l.page l.k l.cleaned
