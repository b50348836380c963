use Rattle.sgb_graph.specs.Honest.{vertex_letters}
use Rattle.sgb_text.specs.Clean.{clean_of, dirt_in}
use Rattle.sgb_text.specs.Save.{vertex_record}
use Rattle.sgb_text.proofs.RecordLists.{Listing}
use Rattle.sgb_text.proofs.records.put_vertices.Given as goal

abbrev pub invariant-vertices : goal.invariant-vertices
invariant-vertices l =
    Listing (vertex_record l.graph.types) (λ v. dirt_in (vertex_letters l.graph.types) v.fields) 6 (clean_of l.graph).vertices l.graph.vertices
    l.initial.page l.page l.v l.cleaned
