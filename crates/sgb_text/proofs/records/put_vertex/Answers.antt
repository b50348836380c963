use Rattle.std.proofs.Common.{◌≡◌, ◌∙◌, ap, length, take, refl}
use Rattle.sgb_graph.specs.Graph.{vertex_at}
use Rattle.sgb_graph.specs.Honest.{vertex_letters}
use Rattle.sgb_graph.specs.Read.{first_of}
use Rattle.sgb_text.specs.Clean.{clean_vertex}
use Rattle.sgb_text.specs.Save.{quoted, link_text, vertex_items, vertex_record}
use Rattle.sgb_text.proofs.RecordLists.{record_of_two, record_line, when_ok}
use Rattle.sgb_text.proofs.Entries.{first_read, vertex_six}
use Rattle.sgb_text.proofs.records.put_vertex.Goals as goal

pub returns-clause-record : goal.returns-clause-record
unfolding vertex_record
returns-clause-record c =
    let s = c.args.graph.now in
    let v = c.args.vertex.0 in
    let x = vertex_at s v in
    let letters = vertex_letters s.types in
    let types = c.letters.ensures.value ∙ c.types-types.ensures.value in
    let same : c.split_at.result.0.now ≡ letters = c.split_at.ensures.front ∙ ap (take 6) types in
    let six : length x.fields ≡ length letters = vertex_six s v letters c.arcs.ensures.graph c.requires.vertex refl in
    let first = first_read _ _ _ c.next-first.ensures.steps ∙ ap first_of c.arcs.ensures.value in
    when_ok c.put_fields.result
    (λ last. record_of_two _ _ _ _ (quoted x.label) (link_text (first_of x.arcs)) _ _ letters _ x.fields _ _
    (ap quoted c.label.ensures.value) (ap link_text first) same c.vertex_fields.ensures six
    c.in_ok-put_text.ensures c.in_ok-put_link.ensures c.is_any_written.ensures last
    ∙ record_line c.args.page.now (vertex_items s.types (clean_vertex s.types x)) c.requires.column)
    c.put_fields.ensures.record
