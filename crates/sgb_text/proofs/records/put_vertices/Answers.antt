use Rattle.std.proofs.Common.{◌∙◌, ◌<◌, ap, sym, arith}
use Rattle.sgb_graph.specs.Graph.{n_of, no_vertex}
use Rattle.sgb_graph.specs.Honest.{vertex_letters}
use Rattle.sgb_text.specs.Clean.{clean_of, dirt_in}
use Rattle.sgb_text.specs.Save.{vertex_record}
use Rattle.sgb_text.specs.Private.Page.{with_line}
use Rattle.sgb_text.proofs.CleanGraphs.{n_clean}
use Rattle.sgb_text.proofs.RecordLists.{lists_one, listed_page}
use Rattle.sgb_text.proofs.Entries.{first_vertex}
use Rattle.sgb_text.proofs.records.put_vertices.Goals as goal

pub vertices-preserved : goal.vertices-preserved
vertices-preserved c =
    let s = c.args.graph.now in
    let v = c.vertices.v in
    let within : v < n_of s = omega (arith, c.vertices-test.true, c.n-v-end.ensures.value) in
    lists_one (vertex_record s.types) (λ x. dirt_in (vertex_letters s.types) x.fields) 6 (clean_of s).vertices s.vertices _ _ _ v _ _ no_vertex no_vertex c.vertices.invariant
    (omega (arith, within, n_clean s)) within
    (c.in_ok-cleaned.ensures.record ∙ ap (λ x. with_line c.vertices.page (vertex_record s.types x)) (sym (first_vertex s v no_vertex within)))
    c.in_ok-cleaned.ensures.cleaned c.in_ok-cleaned.ensures.few

pub returns-clause-records : goal.returns-clause-records
returns-clause-records c =
    let s = c.args.graph.now in
    listed_page (vertex_record s.types) (λ x. dirt_in (vertex_letters s.types) x.fields) 6 (clean_of s).vertices s.vertices _ _ c.vertices.v _
    (omega (arith, c.vertices-test.false, c.n-v-end.ensures.value, n_clean s)) c.vertices.invariant
