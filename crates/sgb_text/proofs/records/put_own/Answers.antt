use Rattle.std.proofs.Common.{◌≡◌, ◌∙◌, ap, length, drop, arith, length-drop}
use Rattle.std.specs.Fmt.{decimal}
use Rattle.sgb_graph.specs.Graph.{n_of, m_of}
use Rattle.sgb_graph.specs.Honest.{graph_letters}
use Rattle.sgb_text.specs.Save.{quoted}
use Rattle.sgb_text.specs.Private.Page.{with_record}
use Rattle.sgb_text.proofs.RecordLists.{record_of_three, when_ok}
use Rattle.sgb_text.proofs.CleanGraphs.{own_clean}
use Rattle.sgb_text.proofs.records.put_own.Goals as goal

pub returns-clause-record : goal.returns-clause-record
returns-clause-record c =
    let s = c.args.graph.now in
    let letters = graph_letters s.types in
    let types = c.letters.ensures.value ∙ c.types-types.ensures.value in
    let same : c.split_at.result.1.now ≡ letters = c.split_at.ensures.back ∙ ap (drop 8) types in
    let six : length s.fields ≡ length letters = omega (arith, c.n.ensures.graph.six, c.n.ensures.graph.types.fourteen, length-drop 8 s.types) in
    when_ok c.put_fields.result
    (λ last. record_of_three _ _ _ _ _ (quoted s.id) (decimal (n_of s)) (decimal (m_of s)) _ _ _ letters _ s.fields _ _
    (ap quoted c.id.ensures.value) (ap decimal c.n.ensures.value) (ap decimal c.m.ensures.value) same c.graph_fields.ensures six
    c.in_ok-put_text.ensures c.in_ok-put_count.ensures c.in_ok-put_count-2.ensures c.is_any_written.ensures last
    ∙ ap (with_record c.args.page.now) (own_clean s))
    c.put_fields.ensures.record
