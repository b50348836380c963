use Rattle.std.proofs.Common.{ap, subst, sym, ◌∙◌, map, reverse, All}
use Rattle.std.proofs.lemmas.Result.{err_from_is_err_and}
use Rattle.sgb_graph.specs.Builder.{grown}
use Rattle.sgb_graph.specs.Graph.{n_of}
use Rattle.sgb_graph.proofs.InsertionRuns.{RefusesInsertions}
use Rattle.sgb_import.specs.Outline.{IsLink}
use Rattle.sgb_import.specs.Private.Outlined.{insertion_of, outline_of}
use Rattle.sgb_import.proofs.OutlineGraphs.{all_named, links_fit, names_fit, outline_made, starts}
use Rattle.sgb_import.proofs.outline.build.Goals as goal

pub returns-in_err-name_vertices-clause-err : goal.returns-in_err-name_vertices-clause-err
returns-in_err-name_vertices-clause-err c =
    let p = err_from_is_err_and c.from_residual-in_err-name_vertices.result c.from_residual-in_err-name_vertices.ensures.1 in
    let o = outline_of c.args.outline.now in
    let start = starts o c.in_ok-id.id c.none.result c.new-builder.ensures c.in_ok-id.ensures.value c.none.ensures.value in
    rw (p.1, p.2) (names_fit o start c.requires.few_vertices c.in_err-name_vertices.ensures)

pub insert_links-requires : goal.insert_links-requires
insert_links-requires c =
    let o = outline_of c.args.outline.now in
    let start = starts o c.in_ok-id.id c.none.result c.new-builder.ensures c.in_ok-id.ensures.value c.none.ensures.value in
    subst (λ links. All (IsLink (n_of c.reserve.new.self.graph)) (map insertion_of links)) (sym c.deref.ensures.value)
    (subst (λ n. All (IsLink n) o.links)
    (sym (all_named o start (c.in_ok-reserve.ensures.same ∙ c.in_ok-name_vertices.ensures))) c.requires.links)

pub returns-in_err-insert_links-clause-err : goal.returns-in_err-insert_links-clause-err
returns-in_err-insert_links-clause-err c =
    let p = err_from_is_err_and c.from_residual-in_err-insert_links.result c.from_residual-in_err-insert_links.ensures.1 in
    let o = outline_of c.args.outline.now in
    let start = starts o c.in_ok-id.id c.none.result c.new-builder.ensures c.in_ok-id.ensures.value c.none.ensures.value in
    rw (p.1, p.2)
    (links_fit o start (c.in_ok-reserve.ensures.same ∙ c.in_ok-name_vertices.ensures) c.requires.few_arcs
    (subst (λ links. RefusesInsertions c.reserve.new.self (reverse (map insertion_of links)) c.in_err-insert_links.field-0.0) c.deref.ensures.value
    c.in_err-insert_links.ensures))

pub returns-clause-graph : goal.returns-clause-graph
returns-clause-graph c =
    let o = outline_of c.args.outline.now in
    let start = starts o c.in_ok-id.id c.none.result c.new-builder.ensures c.in_ok-id.ensures.value c.none.ensures.value in
    c.finish.ensures.value ∙ outline_made o start (c.in_ok-reserve.ensures.same ∙ c.in_ok-name_vertices.ensures)
    (c.in_ok-insert_links.ensures ∙ ap (λ links. grown c.reserve.new.self (reverse (map insertion_of links))) c.deref.ensures.value)
