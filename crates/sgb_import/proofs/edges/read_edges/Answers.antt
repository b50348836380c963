use Rattle.std.proofs.Common.{ap, inr, sym, ◌∙◌}
use Rattle.std.proofs.lemmas.Result.{err_from_is_err_and}
use Rattle.sgb_import.specs.Edges.{id_fault, id_of}
use Rattle.sgb_import.proofs.EdgesWhole.{counts_told, header_refused, line_of_edges_refused, outline_sound, outline_told, refused_header, refused_id}
use Rattle.sgb_import.proofs.edges.read_edges.Goals as goal

pub returns-in_err-check_header-clause-err : goal.returns-in_err-check_header-clause-err
returns-in_err-check_header-clause-err c =
    let p = err_from_is_err_and c.from_residual.result c.from_residual.ensures.1 in
    let list = c.args.list in
    let text = c.args.text.now in
    rw (p.1, p.2)
    (inr (refused_header list text (header_refused list text c.find_header-header.result c.find_header-header.ensures c.in_err-check_header.ensures)))

pub returns-in_err-check_id-clause-err : goal.returns-in_err-check_id-clause-err
returns-in_err-check_id-clause-err c =
    let p = err_from_is_err_and c.from_residual-in_err-check_id.result c.from_residual-in_err-check_id.ensures.1 in
    let list = c.args.list in
    let text = c.args.text.now in
    rw (p.1, p.2)
    (inr (refused_id list text (header_refused list text c.find_header-header.result c.find_header-header.ensures c.in_ok-check_header.ensures)
    (ap id_fault (sym c.find_id-id.ensures) ∙ c.in_err-check_id.ensures)))

pub returns-in_err-gathered-clause-err : goal.returns-in_err-gathered-clause-err
returns-in_err-gathered-clause-err c =
    let p = err_from_is_err_and c.from_residual-in_err-gathered.result c.from_residual-in_err-gathered.ensures.1 in
    let list = c.args.list in
    let text = c.args.text.now in
    rw (p.1, p.2)
    (line_of_edges_refused list text c.find_header-header.result c.find_header-header.ensures c.in_ok-check_header.ensures
    (ap id_fault (sym c.find_id-id.ensures) ∙ c.in_ok-check_id.ensures) c.in_err-gathered.ensures.err)

pub returns-in_err-check_counts-clause-err : goal.returns-in_err-check_counts-clause-err
returns-in_err-check_counts-clause-err c =
    let p = err_from_is_err_and c.from_residual-in_err-check_counts.result c.from_residual-in_err-check_counts.ensures.1 in
    let list = c.args.list in
    let text = c.args.text.now in
    let gathered = c.in_ok-gathered.gathered in
    rw (p.1, p.2)
    (inr (counts_told list text c.find_header-header.result c.find_header-header.ensures gathered.names gathered.links.items c.in_ok-check_header.ensures
    (ap id_fault (sym c.find_id-id.ensures) ∙ c.in_ok-check_id.ensures) c.in_ok-gathered.ensures.read
    c.len.result c.len-2.result c.in_ok-gathered.ensures.none c.len.ensures (c.len-2.ensures ∙ gathered.links.ok.0) c.in_err-check_counts.ensures))

pub returns-clause-none : goal.returns-clause-none
returns-clause-none c =
    let list = c.args.list in
    let text = c.args.text.now in
    let gathered = c.in_ok-gathered.gathered in
    counts_told list text c.find_header-header.result c.find_header-header.ensures gathered.names gathered.links.items c.in_ok-check_header.ensures
    (ap id_fault (sym c.find_id-id.ensures) ∙ c.in_ok-check_id.ensures) c.in_ok-gathered.ensures.read
    c.len.result c.len-2.result c.in_ok-gathered.ensures.none c.len.ensures (c.len-2.ensures ∙ gathered.links.ok.0) c.in_ok-check_counts.ensures

pub returns-clause-value : goal.returns-clause-value
returns-clause-value c =
    let list = c.args.list in
    let text = c.args.text.now in
    let gathered = c.in_ok-gathered.gathered in
    outline_told list text c.find_header-header.result c.find_header-header.ensures gathered.names gathered.links.items c.in_ok-check_header.ensures
    (ap id_fault (sym c.find_id-id.ensures) ∙ c.in_ok-check_id.ensures) c.in_ok-gathered.ensures.read
    c.id_or_default.result.now c.is_directed.result (c.id_or_default.ensures ∙ ap id_of c.find_id-id.ensures) c.is_directed.ensures

pub returns-clause-outline : goal.returns-clause-outline
returns-clause-outline c =
    let list = c.args.list in
    let text = c.args.text.now in
    let gathered = c.in_ok-gathered.gathered in
    outline_sound list text c.find_header-header.result c.find_header-header.ensures gathered.names gathered.links.items c.in_ok-check_header.ensures
    (ap id_fault (sym c.find_id-id.ensures) ∙ c.in_ok-check_id.ensures) c.in_ok-gathered.ensures.read
    c.id_or_default.result.now c.is_directed.result (c.id_or_default.ensures ∙ ap id_of c.find_id-id.ensures) c.is_directed.ensures
