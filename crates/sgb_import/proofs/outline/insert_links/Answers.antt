use Rattle.std.proofs.Common.{◌+◌, ◌-◌, [], ◌∷◌, length, get_or, map, reverse, subst, sym, arith}
use Rattle.std.proofs.lemmas.Result.{err_from_is_err_and}
use Rattle.sgb_graph.proofs.InsertionRuns.{left_as, left_end, left_n, left_refused, left_some, left_start}
use Rattle.sgb_import.specs.Outline.{IsLink}
use Rattle.sgb_import.specs.Private.Outlined.{insertion_of}
use Rattle.sgb_import.proofs.OutlineGraphs.{all_left, last_left, left_links, link_fits, no_link, none_left}
use Rattle.sgb_import.proofs.outline.insert_links.Goals as goal

pub loop-done-init : goal.loop-done-init
loop-done-init c =
    left_as (left_start c.args.builder.now (reverse (map insertion_of c.args.links.now))) (sym (all_left c.args.links.now))

pub insert_link-requires : goal.insert_link-requires
insert_link-requires c =
    let links = c.args.links.now in
    let k = length links - 1 - c.loop-done.done in
    subst (λ n. IsLink n (insertion_of (get_or links k no_link))) (sym (left_n c.loop-done.invariant)) (link_fits links k no_link (omega arith) c.requires)

pub returns-in_err-insert_link : goal.returns-in_err-insert_link
returns-in_err-insert_link c =
    let p = err_from_is_err_and c.from_residual.result c.from_residual.ensures.1 in
    let links = c.args.links.now in
    let done = c.loop-done.done in
    let link = insertion_of (get_or links (length links - 1 - done) no_link) in
    rw (p.1, p.2)
    (left_refused (link ∷ []) (left_links links (done + 1)) (left_as c.loop-done.invariant (last_left links done no_link c.loop-done-test.true)) c.in_err-insert_link.ensures)

pub loop-done-preserved : goal.loop-done-preserved
loop-done-preserved c =
    let links = c.args.links.now in
    let done = c.loop-done.done in
    let link = insertion_of (get_or links (length links - 1 - done) no_link) in
    left_some (link ∷ []) (left_links links (done + 1)) (left_as c.loop-done.invariant (last_left links done no_link c.loop-done-test.true)) c.in_ok-insert_link.ensures

pub returns : goal.returns
returns c = left_end (left_as c.loop-done.invariant (none_left c.args.links.now c.loop-done.done (omega arith)))
