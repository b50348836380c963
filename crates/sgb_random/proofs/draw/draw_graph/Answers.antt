use Rattle.std.proofs.Common.{inl, map, sym, ap, subst, ◌∙◌, All, ◌≡◌}
use Rattle.std.proofs.lemmas.Result.{err_from_is_err_and}
use Rattle.sgb_graph.specs.Graph.{n_of}
use Rattle.sgb_random.specs.Random.{size_of}
use Rattle.sgb_random.specs.Private.Progress.{IsWithin, insertion_of}
use Rattle.sgb_random.proofs.InsertionCounts.{course_room}
use Rattle.sgb_random.proofs.draw.draw_graph.Goals as goal

pub insert_edges-requires : goal.insert_edges-requires
insert_edges-requires c =
    let indexed = c.in_ok-draw_all.ensures.ok in
    let listed = indexed.kept.listed (sym c.shortens.ensures ∙ c.if-shortens.true) in
    let size : size_of c.args.spec.now ≡ n_of c.draw_all.new.progress.builder.graph =
    sym (ap (λ b. n_of b.graph) listed.0 ∙ c.requires.fresh.bare.vertices) in
    subst (λ n. All (IsWithin n) (map insertion_of c.deref.result.now)) size
    (subst (All (IsWithin (size_of c.args.spec.now))) (sym (ap (map insertion_of) c.deref.ensures.value ∙ listed.1)) indexed.ends)

pub returns-in_err-insert_edges-clause-err : goal.returns-in_err-insert_edges-clause-err
returns-in_err-insert_edges-clause-err c =
    let p = err_from_is_err_and c.from_residual-in_err-insert_edges.result c.from_residual-in_err-insert_edges.ensures.1 in
    let listed = c.in_ok-draw_all.ensures.ok.kept.listed (sym c.shortens.ensures ∙ c.if-shortens.true) in
    rw (p.1, p.2)
    (inl (course_room c.args.spec.now c.args.flip.now c.requires.judged c.requires.fresh.bare listed.0 (ap (map insertion_of) c.deref.ensures.value ∙ listed.1) c.in_err-insert_edges.ensures))

pub returns-else-shortens-clause-ok : goal.returns-else-shortens-clause-ok
returns-else-shortens-clause-ok c = c.in_ok-draw_all.ensures.ok.kept.inserted (sym c.shortens.ensures ∙ c.if-shortens.false)
