use Rattle.std.proofs.Common.{sym, ap, subst, ◌∙◌, arith}
use Rattle.std.proofs.lemmas.Result.{err_from_is_err_and}
use Rattle.sgb_graph.specs.Graph.{n_of}
use Rattle.sgb_graph.specs.Builder.{grown}
use Rattle.sgb_graph.proofs.InsertionRuns.{LeftFrom, RefusesInsertions, from_start, from_some, from_none, from_refused, from_end, from_n}
use Rattle.sgb_combine.specs.Complement.{is_wanted, wanted_steps}
use Rattle.sgb_combine.proofs.SpokeBounds.{below_n, past_n}
use Rattle.sgb_combine.proofs.Complements.{from_vertex, wanted_at, wanted_is, wanted_one, wanted_none}
use Rattle.sgb_combine.proofs.negate.insert_missing.Goals.{then-spec, else-spec}
use Rattle.sgb_combine.proofs.negate.insert_missing.Goals as goal

pub loop-w-init : goal.loop-w-init
loop-w-init c =
    let b = c.args.builder.now in
    let n = n_of b.graph in
    let ss = c.args.lowest.now.spokes.items in
    let f = wanted_at c.args.spec c.args.vertex.0 ss in
    let all = wanted_steps c.args.spec n c.args.vertex.0 ss in
    let start : LeftFrom b all b f 0 n = subst (λ es. LeftFrom b es b f 0 n) (wanted_is c.args.spec n c.args.vertex.0 ss) (from_start b f n) in
    elim c.if-spec.branch [
      | then-spec w ↦ subst (λ i. LeftFrom b all b f i n) (sym w.low-is) start
      | else-spec w ↦ subst (λ i. LeftFrom b all b f i n) (sym w.low-is) (from_vertex c.args.spec c.args.vertex.0 n ss c.args.vertex.0 w.if-spec.false c.requires (omega arith) start)
    ]

pub loop-w-preserved-then-not-is_wanted : goal.loop-w-preserved-then-not-is_wanted
loop-w-preserved-then-not-is_wanted c =
    let is = sym (c.is_wanted.ensures ∙ ap (λ b. is_wanted c.args.spec c.args.vertex.0 b c.loop-w.w) c.leads_to.ensures) ∙ c.if-not-is_wanted.true in
    from_none (below_n c.loop-w-test.true c.n-w-end.ensures.value c.graph.ensures.value) c.loop-w.invariant (wanted_none c.args.spec c.args.vertex.0 c.args.lowest.now.spokes.items c.loop-w.w is)

pub insert-requires-clause-from : goal.insert-requires-clause-from
insert-requires-clause-from c = let low = c.requires in omega (arith, from_n c.loop-w.invariant)

pub insert-requires-clause-to : goal.insert-requires-clause-to
insert-requires-clause-to c = omega (arith, from_n c.loop-w.invariant, below_n c.loop-w-test.true c.n-w-end.ensures.value c.graph.ensures.value)

pub returns-in_err-insert : goal.returns-in_err-insert
returns-in_err-insert c =
    let p = err_from_is_err_and c.from_residual.result c.from_residual.ensures.1 in
    let ss = c.args.lowest.now.spokes.items in
    let is = sym (c.is_wanted.ensures ∙ ap (λ b. is_wanted c.args.spec c.args.vertex.0 b c.loop-w.w) c.leads_to.ensures) ∙ c.if-not-is_wanted.false in
    rw (p.1, p.2) (from_refused (below_n c.loop-w-test.true c.n-w-end.ensures.value c.graph.ensures.value) c.loop-w.invariant
    (subst (λ es. RefusesInsertions c.loop-w.builder es c.in_err-insert.field-0.0) (wanted_one c.args.spec c.args.vertex.0 ss c.loop-w.w is) c.in_err-insert.ensures.value))

pub loop-w-preserved : goal.loop-w-preserved
loop-w-preserved c =
    let ss = c.args.lowest.now.spokes.items in
    let is = sym (c.is_wanted.ensures ∙ ap (λ b. is_wanted c.args.spec c.args.vertex.0 b c.loop-w.w) c.leads_to.ensures) ∙ c.if-not-is_wanted.false in
    from_some (below_n c.loop-w-test.true c.n-w-end.ensures.value c.graph.ensures.value) c.loop-w.invariant
    (c.in_ok-insert.ensures.value ∙ ap (grown c.loop-w.builder) (wanted_one c.args.spec c.args.vertex.0 ss c.loop-w.w is))

pub returns : goal.returns
returns c = from_end (past_n c.loop-w-test.false c.n-w-end.ensures.value c.graph.ensures.value) c.loop-w.invariant
