use Rattle.std.proofs.Common.{◌<◌, ◌+◌, length, All, IsSome, ap, sym, subst, ◌∙◌, arith}
use Rattle.std.proofs.lemmas.List.Elements.{All-tail}
use Rattle.sgb_graph.specs.Graph.{arc_at, made_of}
use Rattle.sgb_print.proofs.TextPieces.{writes_none, prints_all, writes_piece, fails_piece}
use Rattle.sgb_export.proofs.ExportedArcs.{written, written_start, written_skip, written_one, few_at, lines_one, lines_none}
use Rattle.sgb_export.proofs.write.put_links_at.Goals as goal

pub loop-number-init : goal.loop-number-init
loop-number-init g c =
    let s = c.args.graph.now in
    let v = c.args.vertex.0 in
    let walked = c.into_iter-number-iterator.ensures.into_iter_gives in
    let start = walked ∙ c.walk-number-items.ensures.value in
    let all = written_start c.args.directed s v _ start in
    let less = few_at c.args.directed s v _ start in
    let few = c.walk-number-items.ensures.few in
    let most = c.walk-number-items.ensures.graph.few_arcs in record {
      lines = rw (sym all) writes_none;
      total = sym (ap (λ ls. c.args.count + length ls) all);
      few = omega (arith, less, few, most, ap length walked);
      live = subst (All (λ k. IsSome (arc_at s k))) (sym walked) c.walk-number-items.ensures.live;
      within = subst (All (λ k. k < made_of s)) (sym walked) c.walk-number-items.ensures.within;
    }

pub loop-number-preserved-then-not-is_written : goal.loop-number-preserved-then-not-is_written
loop-number-preserved-then-not-is_written g c =
    let s = c.args.graph.now in
    let skip = written_skip c.args.directed s c.args.vertex.0 _ _ _ _ c.in-Some.ensures.steps c.link_at-link.ensures.value (sym c.is_written.ensures ∙ c.if-not-is_written.true) in record {
      lines = rw skip at c.loop-number.invariant.lines;
      total = ap (λ ls. c.loop-number.next + length ls) (sym skip) ∙ c.loop-number.invariant.total;
      few = c.loop-number.invariant.few;
      live = All-tail (λ k. IsSome (arc_at s k)) _ _ (subst (All (λ k. IsSome (arc_at s k))) c.in-Some.ensures.steps c.loop-number.invariant.live);
      within = All-tail (λ k. k < made_of s) _ _ (subst (All (λ k. k < made_of s)) c.in-Some.ensures.steps c.loop-number.invariant.within);
    }

pub returns-in_err-put_link-clause-written : goal.returns-in_err-put_link-clause-written
returns-in_err-put_link-clause-written g c =
    let s = c.args.graph.now in
    let one = written_one c.args.directed s c.args.vertex.0 _ _ _ _ c.in-Some.ensures.steps c.link_at-link.ensures.value (sym c.is_written.ensures ∙ c.if-not-is_written.false) in
    fails_piece _ c.loop-number.invariant.lines c.in_err-put_link.ensures (lines_one c.args.format c.args.directed s c.loop-number.next _ _ _ one)
    c.from_residual.ensures.0

pub overflow_add-next : goal.overflow_add-next
overflow_add-next g c =
    let s = c.args.graph.now in
    let one = written_one c.args.directed s c.args.vertex.0 _ _ _ _ c.in-Some.ensures.steps c.link_at-link.ensures.value (sym c.is_written.ensures ∙ c.if-not-is_written.false) in
    let total = c.loop-number.invariant.total in
    let few = c.loop-number.invariant.few in
    let most = c.requires.few in
    omega (arith, total, few, most)

pub loop-number-preserved : goal.loop-number-preserved
loop-number-preserved g c =
    let s = c.args.graph.now in
    let one = written_one c.args.directed s c.args.vertex.0 _ _ _ _ c.in-Some.ensures.steps c.link_at-link.ensures.value (sym c.is_written.ensures ∙ c.if-not-is_written.false) in
    let total = c.loop-number.invariant.total in record {
      lines = writes_piece c.loop-number.invariant.lines c.in_ok-put_link.ensures (lines_one c.args.format c.args.directed s c.loop-number.next _ _ _ one);
      total = omega (arith, total, ap length one);
      few = c.loop-number.invariant.few;
      live = All-tail (λ k. IsSome (arc_at s k)) _ _ (subst (All (λ k. IsSome (arc_at s k))) c.in-Some.ensures.steps c.loop-number.invariant.live);
      within = All-tail (λ k. k < made_of s) _ _ (subst (All (λ k. k < made_of s)) c.in-Some.ensures.steps c.loop-number.invariant.within);
    }

pub returns-clause-written : goal.returns-clause-written
returns-clause-written g c =
    let s = c.args.graph.now in
    let none = ap (written c.args.directed s c.args.vertex.0) c.in-None.ensures.steps.0 in
    prints_all c.loop-number.invariant.lines (lines_none c.args.format c.args.directed s c.loop-number.next _ none)

pub returns-clause-count : goal.returns-clause-count
returns-clause-count g c =
    let none = ap (λ ks. length (written c.args.directed c.args.graph.now c.args.vertex.0 ks)) c.in-None.ensures.steps.0 in
    let total = c.loop-number.invariant.total in
    omega (arith, total, none)

pub returns-clause-few : goal.returns-clause-few
returns-clause-few g c =
    let total = c.loop-number.invariant.total in
    let few = c.loop-number.invariant.few in
    omega (arith, total, few)
