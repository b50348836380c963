use Rattle.std.proofs.Common.{◌≡◌, ◌≤◌, ◌<◌, ◌+◌, true, false, length, All, IsSome, ap, sym, subst, ◌∙◌, arith}
use Rattle.std.proofs.lemmas.List.{length-set}
use Rattle.std.proofs.lemmas.List.Elements.{All-tail, All-set}
use Rattle.sgb_graph.specs.Graph.{arc_at, made_of}
use Rattle.sgb_export.specs.declared.link.Link.{Link}
use Rattle.sgb_export.proofs.ExportedArcs.{written, written_start, written_skip, written_one}
use Rattle.sgb_export.proofs.SimpleEdges.{are_fresh, is_fresh, fresh_start, fresh_so, loop_not, marked_not, fresh_one, fresh_not, fresh_none, written_from}
use Rattle.sgb_export.proofs.simple.is_simple_at.Goals as goal
use Rattle.sgb_export.proofs.simple.is_simple_at.Goals.{then-link-via-then-link, then-link-via-else-link+then-marks-link}

pub loop-number-init : goal.loop-number-init
loop-number-init c =
    let s = c.args.graph.now in
    let v = c.args.vertex.0 in
    let walked = c.into_iter-number-iterator.ensures.into_iter_gives in record {
      same = fresh_start v c.args.marks.now _ _ c.requires.low (written_start false s v _ (walked ∙ c.walk-number-items.ensures.value));
      count = c.requires.count;
      low = λ k d h. let low = c.requires.low k d h in omega (arith, low);
      live = subst (All (λ k. IsSome (arc_at s k))) (sym walked) c.walk-number-items.ensures.live;
      within = subst (All (λ k. k < made_of s)) (sym walked) c.walk-number-items.ensures.within;
    }

pub loop-number-preserved-then-not-is_written : goal.loop-number-preserved-then-not-is_written
loop-number-preserved-then-not-is_written c =
    let s = c.args.graph.now in
    let skip = written_skip false s c.args.vertex.0 _ _ _ _ c.in-Some.ensures.steps c.link_at-link.ensures.value (sym c.is_written.ensures ∙ c.if-not-is_written.true) in record {
      same = c.loop-number.invariant.same ∙ ap (are_fresh c.loop-number.marks (c.args.vertex.0 + 1)) skip;
      count = c.loop-number.invariant.count;
      low = c.loop-number.invariant.low;
      live = All-tail (λ k. IsSome (arc_at s k)) _ _ (subst (All (λ k. IsSome (arc_at s k))) c.in-Some.ensures.steps c.loop-number.invariant.live);
      within = All-tail (λ k. k < made_of s) _ _ (subst (All (λ k. k < made_of s)) c.in-Some.ensures.steps c.loop-number.invariant.within);
    }

pub loop-number-preserved : goal.loop-number-preserved
loop-number-preserved c =
    let s = c.args.graph.now in
    let v = c.args.vertex.0 in
    let m = v + 1 in
    let marks = c.loop-number.marks in
    let l = c.link_at-link.result in
    let after = c.next.new.self in
    let one = written_one false s v _ _ after l c.in-Some.ensures.steps c.link_at-link.ensures.value (sym c.is_written.ensures ∙ c.if-not-is_written.false) in
    let from : l.from ≡ v = ap (λ (x : Link). x.from) c.link_at-link.ensures.value in
    let to = c.link_at-link.ensures.to in
    let count = c.loop-number.invariant.count in
    let inside : l.to < length marks = omega (arith, to, count) in
    let so : is_fresh marks m l ≡ true = fresh_so marks m l c.if-link.false c.if-marks-link.false in record {
      same = c.loop-number.invariant.same ∙ (ap (are_fresh marks m) one ∙ fresh_one marks m v l (written false s v after) from (written_from s v after) inside so);
      count = length-set marks l.to m ∙ count;
      low = All-set (λ x. x ≤ v + 1) marks l.to m (omega arith) c.loop-number.invariant.low;
      live = All-tail (λ k. IsSome (arc_at s k)) _ _ (subst (All (λ k. IsSome (arc_at s k))) c.in-Some.ensures.steps c.loop-number.invariant.live);
      within = All-tail (λ k. k < made_of s) _ _ (subst (All (λ k. k < made_of s)) c.in-Some.ensures.steps c.loop-number.invariant.within);
    }

pub returns-then-link : goal.returns-then-link
returns-then-link c =
    let s = c.args.graph.now in
    let v = c.args.vertex.0 in
    let m = v + 1 in
    let marks = c.loop-number.marks in
    let l = c.link_at-link.result in
    let one = written_one false s v _ _ c.next.new.self l c.in-Some.ensures.steps c.link_at-link.ensures.value (sym c.is_written.ensures ∙ c.if-not-is_written.false) in
    let not_so : is_fresh marks m l ≡ false = elim c.then-link.branch [
      | then-link-via-then-link w ↦ loop_not marks m l w.if-link.true
      | then-link-via-else-link+then-marks-link w ↦ marked_not marks m l w.if-marks-link.true
    ] in record {
      value = sym (c.loop-number.invariant.same ∙ (ap (are_fresh marks m) one ∙ fresh_not marks m l (written false s v c.next.new.self) not_so));
      count = c.loop-number.invariant.count;
      low = c.loop-number.invariant.low;
    }

pub returns : goal.returns
returns c =
    let s = c.args.graph.now in
    let v = c.args.vertex.0 in
    let none = ap (written false s v) c.in-None.ensures.steps.0 in record {
      value = sym (c.loop-number.invariant.same ∙ fresh_none c.loop-number.marks (v + 1) _ none);
      count = c.loop-number.invariant.count;
      low = c.loop-number.invariant.low;
    }
