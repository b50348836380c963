use Rattle.std.proofs.Common.{◌≡◌, ◌≤◌, ◌+◌, drop, ap, sym, ◌∙◌, arith}
use Rattle.std.specs.Option.{option_to_list}
use Rattle.sgb_binary.specs.Private.Span.{span_from}
use Rattle.sgb_binary.proofs.Spans.{tree_fronts_are, span_dot, span_leaf, span_past, span_found}
use Rattle.sgb_binary.proofs.rotation.first_tree.Goals as goal
use Rattle.sgb_binary.proofs.rotation.first_tree.Goals.{then-letter-eq46, else-letter-eq46}

pub returns-clause-value : goal.returns-clause-value
returns-clause-value c =
    sym (tree_fronts_are c.args.word.now
    ∙ ap option_to_list (c.loop-i.invariant.rest ∙ span_past c.args.word.now c.loop-i.i c.loop-i.needed c.loop-i-test.false c.loop-i.invariant.some))

pub returns-then-needed-eq0-clause-value : goal.returns-then-needed-eq0-clause-value
returns-then-needed-eq0-clause-value c =
    let next : span_from c.loop-i.i c.loop-i.needed (drop c.loop-i.i c.args.word.now) ≡ span_from (c.loop-i.i + 1) c.if-letter-eq46.needed (drop (c.loop-i.i + 1) c.args.word.now) =
    elim c.if-letter-eq46.branch [
      | then-letter-eq46 w ↦ span_dot c.args.word.now c.loop-i.i c.loop-i.needed c.if-letter-eq46.needed c.loop-i-test.true w.if-letter-eq46.true c.loop-i.invariant.some w.needed-is
      | else-letter-eq46 w ↦ span_leaf c.args.word.now c.loop-i.i c.loop-i.needed c.if-letter-eq46.needed c.loop-i-test.true w.if-letter-eq46.false c.loop-i.invariant.some w.needed-is
    ] in
    sym (tree_fronts_are c.args.word.now
    ∙ ap option_to_list (c.loop-i.invariant.rest ∙ (next ∙ span_found (c.loop-i.i + 1) c.if-letter-eq46.needed (drop (c.loop-i.i + 1) c.args.word.now) c.if-needed-eq0.true)))

pub loop-i-preserved : goal.loop-i-preserved
loop-i-preserved c =
    let next : span_from c.loop-i.i c.loop-i.needed (drop c.loop-i.i c.args.word.now) ≡ span_from (c.loop-i.i + 1) c.if-letter-eq46.needed (drop (c.loop-i.i + 1) c.args.word.now) =
    elim c.if-letter-eq46.branch [
      | then-letter-eq46 w ↦ span_dot c.args.word.now c.loop-i.i c.loop-i.needed c.if-letter-eq46.needed c.loop-i-test.true w.if-letter-eq46.true c.loop-i.invariant.some w.needed-is
      | else-letter-eq46 w ↦ span_leaf c.args.word.now c.loop-i.i c.loop-i.needed c.if-letter-eq46.needed c.loop-i-test.true w.if-letter-eq46.false c.loop-i.invariant.some w.needed-is
    ] in
    let few : c.if-letter-eq46.needed ≤ c.loop-i.needed + 1 = elim c.if-letter-eq46.branch [ then-letter-eq46 w ↦ omega arith | else-letter-eq46 w ↦ omega arith ] in
    record { rest = c.loop-i.invariant.rest ∙ next; some = omega arith; few = omega arith }
