use Rattle.std.proofs.Common.{◌≡◌, ◌≤◌, ◌+◌, ◌∷◌, [], take, drop, map, List, ℕ, ap, sym, refl, ◌∙◌, arith}
use Rattle.std.specs.Option.{option_to_list}
use Rattle.sgb_binary.specs.Rotation.{tree_fronts}
use Rattle.sgb_binary.specs.Private.Code.{code_of}
use Rattle.sgb_binary.specs.Private.Span.{span_from}
use Rattle.sgb_binary.proofs.NameCodes.{worth_fits, sum_fits, worth_more, code_on_dot, code_on_leaf}
use Rattle.sgb_binary.proofs.Spans.{tree_fronts_are, span_dot, span_leaf, span_past, span_found}
use Rattle.sgb_binary.proofs.code.first_code.Goals as goal
use Rattle.sgb_binary.proofs.code.first_code.Goals.{then-letter-eq46, else-letter-eq46}

pub loop-letter-init : goal.loop-letter-init
unfolding code_of
loop-letter-init c = record { rest = refl; some = omega arith; few = omega arith; code = refl; worth = refl }

pub returns : goal.returns
returns c =
    ap (map (λ k. code_of (take k c.args.word.now)))
    (sym (tree_fronts_are c.args.word.now
    ∙ ap option_to_list (c.loop-letter.invariant.rest ∙ span_past c.args.word.now c.loop-letter.letter-index c.loop-letter.needed c.loop-letter-test.false c.loop-letter.invariant.some)))

pub overflow_add-code : goal.overflow_add-code
overflow_add-code c =
    let few = sum_fits c.args.word.now c.loop-letter.letter-index c.loop-letter.code c.loop-letter.worth c.loop-letter-test.true c.requires c.loop-letter.invariant.code c.loop-letter.invariant.worth in
    omega (arith, few)

pub overflow_mul-worth : goal.overflow_mul-worth
overflow_mul-worth c =
    let most = worth_fits c.args.word.now c.loop-letter.letter-index c.loop-letter-test.true c.requires in
    omega (arith, most, c.loop-letter.invariant.worth)

pub returns-then-needed-eq0 : goal.returns-then-needed-eq0
returns-then-needed-eq0 c =
    let w : List ℕ = c.args.word.now in
    let i : ℕ = c.loop-letter.letter-index in
    let next : span_from i c.loop-letter.needed (drop i w) ≡ span_from (i + 1) c.if-letter-eq46.needed (drop (i + 1) w) =
    elim c.if-letter-eq46.branch [
      | then-letter-eq46 v ↦ span_dot w i c.loop-letter.needed c.if-letter-eq46.needed c.loop-letter-test.true v.if-letter-eq46.true c.loop-letter.invariant.some v.needed-is
      | else-letter-eq46 v ↦ span_leaf w i c.loop-letter.needed c.if-letter-eq46.needed c.loop-letter-test.true v.if-letter-eq46.false c.loop-letter.invariant.some v.needed-is
    ] in
    let code : c.if-letter-eq46.code ≡ code_of (take (i + 1) w) =
    elim c.if-letter-eq46.branch [
      | then-letter-eq46 v ↦ code_on_dot w i c.loop-letter.code c.if-letter-eq46.code c.loop-letter-test.true v.if-letter-eq46.true c.loop-letter.invariant.code v.code-is
      | else-letter-eq46 v ↦ code_on_leaf w i c.loop-letter.code c.loop-letter.worth c.if-letter-eq46.code c.loop-letter-test.true v.if-letter-eq46.false c.loop-letter.invariant.code c.loop-letter.invariant.worth v.code-is
    ] in
    let fronts : tree_fronts w ≡ (i + 1) ∷ [] =
    tree_fronts_are w
    ∙ ap option_to_list (c.loop-letter.invariant.rest ∙ (next ∙ span_found (i + 1) c.if-letter-eq46.needed (drop (i + 1) w) c.if-needed-eq0.true)) in
    ap (λ x. x ∷ []) code ∙ ap (map (λ k. code_of (take k w))) (sym fronts)

pub loop-letter-preserved : goal.loop-letter-preserved
loop-letter-preserved c =
    let w : List ℕ = c.args.word.now in
    let i : ℕ = c.loop-letter.letter-index in
    let next : span_from i c.loop-letter.needed (drop i w) ≡ span_from (i + 1) c.if-letter-eq46.needed (drop (i + 1) w) =
    elim c.if-letter-eq46.branch [
      | then-letter-eq46 v ↦ span_dot w i c.loop-letter.needed c.if-letter-eq46.needed c.loop-letter-test.true v.if-letter-eq46.true c.loop-letter.invariant.some v.needed-is
      | else-letter-eq46 v ↦ span_leaf w i c.loop-letter.needed c.if-letter-eq46.needed c.loop-letter-test.true v.if-letter-eq46.false c.loop-letter.invariant.some v.needed-is
    ] in
    let code : c.if-letter-eq46.code ≡ code_of (take (i + 1) w) =
    elim c.if-letter-eq46.branch [
      | then-letter-eq46 v ↦ code_on_dot w i c.loop-letter.code c.if-letter-eq46.code c.loop-letter-test.true v.if-letter-eq46.true c.loop-letter.invariant.code v.code-is
      | else-letter-eq46 v ↦ code_on_leaf w i c.loop-letter.code c.loop-letter.worth c.if-letter-eq46.code c.loop-letter-test.true v.if-letter-eq46.false c.loop-letter.invariant.code c.loop-letter.invariant.worth v.code-is
    ] in
    let few : c.if-letter-eq46.needed ≤ c.loop-letter.needed + 1 = elim c.if-letter-eq46.branch [ then-letter-eq46 v ↦ omega arith | else-letter-eq46 v ↦ omega arith ] in
    record {
      rest = c.loop-letter.invariant.rest ∙ next;
      some = omega arith;
      few = omega arith;
      code = code;
      worth = worth_more i c.loop-letter.worth c.loop-letter.invariant.worth;
    }
