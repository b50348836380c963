use Rattle.std.proofs.Common.{◌+◌, List, length, ℕ, subst, ap, sym, ◌∙◌, arith}
use Rattle.std.proofs.lemmas.Result.{err_from_is_err_and}
use Rattle.sgb_graph.specs.Builder.{grown}
use Rattle.sgb_graph.proofs.InsertionRuns.{LeftFrom, RefusesInsertions, from_some, from_none, from_refused, from_end, from_n}
use Rattle.sgb_binary.specs.Rotation.{rotations_at, rotations_of}
use Rattle.sgb_binary.proofs.NameIndexes.{names_of}
use Rattle.sgb_binary.proofs.RotationSteps.{rotation_one, rotation_none}
use Rattle.sgb_binary.proofs.rotation.insert_from.Goals as goal
use Rattle.sgb_binary.proofs.rotation.insert_from.Goals.{in-Some+in_ok-insert, in_default}

pub insert-requires-clause-from : goal.insert-requires-clause-from
insert-requires-clause-from c = omega (arith, from_n c.loop-place.invariant.left)

pub insert-requires-clause-to : goal.insert-requires-clause-to
insert-requires-clause-to c = omega (arith, from_n c.loop-place.invariant.left, c.in-Some.ensures.within)

pub returns-in_err-insert : goal.returns-in_err-insert
returns-in_err-insert c =
    let p = err_from_is_err_and c.from_residual.result c.from_residual.ensures.1 in
    let one = rotation_one (names_of c.args.index.now.keys) c.args.v c.loop-place.word c.args.word.now c.loop-place.place c.in-Some.target c.loop-place.invariant.word c.in-Some.ensures.value in
    rw (p.1, p.2)
    (from_refused c.loop-place-test.true c.loop-place.invariant.left
    (subst (λ es. RefusesInsertions c.loop-place.builder es c.in_err-insert.field-0.0) (sym one) c.in_err-insert.ensures.value))

pub loop-place-preserved : goal.loop-place-preserved
loop-place-preserved c =
    let names : List (List ℕ) = names_of c.args.index.now.keys in
    let left : LeftFrom c.args.builder.now (rotations_of names c.args.v c.args.word.now) c.match-find_turned.builder (rotations_at names c.args.v c.args.word.now) (c.loop-place.place + 1) (length c.args.word.now) =
    elim c.match-find_turned.branch [
      | in-Some+in_ok-insert w ↦
          from_some c.loop-place-test.true c.loop-place.invariant.left
          (w.builder-is
          ∙ (w.in_ok-insert.ensures.value
          ∙ ap (grown c.loop-place.builder) (sym (rotation_one names c.args.v c.loop-place.word c.args.word.now c.loop-place.place w.in-Some.target c.loop-place.invariant.word w.in-Some.ensures.value))))
      | in_default w ↦
          subst (λ b. LeftFrom c.args.builder.now (rotations_of names c.args.v c.args.word.now) b (rotations_at names c.args.v c.args.word.now) (c.loop-place.place + 1) (length c.args.word.now)) (sym w.builder-is)
          (from_none c.loop-place-test.true c.loop-place.invariant.left
          (rotation_none names c.args.v c.loop-place.word c.args.word.now c.loop-place.place c.loop-place.invariant.word w.in_default.ensures.value))
    ] in
    record { left = left; word = c.find_turned.ensures.same ∙ c.loop-place.invariant.word }

pub returns : goal.returns
returns c = from_end c.loop-place-test.false c.loop-place.invariant.left
