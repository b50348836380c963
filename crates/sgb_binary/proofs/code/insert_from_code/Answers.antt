use Rattle.std.proofs.Common.{◌≡◌, ◌<◌, List, ℕ, length, map, subst, ap, sym, ◌∙◌, arith}
use Rattle.std.proofs.lemmas.List.{length-map}
use Rattle.std.proofs.lemmas.Result.{err_from_is_err_and}
use Rattle.sgb_graph.specs.Builder.{grown}
use Rattle.sgb_graph.proofs.InsertionRuns.{RefusesInsertions, from_some, from_none, from_refused, from_end, from_n}
use Rattle.sgb_binary.specs.Private.Names.{bytes_of}
use Rattle.sgb_binary.specs.Rotation.{rotations_of}
use Rattle.sgb_binary.specs.Private.Code.{code_of}
use Rattle.sgb_binary.proofs.NameCodes.{name_short, name_at, target_some, target_none}
use Rattle.sgb_binary.proofs.code.insert_from_code.Goals as goal
use Rattle.sgb_binary.proofs.code.insert_from_code.Goals.{in-Some+in_ok-insert, in_default}

pub code_of-code-requires : goal.code_of-code-requires
code_of-code-requires c =
    name_short (map bytes_of c.args.names.now) c.args.v _ c.requires.names (omega (arith, c.requires.vertex, length-map c.args.names.now bytes_of))
    (name_at c.args.names.now c.args.v _ c.requires.vertex)

pub find_code-requires-clause-short : goal.find_code-requires-clause-short
find_code-requires-clause-short c =
    name_short (map bytes_of c.args.names.now) c.args.v _ c.requires.names (omega (arith, c.requires.vertex, length-map c.args.names.now bytes_of))
    (name_at c.args.names.now c.args.v _ c.requires.vertex)

pub insert-requires-clause-from : goal.insert-requires-clause-from
insert-requires-clause-from c = omega (arith, from_n c.loop-place.invariant, c.requires.vertices, c.requires.vertex)

pub insert-requires-clause-to : goal.insert-requires-clause-to
insert-requires-clause-to c =
    omega
    (arith, from_n c.loop-place.invariant, c.requires.vertices, c.in-Some.ensures.within, ap (λ xs. length xs) c.requires.codes, length-map (map bytes_of c.args.names.now) code_of, length-map c.args.names.now bytes_of)

pub returns-in_err-insert : goal.returns-in_err-insert
returns-in_err-insert c =
    let p = err_from_is_err_and c.from_residual.result c.from_residual.ensures.1 in
    let names : List (List ℕ) = map bytes_of c.args.names.now in
    let less : c.args.v < length names = omega (arith, c.requires.vertex, length-map c.args.names.now bytes_of) in
    rw (p.1, p.2)
    (subst (λ w. RefusesInsertions c.args.builder.now (rotations_of names c.args.v w) c.in_err-insert.field-0.0)
    (name_at c.args.names.now c.args.v _ c.requires.vertex)
    (from_refused c.loop-place-test.true c.loop-place.invariant
    (subst (λ es. RefusesInsertions c.loop-place.builder es c.in_err-insert.field-0.0)
    (sym (target_some names c.args.codes.now.keys c.args.v c.loop-place.place c.in-Some.target _ c.requires.names less
    (name_at c.args.names.now c.args.v _ c.requires.vertex) c.requires.codes c.in-Some.ensures.value)) c.in_err-insert.ensures.value)))

pub loop-place-preserved : goal.loop-place-preserved
loop-place-preserved c =
    let names : List (List ℕ) = map bytes_of c.args.names.now in
    let less : c.args.v < length names = omega (arith, c.requires.vertex, length-map c.args.names.now bytes_of) in
    elim c.match-find_code.branch [
      | in-Some+in_ok-insert u ↦
          from_some c.loop-place-test.true c.loop-place.invariant
          (u.builder-is
          ∙ (u.in_ok-insert.ensures.value
          ∙ ap (grown c.loop-place.builder)
          (sym (target_some names c.args.codes.now.keys c.args.v c.loop-place.place u.in-Some.target _ c.requires.names less
          (name_at c.args.names.now c.args.v _ c.requires.vertex) c.requires.codes u.in-Some.ensures.value))))
      | in_default u ↦
          rw u.builder-is
          (from_none c.loop-place-test.true c.loop-place.invariant
          (target_none names c.args.codes.now.keys c.args.v c.loop-place.place _ c.requires.names less
          (name_at c.args.names.now c.args.v _ c.requires.vertex) c.requires.codes u.in_default.ensures.value))
    ]

pub returns : goal.returns
returns c =
    let names : List (List ℕ) = map bytes_of c.args.names.now in
    subst (λ w. c.loop-place.builder ≡ grown c.args.builder.now (rotations_of names c.args.v w))
    (name_at c.args.names.now c.args.v _ c.requires.vertex)
    (from_end c.loop-place-test.false c.loop-place.invariant)
