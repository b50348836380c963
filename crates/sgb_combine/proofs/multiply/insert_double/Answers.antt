use Rattle.std.proofs.Common.{◌∷◌, [], sym, ap, subst, ◌∙◌, arith}
use Rattle.std.proofs.lemmas.List.{get_or_default}
use Rattle.std.proofs.lemmas.Simd.{map-map}
use Rattle.std.proofs.lemmas.Result.{err_from_is_err_and}
use Rattle.sgb_graph.specs.Builder.{along, Insertion, grown}
use Rattle.sgb_graph.proofs.InsertionRuns.{LeftOf, RefusesInsertions, of_start_map, of_some, of_refused, of_end, of_n}
use Rattle.sgb_graph.specs.declared.spoke.Spoke.{Spoke}
use Rattle.sgb_combine.specs.Private.Pruned.{double}
use Rattle.sgb_combine.proofs.SpokeBounds.{spoke_in, no_spoke}
use Rattle.sgb_combine.proofs.multiply.insert_double.Goals as goal

pub loop-second-init : goal.loop-second-init
loop-second-init c =
    let b = c.args.builder.now in
    let ss = c.args.seconds.now in
    let f : Spoke → Insertion = λ s. along c.args.number.0 (double c.args.k c.args.first s) in
    subst (λ all. LeftOf b all b (λ s. f s ∷ []) ss 0) (sym (map-map (along c.args.number.0) (double c.args.k c.args.first) ss)) (of_start_map b f ss)

pub insert_spoke-requires-clause-from : goal.insert_spoke-requires-clause-from
insert_spoke-requires-clause-from c = let low = c.requires.number in omega (arith, of_n c.loop-second.invariant)

pub insert_spoke-requires-clause-to : goal.insert_spoke-requires-clause-to
insert_spoke-requires-clause-to c =
    let row = c.requires.row in
    omega (arith, ap (λ (s : Spoke). s.to) c.double.ensures, of_n c.loop-second.invariant, c.requires.to c.loop-second.second-index no_spoke (omega arith))

pub returns-in_err-insert_spoke : goal.returns-in_err-insert_spoke
returns-in_err-insert_spoke c =
    let p = err_from_is_err_and c.from_residual.result c.from_residual.ensures.1 in
    let i = c.loop-second.second-index in
    let ss = c.args.seconds.now in
    rw (p.1, p.2) (of_refused (omega arith) (get_or_default ss i no_spoke (spoke_in ss i) (omega arith)) c.loop-second.invariant
    (subst (λ s. RefusesInsertions c.loop-second.builder (along c.args.number.0 s ∷ []) c.in_err-insert_spoke.field-0.0) c.double.ensures c.in_err-insert_spoke.ensures))

pub loop-second-preserved : goal.loop-second-preserved
loop-second-preserved c =
    let i = c.loop-second.second-index in
    let ss = c.args.seconds.now in
    of_some (omega arith) (get_or_default ss i no_spoke (spoke_in ss i) (omega arith)) c.loop-second.invariant
    (c.in_ok-insert_spoke.ensures ∙ ap (λ s. grown c.loop-second.builder (along c.args.number.0 s ∷ [])) c.double.ensures)

pub returns : goal.returns
returns c = of_end (omega arith) c.loop-second.invariant
