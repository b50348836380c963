use Rattle.std.proofs.Common.{◌≡◌, ap, unsigned_abs, ◌∙◌, FitsSigned, w64, rules, arith}
use Rattle.std.proofs.lemmas.Int.{to_z-of_z}
use Rattle.sgb_random.specs.Random.{wanted}
use Rattle.sgb_random.proofs.Refusals.{judged, wanted_few}
use Rattle.sgb_random.proofs.spec.wanted.Goals as goal

pub overflow_cast-result : goal.overflow_cast-result
overflow_cast-result c =
    let fits : FitsSigned w64 c.args.spec.m = search rules in
    let is : c.unsigned_abs.result ≡ wanted c.args.spec = c.unsigned_abs.ensures.value ∙ ap unsigned_abs (to_z-of_z w64 c.args.spec.m fits) in
    record { fits = omega (arith, is, wanted_few c.args.spec (judged c.args.spec c.requires)) }

pub returns-clause-few : goal.returns-clause-few
returns-clause-few c =
    let fits : FitsSigned w64 c.args.spec.m = search rules in
    let is : c.unsigned_abs.result ≡ wanted c.args.spec = c.unsigned_abs.ensures.value ∙ ap unsigned_abs (to_z-of_z w64 c.args.spec.m fits) in
    omega (arith, is, wanted_few c.args.spec (judged c.args.spec c.requires))
