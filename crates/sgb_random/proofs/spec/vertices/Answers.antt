use Rattle.std.proofs.Common.{◌≡◌, ap, unsigned_abs, ◌∙◌, FitsSigned, w64, rules, arith}
use Rattle.std.proofs.lemmas.Int.{to_z-of_z}
use Rattle.sgb_random.specs.Random.{size_of}
use Rattle.sgb_random.proofs.Refusals.{judged, some_positive}
use Rattle.sgb_random.proofs.spec.vertices.Goals as goal

pub overflow_cast-result : goal.overflow_cast-result
overflow_cast-result c =
    let fits : FitsSigned w64 c.args.spec.n = search rules in
    let is : c.unsigned_abs.result ≡ size_of c.args.spec = c.unsigned_abs.ensures.value ∙ ap unsigned_abs (to_z-of_z w64 c.args.spec.n fits) in
    record { fits = omega (arith, is, (judged c.args.spec c.requires).few) }

pub returns-clause-some : goal.returns-clause-some
returns-clause-some c =
    let fits : FitsSigned w64 c.args.spec.n = search rules in
    let is : c.unsigned_abs.result ≡ size_of c.args.spec = c.unsigned_abs.ensures.value ∙ ap unsigned_abs (to_z-of_z w64 c.args.spec.n fits) in
    omega (arith, is, some_positive c.args.spec.n (judged c.args.spec c.requires).some)

pub returns-clause-few : goal.returns-clause-few
returns-clause-few c =
    let fits : FitsSigned w64 c.args.spec.n = search rules in
    let is : c.unsigned_abs.result ≡ size_of c.args.spec = c.unsigned_abs.ensures.value ∙ ap unsigned_abs (to_z-of_z w64 c.args.spec.n fits) in
    omega (arith, is, (judged c.args.spec c.requires).few)
