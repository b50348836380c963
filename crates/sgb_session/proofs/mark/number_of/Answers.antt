use Rattle.std.proofs.Common.{rules, ap, ◌∙◌, unsigned_abs, pos, w64}
use Rattle.std.specs.Int.{int_rem_euclid}
use Rattle.std.proofs.lemmas.Int.{to_z-of_z}
use Rattle.sgb_flip.specs.Generator.{seed_number}
use Rattle.sgb_session.proofs.mark.number_of.Goals as goal
use mir.Val.{SFits}

pub returns-clause-value : goal.returns-clause-value
unfolding seed_number
returns-clause-value c =
    let fits : SFits w64 c.rem_euclid.result = search rules in
    ap unsigned_abs (to_z-of_z w64 c.rem_euclid.result fits
    ∙ c.rem_euclid.ensures.value
    ∙ ap (λ z. int_rem_euclid z (pos 2147483648)) (to_z-of_z w64 c.args.seed c.ranges.seed))
