use Rattle.std.proofs.Common.{ap, ◌∙◌, w64}
use Rattle.std.proofs.lemmas.Int.{to_z-of_z}
use Rattle.sgb_flip.specs.Generator.{seeded, seed_number}
use Rattle.sgb_session.proofs.Drawings.{mark_of_seed}
use Rattle.sgb_session.proofs.mark.Mark.new.Goals as goal

pub invariant_of-result : goal.invariant_of-result
invariant_of-result c = mark_of_seed c.args.seed _ _ (c.new.ensures.seeded ∙ ap seeded (to_z-of_z w64 c.args.seed c.ranges.seed)) (c.number_of.ensures.value ∙ ap seed_number (to_z-of_z w64 c.args.seed c.ranges.seed))

pub returns : goal.returns
returns c = ap (λ n. record { seed = n; draws = 0 }) (c.number_of.ensures.value ∙ ap seed_number (to_z-of_z w64 c.args.seed c.ranges.seed))
