use Rattle.std.proofs.Common.{◌≡◌, ◌∙◌, ap, sym, subst, w64}
use Rattle.std.proofs.lemmas.Int.{to_z-of_z}
use Rattle.sgb_flip.specs.Generator.{AreSmall, seed_number, seed_words, seeded}
use Rattle.sgb_flip.specs.Sequence.{terms_after}
use Rattle.sgb_flip.proofs.Draws.{made}
use Rattle.sgb_flip.proofs.Seeds.{AreSmall-seed_words}
use Rattle.sgb_flip.proofs.flip.Flip.new.Goals as goal

pub cycle_by-requires-clause-small : goal.cycle_by-requires-clause-small
cycle_by-requires-clause-small c =
    subst AreSmall (sym c.fill.ensures.filled) (AreSmall-seed_words c.number_of.result c.number_of.ensures.small)

pub returns-clause-seeded : goal.returns-clause-seeded
unfolding seeded
returns-clause-seeded c =
    let number : c.number_of.result ≡ seed_number c.args.seed =
    c.number_of.ensures.value ∙ ap seed_number (to_z-of_z w64 c.args.seed c.ranges.seed)
    in
    ap (λ ws. made ws 54) (c.cycle_by.ensures.batch ∙ ap (λ ws. terms_after ws 275) (c.fill.ensures.filled ∙ ap seed_words number))
