-- Random work: what it makes, and what it leaves of the generator.
use Rattle.std.specs.Prelude.{◌≡◌, ◌⊎◌, ℕ, None, Some, Result, Ok, Err}
use Rattle.sgb_graph.specs.declared.refusal.Refusal.{Refusal}
use Rattle.sgb_graph.specs.declared.refusal.Refusal.TheVariants.{NoRoom}
use Rattle.sgb_graph.specs.Graph.{GraphOf}
use Rattle.sgb_combine.specs.declared.delta.LengthsDelta.{LengthsDelta}
use Rattle.sgb_combine.specs.declared.spec.LengthsSpec.{LengthsSpec}
use Rattle.sgb_combine.specs.Lengths.{CanRevertLengths, before_lengths, draws_for, lengthened, lengths_of, refusal_of_lengths}
use Rattle.sgb_plan.specs.declared.part.Seed.{Seed}
use Rattle.sgb_plan.specs.Plan.{Plan, IsMade}
use Rattle.sgb_random.specs.declared.spec.RandomSpec.{RandomSpec}
use Rattle.sgb_random.specs.Random.{course, plan_of_random, refusal_of_random}
use Rattle.sgb_session.specs.declared.reply.Source.{Source}
use Rattle.sgb_session.specs.Drawing.{Drawing, generator_of, drawn_from, drawn_on}
use Rattle.sgb_session.specs.Source.{source_of}

-- how many numbers a random graph draws, and random lengths
abbrev pub random_draws : RandomSpec → Drawing → ℕ
random_draws spec d = (course spec (generator_of d)).draws

abbrev pub length_draws : LengthsSpec → GraphOf → Drawing → ℕ
length_draws spec g d = (draws_for spec g (generator_of d)).draws

-- a random graph is refused, or an allocation failed where the specification is good
abbrev pub RefusesRandom : RandomSpec → Result Plan Refusal → Refusal → Type 0
RefusesRandom spec plan r = IsMade plan (Err r) × (r ≡ NoRoom → refusal_of_random spec ≡ None)

-- a random graph is made with a generator, which goes on; or it is refused, and the generator is as before
abbrev pub DrawsRandom : RandomSpec → Seed → Drawing → Drawing → Result (GraphOf × ℕ) Refusal → Type 0
DrawsRandom spec seed old new (Ok a) =
    IsMade (plan_of_random spec seed (generator_of old)) (Ok a.0) × (a.1 ≡ random_draws spec old) × (new ≡ drawn_on old (random_draws spec old))
DrawsRandom spec seed old new (Err r) = RefusesRandom spec (plan_of_random spec seed (generator_of old)) r × (new ≡ old)

-- the same with the generator that the seed asks for, and with what turns it back
abbrev pub MakesRandom : RandomSpec → Seed → Drawing → Drawing → Result (GraphOf × Source) Refusal → Type 0
MakesRandom spec seed old new (Ok a) = let from = drawn_from seed old in
    IsMade (plan_of_random spec seed (generator_of from)) (Ok a.0)
    × (a.1 ≡ source_of seed old (random_draws spec from)) × (new ≡ drawn_on from (random_draws spec from))
MakesRandom spec seed old new (Err r) = RefusesRandom spec (plan_of_random spec seed (generator_of (drawn_from seed old))) r × (new ≡ old)

-- a graph has got its lengths, and what is kept leads back; or it is refused, and all is as before
abbrev pub HasLengths : LengthsSpec → Seed → Drawing → GraphOf → GraphOf → LengthsDelta → Type 0
HasLengths spec seed from g h delta =
    (refusal_of_lengths spec g ≡ None) × (h ≡ lengthened spec seed g (generator_of from))
    × (delta ≡ record { lengths = lengths_of g; id = g.id })
    × CanRevertLengths delta h × (before_lengths delta h ≡ g)

abbrev pub RefusesLengths : LengthsSpec → Drawing → Drawing → GraphOf → GraphOf → Refusal → Type 0
RefusesLengths spec old new g h r =
    (new ≡ old) × (h ≡ g) × (((r ≡ NoRoom) × (refusal_of_lengths spec g ≡ None)) ⊎ (refusal_of_lengths spec g ≡ Some r))

abbrev pub DrawsLengths : LengthsSpec → Seed → Drawing → Drawing → GraphOf → GraphOf → Result (LengthsDelta × ℕ) Refusal → Type 0
DrawsLengths spec seed old new g h (Ok a) =
    HasLengths spec seed old g h a.0 × (a.1 ≡ length_draws spec g old) × (new ≡ drawn_on old (length_draws spec g old))
DrawsLengths spec seed old new g h (Err r) = RefusesLengths spec old new g h r

abbrev pub Lengthens : LengthsSpec → Seed → Drawing → Drawing → GraphOf → GraphOf → Result (LengthsDelta × Source) Refusal → Type 0
Lengthens spec seed old new g h (Ok a) = let from = drawn_from seed old in
    HasLengths spec seed from g h a.0
    × (a.1 ≡ source_of seed old (length_draws spec g from)) × (new ≡ drawn_on from (length_draws spec g from))
Lengthens spec seed old new g h (Err r) = RefusesLengths spec old new g h r
