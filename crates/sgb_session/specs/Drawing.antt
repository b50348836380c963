-- A seed and a count of draws, and the generator that they stand for.
use Rattle.std.specs.Prelude.{◌≡◌, ℕ, ◌+◌, ◌-◌, ◌<◌, ◌^◌, ℤ, pos}
use Rattle.sgb_flip.specs.Generator.{Generator, window, seed_number}
use Rattle.sgb_plan.specs.declared.part.Seed.{Seed}
use Rattle.sgb_plan.specs.declared.part.Seed.TheVariants.{Number, Current}

-- what a session keeps of its generator
pub record Drawing : Type 0 where
  pub seed : ℕ
  pub draws : ℕ

abbrev pub generator_of : Drawing → Generator
generator_of d = window (pos d.seed) d.draws

-- a seed counts modulo 2 ^ 31
abbrev pub seeded_by : ℤ → Drawing
seeded_by s = record { seed = seed_number s; draws = 0 }

abbrev pub drawn_on : Drawing → ℕ → Drawing
drawn_on d n = record { seed = d.seed; draws = d.draws + n }

abbrev pub drawn_back : Drawing → ℕ → Drawing
drawn_back d n = record { seed = d.seed; draws = d.draws - n }

-- the generator is that of the seed after the draws
pub record IsMark (flip : Generator) (d : Drawing) : Type 0 where
  pub generator : flip ≡ generator_of d
  pub seed : d.seed < 2 ^ 31
  pub draws : d.draws < 2 ^ 63

-- the generator that random work draws from: that of the number, or the session's, which goes on
abbrev pub drawn_from : Seed → Drawing → Drawing
drawn_from (Number s) d = seeded_by s
drawn_from Current d = d
