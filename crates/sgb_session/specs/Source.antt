-- What undoing random work needs of the generator.
use Rattle.std.specs.Prelude.{ℕ, ◌≤◌}
use Rattle.sgb_plan.specs.declared.part.Seed.{Seed}
use Rattle.sgb_plan.specs.declared.part.Seed.TheVariants.{Number, Current}
use Rattle.sgb_session.specs.declared.reply.Source.{Source}
use Rattle.sgb_session.specs.declared.reply.Source.TheVariants.{Draws, Seeded}
use Rattle.sgb_session.specs.Drawing.{Drawing, drawn_back}

-- what undoing random work keeps of the generator before it: all of one that was seeded anew, else a count of draws
abbrev pub source_of : Seed → Drawing → ℕ → Source
source_of (Number s) d n = Seeded d
source_of Current d n = Draws n

-- the generator before random work
abbrev pub turned_back : Source → Drawing → Drawing
turned_back (Seeded before) d = before
turned_back (Draws n) d = drawn_back d n

abbrev pub CanTurnBack : Source → Drawing → Type 0
CanTurnBack (Seeded before) d = Unit {0}
CanTurnBack (Draws n) d = n ≤ d.draws
