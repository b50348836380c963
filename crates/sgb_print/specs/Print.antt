-- What printing does to the bytes that a writer holds.
use Rattle.std.specs.Prelude.{◌≡◌, ℕ, true, List, ◌++◌, Option, Result, MatchResult}
use Rattle.std.specs.Io.KnownBytes.{Appends}
use Rattle.sgb_print.specs.Meter.{WriterUse}

-- known bytes grow by a front of bs
pub record AppendsFront (old new : Option (List ℕ)) (bs : List ℕ) : Type 0 where
  pub front : List ℕ
  pub rest : List ℕ
  pub whole : bs ≡ front ++ rest
  pub appends : Appends old new front

-- the whole text was written, or a write failed behind a front of it
pub record Prints {W X E : Type 0} (old new : WriterUse W) (result : Result X E) (text : List ℕ) : Type 0 where
  pub bytes : MatchResult result (λ _. Appends old.held new.held text) (λ _. AppendsFront old.held new.held text)
  pub failed : MatchResult result (λ _. new.failed ≡ old.failed) (λ _. new.failed ≡ true)
