-- Lists of commands, and the deltas that lead back.
use Rattle.std.specs.Prelude.{List, [], ◌∷◌, Option, Some, None}
use Rattle.sgb_undo.specs.Outcome.{Outcome, on_accepted}

module _ {M C D R F : Type 0} (step : M → C → Outcome M D R F) where
  -- the value after all the commands, if each in its turn is accepted
  abbrev pub fold : M → List C → Option M
  fold m [] = Some m
  fold m (c ∷ cs) = on_accepted (step m c) (λ n _. fold n cs) None

  -- the deltas of the commands, up to the first that is refused
  abbrev pub deltas_of : M → List C → List D
  deltas_of m [] = []
  deltas_of m (c ∷ cs) = on_accepted (step m c) (λ n d. d ∷ deltas_of n cs) []

module _ {M D : Type 0} (before : M → D → M) where
  -- the value that the deltas, last first, lead back to
  abbrev pub start_of : M → List D → M
  start_of n [] = n
  start_of n (d ∷ ds) = before (start_of n ds) d
