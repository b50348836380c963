-- What a group has done so far.
use Rattle.std.specs.Prelude.{◌≡◌, List}
use Rattle.sgb_undo.specs.Outcome.{Outcome, Accepted}
use Rattle.sgb_undo.specs.Replay.{start_of}
use Rattle.sgb_undo.specs.Group.{step_all, CanRevertAll}

module _ {M C D R F : Type 0} (step : M → C → Outcome M D R F) (before : M → D → M) (can_revert : M → D → Type 0) where
  -- the commands led from m to n with these deltas and replies, and the deltas lead back
  pub record IsPerformed (m : M) (cs : List C) (n : M) (ds : List D) (rs : List R) : Type 0 where
    pub accepted : step_all step m cs ≡ Accepted n ds rs
    pub revertible : CanRevertAll before can_revert n ds
    pub back : start_of before n ds ≡ m
