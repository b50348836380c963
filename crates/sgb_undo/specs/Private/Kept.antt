-- What a journal keeps of its commands and deltas.
use Rattle.std.specs.Prelude.{◌≡◌, ℕ, ◌≤◌, ◌*◌, ◌/◌, min, List, [], ◌∷◌, length, take, drop, IsSome}
use Rattle.sgb_undo.specs.Outcome.{Outcome, Accepted}
use Rattle.sgb_undo.specs.Replay.{fold, start_of}
use Rattle.sgb_undo.specs.History.{History}

-- the history that a machine, its commands and the deltas of the first n of them tell
abbrev pub history : {M C D : Type 0} → (M → D → M) → M → List C → List D → ℕ → History M C D
history before m cs ds n = record {
  start = start_of before m ds;
  standing = take n cs;
  undone = drop n cs;
  deltas = ds;
  machine = m;
}

-- how many commands with their deltas two buffers hold, of these capacities, by whole growths
abbrev pub places : ℕ → ℕ → ℕ
places commands deltas = min commands deltas / 1024 * 1024

module _ {M C D R F : Type 0} (step : M → C → Outcome M D R F) (before : M → D → M) (can_revert : M → D → Type 0) where
  -- the command was accepted at the value to which the delta leads back from n
  pub record LedTo (command : C) (delta : D) (n : M) : Type 0 where
    pub reply : R
    pub accepted : step (before n delta) command ≡ Accepted n delta reply
    pub revertible : can_revert n delta

  -- each delta is that of its command, on the way to n, and the commands behind them are accepted from n
  abbrev pub IsKept : M → List C → List D → Type 0
  IsKept n cs [] = IsSome (fold step n cs)
  IsKept n [] (d ∷ ds) = ⊥
  IsKept n (c ∷ cs) (d ∷ ds) = LedTo c d (start_of before n ds) × IsKept n cs ds

  -- besides, there are few enough commands, and a place for the delta of each
  pub record IsSound (n : M) (commands : List C) (deltas : List D) (limit places : ℕ) : Type 0 where
    pub kept : IsKept n commands deltas
    pub limited : length commands ≤ limit
    pub placed : length commands ≤ places
