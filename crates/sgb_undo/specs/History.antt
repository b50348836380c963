-- What a contract sees of a journal, and what its calls do to it.
use Rattle.std.specs.Prelude.{◌≡◌, ℕ, ◌+◌, ◌≤◌, ◌%◌, ◌==◌, Bool, true, List, [], ◌∷◌, ◌++◌, length, Some, IsSome}
use Rattle.sgb_undo.specs.Outcome.{Outcome, Accepted}
use Rattle.sgb_undo.specs.Replay.{fold, deltas_of, start_of}

-- the value that the journal began with, the commands that stand and those that are undone, the
-- next to redo first; the deltas of the standing commands, and the machine's value
pub record History (M C D : Type 0) : Type 0 where
  pub start : M
  pub standing : List C
  pub undone : List C
  pub deltas : List D
  pub machine : M

-- whether a journal in which so many commands stand, and none is undone, takes memory for the next one
abbrev pub grows_at : ℕ → Bool
grows_at n = n % 1024 == 0

-- the first of the undone commands may want for memory at m
abbrev pub FirstMayWant : {M C : Type 0} → (M → C → Bool) → M → List C → Type 0
FirstMayWant may_want m [] = ⊥
FirstMayWant may_want m (c ∷ cs) = may_want m c ≡ true

-- a journal at its beginning
abbrev pub begun : {M C D : Type 0} → M → History M C D
begun m = record { start = m; standing = []; undone = []; deltas = []; machine = m }

module _ {M C D R F : Type 0} (step : M → C → Outcome M D R F) (before : M → D → M) where
  -- the machine's value and the deltas are those of the standing commands from the start, to which
  -- the deltas lead back; the undone commands are accepted from the machine's value
  pub record IsJournal (h : History M C D) : Type 0 where
    pub value : fold step h.start h.standing ≡ Some h.machine
    pub deltas : deltas_of step h.start h.standing ≡ h.deltas
    pub back : start_of before h.machine h.deltas ≡ h.start
    pub undone : IsSome (fold step h.machine h.undone)
    pub limit : length h.standing + length h.undone ≤ 65535

  -- the command is accepted and stands last, its delta is kept, and nothing is undone any more
  pub record Applies (old : History M C D) (command : C) (reply : R) (new : History M C D) : Type 0 where
    pub delta : D
    pub accepted : step old.machine command ≡ Accepted new.machine delta reply
    pub back : before new.machine delta ≡ old.machine
    pub start : new.start ≡ old.start
    pub standing : new.standing ≡ old.standing ++ command ∷ []
    pub undone : new.undone ≡ []
    pub deltas : new.deltas ≡ old.deltas ++ delta ∷ []

  -- the last standing command becomes the one to redo next, and its delta leads back
  pub record Undoes (old new : History M C D) : Type 0 where
    pub command : C
    pub delta : D
    pub reply : R
    pub accepted : step new.machine command ≡ Accepted old.machine delta reply
    pub machine : new.machine ≡ before old.machine delta
    pub start : new.start ≡ old.start
    pub standing : old.standing ≡ new.standing ++ command ∷ []
    pub undone : new.undone ≡ command ∷ old.undone
    pub deltas : old.deltas ≡ new.deltas ++ delta ∷ []

  -- the first undone command is accepted again and stands last
  pub record Redoes (old : History M C D) (reply : R) (new : History M C D) : Type 0 where
    pub command : C
    pub delta : D
    pub accepted : step old.machine command ≡ Accepted new.machine delta reply
    pub back : before new.machine delta ≡ old.machine
    pub start : new.start ≡ old.start
    pub standing : new.standing ≡ old.standing ++ command ∷ []
    pub undone : old.undone ≡ command ∷ new.undone
    pub deltas : new.deltas ≡ old.deltas ++ delta ∷ []
