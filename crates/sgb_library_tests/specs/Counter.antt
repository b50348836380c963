-- A counter that never passes 100: what its commands do, and what undoes them.
use Rattle.std.specs.Prelude.{ℕ, ◌+◌, ◌-◌, ◌≤◌, nat_le, if◌then◌else◌, Bool, false}
use Rattle.sgb_undo.specs.Outcome.{Outcome, Accepted, Refused}
use Rattle.sgb_library_tests.specs.declared.counter.Command.{Command}
use Rattle.sgb_library_tests.specs.declared.counter.Command.TheVariants.{Add, Clear}
use Rattle.sgb_library_tests.specs.declared.counter.Delta.{Delta}
use Rattle.sgb_library_tests.specs.declared.counter.Delta.TheVariants.{Added, Cleared}
use Rattle.sgb_library_tests.specs.declared.counter.Refusal.{Refusal}
use Rattle.sgb_library_tests.specs.declared.counter.Refusal.TheVariants.{AboveLimit}

-- the value after a command, the delta and the reply; or the refusal
abbrev pub step : ℕ → Command → Outcome ℕ Delta ℕ Refusal
step value (Add n) =
    if nat_le (value + n) 100 then Accepted (value + n) (Added n) (value + n) else Refused AboveLimit
step value Clear = Accepted 0 (Cleared value) 0

-- the value that a delta leads back to
abbrev pub before : ℕ → Delta → ℕ
before value (Added n) = value - n
before value (Cleared n) = n

-- whether a delta can be taken back at a value
abbrev pub can_revert : ℕ → Delta → Type 0
can_revert value (Added n) = n ≤ value
can_revert value (Cleared n) = Unit {0}

-- no refusal is for memory, since the counter allocates nothing
abbrev pub is_want_of_memory : Refusal → Bool
is_want_of_memory AboveLimit = false

abbrev pub may_want : ℕ → Command → Bool
may_want value command = false
