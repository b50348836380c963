-- What a machine answers to a command.
use Rattle.std.specs.Prelude.{Bool, true, false}

-- it accepts: the value after it, the delta and the reply; or it refuses
pub data Outcome (M D R F : Type 0) : Type 0 where
  Accepted : M → D → R → Outcome M D R F
  Refused : F → Outcome M D R F

module _ {M D R F : Type 0} where
  abbrev pub is_accepted : Outcome M D R F → Bool
  is_accepted (Accepted n d r) = true
  is_accepted (Refused r) = false

  -- what f makes of the value after an accepted command and of its delta, and else the other answer
  abbrev pub on_accepted : {X : Type 0} → Outcome M D R F → (M → D → X) → X → X
  on_accepted (Accepted n d r) f other = f n d
  on_accepted (Refused r) f other = other
