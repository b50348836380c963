-- Lists of commands that are performed as one.
use Rattle.std.specs.Prelude.{⊤, Bool, false, List, [], ◌∷◌, ◌||◌}
use Rattle.sgb_undo.specs.Outcome.{Outcome, Accepted, Refused, on_accepted}
use Rattle.sgb_undo.specs.Replay.{start_of}

module _ {M D R F : Type 0} where
  -- the answer to a group whose first command gave this delta and this reply, and the others this answer
  abbrev pub led_by : D → R → Outcome M (List D) (List R) F → Outcome M (List D) (List R) F
  led_by d r (Accepted n ds rs) = Accepted n (d ∷ ds) (r ∷ rs)
  led_by d r (Refused f) = Refused f

  -- the answer to a group whose first command is answered so, and the others from the value after it by the function
  abbrev pub followed : Outcome M D R F → (M → Outcome M (List D) (List R) F) → Outcome M (List D) (List R) F
  followed (Accepted n d r) others = led_by d r (others n)
  followed (Refused f) others = Refused f

module _ {M C D R F : Type 0} (step : M → C → Outcome M D R F) where
  -- the answer to the commands as one: the value after all of them, their deltas and their replies in order; or the
  -- refusal of the first that is refused
  abbrev pub step_all : M → List C → Outcome M (List D) (List R) F
  step_all m [] = Accepted m [] []
  step_all m (c ∷ cs) = followed (step m c) (λ n. step_all n cs)

  -- whether one of the commands may want for memory at the value that it meets, where those before it are accepted
  abbrev pub any_may_want : (M → C → Bool) → M → List C → Bool
  any_may_want may_want m [] = false
  any_may_want may_want m (c ∷ cs) = may_want m c || on_accepted (step m c) (λ n _. any_may_want may_want n cs) false

module _ {M D : Type 0} (before : M → D → M) (can_revert : M → D → Type 0) where
  -- whether the value can be led back by the deltas, last first
  abbrev pub CanRevertAll : M → List D → Type 0
  CanRevertAll n [] = ⊤
  CanRevertAll n (d ∷ ds) = CanRevertAll n ds × can_revert (start_of before n ds) d

module _ {M D R F D' R' : Type 0} where
  -- the same answer, its delta and its reply put otherwise
  abbrev pub answered_as : (D → D') → (R → R') → Outcome M D R F → Outcome M D' R' F
  answered_as delta reply (Accepted n d r) = Accepted n (delta d) (reply r)
  answered_as delta reply (Refused f) = Refused f
