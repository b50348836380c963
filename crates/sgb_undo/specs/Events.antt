-- What events make of the standing and the undone commands.
use Rattle.std.specs.Prelude.{◌≡◌, ◌⊎◌, Bool, true, false, List, [], ◌∷◌, ◌++◌, ⊤, length, Some, IsTrue}
use Rattle.sgb_undo.specs.Outcome.{Outcome, is_accepted}
use Rattle.sgb_undo.specs.Replay.{fold}
use Rattle.sgb_undo.specs.History.{History, grows_at, FirstMayWant}
use Rattle.sgb_undo.specs.declared.runs.Event.{Event}
use Rattle.sgb_undo.specs.declared.runs.Event.TheVariants.{Apply, Undo, Redo}

module _ {C : Type 0} where
  -- the standing and the undone commands of a journal
  abbrev pub lists_of : {M D : Type 0} → History M C D → List C × List C
  lists_of h = (h.standing, h.undone)

  -- the last of the first list goes to the front of the second
  abbrev pub last_moved : List C → List C → List C × List C
  last_moved [] undone = ([], undone)
  last_moved (c ∷ []) undone = ([], c ∷ undone)
  last_moved (c ∷ d ∷ cs) undone = let moved = last_moved (d ∷ cs) undone in (c ∷ moved.0, moved.1)

  -- the first of the second list goes to the end of the first
  abbrev pub first_moved : List C → List C → List C × List C
  first_moved standing [] = (standing, [])
  first_moved standing (c ∷ cs) = (standing ++ c ∷ [], cs)

  -- the lists after an accepted event
  abbrev pub after : Event C → List C × List C → List C × List C
  after (Apply c) lists = (lists.0 ++ c ∷ [], [])
  after Undo lists = last_moved lists.0 lists.1
  after Redo lists = first_moved lists.0 lists.1

  abbrev pub after_all : List (Event C) → List C × List C → List C × List C
  after_all [] lists = lists
  after_all (e ∷ es) lists = after_all es (after e lists)

  -- the events that were accepted
  abbrev pub accepted_of : List (Event C) → List Bool → List (Event C)
  accepted_of (e ∷ es) (true ∷ bs) = e ∷ accepted_of es bs
  accepted_of (e ∷ es) (false ∷ bs) = accepted_of es bs
  accepted_of [] bs = []
  accepted_of (e ∷ es) [] = []

module _ {M C D R F : Type 0} (step : M → C → Outcome M D R F) (may_want : M → C → Bool) where
  -- Whether the event may be answered so where the lists are these and m is the machine's value. A command is refused
  -- only where as many stand as may, the machine refuses it, it may want for memory, or the journal grows; a redo only
  -- where nothing is undone or its command may want for memory; an undo where nothing stands.
  abbrev pub MayAnswer : M → Event C → Bool → List C × List C → Type 0
  MayAnswer m (Apply c) true lists = length lists.0 ≡ 65535 → ⊥
  MayAnswer m (Apply c) false lists =
      (length lists.0 ≡ 65535) ⊎ (is_accepted (step m c) ≡ false) ⊎ (may_want m c ≡ true) ⊎ (lists.1 ≡ []) × IsTrue (grows_at (length lists.0))
  MayAnswer m Undo true lists = lists.0 ≡ [] → ⊥
  MayAnswer m Undo false lists = lists.0 ≡ []
  MayAnswer m Redo true lists = lists.1 ≡ [] → ⊥
  MayAnswer m Redo false lists = (lists.1 ≡ []) ⊎ FirstMayWant may_want m lists.1

  -- the same of the value that the standing commands give from the start
  abbrev pub IsAnsweredRightly : M → Event C → Bool → List C × List C → Type 0
  IsAnsweredRightly start e b lists = (m : M) × (fold step start lists.0 ≡ Some m) × MayAnswer m e b lists

  -- each event was answered as it may be when its turn came
  abbrev pub AreAnsweredRightly : M → List (Event C) → List Bool → List C × List C → Type 0
  AreAnsweredRightly start (e ∷ es) (true ∷ bs) lists = IsAnsweredRightly start e true lists × AreAnsweredRightly start es bs (after e lists)
  AreAnsweredRightly start (e ∷ es) (false ∷ bs) lists = IsAnsweredRightly start e false lists × AreAnsweredRightly start es bs lists
  AreAnsweredRightly start [] bs lists = ⊤
  AreAnsweredRightly start (e ∷ es) [] lists = ⊤
