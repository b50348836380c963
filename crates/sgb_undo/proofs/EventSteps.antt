-- The lists of a journal, event by event.
use Rattle.std.proofs.Common.{◌≡◌, ◌↔◌, ◌⊎◌, inl, inr, ◌+◌, Bool, true, false, List, [], ◌∷◌, ◌++◌, length, refl, sym, ap, ◌∙◌, subst, arith, Ok, Err, OnOk, is_ok, IsErr, IsErrOf, IsTrue}
use Rattle.std.specs.Bool.{OnTrue, OnFalse}
use Rattle.std.proofs.lemmas.List.{append_assoc, length_push}
use Rattle.std.specs.Prelude.{Result}
use Rattle.sgb_undo.specs.Outcome.{Outcome, Refused, is_accepted}
use Rattle.sgb_undo.specs.History.{History, IsJournal, Undoes, grows_at, FirstMayWant}
use Rattle.sgb_undo.specs.Events.{lists_of, last_moved, after, after_all, accepted_of, MayAnswer, IsAnsweredRightly, AreAnsweredRightly}
use Rattle.sgb_undo.specs.declared.runs.Event.{Event}
use Rattle.sgb_undo.specs.declared.runs.Event.TheVariants as events
use Rattle.sgb_undo.specs.declared.refusal.JournalRefusal.{JournalRefusal}
use Rattle.sgb_undo.specs.declared.refusal.JournalRefusal.TheVariants as refusals
use Rattle.sgb_undo.specs.declared.refusal.NothingToUndo.{NothingToUndo}

pub OnTrue-is_ok : {T E : Type 0} (P : Type 0) (r : Result T E) (b : Bool) → b ≡ is_ok r → OnOk r P → OnTrue b P
OnTrue-is_ok P (Ok x) b e p = subst (λ v. OnTrue v P) (sym e) p
OnTrue-is_ok P (Err x) b e p = subst (λ v. OnTrue v P) (sym e) tt

pub OnFalse-weaker : {P Q : Type 0} (b : Bool) → (P → Q) → OnFalse b P → OnFalse b Q
OnFalse-weaker true f p = tt
OnFalse-weaker false f p = f p

last_moved-push : {C : Type 0} (cs : List C) (c : C) (undone : List C) → last_moved (cs ++ c ∷ []) undone ≡ (cs, c ∷ undone)
last_moved-push [] c undone = refl
last_moved-push (x ∷ []) c undone = refl
last_moved-push (x ∷ y ∷ cs) c undone = ap (λ moved. (x ∷ moved.0, moved.1)) (last_moved-push (y ∷ cs) c undone)

-- an undo moves the last standing command
pub lists_of-undo : {M C D R F : Type 0} {step : M → C → Outcome M D R F} {before : M → D → M} {old new : History M C D} → Undoes step before old new → lists_of new ≡ last_moved old.standing old.undone
lists_of-undo {old = old} {new = new} u =
    ap (λ undone. (new.standing, undone)) u.undone
    ∙ sym (ap (λ cs. last_moved cs old.undone) u.standing ∙ last_moved-push new.standing u.command old.undone)

module _ {C : Type 0} (e : Event C) (b : Bool) (now : List C × List C) where
  -- one more event
  lists-more : (next : List C × List C) (es : List (Event C)) (bs : List Bool) (start : List C × List C) → length bs ≡ length es → now ≡ after_all (accepted_of es bs) start → OnTrue b (next ≡ after e now) → OnFalse b (next ≡ now) → next ≡ after_all (accepted_of (es ++ e ∷ []) (bs ++ b ∷ [])) start
  lists-more next [] [] start long told taken left = at b taken left
    where
      at : (b : Bool) → OnTrue b (next ≡ after e now) → OnFalse b (next ≡ now) → next ≡ after_all (accepted_of (e ∷ []) (b ∷ [])) start
      at true taken left = taken ∙ ap (after e) told
      at false taken left = left ∙ told
  lists-more next [] (x ∷ bs) start long told taken left = absurd (omega arith)
  lists-more next (d ∷ es) [] start long told taken left = absurd (omega arith)
  lists-more next (d ∷ es) (true ∷ bs) start long told taken left = lists-more next es bs (after d start) (omega arith) told taken left
  lists-more next (d ∷ es) (false ∷ bs) start long told taken left = lists-more next es bs start (omega arith) told taken left

module _ {M C D R F : Type 0} (step : M → C → Outcome M D R F) (may_want : M → C → Bool) where
  -- what the journal's calls say of their refusals is what an event may be answered
  pub apply-may : (h : History M C D) (c : C) (r : Result R (JournalRefusal F)) → (IsErrOf r refusals.NoRoom → (h.undone ≡ []) × IsTrue (grows_at (length h.standing))) → (IsErrOf r refusals.Full ↔ (length h.standing ≡ 65535)) → (IsErrOf r refusals.NothingToRedo → ⊥) → (Q : F → Type 0) → ((f : F) → IsErrOf r (refusals.Machine f) → (Q f × (may_want h.machine c ≡ true)) ⊎ (step h.machine c ≡ Refused f)) → MayAnswer step may_want h.machine (events.Apply c) (is_ok r) (lists_of h)
  apply-may h c (Ok x) no_room full nothing Q refused = λ e. let no = full.1 e in cc
  apply-may h c (Err refusals.NoRoom) no_room full nothing Q refused = inr (inr (inr (no_room refl)))
  apply-may h c (Err refusals.Full) no_room full nothing Q refused = inl (full.0 refl)
  apply-may h c (Err refusals.NothingToRedo) no_room full nothing Q refused = absurd (nothing refl)
  apply-may h c (Err (refusals.Machine f)) no_room full nothing Q refused =
      elim (refused f refl) [
        | inl want ↦ inr (inr (inl want.1))
        | inr e ↦ inr (inl (ap is_accepted e))
      ]

  pub undo-may : (h : History M C D) (r : Result (Unit {0}) NothingToUndo) → (IsErr r ↔ (h.standing ≡ [])) → MayAnswer step may_want h.machine events.Undo (is_ok r) (lists_of h)
  undo-may h (Ok x) nothing = λ e. let no = nothing.1 e in cc
  undo-may h (Err x) nothing = nothing.0 refl

  pub redo-may : (h : History M C D) (r : Result R (JournalRefusal F)) → (IsErrOf r refusals.NothingToRedo ↔ (h.undone ≡ [])) → (IsErrOf r refusals.NoRoom → ⊥) → (IsErrOf r refusals.Full → ⊥) → (Q : F → Type 0) → ((f : F) → IsErrOf r (refusals.Machine f) → Q f × FirstMayWant may_want h.machine h.undone) → MayAnswer step may_want h.machine events.Redo (is_ok r) (lists_of h)
  redo-may h (Ok x) nothing no_room full Q refused = λ e. let no = nothing.1 e in cc
  redo-may h (Err refusals.NoRoom) nothing no_room full Q refused = absurd (no_room refl)
  redo-may h (Err refusals.Full) nothing no_room full Q refused = absurd (full refl)
  redo-may h (Err refusals.NothingToRedo) nothing no_room full Q refused = inl (nothing.0 refl)
  redo-may h (Err (refusals.Machine f)) nothing no_room full Q refused = let want = refused f refl in inr want.1

  -- the machine's value is that of the standing commands
  pub right-sound : {before : M → D → M} (h : History M C D) (e e' : Event C) (b b' : Bool) → IsJournal step before h → e ≡ e' → b ≡ b' → MayAnswer step may_want h.machine e' b' (lists_of h) → IsAnsweredRightly step may_want h.start e b (lists_of h)
  right-sound h e e' b b' sound same same' may = (
    h.machine,
    sound.value,
    subst (λ e. MayAnswer step may_want h.machine e b (lists_of h)) (sym same)
        (subst (λ b. MayAnswer step may_want h.machine e' b (lists_of h)) (sym same') may),
  )

  -- one more event
  answered-more : (start : M) (e : Event C) (b : Bool) (now : List C × List C) (es : List (Event C)) (bs : List Bool) (first : List C × List C) → length bs ≡ length es → now ≡ after_all (accepted_of es bs) first → AreAnsweredRightly step may_want start es bs first → IsAnsweredRightly step may_want start e b now → AreAnsweredRightly step may_want start (es ++ e ∷ []) (bs ++ b ∷ []) first
  answered-more start e b now [] [] first long told right may = at b may
    where
      at : (b : Bool) → IsAnsweredRightly step may_want start e b now → AreAnsweredRightly step may_want start (e ∷ []) (b ∷ []) first
      at true may = (subst (IsAnsweredRightly step may_want start e true) told may, tt)
      at false may = (subst (IsAnsweredRightly step may_want start e false) told may, tt)
  answered-more start e b now [] (x ∷ bs) first long told right may = absurd (omega arith)
  answered-more start e b now (d ∷ es) [] first long told right may = absurd (omega arith)
  answered-more start e b now (d ∷ es) (true ∷ bs) first long told right may = (right.0, answered-more start e b now es bs (after d first) (omega arith) told right.1 may)
  answered-more start e b now (d ∷ es) (false ∷ bs) first long told right may = (right.0, answered-more start e b now es bs first (omega arith) told right.1 may)

  -- the same where the answers are known by an equation, and the start is kept
  pub answered-turn : (old now : History M C D) (e : Event C) (b : Bool) (es : List (Event C)) (bs bs' : List Bool) → bs' ≡ bs ++ b ∷ [] → length bs ≡ length es → now.start ≡ old.start → lists_of now ≡ after_all (accepted_of es bs) (lists_of old) → AreAnsweredRightly step may_want old.start es bs (lists_of old) → IsAnsweredRightly step may_want now.start e b (lists_of now) → AreAnsweredRightly step may_want old.start (es ++ e ∷ []) bs' (lists_of old)
  answered-turn old now e b es bs bs' pushed long same told right may =
      subst (λ xs. AreAnsweredRightly step may_want old.start (es ++ e ∷ []) xs (lists_of old)) (sym pushed)
      (answered-more old.start e b (lists_of now) es bs (lists_of old) long told right
      (subst (λ m. IsAnsweredRightly step may_want m e b (lists_of now)) same may))

-- the same where the answers are known by an equation
pub lists-turn : {M C D : Type 0} (old now next : History M C D) (e : Event C) (b : Bool) (es : List (Event C)) (bs bs' : List Bool) → bs' ≡ bs ++ b ∷ [] → length bs ≡ length es → lists_of now ≡ after_all (accepted_of es bs) (lists_of old) → OnTrue b (lists_of next ≡ after e (lists_of now)) → OnFalse b (next ≡ now) → lists_of next ≡ after_all (accepted_of (es ++ e ∷ []) bs') (lists_of old)
lists-turn old now next e b es bs bs' pushed long told taken left =
    lists-more e b (lists_of now) (lists_of next) es bs (lists_of old) long told taken (OnFalse-weaker b (ap lists_of) left)
    ∙ ap (λ xs. after_all (accepted_of (es ++ e ∷ []) xs) (lists_of old)) (sym pushed)

pub length-turn : {X Y : Type 0} (es : List X) (e : X) (bs bs' : List Y) (b : Y) → bs' ≡ bs ++ b ∷ [] → length bs ≡ length es → length bs' ≡ length (es ++ e ∷ [])
length-turn es e bs bs' b pushed long =
    ap length pushed ∙ length_push bs b ∙ ap (λ n. n + 1) long ∙ sym (length_push es e)

pub rest-turn : {X : Type 0} (es : List X) (e : X) (rest rest' all : List X) → rest ≡ e ∷ rest' → es ++ rest ≡ all → es ++ e ∷ [] ++ rest' ≡ all
rest-turn es e rest rest' all next told =
    append_assoc es (e ∷ []) rest' ∙ ap (λ xs. es ++ xs) (sym next) ∙ told

pub start-turn : {M C D : Type 0} (old now next : History M C D) → next.start ≡ now.start → now.start ≡ old.start → next.start ≡ old.start
start-turn old now next kept told = kept ∙ told
