-- What a journal keeps, through its calls.
use Rattle.std.proofs.Common.{◌≡◌, ℕ, suc, ◌+◌, ◌-◌, ◌<◌, ◌≤◌, List, [], ◌∷◌, ◌++◌, length, get_or, take, drop, refl, sym, ap, ◌∙◌, subst, arith, add-one, Bool, true, Some, None, IsSome}
use Rattle.std.proofs.lemmas.List.{length-take, length-drop, length_push, take-append-drop, take_all, take_more, drop_all, drop_more}
use Rattle.sgb_undo.specs.Outcome.{Outcome, Accepted, Refused, on_accepted}
use Rattle.sgb_undo.specs.Replay.{fold, deltas_of, start_of}
use Rattle.sgb_undo.specs.History.{History, IsJournal, Applies, Undoes, Redoes, FirstMayWant}
use Rattle.sgb_undo.specs.Private.Kept.{LedTo, IsKept, IsSound, history, places}

-- room in buffers of the same capacities
pub places-same : {a a' b b' n n' : ℕ} → n' ≡ n → a' ≡ a → b' ≡ b → n < places a b → n' < places a' b'
places-same {a = a} {a' = a'} {b = b} {n = n} {n' = n'} count first second room =
    subst (λ k. n' < places a' k) (sym second)
    (subst (λ k. n' < places k b) (sym first) (subst (λ k. k < places a b) (sym count) room))

-- one more delta at the end leads back first
pub start_of-push : {M D : Type 0} (before : M → D → M) (n : M) (d : D) (ds : List D) → start_of before n (ds ++ d ∷ []) ≡ start_of before (before n d) ds
start_of-push before n d [] = refl
start_of-push before n d (e ∷ ds) = ap (λ m. before m e) (start_of-push before n d ds)

module _ {M C D R F : Type 0} (step : M → C → Outcome M D R F) (before : M → D → M) (can_revert : M → D → Type 0) where
  -- an answer of the machine at m
  pub record Answers (m : M) (c : C) (d : D) (n : M) : Type 0 where
    pub reply : R
    pub accepted : step m c ≡ Accepted n d reply
    pub back : before n d ≡ m
    pub revertible : can_revert n d

  LedTo-answers : (m : M) (c : C) (d : D) (n : M) → Answers m c d n → LedTo step before can_revert c d n
  LedTo-answers m c d n a = record {
    reply = a.reply;
    accepted = subst (λ x. step x c ≡ Accepted n d a.reply) (sym a.back) a.accepted;
    revertible = a.revertible;
  }

  -- after an accepted command, the others are accepted from the value that it left
  fold-accepted : (m n : M) (c : C) (d : D) (r : R) (cs : List C) → step m c ≡ Accepted n d r → fold step m (c ∷ cs) ≡ fold step n cs
  fold-accepted m n c d r cs e = ap (λ o. on_accepted o (λ n' _. fold step n' cs) None) e

  deltas_of-accepted : (m n : M) (c : C) (d : D) (r : R) (cs : List C) → step m c ≡ Accepted n d r → deltas_of step m (c ∷ cs) ≡ d ∷ deltas_of step n cs
  deltas_of-accepted m n c d r cs e = ap (λ o. on_accepted o (λ n' d'. d' ∷ deltas_of step n' cs) []) e

  -- each delta has its command
  length-kept : (n : M) (cs : List C) (ds : List D) → IsKept step before can_revert n cs ds → length ds ≤ length cs
  length-kept n cs [] h = omega arith
  length-kept n [] (d ∷ ds) h = absurd h
  length-kept n (c ∷ cs) (d ∷ ds) h = omega (arith, length-kept n cs ds h.1)

  -- the last delta leads back to where the others are kept
  IsKept-pop : (n : M) (d : D) (cs : List C) (ds : List D) → IsKept step before can_revert n cs (ds ++ d ∷ []) → IsKept step before can_revert (before n d) cs ds
  IsKept-pop n d [] [] h = absurd h
  IsKept-pop n d (c ∷ cs) [] h = subst (λ o. IsSome o) (sym (fold-accepted _ n c d h.0.reply cs h.0.accepted)) h.1
  IsKept-pop n d [] (e ∷ ds) h = absurd h
  IsKept-pop n d (c ∷ cs) (e ∷ ds) h =
      (subst (λ m. LedTo step before can_revert c e m) (start_of-push before n d ds) h.0, IsKept-pop n d cs ds h.1)

  -- the command of the last delta
  pub record IsLast (n : M) (d : D) (cs : List C) (k : ℕ) : Type 0 where
    pub command : C
    pub led : LedTo step before can_revert command d n
    pub front : take (suc k) cs ≡ take k cs ++ command ∷ []
    pub rest : drop k cs ≡ command ∷ drop (suc k) cs

  last-kept : (n : M) (d : D) (cs : List C) (ds : List D) → IsKept step before can_revert n cs (ds ++ d ∷ []) → IsLast n d cs (length ds)
  last-kept n d [] [] h = absurd h
  last-kept n d (c ∷ cs) [] h = record { command = c; led = h.0; front = refl; rest = refl }
  last-kept n d [] (e ∷ ds) h = absurd h
  last-kept n d (c ∷ cs) (e ∷ ds) h =
      let l = last-kept n d cs ds h.1 in
      record { command = l.command; led = l.led; front = ap (λ xs. c ∷ xs) l.front; rest = l.rest }

  -- a command that stands behind those with deltas gets its own
  IsKept-redo : (m n : M) (c : C) (d : D) (front rest : List C) (ds : List D) → Answers m c d n → length front ≡ length ds → IsKept step before can_revert m (front ++ c ∷ rest) ds → IsKept step before can_revert n (front ++ c ∷ rest) (ds ++ d ∷ [])
  IsKept-redo m n c d [] rest [] a e h = (LedTo-answers m c d n a, subst (λ o. IsSome o) (fold-accepted m n c d a.reply rest a.accepted) h)
  IsKept-redo m n c d [] rest (x ∷ ds) a e h = absurd (omega arith)
  IsKept-redo m n c d (y ∷ front) rest [] a e h = absurd (omega arith)
  IsKept-redo m n c d (y ∷ front) rest (x ∷ ds) a e h = (
    subst (λ v. LedTo step before can_revert y x v) (sym (start_of-push before n d ds ∙ ap (λ v. start_of before v ds) a.back)) h.0,
    IsKept-redo m n c d front rest ds a (omega arith) h.1,
  )

  -- a new command takes the place of those behind the ones with deltas
  IsKept-apply : (m n : M) (c : C) (d : D) (front rest : List C) (ds : List D) → Answers m c d n → length front ≡ length ds → IsKept step before can_revert m (front ++ rest) ds → IsKept step before can_revert n (front ++ c ∷ []) (ds ++ d ∷ [])
  IsKept-apply m n c d [] rest [] a e h = (LedTo-answers m c d n a, refl)
  IsKept-apply m n c d [] rest (x ∷ ds) a e h = absurd (omega arith)
  IsKept-apply m n c d (y ∷ front) rest [] a e h = absurd (omega arith)
  IsKept-apply m n c d (y ∷ front) rest (x ∷ ds) a e h = (
    subst (λ v. LedTo step before can_revert y x v) (sym (start_of-push before n d ds ∙ ap (λ v. start_of before v ds) a.back)) h.0,
    IsKept-apply m n c d front rest ds a (omega arith) h.1,
  )

  -- the commands with deltas lead from the start to the machine's value
  fold-kept : (n : M) (cs : List C) (ds : List D) → IsKept step before can_revert n cs ds → fold step (start_of before n ds) (take (length ds) cs) ≡ Some n
  fold-kept n cs [] h = refl
  fold-kept n [] (d ∷ ds) h = absurd h
  fold-kept n (c ∷ cs) (d ∷ ds) h =
      fold-accepted _ (start_of before n ds) c d h.0.reply (take (length ds) cs) h.0.accepted ∙ fold-kept n cs ds h.1

  deltas_of-kept : (n : M) (cs : List C) (ds : List D) → IsKept step before can_revert n cs ds → deltas_of step (start_of before n ds) (take (length ds) cs) ≡ ds
  deltas_of-kept n cs [] h = refl
  deltas_of-kept n [] (d ∷ ds) h = absurd h
  deltas_of-kept n (c ∷ cs) (d ∷ ds) h =
      deltas_of-accepted _ (start_of before n ds) c d h.0.reply (take (length ds) cs) h.0.accepted
      ∙ ap (λ xs. d ∷ xs) (deltas_of-kept n cs ds h.1)

  undone-kept : (n : M) (cs : List C) (ds : List D) → IsKept step before can_revert n cs ds → IsSome (fold step n (drop (length ds) cs))
  undone-kept n cs [] h = h
  undone-kept n [] (d ∷ ds) h = absurd h
  undone-kept n (c ∷ cs) (d ∷ ds) h = undone-kept n cs ds h.1

  Undoes-kept : (n : M) (d : D) (cs : List C) (ds : List D) (k : ℕ) → IsKept step before can_revert n cs (ds ++ d ∷ []) → k ≡ suc (length ds) → Undoes step before (history before n cs (ds ++ d ∷ []) k) (history before (before n d) cs ds (length ds))
  Undoes-kept n d cs ds k h e =
      let l = last-kept n d cs ds h in
      record {
        command = l.command;
        delta = d;
        reply = l.led.reply;
        accepted = l.led.accepted;
        machine = refl;
        start = sym (start_of-push before n d ds);
        standing = ap (λ j. take j cs) e ∙ l.front;
        undone = l.rest ∙ ap (λ j. l.command ∷ drop j cs) (sym e);
        deltas = refl;
      }

  start-answers : (m n : M) (c : C) (d : D) (ds : List D) → Answers m c d n → start_of before n (ds ++ d ∷ []) ≡ start_of before m ds
  start-answers m n c d ds a = start_of-push before n d ds ∙ ap (λ v. start_of before v ds) a.back

  Redoes-answers : (m n : M) (c : C) (d : D) (cs : List C) (ds : List D) (k : ℕ) (a : Answers m c d n) → k < length cs → get_or cs k c ≡ c → Redoes step before (history before m cs ds k) a.reply (history before n cs (ds ++ d ∷ []) (k + 1))
  Redoes-answers m n c d cs ds k a below at = record {
    command = c;
    delta = d;
    accepted = a.accepted;
    back = a.back;
    start = start-answers m n c d ds a;
    standing = take_more cs k c below ∙ ap (λ x. take k cs ++ x ∷ []) at;
    undone = drop_more cs k c below ∙ ap (λ x. x ∷ drop (k + 1) cs) at;
    deltas = refl;
  }

  Applies-answers : (m n : M) (c : C) (d : D) (cs : List C) (ds : List D) (k : ℕ) (a : Answers m c d n) → k ≤ length cs → Applies step before (history before m cs ds k) c a.reply (history before n (take k cs ++ c ∷ []) (ds ++ d ∷ []) (k + 1))
  Applies-answers m n c d cs ds k a within =
      let long : length (take k cs ++ c ∷ []) ≤ k + 1 = omega (arith, length_push (take k cs) c, length-take k cs) in
      record {
        delta = d;
        accepted = a.accepted;
        back = a.back;
        start = start-answers m n c d ds a;
        standing = take_all (k + 1) (take k cs ++ c ∷ []) long;
        undone = drop_all (k + 1) (take k cs ++ c ∷ []) long;
        deltas = refl;
      }

  -- what is kept tells a sound history
  pub IsJournal-sound : (n : M) (cs : List C) (ds : List D) (places k : ℕ) → IsSound step before can_revert n cs ds 65535 places → k ≡ length ds → IsJournal step before (history before n cs ds k)
  IsJournal-sound n cs ds places k s e =
      subst (λ j. IsJournal step before (history before n cs ds j)) (sym e)
      (record {
        value = fold-kept n cs ds s.kept;
        deltas = deltas_of-kept n cs ds s.kept;
        back = refl;
        undone = undone-kept n cs ds s.kept;
        limit = omega (arith, s.limited, length-take (length ds) cs, length-drop (length ds) cs);
      })

module _ {M C D R F : Type 0} {step : M → C → Outcome M D R F} {before : M → D → M} {can_revert : M → D → Type 0} {n : M} {cs : List C} {ds : List D} {places : ℕ} where
  -- the same of the value by which contracts know it
  pub IsJournal-seen : {k : ℕ} {h : History M C D} → IsSound step before can_revert n cs ds 65535 places → k ≡ length ds → history before n cs ds k ≡ h → IsJournal step before h
  IsJournal-seen s count seen =
      subst (λ h. IsJournal step before h) seen (IsJournal-sound step before can_revert _ _ _ _ _ s count)

  -- the same where nothing has changed
  pub IsJournal-same : {n' : M} {cs' : List C} {ds' : List D} {k : ℕ} → IsSound step before can_revert n cs ds 65535 places → n' ≡ n → cs' ≡ cs → ds' ≡ ds → k ≡ length ds' → IsJournal step before (history before n' cs' ds' k)
  IsJournal-same {n' = n'} {cs' = cs'} {k = k} s machine commands deltas count =
      let first = IsJournal-sound step before can_revert n cs ds _ _ s (count ∙ ap length deltas) in
      let second = subst (λ m. IsJournal step before (history before m cs ds k)) (sym machine) first in
      let third = subst (λ xs. IsJournal step before (history before n' xs ds k)) (sym commands) second in
      subst (λ xs. IsJournal step before (history before n' cs' xs k)) (sym deltas) third

-- the commands after a new one: the old ones are kept by another name, cut, and it goes last
pub commands-apply : {C : Type 0} (cs same cut : List C) (k n : ℕ) (c : C) (cs' : List C) → same ≡ cs → n ≡ k → cut ≡ take n same → cs' ≡ cut ++ c ∷ [] → cs' ≡ take k cs ++ c ∷ []
commands-apply cs same cut k n c cs' kept count front pushed =
    pushed ∙ ap (λ xs. xs ++ c ∷ []) (front ∙ ap (λ j. take j same) count ∙ ap (take k) kept)

at_place : {C : Type 0} (cs : List C) (k : ℕ) (c : C) → k < length cs → get_or cs k c ≡ c → drop k cs ≡ c ∷ drop (k + 1) cs
at_place cs k c below at = drop_more cs k c below ∙ ap (λ x. x ∷ drop (k + 1) cs) at

module _ {M C D R F : Type 0} {step : M → C → Outcome M D R F} {before : M → D → M} {can_revert : M → D → Type 0} {n : M} {cs : List C} {ds : List D} {limit places : ℕ} where
  pub length-deltas : IsSound step before can_revert n cs ds limit places → length ds ≤ length cs
  length-deltas s = length-kept step before can_revert n cs ds s.kept

  -- the lengths of the two lists
  pub length-standing : {k : ℕ} {h : History M C D} → IsSound step before can_revert n cs ds limit places → k ≡ length ds → history before n cs ds k ≡ h → length h.standing ≡ k
  length-standing {k = k} s e seen =
      ap (λ h. length h.standing) (sym seen) ∙ omega (arith, length-take k cs, length-deltas s)

  pub length-undone : {k : ℕ} {h : History M C D} → IsSound step before can_revert n cs ds limit places → k ≡ length ds → history before n cs ds k ≡ h → length h.undone ≡ length cs - k
  length-undone {k = k} s e seen =
      ap (λ h. length h.undone) (sym seen) ∙ omega (arith, length-drop k cs, length-deltas s)

  pub undone-some : {k : ℕ} {h : History M C D} → IsSound step before can_revert n cs ds limit places → k ≡ length ds → k < length cs → history before n cs ds k ≡ h → h.undone ≡ [] → ⊥
  undone-some s e below seen none =
      let told = length-undone s e seen in
      let empty = ap length none in
      omega arith

  -- the last delta, and the journal without it
  pub can_revert-last : (ds' : List D) {d : D} → IsSound step before can_revert n cs ds limit places → ds ≡ ds' ++ d ∷ [] → can_revert n d
  can_revert-last ds' {d = d} s e =
      (last-kept step before can_revert n d cs ds' (subst (IsKept step before can_revert n cs) e s.kept)).led.revertible

  pub IsSound-undo : {n' : M} {ds' : List D} {d : D} {places' : ℕ} → IsSound step before can_revert n cs ds limit places → ds ≡ ds' ++ d ∷ [] → n' ≡ before n d → places' ≡ places → IsSound step before can_revert n' cs ds' limit places'
  IsSound-undo {ds' = ds'} {d = d} s e led same = record {
    kept = subst (λ v. IsKept step before can_revert v cs ds') (sym led) (IsKept-pop step before can_revert n d cs ds' (subst (IsKept step before can_revert n cs) e s.kept));
    limited = s.limited;
    placed = omega (arith, s.placed);
  }

  pub Undoes-sound : {n' : M} (ds' : List D) {d : D} {k k' : ℕ} {h : History M C D} → IsSound step before can_revert n cs ds limit places → ds ≡ ds' ++ d ∷ [] → n' ≡ before n d → k ≡ length ds → k' ≡ length ds' → history before n cs ds k ≡ h → Undoes step before h (history before n' cs ds' k')
  Undoes-sound {n' = n'} ds' {d = d} {k = k} {h = h} s e led count count' seen =
      let undoes = Undoes-kept step before can_revert n d cs ds' k (subst (IsKept step before can_revert n cs) e s.kept) (count ∙ ap length e ∙ length_push ds' d ∙ add-one (length ds')) in
      let from = subst (λ xs. Undoes step before (history before n cs xs k) (history before (before n d) cs ds' (length ds'))) (sym e) undoes in
      let to = subst (λ v. Undoes step before (history before n cs ds k) (history before v cs ds' (length ds'))) (sym led) from in
      let of = subst (λ v. Undoes step before v (history before n' cs ds' (length ds'))) seen to in
      subst (λ j. Undoes step before h (history before n' cs ds' j)) (sym count') of

  -- a command that waits behind those with deltas is accepted
  pub undone-accepted : {c : C} {r : F} {k : ℕ} → IsSound step before can_revert n cs ds limit places → k ≡ length ds → k < length cs → get_or cs k c ≡ c → step n c ≡ Refused r → ⊥
  undone-accepted {c = c} {r = r} {k = k} s count below at refused =
      let some = undone-kept step before can_revert n cs ds s.kept in
      let named = subst (λ xs. IsSome (fold step n xs)) (ap (λ j. drop j cs) (sym count) ∙ at_place cs _ _ below at) some in
      let none = subst (λ o. IsSome (on_accepted o (λ v _. fold step v (drop (k + 1) cs)) None)) refused named in
      cc

  -- it is the first to redo
  pub FirstMayWant-waits : {c : C} {k : ℕ} {h : History M C D} (may_want : M → C → Bool) → IsSound step before can_revert n cs ds limit places → k < length cs → get_or cs k c ≡ c → history before n cs ds k ≡ h → may_want n c ≡ true → FirstMayWant may_want h.machine h.undone
  FirstMayWant-waits may_want s below at seen want =
      subst (λ h. FirstMayWant may_want h.machine h.undone) seen
      (subst (FirstMayWant may_want n) (sym (at_place cs _ _ below at)) want)

  length-front : {k : ℕ} → IsSound step before can_revert n cs ds limit places → k ≡ length ds → length (take k cs) ≡ length ds
  length-front {k = k} s count = omega (arith, length-take k cs, length-deltas s)

  -- the machine's answer to it is kept
  pub IsSound-redo : {n' : M} {c : C} {d : D} {k : ℕ} {ds' : List D} {places' : ℕ} → IsSound step before can_revert n cs ds limit places → Answers step before can_revert n c d n' → k ≡ length ds → k < length cs → get_or cs k c ≡ c → ds' ≡ ds ++ d ∷ [] → places' ≡ places → IsSound step before can_revert n' cs ds' limit places'
  IsSound-redo {n' = n'} {c = c} {d = d} {k = k} {ds' = ds'} s a count below at e same =
      let split : cs ≡ take k cs ++ c ∷ drop (k + 1) cs = sym (take-append-drop k cs) ∙ ap (λ xs. take k cs ++ xs) (at_place cs _ _ below at) in
      let kept = IsKept-redo step before can_revert n n' c d (take k cs) (drop (k + 1) cs) ds a (length-front s count) (subst (λ xs. IsKept step before can_revert n xs ds) split s.kept) in
      record {
        kept = subst (λ xs. IsKept step before can_revert n' xs ds') (sym split) (subst (IsKept step before can_revert n' (take k cs ++ c ∷ drop (k + 1) cs)) (sym e) kept);
        limited = s.limited;
        placed = omega (arith, s.placed);
      }

  pub Redoes-sound : {n' : M} {c : C} {d : D} {k k' : ℕ} {ds' : List D} {h : History M C D} → IsSound step before can_revert n cs ds limit places → (a : Answers step before can_revert n c d n') → k ≡ length ds → k < length cs → get_or cs k c ≡ c → ds' ≡ ds ++ d ∷ [] → k' ≡ length ds' → history before n cs ds k ≡ h → Redoes step before h a.reply (history before n' cs ds' k')
  Redoes-sound {n' = n'} {c = c} {d = d} {k = k} {k' = k'} {ds' = ds'} {h = h} s a count below at e count' seen =
      let next : k' ≡ k + 1 = count' ∙ ap length e ∙ length_push ds d ∙ ap (λ j. j + 1) (sym count) in
      let redoes = Redoes-answers step before can_revert n n' c d cs ds k a below at in
      let from = subst (λ v. Redoes step before v a.reply (history before n' cs (ds ++ d ∷ []) (k + 1))) seen redoes in
      let to = subst (λ j. Redoes step before h a.reply (history before n' cs (ds ++ d ∷ []) j)) (sym next) from in
      subst (λ xs. Redoes step before h a.reply (history before n' cs xs k')) (sym e) to

  -- the machine's answer to a new command is kept
  pub IsSound-apply : {n' : M} {c : C} {d : D} {k : ℕ} {cs' : List C} {ds' : List D} {places' : ℕ} → IsSound step before can_revert n cs ds limit places → Answers step before can_revert n c d n' → k ≡ length ds → k < limit → k < places' → cs' ≡ take k cs ++ c ∷ [] → ds' ≡ ds ++ d ∷ [] → IsSound step before can_revert n' cs' ds' limit places'
  IsSound-apply {n' = n'} {c = c} {d = d} {k = k} {cs' = cs'} {ds' = ds'} s a count room place named e =
      let kept = IsKept-apply step before can_revert n n' c d (take k cs) (drop k cs) ds a (length-front s count) (subst (λ xs. IsKept step before can_revert n xs ds) (sym (take-append-drop k cs)) s.kept) in
      let long : length cs' ≡ k + 1 = ap length named ∙ length_push (take k cs) c ∙ ap (λ j. j + 1) (length-front s count ∙ sym count) in
      record {
        kept = subst (λ xs. IsKept step before can_revert n' xs ds') (sym named) (subst (IsKept step before can_revert n' (take k cs ++ c ∷ [])) (sym e) kept);
        limited = omega arith;
        placed = omega arith;
      }

  pub Applies-sound : {n' : M} {c : C} {d : D} {k k' : ℕ} {cs' : List C} {ds' : List D} {h : History M C D} → IsSound step before can_revert n cs ds limit places → (a : Answers step before can_revert n c d n') → k ≡ length ds → cs' ≡ take k cs ++ c ∷ [] → ds' ≡ ds ++ d ∷ [] → k' ≡ length ds' → history before n cs ds k ≡ h → Applies step before h c a.reply (history before n' cs' ds' k')
  Applies-sound {n' = n'} {c = c} {d = d} {k = k} {k' = k'} {cs' = cs'} {ds' = ds'} {h = h} s a count named e count' seen =
      let next : k' ≡ k + 1 = count' ∙ ap length e ∙ length_push ds d ∙ ap (λ j. j + 1) (sym count) in
      let applies = Applies-answers step before can_revert n n' c d cs ds k a (omega (arith, length-deltas s)) in
      let from = subst (λ v. Applies step before v c a.reply (history before n' (take k cs ++ c ∷ []) (ds ++ d ∷ []) (k + 1))) seen applies in
      let to = subst (λ j. Applies step before h c a.reply (history before n' (take k cs ++ c ∷ []) (ds ++ d ∷ []) j)) (sym next) from in
      let of = subst (λ xs. Applies step before h c a.reply (history before n' xs (ds ++ d ∷ []) k')) (sym named) to in
      subst (λ xs. Applies step before h c a.reply (history before n' cs' xs k')) (sym e) of
