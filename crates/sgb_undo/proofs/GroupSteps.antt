-- Groups, command by command.
use Rattle.std.proofs.Common.{◌≡◌, ℕ, ◌+◌, ◌<◌, ◌⊎◌, inl, inr, List, [], ◌∷◌, ◌++◌, ◌||◌, Some, None, length, get_or, take, drop, refl, sym, ap, ◌∙◌, subst, Bool, true, false}
use Rattle.std.proofs.lemmas.List.{take-append-drop, take_more, drop_more}
use Rattle.sgb_undo.specs.Outcome.{Outcome, Accepted, Refused, on_accepted}
use Rattle.sgb_undo.specs.Replay.{fold, deltas_of, start_of}
use Rattle.sgb_undo.specs.Group.{led_by, followed, step_all, any_may_want, CanRevertAll}
use Rattle.sgb_undo.specs.Private.Performed.{IsPerformed}
use Rattle.sgb_undo.proofs.JournalLists.{start_of-push}

or_true : (b : Bool) → (b || true) ≡ true
or_true true = refl
or_true false = refl

module _ {M D R F : Type 0} where
  -- the answer to a group whose first commands gave these deltas and replies, and the others this answer
  abbrev behind : List D → List R → Outcome M (List D) (List R) F → Outcome M (List D) (List R) F
  behind ds rs (Accepted n es qs) = Accepted n (ds ++ es) (rs ++ qs)
  behind ds rs (Refused f) = Refused f

  -- the answer to a group whose first commands are answered so, and the others by the function
  abbrev joined : Outcome M (List D) (List R) F → (M → Outcome M (List D) (List R) F) → Outcome M (List D) (List R) F
  joined (Accepted n ds rs) others = behind ds rs (others n)
  joined (Refused f) others = Refused f

  behind-none : (o : Outcome M (List D) (List R) F) → o ≡ behind [] [] o
  behind-none (Accepted n ds rs) = refl
  behind-none (Refused f) = refl

  led_by-behind : (d : D) (r : R) (ds : List D) (rs : List R) (o : Outcome M (List D) (List R) F) → led_by d r (behind ds rs o) ≡ behind (d ∷ ds) (r ∷ rs) o
  led_by-behind d r ds rs (Accepted n es qs) = refl
  led_by-behind d r ds rs (Refused f) = refl

  led_by-joined : (d : D) (r : R) (o : Outcome M (List D) (List R) F) (others : M → Outcome M (List D) (List R) F) → led_by d r (joined o others) ≡ joined (led_by d r o) others
  led_by-joined d r (Accepted n ds rs) others = led_by-behind d r ds rs (others n)
  led_by-joined d r (Refused f) others = refl

  -- the value after a group does not hang on its deltas
  on_accepted-led_by : {X : Type 0} (d : D) (r : R) (o : Outcome M (List D) (List R) F) (g : M → X) (other : X) → on_accepted o (λ n _. g n) other ≡ on_accepted (led_by d r o) (λ n _. g n) other
  on_accepted-led_by d r (Accepted n ds rs) g other = refl
  on_accepted-led_by d r (Refused f) g other = refl

  -- its deltas are these, where it is accepted
  abbrev HasDeltas : List D → Outcome M (List D) (List R) F → Type 0
  HasDeltas xs (Accepted n ds rs) = xs ≡ ds
  HasDeltas xs (Refused f) = Unit {0}

  deltas-led_by : (d : D) (r : R) (o : Outcome M (List D) (List R) F) (xs : List D) → HasDeltas xs o → HasDeltas (d ∷ xs) (led_by d r o)
  deltas-led_by d r (Accepted n ds rs) xs same = ap (λ es. d ∷ es) same
  deltas-led_by d r (Refused f) xs same = tt

module _ {M C D R F : Type 0} (step : M → C → Outcome M D R F) where
  -- the value and the deltas are those of the commands one after another
  pub fold-all : (m : M) (cs : List C) → fold step m cs ≡ on_accepted (step_all step m cs) (λ n _. Some n) None
  fold-all m [] = refl
  fold-all m (c ∷ cs) = at (λ n. fold-all n cs) (step m c)
    where
      at : ((n : M) → fold step n cs ≡ on_accepted (step_all step n cs) (λ v _. Some v) None) → (o : Outcome M D R F) → on_accepted o (λ n _. fold step n cs) None ≡ on_accepted (followed o (λ n. step_all step n cs)) (λ v _. Some v) None
      at others (Accepted n d r) = others n ∙ on_accepted-led_by d r (step_all step n cs) (λ v. Some v) None
      at others (Refused f) = refl

  deltas-all : (m : M) (cs : List C) → HasDeltas (deltas_of step m cs) (step_all step m cs)
  deltas-all m [] = refl
  deltas-all m (c ∷ cs) = at (λ n. deltas-all n cs) (step m c)
    where
      at : ((n : M) → HasDeltas (deltas_of step n cs) (step_all step n cs)) → (o : Outcome M D R F) → HasDeltas (on_accepted o (λ n d. d ∷ deltas_of step n cs) []) (followed o (λ n. step_all step n cs))
      at others (Accepted n d r) = deltas-led_by d r (step_all step n cs) (deltas_of step n cs) (others n)
      at others (Refused f) = tt

  pub deltas_of-all : (m n : M) (cs : List C) (ds : List D) (rs : List R) → step_all step m cs ≡ Accepted n ds rs → deltas_of step m cs ≡ ds
  deltas_of-all m n cs ds rs told = subst (HasDeltas (deltas_of step m cs)) told (deltas-all m cs)

  -- a group in two parts
  step_all-append : (m : M) (cs es : List C) → step_all step m (cs ++ es) ≡ joined (step_all step m cs) (λ n. step_all step n es)
  step_all-append m [] es = behind-none (step_all step m es)
  step_all-append m (c ∷ cs) es = at (λ n. step_all-append n cs es) (step m c)
    where
      at : ((n : M) → step_all step n (cs ++ es) ≡ joined (step_all step n cs) (λ v. step_all step v es)) → (o : Outcome M D R F) → followed o (λ n. step_all step n (cs ++ es)) ≡ joined (followed o (λ n. step_all step n cs)) (λ n. step_all step n es)
      at others (Accepted n d r) = ap (led_by d r) (others n) ∙ led_by-joined d r (step_all step n cs) (λ n. step_all step n es)
      at others (Refused f) = refl

  any_may_want-append : (may_want : M → C → Bool) (m : M) (cs es : List C) → any_may_want step may_want m (cs ++ es) ≡ (any_may_want step may_want m cs || on_accepted (step_all step m cs) (λ n _. any_may_want step may_want n es) false)
  any_may_want-append may_want m [] es = refl
  any_may_want-append may_want m (c ∷ cs) es = at (λ n. any_may_want-append may_want n cs es) (may_want m c) (step m c)
    where
      at : ((n : M) → any_may_want step may_want n (cs ++ es) ≡ (any_may_want step may_want n cs || on_accepted (step_all step n cs) (λ v _. any_may_want step may_want v es) false)) → (b : Bool) (o : Outcome M D R F) → (b || on_accepted o (λ n _. any_may_want step may_want n (cs ++ es)) false) ≡ ((b || on_accepted o (λ n _. any_may_want step may_want n cs) false) || on_accepted (followed o (λ n. step_all step n cs)) (λ n _. any_may_want step may_want n es) false)
      at others true o = refl
      at others false (Refused f) = refl
      at others false (Accepted n d r) =
          others n
          ∙ ap (λ x. any_may_want step may_want n cs || x) (on_accepted-led_by d r (step_all step n cs) (λ n. any_may_want step may_want n es) false)

  -- one more command that is accepted
  step_all-more : (m n n' : M) (cs : List C) (c : C) (d : D) (r : R) (ds : List D) (rs : List R) → step_all step m cs ≡ Accepted n ds rs → step n c ≡ Accepted n' d r → step_all step m (cs ++ c ∷ []) ≡ Accepted n' (ds ++ d ∷ []) (rs ++ r ∷ [])
  step_all-more m n n' cs c d r ds rs told answer =
      step_all-append m cs (c ∷ [])
      ∙ ap (λ o. joined o (λ v. step_all step v (c ∷ []))) told
      ∙ ap (λ o. behind ds rs (followed o (λ v. Accepted v [] []))) answer

  -- the first that is refused
  step_all-refused : (m n : M) (cs rest : List C) (c : C) (f : F) (ds : List D) (rs : List R) → step_all step m cs ≡ Accepted n ds rs → step n c ≡ Refused f → step_all step m (cs ++ c ∷ rest) ≡ Refused f
  step_all-refused m n cs rest c f ds rs told answer =
      step_all-append m cs (c ∷ rest)
      ∙ ap (λ o. joined o (λ v. step_all step v (c ∷ rest))) told
      ∙ ap (λ o. behind ds rs (followed o (λ v. step_all step v rest))) answer

  -- a command that is reached and may want for memory
  any_may_want-reached : (may_want : M → C → Bool) (m n : M) (cs rest : List C) (c : C) (ds : List D) (rs : List R) → step_all step m cs ≡ Accepted n ds rs → may_want n c ≡ true → any_may_want step may_want m (cs ++ c ∷ rest) ≡ true
  any_may_want-reached may_want m n cs rest c ds rs told want =
      any_may_want-append may_want m cs (c ∷ rest)
      ∙ ap (λ o. any_may_want step may_want m cs || on_accepted o (λ v _. any_may_want step may_want v (c ∷ rest)) false) told
      ∙ ap (λ b. any_may_want step may_want m cs || (b || on_accepted (step n c) (λ v _. any_may_want step may_want v rest) false)) want
      ∙ or_true (any_may_want step may_want m cs)

module _ {M D : Type 0} (before : M → D → M) (can_revert : M → D → Type 0) where
  CanRevertAll-push : (n : M) (d : D) (ds : List D) → CanRevertAll before can_revert (before n d) ds → can_revert n d → CanRevertAll before can_revert n (ds ++ d ∷ [])
  CanRevertAll-push n d [] h last = (tt, last)
  CanRevertAll-push n d (e ∷ ds) h last = (CanRevertAll-push n d ds h.0 last, subst (λ v. can_revert v e) (sym (start_of-push before n d ds)) h.1)

  -- the last delta, and where it leads back to
  CanRevertAll-last : (n : M) (d : D) (ds : List D) → CanRevertAll before can_revert n (ds ++ d ∷ []) → can_revert n d
  CanRevertAll-last n d [] h = h.1
  CanRevertAll-last n d (e ∷ ds) h = CanRevertAll-last n d ds h.0

  CanRevertAll-front : (n : M) (d : D) (ds : List D) → CanRevertAll before can_revert n (ds ++ d ∷ []) → CanRevertAll before can_revert (before n d) ds
  CanRevertAll-front n d [] h = tt
  CanRevertAll-front n d (e ∷ ds) h = (CanRevertAll-front n d ds h.0, subst (λ v. can_revert v e) (start_of-push before n d ds) h.1)

  -- the same where the list is known by an equation
  pub revertible-last : (n : M) (d : D) (all ds : List D) → CanRevertAll before can_revert n all → all ≡ ds ++ d ∷ [] → can_revert n d
  revertible-last n d all ds h e = CanRevertAll-last n d ds (subst (CanRevertAll before can_revert n) e h)

  pub revertible-front : (n n' : M) (d : D) (all ds : List D) → CanRevertAll before can_revert n all → all ≡ ds ++ d ∷ [] → n' ≡ before n d → CanRevertAll before can_revert n' ds
  revertible-front n n' d all ds h e led =
      subst (λ v. CanRevertAll before can_revert v ds) (sym led) (CanRevertAll-front n d ds (subst (CanRevertAll before can_revert n) e h))

pub start_of-last : {M D : Type 0} (before : M → D → M) (n n' : M) (d : D) (all ds : List D) → all ≡ ds ++ d ∷ [] → n' ≡ before n d → start_of before n' ds ≡ start_of before n all
start_of-last before n n' d all ds e led =
    ap (λ v. start_of before v ds) led ∙ sym (start_of-push before n d ds) ∙ ap (start_of before n) (sym e)

-- the first k commands, and the one behind them
at_place : {C : Type 0} (cs : List C) (k : ℕ) (c : C) → k < length cs → get_or cs k c ≡ c → cs ≡ take k cs ++ c ∷ drop (k + 1) cs
at_place cs k c below at = sym (take-append-drop k cs) ∙ ap (λ xs. take k cs ++ xs) (drop_more cs k c below ∙ ap (λ x. x ∷ drop (k + 1) cs) at)

module _ {M C D R F : Type 0} {step : M → C → Outcome M D R F} {before : M → D → M} {can_revert : M → D → Type 0} {m n : M} {ds : List D} {rs : List R} (cs : List C) (k : ℕ) where
  -- one more command that is accepted
  pub IsPerformed-more : {n' : M} {c : C} {d : D} {r : R} {ds' : List D} {rs' : List R} → IsPerformed step before can_revert m (take k cs) n ds rs → k < length cs → get_or cs k c ≡ c → step n c ≡ Accepted n' d r → can_revert n' d → before n' d ≡ n → ds' ≡ ds ++ d ∷ [] → rs' ≡ rs ++ r ∷ [] → IsPerformed step before can_revert m (take (k + 1) cs) n' ds' rs'
  IsPerformed-more {n' = n'} {c = c} {d = d} {r = r} {ds' = ds'} {rs' = rs'} p below at answer revertible back deltas replies =
      let longer : take (k + 1) cs ≡ take k cs ++ c ∷ [] = take_more cs k c below ∙ ap (λ x. take k cs ++ x ∷ []) at in
      record {
        accepted = ap (step_all step m) longer ∙ step_all-more step m n n' (take k cs) c d r ds rs p.accepted answer ∙ ap (λ xs. Accepted n' xs (rs ++ r ∷ [])) (sym deltas) ∙ ap (λ xs. Accepted n' ds' xs) (sym replies);
        revertible = subst (CanRevertAll before can_revert n') (sym deltas) (CanRevertAll-push before can_revert n' d ds (subst (λ v. CanRevertAll before can_revert v ds) (sym back) p.revertible) revertible);
        back = sym (start_of-last before n' n d ds' ds deltas (sym back)) ∙ p.back;
      }

  -- one that is refused: so is the whole, or memory was wanting
  pub refused-more : {c : C} {f : F} (W : Type 0) (may_want : M → C → Bool) → IsPerformed step before can_revert m (take k cs) n ds rs → k < length cs → get_or cs k c ≡ c → (W × (may_want n c ≡ true)) ⊎ (step n c ≡ Refused f) → (W × (any_may_want step may_want m cs ≡ true)) ⊎ (step_all step m cs ≡ Refused f)
  refused-more {c = c} {f = f} W may_want p below at refused =
      let split : cs ≡ take k cs ++ c ∷ drop (k + 1) cs = at_place cs k c below at in
      elim refused [
        | inl want ↦ inl (want.0, ap (any_may_want step may_want m) split ∙ any_may_want-reached step may_want m n (take k cs) (drop (k + 1) cs) c ds rs p.accepted want.1)
        | inr e ↦ inr (ap (step_all step m) split ∙ step_all-refused step m n (take k cs) (drop (k + 1) cs) c f ds rs p.accepted e)
      ]
