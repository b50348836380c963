-- What the journal's calls do to the lists of a script's course.
use Rattle.std.proofs.Common.{◌≡◌, ℕ, ◌↔◌, ◌⊎◌, Bool, true, false, cond, IsTrue, ◌==◌, List, [], ◌∷◌, ◌++◌, length, Option, None, Some, Result, Ok, Err, refl, sym, ap, ◌∙◌, subst, inl, inr}
use Rattle.std.specs.Prelude.{unwrap_or, IfOk, OnErr, IsErrOf, ◌&&◌, ◌||◌}
use Rattle.std.proofs.lemmas.Bool.{ne_eqb, eq-eqb, or_left}
use Rattle.sgb_undo.specs.History.{IsJournal, Applies, Undoes, Redoes, FirstMayWant, grows_at}
use Rattle.sgb_undo.specs.Outcome.{Refused}
use Rattle.sgb_undo.specs.Replay.{fold}
use Rattle.sgb_undo.specs.declared.refusal.JournalRefusal.{JournalRefusal}
use Rattle.sgb_undo.specs.declared.refusal.JournalRefusal.TheVariants as journals
use Rattle.sgb_shell.specs.declared.answer.Answer.{Answer}
use Rattle.sgb_shell.specs.declared.answer.Answer.TheVariants as answers
use Rattle.sgb_script.specs.declared.command.Command.{Command}
use Rattle.sgb_script.specs.declared.command.Command.TheVariants.{One}
use Rattle.sgb_session.specs.declared.reply.Reply.{Reply}
use Rattle.sgb_session.specs.Command.{step, before, may_want}
use Rattle.sgb_script.specs.declared.command.Single.{Single}
use Rattle.sgb_script.specs.declared.command.Line.{Line}
use Rattle.sgb_script.specs.declared.command.Line.TheVariants.{Nothing, Change, Undo, Redo, Load, Group, End}
use Rattle.sgb_script.specs.declared.command.Line.TheVariants as asks
use Rattle.sgb_script.specs.declared.command.Query.{Query}
use Rattle.sgb_script.specs.Line.{line_of, takes_memory}
use Rattle.sgb_script.specs.declared.refusal.ShellRefusal.{ShellRefusal}
use Rattle.sgb_script.specs.declared.refusal.ShellRefusal.TheVariants.{NoRoom, CheckWrong, Syntax, BadSpecs, LengthRange, TooLarge, NoGraph, BadOperand, ScriptSyntax, TableFull, NameTaken, NothingToUndo, NothingToRedo, JournalFull, Stuck}
use Rattle.sgb_shell.specs.Lines.{all_but_last}
use Rattle.sgb_shell.specs.Private.Performing.{Kept, IsBegun, Does, Answers, by_command, by_line, by_unit, lists_of, answer_from}
use Rattle.sgb_shell.specs.Private.Gathering.{IsRefused}
use Rattle.sgb_script.specs.Refusal.{is_no_room}
use Rattle.sgb_session.specs.State.{empty}
use Rattle.sgb_shell.specs.Transcript.{Lists, Told, asked_of, state_of, answered, with_command, are_none, grows, changing, last_command, undoing, redoing, line_told, unit_told, has_its_text}
use Rattle.sgb_shell.specs.Unit.{ScriptUnit, takes_text, takes_members}
use Rattle.sgb_text.specs.declared.restoring.CheckRule.{CheckRule}

pub all_but_last-push : {X : Type 0} (xs : List X) (x : X) → all_but_last (xs ++ x ∷ []) ≡ xs
all_but_last-push [] x = refl
all_but_last-push (y ∷ []) x = refl
all_but_last-push (y ∷ z ∷ zs) x = ap (λ l. y ∷ l) (all_but_last-push (z ∷ zs) x)

last_command-push : (cs : List Command) (c : Command) → last_command (cs ++ c ∷ []) ≡ Some c
last_command-push [] c = refl
last_command-push (d ∷ []) c = refl
last_command-push (d ∷ e ∷ es) c = last_command-push (e ∷ es) c

-- the machine is what the standing commands give
pub machine_is : (j : Kept) → IsBegun j → state_of j.standing ≡ j.machine
machine_is j b = ap (λ s. unwrap_or (fold step s j.standing) empty) (sym b.start) ∙ ap (λ o. unwrap_or o empty) b.sound.value

abbrev listed : List Command → List Command → Lists
listed s u = record { standing = s; undone = u }

same_lists : (s s' u u' : List Command) → s ≡ s' → u ≡ u' → listed s u ≡ listed s' u'
same_lists s s' u u' p q = rw (p, q) refl

-- a journal that stays as it was, and the answer to that
abbrev tells : Lists → Answer → Told
tells l answer = (l, answer)

stays : (old new : Kept) (answer : Answer) → new ≡ old → tells (lists_of old) answer ≡ tells (lists_of new) answer
stays old new answer same = ap (λ j. tells (lists_of j) answer) (sym same)

no_room_is : (r : ShellRefusal) → is_no_room r ≡ true → r ≡ NoRoom
no_room_is NoRoom e = refl
no_room_is CheckWrong e = cc
no_room_is Syntax e = cc
no_room_is BadSpecs e = cc
no_room_is LengthRange e = cc
no_room_is TooLarge e = cc
no_room_is NoGraph e = cc
no_room_is BadOperand e = cc
no_room_is TableFull e = cc
no_room_is NameTaken e = cc
no_room_is ScriptSyntax e = cc
no_room_is NothingToUndo e = cc
no_room_is NothingToRedo e = cc
no_room_is JournalFull e = cc
no_room_is Stuck e = cc

-- whatever the test says
either_way : {X : Type 0} (b : Bool) (x : X) → cond b x x ≡ x
either_way true x = refl
either_way false x = refl

or_second : (a b : Bool) → b ≡ true → (a || b) ≡ true
or_second true b e = refl
or_second false b e = e

grown : (l : Lists) → (l.undone ≡ []) × IsTrue (grows_at (length l.standing)) → grows l ≡ true
grown l g = ap (λ u. are_none u && grows_at (length l.standing)) g.0 ∙ g.1

-- a change that finds no room, where it may want for some
wanting : (l : Lists) (c : Command) → (length l.standing == 65535) ≡ false → (grows l || may_want (state_of l.standing) c) ≡ true → changing true l c ≡ tells l (answers.Refused NoRoom)
wanting l c not_full wants = rw (not_full, wants) (either_way (has_its_text c) (tells l (answers.Refused NoRoom)))

-- a change that the journal answered
pub changed : (old new : Kept) (c : Command) (r : Result Reply (JournalRefusal ShellRefusal)) → IsBegun old
    → IfOk r (λ reply. Applies step before old c reply new)
    → (IsErrOf r journals.NoRoom → (old.undone ≡ []) × IsTrue (grows_at (length old.standing)))
    → (IsErrOf r journals.Full ↔ (length old.standing ≡ 65535))
    → (IsErrOf r journals.NothingToRedo → ⊥)
    → ((f : ShellRefusal) → IsErrOf r (journals.Machine f) → ((is_no_room f ≡ true) × (may_want old.machine c ≡ true)) ⊎ (step old.machine c ≡ Refused f))
    → OnErr r (new ≡ old) → IsJournal step before new → Does (by_command c) old new (answer_from r)
changed old new c (Ok reply) b a no_room full nothing refused same sound =
    let not_full : (length old.standing == 65535) ≡ false = ne_eqb _ _ (λ e. let bad = full.1 e in cc) in record {
      no_room = false;
      told = rw not_full (ap (answered (lists_of old) (with_command (lists_of old) c)) (ap (λ s. step s c) (machine_is old b) ∙ a.accepted)
          ∙ ap (λ l. tells (l) (answers.Replied reply)) (same_lists _ _ _ _ (sym a.standing) (sym a.undone)));
      begun = record { start = a.start ∙ b.start; sound = sound };
    }
changed old new c (Err journals.NoRoom) b a no_room full nothing refused same sound =
    let not_full : (length old.standing == 65535) ≡ false = ne_eqb _ _ (λ e. let bad = full.1 e in cc) in record {
      no_room = true;
      told = wanting (lists_of old) c not_full (or_left _ _ (grown (lists_of old) (no_room refl))) ∙ stays old new (answers.Refused NoRoom) same;
      begun = subst IsBegun (sym same) b;
    }
changed old new c (Err journals.Full) b a no_room full nothing refused same sound = record {
  no_room = false;
  told = rw (eq-eqb (length old.standing) 65535 (full.0 refl)) (stays old new (answers.Refused JournalFull) same);
  begun = subst IsBegun (sym same) b;
}
changed old new c (Err journals.NothingToRedo) b a no_room full nothing refused same sound = absurd (nothing refl)
changed old new c (Err (journals.Machine f)) b a no_room full nothing refused same sound =
    let not_full : (length old.standing == 65535) ≡ false = ne_eqb _ _ (λ e. let bad = full.1 e in cc) in
    elim (refused f refl) [
      | inl wants ↦ record {
        no_room = true;
        told = wanting (lists_of old) c not_full (or_second (grows (lists_of old)) _ (ap (λ s. may_want s c) (machine_is old b) ∙ wants.1))
            ∙ stays old new (answers.Refused NoRoom) same ∙ ap (λ g. tells (lists_of new) (answers.Refused g)) (sym (no_room_is f wants.0));
        begun = subst IsBegun (sym same) b;
      }
      | inr refuses ↦ record {
        no_room = false;
        told = rw not_full (ap (answered (lists_of old) (with_command (lists_of old) c)) (ap (λ s. step s c) (machine_is old b) ∙ refuses) ∙ stays old new (answers.Refused f) same);
        begun = subst IsBegun (sym same) b;
      }
    ]

pub undid : (old new : Kept) → IsBegun old → Undoes step before old new → IsJournal step before new → Does (by_line (Some Undo)) old new answers.Undone
undid old new b u sound = record {
  no_room = false;
  told = ap (undoing (lists_of old)) (ap last_command u.standing ∙ last_command-push new.standing u.command)
      ∙ ap (λ l. tells (l) (answers.Undone)) (same_lists _ _ _ _ (ap all_but_last u.standing ∙ all_but_last-push new.standing u.command) (sym u.undone));
  begun = record { start = u.start ∙ b.start; sound = sound };
}

refused_redo : (standing undone : List Command) → FirstMayWant may_want (state_of standing) undone → redoing true standing undone ≡ tells (listed standing undone) (answers.Refused NoRoom)
refused_redo standing [] wants = absurd wants
refused_redo standing (c ∷ cs) wants = rw wants refl

pub redid : (old new : Kept) (r : Result Reply (JournalRefusal ShellRefusal)) → IsBegun old
    → IfOk r (λ reply. Redoes step before old reply new)
    → (IsErrOf r journals.NothingToRedo ↔ (old.undone ≡ []))
    → (IsErrOf r journals.NoRoom → ⊥)
    → (IsErrOf r journals.Full → ⊥)
    → ((f : ShellRefusal) → IsErrOf r (journals.Machine f) → (is_no_room f ≡ true) × FirstMayWant may_want old.machine old.undone)
    → OnErr r (new ≡ old) → IsJournal step before new → Does (by_line (Some Redo)) old new (answer_from r)
redid old new (Ok reply) b d nothing no_room full refused same sound = record {
  no_room = false;
  told = ap (redoing false old.standing) d.undone
      ∙ ap (answered (listed old.standing (d.command ∷ new.undone)) (listed (old.standing ++ d.command ∷ []) new.undone)) (ap (λ s. step s d.command) (machine_is old b) ∙ d.accepted)
      ∙ ap (λ s. tells (listed s new.undone) (answers.Replied reply)) (sym d.standing);
  begun = record { start = d.start ∙ b.start; sound = sound };
}
redid old new (Err journals.NoRoom) b d nothing no_room full refused same sound = absurd (no_room refl)
redid old new (Err journals.Full) b d nothing no_room full refused same sound = absurd (full refl)
redid old new (Err journals.NothingToRedo) b d nothing no_room full refused same sound = record {
  no_room = false;
  told = ap (redoing false old.standing) (nothing.0 refl)
      ∙ ap (λ u. tells (listed old.standing u) (answers.Refused NothingToRedo)) (sym (nothing.0 refl)) ∙ stays old new (answers.Refused NothingToRedo) same;
  begun = subst IsBegun (sym same) b;
}
redid old new (Err (journals.Machine f)) b d nothing no_room full refused same sound =
    let wants = refused f refl in record {
      no_room = true;
      told = refused_redo old.standing old.undone (subst (λ s. FirstMayWant may_want s old.undone) (sym (machine_is old b)) wants.1)
          ∙ ap (λ g. tells (lists_of old) (answers.Refused g)) (sym (no_room_is f wants.0)) ∙ stays old new (answers.Refused f) same;
      begun = subst IsBegun (sym same) b;
    }

-- ---- the line that was read

pub read_does : (old new : Kept) (o : Option Line) (l l' : Line) (answer : Answer) → o ≡ Some l → l ≡ l' → Does (by_line (Some l')) old new answer → Does (by_line o) old new answer
read_does old new o l l' answer e same d = subst (λ p. Does (by_line p) old new answer) (sym (e ∙ ap Some same)) d

pub changed_does : (old new : Kept) (c : Single) (answer : Answer) → Does (by_command (One c)) old new answer → Does (by_line (Some (Change c))) old new answer
changed_does old new c answer d = record { no_room = d.no_room; told = d.told; begun = d.begun }

pub asked_does : (j : Kept) (q : Query) (answer : Answer) → IsBegun j → Answers j.machine q answer → Does (by_line (Some (asks.Query q))) j j answer
asked_does j q answer b (no_room, e) = record {
  no_room = no_room;
  told = ap (λ s. tells (lists_of j) (asked_of no_room s q)) (machine_is j b) ∙ ap (tells (lists_of j)) (sym e);
  begun = b;
}

-- a line that takes a text is no unit of its own
pub load_does : (j : Kept) (o : Option Line) (l : Line) (name : List ℕ) (rule : CheckRule) → o ≡ Some l → l ≡ Load name rule → IsBegun j → Does (by_line o) j j (answers.Refused ScriptSyntax)
load_does j o l name rule e same b = record {
  no_room = false;
  told = ap (λ p. line_told false (lists_of j) p) (e ∙ ap Some same);
  begun = b;
}

-- neither does a line that begins or ends a group
pub other_does : (j : Kept) (o : Option Line) (l : Line) → o ≡ Some l → (l ≡ Group) ⊎ (l ≡ End) → IsBegun j → Does (by_line o) j j (answers.Refused ScriptSyntax)
other_does j o l e (inl same) b = record {
  no_room = false;
  told = ap (λ p. line_told false (lists_of j) p) (e ∙ ap Some same);
  begun = b;
}
other_does j o l e (inr same) b = record {
  no_room = false;
  told = ap (λ p. line_told false (lists_of j) p) (e ∙ ap Some same);
  begun = b;
}

-- a text that found no room
wanted : (j : Kept) (o : Option Line) → IsBegun j → takes_memory o ≡ true → Does (by_line o) j j (answers.Refused NoRoom)
wanted j None b e = absurd cc
wanted j (Some Nothing) b e = absurd cc
wanted j (Some Undo) b e = absurd cc
wanted j (Some Redo) b e = absurd cc
wanted j (Some (asks.Query q)) b e = absurd cc
wanted j (Some (Load name rule)) b e = absurd cc
wanted j (Some Group) b e = absurd cc
wanted j (Some End) b e = absurd cc
wanted j (Some (Change c)) b e = record { no_room = true; told = rw e refl; begun = b }

pub refused_does : (j : Kept) (o : Option Line) (r : ShellRefusal) → IsBegun j → ((r ≡ ScriptSyntax) × (o ≡ None)) ⊎ ((r ≡ NoRoom) × IsTrue (takes_memory o)) → Does (by_line o) j j (answers.Refused r)
refused_does j o r b (inl none) =
    subst (λ p. Does (by_line p) j j (answers.Refused r)) (sym none.1) (subst (λ f. Does (by_line None) j j (answers.Refused f)) (sym none.0) (record { no_room = false; told = refl; begun = b }))
refused_does j o r b (inr room) = subst (λ f. Does (by_line o) j j (answers.Refused f)) (sym room.0) (wanted j o b room.1)

-- ---- the unit that ends

pub line_does : (old new : Kept) (u : ScriptUnit) (answer : Answer) → takes_text u.first ≡ false → takes_members u.first ≡ false → Does (by_line (line_of u.first)) old new answer → Does (by_unit u) old new answer
line_does old new u answer text group d = record { no_room = d.no_room; told = rw (text, group) d.told; begun = d.begun }

pub closed_does : (old new : Kept) (u : ScriptUnit) (c : Command) (answer : Answer) → ((no_room : Bool) (l : Lists) → (wants : Bool) × (unit_told wants l u ≡ changing no_room l c))
    → Does (by_command c) old new answer → Does (by_unit u) old new answer
closed_does old new u c answer same d = let as_told = same d.no_room (lists_of old) in record { no_room = as_told.0; told = as_told.1 ∙ d.told; begun = d.begun }

pub refusal_does : (j : Kept) (u : ScriptUnit) (r : ShellRefusal) → IsBegun j → IsRefused u r → Does (by_unit u) j j (answers.Refused r)
refusal_does j u r b refused = record { no_room = refused.no_room; told = refused.told (lists_of j); begun = b }
