-- How far a run has come, by a line, and by the end of the script.
use Rattle.std.proofs.Common.{◌≡◌, ℕ, ◌+◌, ◌<◌, ◌≤◌, ◌^◌, false, cond, List, [], ◌∷◌, ◌++◌, length, Option, None, Some, Result, Ok, Err, min, ◌-◌, refl, sym, ap, ◌∙◌, subst, arith, length-append, append_assoc, append-nil}
use Rattle.std.specs.Io.KnownBytes.{Appends}
use Rattle.std.proofs.KnownBytes.{Appends-nil, Appends-trans}
use Rattle.sgb_print.specs.Meter.{WriterUse}
use Rattle.sgb_print.specs.Print.{AppendsFront, Prints}
use Rattle.sgb_script.specs.declared.refusal.ShellRefusal.{ShellRefusal}
use Rattle.sgb_shell.specs.declared.answer.Answer.{Answer}
use Rattle.sgb_shell.specs.declared.answer.Answer.TheVariants.{Refused}
use Rattle.sgb_shell.specs.declared.pending.Pending.{Pending}
use Rattle.sgb_shell.specs.Private.Gathering.{IsGathered, IsRefused}
use Rattle.sgb_shell.specs.Private.Performing.{Kept, IsBegun, Does, by_unit, lists_of}
use Rattle.sgb_shell.specs.Private.Reaching.{Taken, GoesOn, Ends, Waits, Settles, unit_by, number_at, unanswered, ShellView, Reached, Stopped, Finishes, Ended, StoppedAtEnd, Concludes}
use Rattle.sgb_shell.specs.Run.{AppendsPast}
use Rattle.sgb_shell.specs.Answer.{answer_text}
use Rattle.sgb_shell.specs.Private.Course.{Course, course, whole_course, ended, answered_unit, goes_on}
use Rattle.sgb_shell.specs.Transcript.{refusals}
use Rattle.sgb_shell.specs.Group.{closes}
use Rattle.sgb_shell.specs.Unit.{ScriptUnit, with_line, closed_by}
use Rattle.sgb_shell.proofs.Courses.{course-push, stepped, resolved, advance-by, unit_in, number-by, course-lines, refusals-few, course-refused, course_ordered, with_number, course-with_number, other_number, unit-answered, text-grows}
use Rattle.sgb_shell.proofs.CourseSteps.{machine_is}

-- ---- text past other text

past-append : (held now : Option (List ℕ)) (first all more : List ℕ) → AppendsPast held now first all → AppendsPast held now first (all ++ more)
past-append held now first all more p = record {
  more = p.more;
  rest = p.rest ++ more;
  whole = ap (λ t. t ++ more) p.whole ∙ append_assoc (first ++ p.more) p.rest more;
  appends = p.appends;
}

past-earlier : (held now : Option (List ℕ)) (first more all : List ℕ) → AppendsPast held now (first ++ more) all → AppendsPast held now first all
past-earlier held now first more all p = record {
  more = more ++ p.more;
  rest = p.rest;
  whole = p.whole ∙ ap (λ t. t ++ p.rest) (append_assoc first more p.more);
  appends = subst (Appends held now) (append_assoc first more p.more) p.appends;
}

past-same : (held now : Option (List ℕ)) (first first' all all' : List ℕ) → first ≡ first' → all ≡ all' → AppendsPast held now first all → AppendsPast held now first' all'
past-same held now first first' all all' e f p = subst (λ t. AppendsPast held now t all') e (subst (AppendsPast held now first) f p)

-- all was written
past-all : (held now : Option (List ℕ)) (t : List ℕ) → Appends held now t → AppendsPast held now t t
past-all held now t written = record {
  more = [];
  rest = [];
  whole = sym (append-nil t) ∙ sym (append-nil (t ++ []));
  appends = subst (Appends held now) (sym (append-nil t)) written;
}

-- of what stands behind the text so far only a front was written
past-front : (held now now' : Option (List ℕ)) (t bs : List ℕ) → Appends held now t → AppendsFront now now' bs → AppendsPast held now' t (t ++ bs)
past-front held now now' t bs written f = record {
  more = f.front;
  rest = f.rest;
  whole = ap (λ x. t ++ x) f.whole ∙ sym (append_assoc t f.front f.rest);
  appends = Appends-trans held now now' t f.front written f.appends;
}

-- ---- lines behind the one where the writer failed

pub stopped-append : (held now : Option (List ℕ)) (first ls more : List (List ℕ)) → Stopped held now first ls → Stopped held now first (ls ++ more)
stopped-append held now first ls more s =
    let grown = text-grows s.no_room ls more in
    record { no_room = s.no_room; text = subst (AppendsPast held now (course s.no_room first).text) (sym grown.1) (past-append held now _ _ grown.0 s.text) }

-- what is past more lines is past fewer
pub stopped-earlier : (held now : Option (List ℕ)) (first more all : List (List ℕ)) → Stopped held now (first ++ more) all → Stopped held now first all
stopped-earlier held now first more all s =
    let grown = text-grows s.no_room first more in
    record { no_room = s.no_room; text = past-earlier held now _ grown.0 _ (subst (λ t. AppendsPast held now t (course s.no_room all).text) grown.1 s.text) }

-- the writer failed where all was written
pub stopped-reached : (held now : Option (List ℕ)) (ls : List (List ℕ)) (s : ShellView) → Reached held now ls s → Stopped held now ls ls
stopped-reached held now ls s r = record { no_room = r.no_room; text = past-all held now _ r.text }

-- ---- a line of a unit that goes on

settled_by : (before : Option ScriptUnit) (unit unit' : Pending) (number : ℕ) (line : List ℕ) (journal : Kept) → Waits before (Some unit)
    → ((u : ScriptUnit) → IsGathered u unit → (closes u line ≡ false) × IsGathered (with_line u line) unit')
    → Settles (unit_by number before line) journal journal (Some unit') None
settled_by None unit unit' number line journal waits longer = absurd waits
settled_by (Some u) unit unit' number line journal waits longer =
    let more = longer u waits in
    subst (λ b. Settles (cond b (Ends (closed_by u line)) (GoesOn (with_line u line))) journal journal (Some unit') None) (sym more.0) (refl, more.1)

pub still_waits : (before : Option ScriptUnit) (pending : Option Pending) (unit unit' : Pending) (number : ℕ) (line : List ℕ) (journal : Kept)
    → pending ≡ Some unit → Waits before pending
    → ((u : ScriptUnit) → IsGathered u unit → (closes u line ≡ false) × IsGathered (with_line u line) unit')
    → Settles (unit_by number before line) journal journal (Some unit') None
still_waits before pending unit unit' number line journal is waits longer = settled_by before unit unit' number line journal (subst (Waits before) is waits) longer

-- ---- a line that goes on

-- a count that is far from its end grows by what is added
grows : (count n more result : ℕ) → count ≤ n → n ≤ 2 ^ 32 → more ≤ 1 → result ≡ min (count + more) (2 ^ 64 - 1) → result ≡ count + more
grows count n more result within few one sum = omega arith

counts : (count n result : ℕ) → count ≡ n → n < 2 ^ 32 → result ≡ min (count + 1) (2 ^ 64 - 1) → result ≡ n + 1
counts count n result same few sum = omega arith

-- the course after a line that comes to this
course-line : (no_room : List ℕ) (ls : List (List ℕ)) (line : List ℕ) (count : ℕ) (t : Taken) → count ≡ length ls + 1
    → unit_by count (course no_room ls).pending line ≡ t → course no_room (ls ++ line ∷ []) ≡ resolved no_room (stepped (course no_room ls)) t
course-line no_room ls line count t counted comes =
    let c = course no_room ls in
    let place : c.lines + 1 ≡ count = ap (λ k. k + 1) (course-lines no_room ls) ∙ sym counted in
    course-push no_room ls line ∙ advance-by no_room c line
    ∙ ap (λ k. resolved no_room (stepped c) (unit_by k c.pending line)) place ∙ ap (resolved no_room (stepped c)) comes

-- the number of the unit that a line belongs to
number-line : (no_room : List ℕ) (ls : List (List ℕ)) (line : List ℕ) (count : ℕ) (t : Taken) → count ≡ length ls + 1
    → unit_by count (course no_room ls).pending line ≡ t → (unit_in t).number ≡ unanswered (course no_room ls)
number-line no_room ls line count t counted comes =
    let c = course no_room ls in
    let place : count ≡ c.lines + 1 = counted ∙ ap (λ k. k + 1) (sym (course-lines no_room ls)) in
    ap (λ x. (unit_in x).number) (sym comes) ∙ number-by count c.pending line ∙ ap (λ k. number_at k c.pending) place

abbrev pub view : Kept → Option Pending → ℕ → ℕ → ShellView
view journal pending count refused = record { journal = journal; pending = pending; lines = count; refused = refused }

module _ (held now : Option (List ℕ)) (ls : List (List ℕ)) (line : List ℕ) (s : ShellView) (new : Kept) (pending' : Option Pending) (count' : ℕ) (r : Reached held now ls s) where
  line_goes_on : (t : Taken) → count' ≡ length ls + 1 → unit_by count' (course r.no_room ls).pending line ≡ t
      → Settles t s.journal new pending' None → Reached held now (ls ++ line ∷ []) (view new pending' count' s.refused)
  line_goes_on (Ends u) counted comes settles = absurd settles
  line_goes_on (GoesOn u) counted comes settles =
      let more = course-line r.no_room ls line count' (GoesOn u) counted comes in
      let number : u.number ≡ unanswered (course r.no_room ls) = number-line r.no_room ls line count' (GoesOn u) counted comes in record {
        no_room = r.no_room;
        above = λ n above. r.above n (subst (λ k. k ≤ n) (ap unanswered more ∙ number) above);
        lines = counted ∙ sym (length-append ls (line ∷ []));
        waits = subst (λ o. Waits o pending') (sym (ap (λ c. c.pending) more)) settles.1;
        lists = ap (λ c. c.lists) more ∙ r.lists ∙ ap lists_of (sym settles.0);
        refused = ap (λ c. c.refused) more ∙ r.refused;
        text = subst (Appends held now) (sym (ap (λ c. c.text) more)) r.text;
        begun = subst IsBegun (sym settles.0) r.begun;
      }

  pub goes_on_taken : length ls < 2 ^ 32 → count' ≡ min (s.lines + 1) (2 ^ 64 - 1)
      → Settles (unit_by count' (course r.no_room ls).pending line) s.journal new pending' None → Reached held now (ls ++ line ∷ []) (view new pending' count' s.refused)
  goes_on_taken few counting settles =
      line_goes_on (unit_by count' (course r.no_room ls).pending line) (counts s.lines (length ls) count' r.lines few counting) refl settles

-- ---- a line that ends a unit

-- what is printed for the unit stands behind the text so far
printed_behind : (c : Course) (number : ℕ) (new : Kept) (answer : Answer) → IsBegun new
    → (goes_on c number (lists_of new, answer)).text ≡ c.text ++ answer_text number new.machine answer
printed_behind c number new answer begun = ap (λ s. c.text ++ answer_text number s answer) (machine_is new begun)

module _ (held now now' : Option (List ℕ)) (ls : List (List ℕ)) (line : List ℕ) (s : ShellView) (new : Kept) (pending' : Option Pending) (count' refused' : ℕ) (answer : Answer)
    (r : Reached held now ls s) (u : ScriptUnit) (d : Does (by_unit u) s.journal new answer) (counted : count' ≡ length ls + 1)
    (comes : unit_by count' (course r.no_room ls).pending line ≡ Ends u) where
  number_is : u.number ≡ unanswered (course r.no_room ls)
  number_is = number-line r.no_room ls line count' (Ends u) counted comes

  same_course : course (with_number d.no_room u.number r.no_room) ls ≡ course r.no_room ls
  same_course = let number = number_is in course-with_number d.no_room u.number r.no_room ls (omega arith)

  -- the course after it
  line_ends : course (with_number d.no_room u.number r.no_room) (ls ++ line ∷ []) ≡ goes_on (stepped (course r.no_room ls)) u.number (lists_of new, answer)
  line_ends =
      let no_room = with_number d.no_room u.number r.no_room in
      let c = course r.no_room ls in
      let number = number_is in
      course-line no_room ls line count' (Ends u) counted (ap (λ x. unit_by count' x.pending line) same_course ∙ comes)
      ∙ ap (λ x. answered_unit no_room (stepped x) u) same_course
      ∙ unit-answered r.no_room (stepped c) u s.journal new answer d (r.above u.number (omega arith)) r.lists

  text_ends : (course (with_number d.no_room u.number r.no_room) (ls ++ line ∷ [])).text ≡ (course r.no_room ls).text ++ answer_text u.number new.machine answer
  text_ends = ap (λ c. c.text) line_ends ∙ printed_behind (stepped (course r.no_room ls)) u.number new answer d.begun

  reached_more : pending' ≡ None → refused' ≡ s.refused + refusals answer
      → Appends now now' (answer_text u.number new.machine answer) → Reached held now' (ls ++ line ∷ []) (view new pending' count' refused')
  reached_more none refusing written =
      let c = course r.no_room ls in
      let more = line_ends in
      let number = number_is in
      let ordered = course_ordered r.no_room ls in record {
        no_room = with_number d.no_room u.number r.no_room;
        above = λ n above.
            let past : (c.lines + 1) + 1 ≤ n = subst (λ k. k ≤ n) (ap unanswered more) above in
            other_number d.no_room u.number n r.no_room (omega arith) (r.above n (omega arith));
        lines = counted ∙ sym (length-append ls (line ∷ []));
        waits = subst (λ o. Waits o pending') (sym (ap (λ c. c.pending) more)) (subst (Waits None) (sym none) tt);
        lists = ap (λ c. c.lists) more;
        refused = ap (λ c. c.refused) more ∙ ap (λ k. k + refusals answer) r.refused ∙ sym refusing;
        text = subst (Appends held now') (sym text_ends) (Appends-trans held now now' _ _ r.text written);
        begun = d.begun;
      }

  stopped_more : AppendsFront now now' (answer_text u.number new.machine answer) → Stopped held now' ls (ls ++ line ∷ [])
  stopped_more written = record {
    no_room = with_number d.no_room u.number r.no_room;
    text = past-same held now' _ _ _ _ (sym (ap (λ x. x.text) same_course)) (sym text_ends) (past-front held now now' _ _ r.text written);
  }

module _ {W X E : Type 0} (held : Option (List ℕ)) (w w' : WriterUse W) (ls : List (List ℕ)) (line : List ℕ) (s : ShellView) (new : Kept) (pending' : Option Pending)
    (count' refused' : ℕ) (told : ℕ × Answer) (r : Reached held w.held ls s) where
  ends_taken : (result : Result X E) (t : Taken) → count' ≡ length ls + 1 → unit_by count' (course r.no_room ls).pending line ≡ t
      → Settles t s.journal new pending' (Some told) → refused' ≡ s.refused + refusals told.1
      → Prints w w' result (answer_text told.0 new.machine told.1)
      → Finishes held w w' ls (ls ++ line ∷ []) (view new pending' count' refused') result
  ends_taken result (GoesOn u) counted comes settles refusing printed = absurd settles
  ends_taken (Ok x) (Ends u) counted comes settles refusing printed = (
    reached_more held w.held w'.held ls line s new pending' count' refused' told.1 r u settles.2 counted comes settles.1 refusing
        (subst (λ k. Appends w.held w'.held (answer_text k new.machine told.1)) settles.0 printed.bytes),
    printed.failed,
  )
  ends_taken (Err e) (Ends u) counted comes settles refusing printed = (
    stopped_more held w.held w'.held ls line s new pending' count' refused' told.1 r u settles.2 counted comes
        (subst (λ k. AppendsFront w.held w'.held (answer_text k new.machine told.1)) settles.0 printed.bytes),
    printed.failed,
  )

  pub answer_taken : (result : Result X E) → length ls < 2 ^ 32 → count' ≡ min (s.lines + 1) (2 ^ 64 - 1)
      → Settles (unit_by count' (course r.no_room ls).pending line) s.journal new pending' (Some told)
      → refused' ≡ min (s.refused + refusals told.1) (2 ^ 64 - 1)
      → Prints w w' result (answer_text told.0 new.machine told.1)
      → Finishes held w w' ls (ls ++ line ∷ []) (view new pending' count' refused') result
  answer_taken result few counting settles refusing printed =
      let within : s.refused ≤ length ls = omega (arith, course-refused r.no_room ls, r.refused) in
      ends_taken result (unit_by count' (course r.no_room ls).pending line) (counts s.lines (length ls) count' r.lines few counting) refl settles
      (grows s.refused (length ls) (refusals told.1) refused' within (omega arith) (refusals-few told.1) refusing) printed

pub nothing_reached : (held : Option (List ℕ)) (j : Kept) → IsBegun j → lists_of j ≡ record { standing = []; undone = [] } → Reached held held [] (view j None 0 0)
unfolding course
nothing_reached held j begun lists = record {
  no_room = [];
  above = λ n h. refl;
  lines = refl;
  waits = tt;
  lists = sym lists;
  refused = refl;
  text = Appends-nil held;
  begun = begun;
}

-- ---- the end of the script

whole-course : (no_room : List ℕ) (ls : List (List ℕ)) (o : Option ScriptUnit) → (course no_room ls).pending ≡ o → whole_course no_room ls ≡ ended no_room (course no_room ls) o
unfolding whole_course
whole-course no_room ls o e = ap (ended no_room (course no_room ls)) e

end_waits_none : (held now : Option (List ℕ)) (ls : List (List ℕ)) (journal : Kept) (count refused : ℕ) (r : Reached held now ls (view journal None count refused)) (o : Option ScriptUnit)
    → (course r.no_room ls).pending ≡ o → Waits o None → (pending' : Option Pending) → Ended held now ls (view journal pending' count refused)
end_waits_none held now ls journal count refused r (Some u) is waits pending' = absurd waits
end_waits_none held now ls journal count refused r None is waits pending' =
    let same = whole-course r.no_room ls None is in record {
      no_room = r.no_room;
      lines = r.lines;
      refused = ap (λ c. c.refused) same ∙ r.refused;
      text = subst (Appends held now) (sym (ap (λ c. c.text) same)) r.text;
    }

-- nothing is pending
pub end_none : (held now : Option (List ℕ)) (ls : List (List ℕ)) (journal : Kept) (pending pending' : Option Pending) (count refused : ℕ) → pending ≡ None
    → Reached held now ls (view journal pending count refused) → Ended held now ls (view journal pending' count refused)
end_none held now ls journal pending pending' count refused none reached =
    let r = subst (λ p. Reached held now ls (view journal p count refused)) none reached in
    end_waits_none held now ls journal count refused r (course r.no_room ls).pending refl r.waits pending'

module _ (held now now' : Option (List ℕ)) (ls : List (List ℕ)) (s : ShellView) (answer : Answer)
    (r : Reached held now ls s) (u : ScriptUnit) (d : Does (by_unit u) s.journal s.journal answer) (is : (course r.no_room ls).pending ≡ Some u) where
  same_at_end : course (with_number d.no_room u.number r.no_room) ls ≡ course r.no_room ls
  same_at_end =
      let c = course r.no_room ls in
      let number : unanswered c ≡ u.number = ap (number_at (c.lines + 1)) is in
      course-with_number d.no_room u.number r.no_room ls (omega arith)

  -- the course that ends with the refusal of the unit whose text goes on
  unit_ends : whole_course (with_number d.no_room u.number r.no_room) ls ≡ goes_on (course r.no_room ls) u.number (lists_of s.journal, answer)
  unit_ends =
      let no_room = with_number d.no_room u.number r.no_room in
      let c = course r.no_room ls in
      let number : unanswered c ≡ u.number = ap (number_at (c.lines + 1)) is in
      whole-course no_room ls (Some u) (ap (λ x. x.pending) same_at_end ∙ is)
      ∙ ap (λ x. answered_unit no_room x u) same_at_end
      ∙ unit-answered r.no_room c u s.journal s.journal answer d (r.above u.number (omega arith)) r.lists

  text_at_end : (whole_course (with_number d.no_room u.number r.no_room) ls).text ≡ (course r.no_room ls).text ++ answer_text u.number s.journal.machine answer
  text_at_end = ap (λ c. c.text) unit_ends ∙ printed_behind (course r.no_room ls) u.number s.journal answer r.begun

  ended_more : (pending' : Option Pending) (refused' : ℕ) → refused' ≡ s.refused + refusals answer → Appends now now' (answer_text u.number s.journal.machine answer)
      → Ended held now' ls (view s.journal pending' s.lines refused')
  ended_more pending' refused' refusing written = record {
    no_room = with_number d.no_room u.number r.no_room;
    lines = r.lines;
    refused = ap (λ c. c.refused) unit_ends ∙ ap (λ k. k + refusals answer) r.refused ∙ sym refusing;
    text = subst (Appends held now') (sym text_at_end) (Appends-trans held now now' _ _ r.text written);
  }

  stopped_at_end : AppendsFront now now' (answer_text u.number s.journal.machine answer) → StoppedAtEnd held now' ls ls
  stopped_at_end written = record {
    no_room = with_number d.no_room u.number r.no_room;
    text = past-same held now' _ _ _ _ (sym (ap (λ x. x.text) same_at_end)) (sym text_at_end) (past-front held now now' _ _ r.text written);
  }

module _ {W X E : Type 0} (held : Option (List ℕ)) (w w' : WriterUse W) (ls : List (List ℕ)) (journal : Kept) (p : Pending) (pending' : Option Pending) (count refused refused' : ℕ) (reason : ShellRefusal) where
  end_told : (result : Result X E) (r : Reached held w.held ls (view journal (Some p) count refused)) (u : ScriptUnit) → Does (by_unit u) journal journal (Refused reason)
      → (course r.no_room ls).pending ≡ Some u → p.number ≡ u.number → refused' ≡ refused + 1
      → Prints w w' result (answer_text p.number journal.machine (Refused reason))
      → Concludes held w w' ls ls (view journal pending' count refused') result
  end_told (Ok x) r u d is named refusing printed = (
    ended_more held w.held w'.held ls (view journal (Some p) count refused) (Refused reason) r u d is pending' refused' refusing
        (subst (λ k. Appends w.held w'.held (answer_text k journal.machine (Refused reason))) named printed.bytes),
    printed.failed,
  )
  end_told (Err e) r u d is named refusing printed = (
    stopped_at_end held w.held w'.held ls (view journal (Some p) count refused) (Refused reason) r u d is
        (subst (λ k. AppendsFront w.held w'.held (answer_text k journal.machine (Refused reason))) named printed.bytes),
    printed.failed,
  )

  end_waits : (result : Result X E) (r : Reached held w.held ls (view journal (Some p) count refused)) (o : Option ScriptUnit) → (course r.no_room ls).pending ≡ o → Waits o (Some p)
      → ((u : ScriptUnit) → IsGathered u p → IsRefused u reason)
      → refused' ≡ refused + 1 → Prints w w' result (answer_text p.number journal.machine (Refused reason))
      → Concludes held w w' ls ls (view journal pending' count refused') result
  end_waits result r None is waits why refusing printed = absurd waits
  end_waits result r (Some u) is waits why refusing printed =
      let refuses = why u waits in
      let d : Does (by_unit u) journal journal (Refused reason) = record { no_room = refuses.no_room; told = refuses.told (lists_of journal); begun = r.begun } in
      end_told result r u d is waits.number refusing printed

  -- a unit is pending, which is refused
  pub end_refused : (result : Result X E) (pending : Option Pending) → length ls ≤ 2 ^ 32 → pending ≡ Some p → Reached held w.held ls (view journal pending count refused)
      → ((u : ScriptUnit) → IsGathered u p → IsRefused u reason)
      → refused' ≡ min (refused + 1) (2 ^ 64 - 1) → Prints w w' result (answer_text p.number journal.machine (Refused reason))
      → Concludes held w w' ls ls (view journal pending' count refused') result
  end_refused result pending few is reached why refusing printed =
      let r = subst (λ o. Reached held w.held ls (view journal o count refused)) is reached in
      let within : refused ≤ length ls = omega (arith, course-refused r.no_room ls, r.refused) in
      end_waits result r (course r.no_room ls).pending refl r.waits why (grows refused (length ls) 1 refused' within few (omega arith) refusing) printed

ended-grows : (no_room : List ℕ) (c : Course) (o : Option ScriptUnit) → (rest : List ℕ) × ((ended no_room c o).text ≡ c.text ++ rest)
ended-grows no_room c None = ([], sym (append-nil c.text))
ended-grows no_room c (Some u) =
    let told = (answered_unit no_room c u).lists in
    (_, refl)

-- the writer failed before the unit was answered whose text goes on
pub stopped_before : (held now : Option (List ℕ)) (first all : List (List ℕ)) → Stopped held now first all → StoppedAtEnd held now first all
unfolding whole_course
stopped_before held now first all s =
    let c = course s.no_room all in
    let grown = ended-grows s.no_room c c.pending in
    record { no_room = s.no_room; text = subst (AppendsPast held now (course s.no_room first).text) (sym grown.1) (past-append held now _ _ grown.0 s.text) }

pub stopped_earlier : (held now : Option (List ℕ)) (first more all : List (List ℕ)) → StoppedAtEnd held now (first ++ more) all → StoppedAtEnd held now first all
stopped_earlier held now first more all s =
    let grown = text-grows s.no_room first more in
    record { no_room = s.no_room; text = past-earlier held now _ grown.0 _ (subst (λ t. AppendsPast held now t (whole_course s.no_room all).text) grown.1 s.text) }
