-- What is gathered of a unit, line by line, and what comes of it.
use Rattle.std.proofs.Common.{Vec, ◌≡◌, ℕ, ◌+◌, ◌==◌, ◌<◌, ◌≤◌, Bool, true, false, not, cond, List, [], ◌∷◌, ◌++◌, length, Option, None, Some, Result, Ok, Err, ◌⊎◌, inl, inr, refl, sym, ap, ◌∙◌, subst, append-nil, length-append, arith}
use Rattle.std.specs.Str.{bytes_eq}
use Rattle.std.specs.Prelude.{codes, nat_le, is_none, ◌&&◌, ◌||◌}
use Rattle.std.specs.declared.alloc.Global.{Global}
use Rattle.std.proofs.lemmas.Bool.{cases_Bool, ne_eqb, and_left, and_right, le-leb, lt-leb, leb-false, ltb-false, ltb-true}
use Rattle.std.proofs.lemmas.Grind.{flat_map-append}
use Rattle.std.proofs.lemmas.List.Folds.{list_all-append}
use Rattle.std.proofs.lemmas.List.Sums.{fold-append}
use Rattle.sgb_session.specs.Command.{may_want}
use Rattle.sgb_script.specs.declared.command.Command.{Command}
use Rattle.sgb_script.specs.declared.command.Command.TheVariants.{One}
use Rattle.sgb_script.specs.declared.command.Command.TheVariants as commands
use Rattle.sgb_script.specs.declared.command.Single.{Single}
use Rattle.sgb_script.specs.declared.command.Single.TheVariants.{Make}
use Rattle.sgb_script.specs.declared.command.Line.{Line}
use Rattle.sgb_script.specs.declared.command.Line.TheVariants.{Nothing, Change, Undo, Redo, Query, Load, Group, End}
use Rattle.sgb_script.specs.declared.command.Maker.TheVariants as makers
use Rattle.sgb_script.specs.declared.refusal.ShellRefusal.{ShellRefusal}
use Rattle.sgb_script.specs.declared.refusal.ShellRefusal.TheVariants.{NoRoom, ScriptSyntax}
use Rattle.sgb_script.specs.Line.{line_of}
use Rattle.sgb_text.specs.declared.restoring.CheckRule.{CheckRule}
use Rattle.sgb_shell.specs.declared.answer.Answer.TheVariants.{Refused}
use Rattle.sgb_shell.specs.declared.group.OpenGroup.{OpenGroup}
use Rattle.sgb_shell.specs.declared.text.OpenText.{OpenText}
use Rattle.sgb_shell.specs.declared.text.OpenText.TheVariants as texts
use Rattle.sgb_shell.specs.Private.Gathering.{ClosesText, are_short, is_load, GathersText, IsText, Begins, IsRefused, is_group, IsMember, Collects, Adds, HasText, IsGroup, with_text}
use Rattle.sgb_shell.specs.Private.Holding.{is_above}
use Rattle.sgb_shell.specs.Group.{Members, no_members, members_of, with_member, with_member_line, joined, few, commands_in, closes, text_member, line_member}
use Rattle.sgb_shell.specs.Transcript.{Lists, Told, unit_told, load_told, group_told, grouping, changing, grows, state_of}
use Rattle.sgb_shell.specs.Unit.{ScriptUnit, takes_text, takes_members, opened, with_line, as_closed, closed_by, text_in, is_whole, is_dot, is_end}

-- ---- line by line

gathers_begun : (number : ℕ) (line : List ℕ) (t : OpenText) → Begins (line_of line) t → GathersText (opened number line) t
gathers_begun number line (texts.Text name rule text) b = (b.0, refl, b.1)
gathers_begun number line (texts.Refused r) b = inl (b.0, inl b.1)

pub begun : (number : ℕ) (line : List ℕ) (t : OpenText) → takes_text line ≡ true → Begins (line_of line) t → IsText (opened number line) t
begun number line t takes b = record { unclosed = refl; takes = takes; lines = gathers_begun number line t b }

short_line : (line : List ℕ) → is_above line ≡ false → nat_le (length line) 8192 ≡ true
short_line line e = let fits : length line ≤ 8192 = ltb-false 8192 (length line) e in le-leb (length line) 8192 fits

long_line : (line : List ℕ) → is_above line ≡ true → nat_le (length line) 8192 ≡ false
long_line line e = let long : 8192 < length line = ltb-true 8192 (length line) e in lt-leb (length line) 8192 long

both : (a b : Bool) → a ≡ true → b ≡ true → (a && b) ≡ true
both a b p q = rw (p, q) refl

are_short-push : (ls : List (List ℕ)) (line : List ℕ) → are_short ls ≡ true → is_above line ≡ false → are_short (ls ++ line ∷ []) ≡ true
are_short-push ls line e short =
    list_all-append (λ l. nat_le (length l) 8192) ls (line ∷ []) ∙ both (are_short ls) _ e (both (nat_le (length line) 8192) true (short_line line short) refl)

too_long-push : (ls : List (List ℕ)) (line : List ℕ) → is_above line ≡ true → are_short (ls ++ line ∷ []) ≡ false
too_long-push ls line long =
    list_all-append (λ l. nat_le (length l) 8192) ls (line ∷ []) ∙ and_right (are_short ls) _ (and_left (nat_le (length line) 8192) true (long_line line long))

still_long-push : (ls : List (List ℕ)) (line : List ℕ) → are_short ls ≡ false → are_short (ls ++ line ∷ []) ≡ false
still_long-push ls line e = list_all-append (λ l. nat_le (length l) 8192) ls (line ∷ []) ∙ and_left (are_short ls) _ e

some-push : (ls : List (List ℕ)) (line : List ℕ) → (length (ls ++ line ∷ []) == 0) ≡ false
some-push ls line = let longer : length (ls ++ line ∷ []) ≡ length ls + 1 = length-append ls (line ∷ []) in ne_eqb _ 0 (λ e. absurd (omega arith))

text-push : (u : ScriptUnit) (line : List ℕ) → text_in (with_line u line) ≡ text_in u ++ (line ++ 10 ∷ [])
text-push u line =
    flat_map-append (λ l. l ++ 10 ∷ []) u.inner (line ∷ []) ∙ ap (λ t. text_in u ++ t) (append-nil (line ++ 10 ∷ []))

is_load-of : (o : Option Line) (name : List ℕ) (rule : CheckRule) → o ≡ Some (Load name rule) → is_load o ≡ true
is_load-of o name rule e = rw e refl

text_with : (u : ScriptUnit) (line : List ℕ) (t t' : OpenText) → IsText u t → GathersText (with_line u line) t' → IsText (with_line u line) t'
text_with u line t t' i more = record { unclosed = i.unclosed; takes = i.takes; lines = more }

pub text_longer : (u : ScriptUnit) (line : List ℕ) (name : List ℕ) (rule : CheckRule) (text text' : Vec ℕ Global)
    → IsText u (texts.Text name rule text) → (is_above line ≡ false) × (text'.items ≡ text.items ++ (line ++ 10 ∷ []))
    → IsText (with_line u line) (texts.Text name rule text')
text_longer u line name rule text text' i put =
    text_with u line _ _ i (
      i.lines.0,
      are_short-push u.inner line i.lines.1 put.0,
      put.1 ∙ ap (λ t. t ++ (line ++ 10 ∷ [])) i.lines.2 ∙ sym (text-push u line),
    )

pub text_refused : (u : ScriptUnit) (line : List ℕ) (name : List ℕ) (rule : CheckRule) (text : Vec ℕ Global) (r : ShellRefusal)
    → IsText u (texts.Text name rule text) → ((r ≡ ScriptSyntax) × (is_above line ≡ true)) ⊎ (r ≡ NoRoom)
    → IsText (with_line u line) (texts.Refused r)
text_refused u line name rule text r i (inl long) =
    text_with u line _ _ i (inl (long.0, inr (too_long-push u.inner line long.1)))
text_refused u line name rule text r i (inr want) =
    text_with u line _ _ i (inr (want, is_load-of (line_of u.first) name rule i.lines.0, some-push u.inner line))

refused_longer : (u : ScriptUnit) (line : List ℕ) (r : ShellRefusal) → GathersText u (texts.Refused r) → GathersText (with_line u line) (texts.Refused r)
refused_longer u line r (inl (is, inl other)) = inl (is, inl other)
refused_longer u line r (inl (is, inr long)) = inl (is, inr (still_long-push u.inner line long))
refused_longer u line r (inr (is, load, some)) = inr (is, load, some-push u.inner line)

pub still_refused : (u : ScriptUnit) (line : List ℕ) (r : ShellRefusal) → IsText u (texts.Refused r)
    → IsText (with_line u line) (texts.Refused r)
still_refused u line r i = text_with u line _ _ i (refused_longer u line r i.lines)

-- ---- what comes of it

abbrev tells : Lists → ShellRefusal → Told
tells l r = (l, Refused r)

told_load : (no_room : Bool) (l : Lists) (u : ScriptUnit) → takes_text u.first ≡ true → unit_told no_room l u ≡ load_told no_room l (line_of u.first) u
told_load no_room l u takes = rw takes refl

not_loaded : (l : Lists) (o : Option Line) (u : ScriptUnit) → is_load o ≡ false → load_told false l o u ≡ tells l ScriptSyntax
not_loaded l None u e = refl
not_loaded l (Some Nothing) u e = refl
not_loaded l (Some (Change c)) u e = refl
not_loaded l (Some Undo) u e = refl
not_loaded l (Some Redo) u e = refl
not_loaded l (Some (Query q)) u e = refl
not_loaded l (Some (Load name rule)) u e = cc
not_loaded l (Some Group) u e = refl
not_loaded l (Some End) u e = refl

not_whole : (l : Lists) (o : Option Line) (u : ScriptUnit) → is_whole u ≡ false → load_told false l o u ≡ tells l ScriptSyntax
not_whole l None u e = refl
not_whole l (Some Nothing) u e = refl
not_whole l (Some (Change c)) u e = refl
not_whole l (Some Undo) u e = refl
not_whole l (Some Redo) u e = refl
not_whole l (Some (Query q)) u e = refl
not_whole l (Some (Load name rule)) u e = rw e refl
not_whole l (Some Group) u e = refl
not_whole l (Some End) u e = refl

no_memory : (l : Lists) (o : Option Line) (u : ScriptUnit) → is_load o ≡ true → (length u.inner == 0) ≡ false → load_told true l o u ≡ tells l NoRoom
no_memory l None u e some = cc
no_memory l (Some Nothing) u e some = cc
no_memory l (Some (Change c)) u e some = cc
no_memory l (Some Undo) u e some = cc
no_memory l (Some Redo) u e some = cc
no_memory l (Some (Query q)) u e some = cc
no_memory l (Some (Load name rule)) u e some = rw some refl
no_memory l (Some Group) u e some = cc
no_memory l (Some End) u e some = cc

-- however the unit ends
refused_so : (u : ScriptUnit) (closed : Bool) (r : ShellRefusal) → takes_text u.first ≡ true → GathersText u (texts.Refused r) → IsRefused (record u { closed = closed }) r
refused_so u closed r takes (inl (is, inl other)) = record {
  no_room = false;
  told = λ l. told_load false l (record u { closed = closed }) takes ∙ not_loaded l (line_of u.first) (record u { closed = closed }) other ∙ ap (tells l) (sym is);
}
refused_so u closed r takes (inl (is, inr long)) = record {
  no_room = false;
  told = λ l. told_load false l (record u { closed = closed }) takes
      ∙ not_whole l (line_of u.first) (record u { closed = closed }) (and_right closed (are_short u.inner) long) ∙ ap (tells l) (sym is);
}
refused_so u closed r takes (inr (is, load, some)) = record {
  no_room = true;
  told = λ l. told_load true l (record u { closed = closed }) takes ∙ no_memory l (line_of u.first) (record u { closed = closed }) load some ∙ ap (tells l) (sym is);
}

pub refused_closed : (u : ScriptUnit) (r : ShellRefusal) → IsText u (texts.Refused r) → IsRefused (as_closed u) r
refused_closed u r i = refused_so u true r i.takes i.lines

pub refused_open : (u : ScriptUnit) (r : ShellRefusal) → IsText u (texts.Refused r) → IsRefused u r
refused_open u r i = refused_so u u.closed r i.takes i.lines

pub text_open : (u : ScriptUnit) (name : List ℕ) (rule : CheckRule) (text : Vec ℕ Global) → IsText u (texts.Text name rule text)
    → IsRefused u ScriptSyntax
text_open u name rule text i = record {
  no_room = false;
  told = λ l. told_load false l u i.takes ∙ not_whole l (line_of u.first) u (and_left u.closed (are_short u.inner) i.unclosed);
}

-- a whole text makes a graph; its command has a text itself
loaded : (no_room : Bool) (l : Lists) (u : ScriptUnit) (name : List ℕ) (rule : CheckRule) → is_whole u ≡ true
    → load_told no_room l (Some (Load name rule)) u ≡ changing no_room l (One (Make name (makers.Load (text_in u) rule)))
loaded false l u name rule whole = rw whole refl
loaded true l u name rule whole = elim (cases_Bool (length u.inner == 0)) [
  | inl none ↦ rw (none, whole) refl
  | inr some ↦ rw some refl
]

pub text_closed : (u : ScriptUnit) (name : List ℕ) (rule : CheckRule) (text : Vec ℕ Global) (bytes : List ℕ) → IsText u (texts.Text name rule text)
    → bytes ≡ text.items → (no_room : Bool) (l : Lists) → unit_told no_room l (as_closed u) ≡ changing no_room l (One (Make name (makers.Load bytes rule)))
text_closed u name rule text bytes i same no_room l =
    told_load no_room l (as_closed u) i.takes
    ∙ ap (λ o. load_told no_room l o (as_closed u)) i.lines.0
    ∙ loaded no_room l (as_closed u) name rule i.lines.1
    ∙ ap (λ t. changing no_room l (One (Make name (makers.Load t rule)))) (sym (same ∙ i.lines.2))

-- ---- a text as a member of a group

member_whole : (u : ScriptUnit) (name : List ℕ) (rule : CheckRule) → is_whole u ≡ true → text_member (Some (Load name rule)) u ≡ Some (Make name (makers.Load (text_in u) rule) ∷ [])
member_whole u name rule whole = rw whole refl

pub text_is_member : (u : ScriptUnit) (name : List ℕ) (rule : CheckRule) (text : Vec ℕ Global) (bytes : List ℕ) → IsText u (texts.Text name rule text)
    → bytes ≡ text.items → text_member (line_of u.first) (as_closed u) ≡ Some (Make name (makers.Load bytes rule) ∷ [])
text_is_member u name rule text bytes i same =
    ap (λ o. text_member o (as_closed u)) i.lines.0
    ∙ member_whole (as_closed u) name rule i.lines.1
    ∙ ap (λ t. Some (Make name (makers.Load t rule) ∷ [])) (sym (same ∙ i.lines.2))

no_member : (o : Option Line) (u : ScriptUnit) → is_load o ≡ false → text_member o u ≡ None
no_member None u e = refl
no_member (Some Nothing) u e = refl
no_member (Some (Change c)) u e = refl
no_member (Some Undo) u e = refl
no_member (Some Redo) u e = refl
no_member (Some (Query q)) u e = refl
no_member (Some (Load name rule)) u e = cc
no_member (Some Group) u e = refl
no_member (Some End) u e = refl

no_whole_member : (o : Option Line) (u : ScriptUnit) → is_whole u ≡ false → text_member o u ≡ None
no_whole_member None u e = refl
no_whole_member (Some Nothing) u e = refl
no_whole_member (Some (Change c)) u e = refl
no_whole_member (Some Undo) u e = refl
no_whole_member (Some Redo) u e = refl
no_whole_member (Some (Query q)) u e = refl
no_whole_member (Some (Load name rule)) u e = rw e refl
no_whole_member (Some Group) u e = refl
no_whole_member (Some End) u e = refl

refused_member : (u : ScriptUnit) (r : ShellRefusal) → GathersText u (texts.Refused r)
    → ((r ≡ ScriptSyntax) × (text_member (line_of u.first) (as_closed u) ≡ None)) ⊎ (r ≡ NoRoom)
refused_member u r (inl (is, inl other)) = inl (is, no_member (line_of u.first) (as_closed u) other)
refused_member u r (inl (is, inr long)) = inl (is, no_whole_member (line_of u.first) (as_closed u) (and_right true (are_short u.inner) long))
refused_member u r (inr (is, load, some)) = inr is

pub text_is_no_member : (u : ScriptUnit) (r : ShellRefusal) → IsText u (texts.Refused r) → ((r ≡ ScriptSyntax) × (text_member (line_of u.first) (as_closed u) ≡ None)) ⊎ (r ≡ NoRoom)
text_is_no_member u r i = refused_member u r i.lines

-- ---- the members of a group, line by line

pub not_group-load : (o : Option Line) (name : List ℕ) (rule : CheckRule) → o ≡ Some (Load name rule) → is_group o ≡ false
not_group-load o name rule e = rw e refl

members-push : (ls : List (List ℕ)) (line : List ℕ) → members_of (ls ++ line ∷ []) ≡ with_member_line (members_of ls) (members_of ls).text line
unfolding members_of
members-push ls line = fold-append (λ m l. with_member_line m m.text l) no_members ls (line ∷ [])

Collects_more : (first : Option Line) (cs : Option (List Single)) (has : Bool) (r : Result (Vec Single Global) ShellRefusal) → Collects first cs has r → Collects first cs true r
Collects_more first cs has (Ok list) c = c
Collects_more first cs has (Err r) (inl bad) = inl bad
Collects_more first cs has (Err r) (inr (is, group, some)) = inr (is, group, refl)

pub group_begun : (number : ℕ) (line : List ℕ) (r : Result (Vec Single Global) ShellRefusal) → takes_text line ≡ false → takes_members line ≡ true
    → Collects (line_of line) (Some []) false r → IsGroup (opened number line) (record { commands = r; text = None })
unfolding members_of
group_begun number line r other takes c = record { unclosed = refl; other = other; takes = takes; commands = c; text = tt }

-- the line comes to this
group_with : (u : ScriptUnit) (line : List ℕ) (g g' : OpenGroup) (m : Members) → IsGroup u g → with_member_line (members_of u.inner) (members_of u.inner).text line ≡ m
    → Collects (line_of u.first) m.commands true g'.commands → HasText m.text g'.text → IsGroup (with_line u line) g'
group_with u line g g' m i comes c text =
    let more : members_of (u.inner ++ line ∷ []) ≡ m = members-push u.inner line ∙ comes in record {
      unclosed = i.unclosed;
      other = i.other;
      takes = i.takes;
      commands = subst (λ n. Collects (line_of u.first) n.commands (not (length (u.inner ++ line ∷ []) == 0)) g'.commands) (sym more)
          (subst (λ b. Collects (line_of u.first) m.commands (not b) g'.commands) (sym (some-push u.inner line)) c);
      text = subst (λ n. HasText n.text g'.text) (sym more) text;
    }

abbrev AddsTo : Result (Vec Single Global) ShellRefusal → Result (Option Single) ShellRefusal → Result (Vec Single Global) ShellRefusal → Type 0
AddsTo r member r' = (first : Option Line) (old more : Option (List Single)) (has : Bool) → IsMember more member → Collects first old has r → Collects first (joined old more) true r'

dot_ends : (m : Members) (u : ScriptUnit) (line : List ℕ) → is_dot line ≡ true → with_member_line m (Some u) line ≡ with_member m (text_member (line_of u.first) (as_closed u))
dot_ends m u line dot = rw dot refl

other_goes_on : (m : Members) (u : ScriptUnit) (line : List ℕ) → is_dot line ≡ false → with_member_line m (Some u) line ≡ record m { text = Some (with_line u line) }
other_goes_on m u line other = rw other refl

text_begins : (m : Members) (line : List ℕ) → takes_text line ≡ true → with_member_line m None line ≡ record m { text = Some (opened 0 line) }
text_begins m line takes = rw takes refl

line_stands_alone : (m : Members) (line : List ℕ) → takes_text line ≡ false → with_member_line m None line ≡ with_member m (line_member (line_of line))
line_stands_alone m line other = rw other refl

module _ (u : ScriptUnit) (line : List ℕ) (g : OpenGroup) where
  member_ended : (o : Option ScriptUnit) (text : OpenText) (member : Result (Option Single) ShellRefusal) (r : Result (Vec Single Global) ShellRefusal)
      → (members_of u.inner).text ≡ o → HasText o (Some text) → g.text ≡ None → IsGroup u (with_text g text) → is_dot line ≡ true
      → ((v : ScriptUnit) → IsText v text → IsMember (text_member (line_of v.first) (as_closed v)) member) → AddsTo g.commands member r
      → IsGroup (with_line u line) (record { commands = r; text = g.text })
  member_ended None text member r is has none i dot reads adds = absurd has
  member_ended (Some v) text member r is has none i dot reads adds =
      let m = members_of u.inner in
      group_with u line (with_text g text) (record { commands = r; text = g.text }) (with_member m (text_member (line_of v.first) (as_closed v))) i
      (ap (λ o. with_member_line m o line) is ∙ dot_ends m v line dot) (adds _ _ _ _ (reads v has) i.commands) (subst (HasText None) (sym none) tt)

  pub text_ended : (text : OpenText) (member : Result (Option Single) ShellRefusal) (r : Result (Vec Single Global) ShellRefusal) → g.text ≡ None → IsGroup u (with_text g text) → is_dot line ≡ true
      → ((v : ScriptUnit) → IsText v text → IsMember (text_member (line_of v.first) (as_closed v)) member) → AddsTo g.commands member r
      → IsGroup (with_line u line) (record { commands = r; text = g.text })
  text_ended text member r none i dot reads adds = member_ended (members_of u.inner).text text member r refl i.text none i dot reads adds

  member_longer : (o : Option ScriptUnit) (text text' : OpenText) → (members_of u.inner).text ≡ o → HasText o (Some text) → IsGroup u (with_text g text) → is_dot line ≡ false
      → ((v : ScriptUnit) → IsText v text → IsText (with_line v line) text') → IsGroup (with_line u line) (with_text g text')
  member_longer None text text' is has i other longer = absurd has
  member_longer (Some v) text text' is has i other longer =
      let m = members_of u.inner in
      group_with u line (with_text g text) (with_text g text') (record m { text = Some (with_line v line) }) i
      (ap (λ o. with_member_line m o line) is ∙ other_goes_on m v line other) (Collects_more _ _ _ _ i.commands) (longer v has)

  pub text_goes_on : (text text' : OpenText) → IsGroup u (with_text g text) → is_dot line ≡ false
      → ((v : ScriptUnit) → IsText v text → IsText (with_line v line) text') → IsGroup (with_line u line) (with_text g text')
  text_goes_on text text' i other longer = member_longer (members_of u.inner).text text text' refl i.text i other longer

  none_open : (o : Option ScriptUnit) (t : Option OpenText) → t ≡ None → HasText o t → o ≡ None
  none_open None t e has = refl
  none_open (Some v) t e has = absurd (subst (HasText (Some v)) e has)

  pub text_begun : (text : OpenText) → IsGroup u g → g.text ≡ None → takes_text line ≡ true → IsText (opened 0 line) text → IsGroup (with_line u line) (with_text g text)
  text_begun text i none takes begins =
      let m = members_of u.inner in
      group_with u line g (with_text g text) (record m { text = Some (opened 0 line) }) i
      (ap (λ o. with_member_line m o line) (none_open m.text g.text none i.text) ∙ text_begins m line takes) (Collects_more _ _ _ _ i.commands) begins

  pub member_added : (member : Result (Option Single) ShellRefusal) (r : Result (Vec Single Global) ShellRefusal) → IsGroup u g → g.text ≡ None → takes_text line ≡ false
      → IsMember (line_member (line_of line)) member → AddsTo g.commands member r → IsGroup (with_line u line) (record { commands = r; text = g.text })
  member_added member r i none other reads adds =
      let m = members_of u.inner in
      group_with u line g (record { commands = r; text = g.text }) (with_member m (line_member (line_of line))) i
      (ap (λ o. with_member_line m o line) (none_open m.text g.text none i.text) ∙ line_stands_alone m line other) (adds _ _ _ _ reads i.commands) (subst (HasText None) (sym none) tt)

same_none : (o : Option ScriptUnit) (t : Option OpenText) → HasText o t → is_none t ≡ is_none o
same_none None None has = refl
same_none None (Some t) has = absurd has
same_none (Some u) None has = absurd has
same_none (Some u) (Some t) has = refl

pub group_closes : (u : ScriptUnit) (g : OpenGroup) (line : List ℕ) (b : Bool) → IsGroup u g → b ≡ is_end line → (is_none g.text && b) ≡ closes u line
group_closes u g line b i e = rw i.other (ap (λ x. is_none g.text && x) e ∙ ap (λ x. x && is_end line) (same_none (members_of u.inner).text g.text i.text))

pub text_closes : (u : ScriptUnit) (t : OpenText) (line : List ℕ) → IsText u t → is_dot line ≡ closes u line
text_closes u t line i = rw i.takes refl

-- ---- one member more

many_more : (cs ds : List Single) → nat_le (length cs) 1024 ≡ false → few (Some (cs ++ ds)) ≡ None
many_more cs ds many =
    let above : 1024 < length cs = leb-false (length cs) 1024 many in
    let size : length (cs ++ ds) ≡ length cs + length ds = length-append cs ds in
    rw (lt-leb (length (cs ++ ds)) 1024 (omega arith)) refl

few_many : (cs : List Single) → few (Some cs) ≡ None → nat_le (length cs) 1024 ≡ false
few_many cs e = elim (cases_Bool (nat_le (length cs) 1024)) [
  | inl fits ↦ let bad : Some cs ≡ None = subst (λ b. cond b (Some cs) None ≡ None) fits e in cc
  | inr many ↦ many
]

few_joined : (old more : Option (List Single)) → few old ≡ None → few (joined old more) ≡ None
few_joined None more e = refl
few_joined (Some cs) None e = refl
few_joined (Some cs) (Some ds) e = many_more cs ds (few_many cs e)

pub group_longer : (first : Option Line) (old more : Option (List Single)) (has : Bool) (list list' : Vec Single Global) → Collects first old has (Ok list)
    → (joined (Some list.items) more ≡ Some list'.items) × (length list'.items ≤ 1024) → Collects first (joined old more) true (Ok list')
group_longer first old more has list list' c adds = (c.0, ap (λ o. joined o more) c.1 ∙ adds.0, adds.1)

pub group_spoiled : (first : Option Line) (old more : Option (List Single)) (has : Bool) (list : Vec Single Global) (r : ShellRefusal) → Collects first old has (Ok list)
    → ((r ≡ ScriptSyntax) × (few (joined (Some list.items) more) ≡ None)) ⊎ (r ≡ NoRoom) → Collects first (joined old more) true (Err r)
group_spoiled first old more has list r c (inl (is, none)) = inl (is, inr (ap (λ o. few (joined o more)) c.1 ∙ none))
group_spoiled first old more has list r c (inr is) = inr (is, rw c.0 refl, refl)

pub still_spoiled : (first : Option Line) (old more : Option (List Single)) (has : Bool) (r : ShellRefusal) → Collects first old has (Err r) → Collects first (joined old more) true (Err r)
still_spoiled first old more has r (inl (is, inl other)) = inl (is, inl other)
still_spoiled first old more has r (inl (is, inr none)) = inl (is, inr (few_joined old more none))
still_spoiled first old more has r (inr (is, group, some)) = inr (is, group, refl)

pub adds_refused : (X : Type 0) (old : List Single) (more : Option (List Single)) (r : ShellRefusal) → ((r ≡ ScriptSyntax) × (more ≡ None)) ⊎ (r ≡ NoRoom) → Adds {X = X} old old more (Err r)
adds_refused X old more r (inl (is, none)) = inl (is, rw none refl)
adds_refused X old more r (inr is) = inr is

pub adds_none : {X : Type 0} (old : List Single) (more : Option (List Single)) (x : X) → more ≡ Some [] → length old ≤ 1024 → Adds old old more (Ok x)
adds_none old more x is within = (rw is (ap Some (append-nil old)), within)

pub adds_one : {X : Type 0} (old new : List Single) (more : Option (List Single)) (c : Single) (x : X) → more ≡ Some (c ∷ []) → new ≡ old ++ c ∷ [] → length old < 1024 → Adds old new more (Ok x)
adds_one old new more c x is pushed within =
    let size : length (old ++ c ∷ []) ≡ length old + 1 = length-append old (c ∷ []) in
    (rw is (ap Some (sym pushed)), subst (λ l. length l ≤ 1024) (sym pushed) (omega arith))

pub adds_too_many : (X : Type 0) (old new : List Single) (more : Option (List Single)) (c : Single) → more ≡ Some (c ∷ []) → 1024 ≤ length old → Adds {X = X} old new more (Err ScriptSyntax)
adds_too_many X old new more c is full =
    let size : length (old ++ c ∷ []) ≡ length old + 1 = length-append old (c ∷ []) in
    inl (refl, rw (is, lt-leb (length (old ++ c ∷ [])) 1024 (omega arith)) refl)

-- ---- what comes of a group

told_group : (no_room : Bool) (l : Lists) (u : ScriptUnit) → takes_text u.first ≡ false → takes_members u.first ≡ true → unit_told no_room l u ≡ group_told no_room l (line_of u.first) u
told_group no_room l u other takes = rw (other, takes) refl

not_grouped : (l : Lists) (o : Option Line) (u : ScriptUnit) → is_group o ≡ false → group_told false l o u ≡ tells l ScriptSyntax
not_grouped l None u e = refl
not_grouped l (Some Nothing) u e = refl
not_grouped l (Some (Change c)) u e = refl
not_grouped l (Some Undo) u e = refl
not_grouped l (Some Redo) u e = refl
not_grouped l (Some (Query q)) u e = refl
not_grouped l (Some (Load name rule)) u e = refl
not_grouped l (Some Group) u e = cc
not_grouped l (Some End) u e = refl

no_commands : (l : Lists) (o : Option Line) (u : ScriptUnit) → commands_in u ≡ None → group_told false l o u ≡ tells l ScriptSyntax
no_commands l None u e = refl
no_commands l (Some Nothing) u e = refl
no_commands l (Some (Change c)) u e = refl
no_commands l (Some Undo) u e = refl
no_commands l (Some Redo) u e = refl
no_commands l (Some (Query q)) u e = refl
no_commands l (Some (Load name rule)) u e = refl
no_commands l (Some Group) u e = ap (grouping false l) e
no_commands l (Some End) u e = refl

no_room_for : (l : Lists) (o : Option Line) (u : ScriptUnit) → is_group o ≡ true → not (length u.inner == 0) ≡ true → group_told true l o u ≡ tells l NoRoom
no_room_for l None u e some = cc
no_room_for l (Some Nothing) u e some = cc
no_room_for l (Some (Change c)) u e some = cc
no_room_for l (Some Undo) u e some = cc
no_room_for l (Some Redo) u e some = cc
no_room_for l (Some (Query q)) u e some = cc
no_room_for l (Some (Load name rule)) u e some = cc
no_room_for l (Some Group) u e some = rw some refl
no_room_for l (Some End) u e some = cc

either_none : (closed : Bool) (o : Option (List Single)) → o ≡ None → cond closed o None ≡ None
either_none true o e = e
either_none false o e = refl

-- however the group ends
spoiled_so : (u : ScriptUnit) (closed : Bool) (r : ShellRefusal) → takes_text u.first ≡ false → takes_members u.first ≡ true
    → Collects (line_of u.first) (members_of u.inner).commands (not (length u.inner == 0)) (Err r) → IsRefused (record u { closed = closed }) r
spoiled_so u closed r other takes (inl (is, inl bad)) = record {
  no_room = false;
  told = λ l. told_group false l (record u { closed = closed }) other takes ∙ not_grouped l (line_of u.first) (record u { closed = closed }) bad ∙ ap (tells l) (sym is);
}
spoiled_so u closed r other takes (inl (is, inr none)) = record {
  no_room = false;
  told = λ l. told_group false l (record u { closed = closed }) other takes
      ∙ no_commands l (line_of u.first) (record u { closed = closed }) (either_none closed (few (members_of u.inner).commands) none) ∙ ap (tells l) (sym is);
}
spoiled_so u closed r other takes (inr (is, group, some)) = record {
  no_room = true;
  told = λ l. told_group true l (record u { closed = closed }) other takes ∙ no_room_for l (line_of u.first) (record u { closed = closed }) group some ∙ ap (tells l) (sym is);
}

pub spoiled_closed : (u : ScriptUnit) (r : ShellRefusal) (t : Option OpenText) → IsGroup u (record { commands = Err r; text = t }) → IsRefused (as_closed u) r
spoiled_closed u r t i = spoiled_so u true r i.other i.takes i.commands

pub spoiled_open : (u : ScriptUnit) (r : ShellRefusal) (t : Option OpenText) → IsGroup u (record { commands = Err r; text = t }) → IsRefused u r
spoiled_open u r t i = spoiled_so u u.closed r i.other i.takes i.commands

pub group_open : (u : ScriptUnit) (list : Vec Single Global) (t : Option OpenText) → IsGroup u (record { commands = Ok list; text = t }) → IsRefused u ScriptSyntax
group_open u list t i = record {
  no_room = false;
  told = λ l. told_group false l u i.other i.takes ∙ no_commands l (line_of u.first) u (ap (λ b. cond b (few (members_of u.inner).commands) None) i.unclosed);
}

-- a whole group is its commands; that it wanted for memory may be told with its lines or with its step
module _ (l : Lists) (u : ScriptUnit) (cs : List Single) (is : few (members_of u.inner).commands ≡ Some cs) where
  with_room : (b : Bool) → (b && not (length u.inner == 0)) ≡ false → group_told b l (Some Group) (as_closed u) ≡ changing b l (commands.Group cs)
  with_room b none = rw none (ap (grouping b l) is)

  same_when_full : (length l.standing == 65535) ≡ true → changing false l (commands.Group cs) ≡ changing true l (commands.Group cs)
  same_when_full full = rw full refl

  same_without_want : (length l.standing == 65535) ≡ false → (grows l || may_want (state_of l.standing) (commands.Group cs)) ≡ false
      → changing false l (commands.Group cs) ≡ changing true l (commands.Group cs)
  same_without_want room none = rw (room, none) refl

  wants_for_memory : (length l.standing == 65535) ≡ false → (grows l || may_want (state_of l.standing) (commands.Group cs)) ≡ true
      → tells l NoRoom ≡ changing true l (commands.Group cs)
  wants_for_memory room wants = rw (room, wants) refl

  grouped : (b : Bool) → (wants : Bool) × (group_told wants l (Some Group) (as_closed u) ≡ changing b l (commands.Group cs))
  grouped false = (false, with_room false refl)
  grouped true = elim (cases_Bool (not (length u.inner == 0))) [
    | inr none ↦ (true, with_room true none)
    | inl some ↦ elim (cases_Bool (length l.standing == 65535)) [
      | inl full ↦ (false, with_room false refl ∙ same_when_full full)
      | inr room ↦ elim (cases_Bool (grows l || may_want (state_of l.standing) (commands.Group cs))) [
        | inl wants ↦ (true, no_room_for l (Some Group) (as_closed u) refl some ∙ wants_for_memory room wants)
        | inr none ↦ (false, with_room false refl ∙ same_without_want room none)
      ]
    ]
  ]

few_enough : (o : Option (List Single)) (cs : List Single) → o ≡ Some cs → length cs ≤ 1024 → few o ≡ Some cs
few_enough o cs is within = rw (is, le-leb (length cs) 1024 within) refl

pub group_closed : (u : ScriptUnit) (g : OpenGroup) (list : Vec Single Global) (cs : List Single) → g.commands ≡ Ok list → IsGroup u g → cs ≡ list.items
    → (no_room : Bool) (l : Lists) → (wants : Bool) × (unit_told wants l (as_closed u) ≡ changing no_room l (commands.Group cs))
group_closed u g list cs holds i same no_room l =
    let all = subst (Collects (line_of u.first) (members_of u.inner).commands (not (length u.inner == 0))) holds i.commands in
    let is : few (members_of u.inner).commands ≡ Some cs = few_enough _ list.items all.1 all.2 ∙ ap Some (sym same) in
    let told = grouped l u cs is no_room in
    (told.0, told_group told.0 l (as_closed u) i.other i.takes ∙ ap (λ o. group_told told.0 l o (as_closed u)) all.0 ∙ told.1)

-- ---- the line that ends a unit

abbrev with_closed : ScriptUnit → Bool → ScriptUnit
with_closed u b = record u { closed = b }

closed_so : (u : ScriptUnit) (line : List ℕ) → nat_le (length line) 8192 ≡ true → closed_by u line ≡ as_closed u
closed_so u line short = ap (with_closed u) short

is_short-dot : (line : List ℕ) → is_dot line ≡ true → nat_le (length line) 8192 ≡ true
is_short-dot [] dot = refl
is_short-dot (x ∷ []) dot = refl
is_short-dot (x ∷ y ∷ line) dot = let never : bytes_eq (x ∷ y ∷ line) (codes ".") ≡ false = and_right (x == 46) false refl in cc

module _ (u : ScriptUnit) (line : List ℕ) where
  ended_well : closed_by u line ≡ as_closed u → (c : Command)
      → ((no_room : Bool) (l : Lists) → (wants : Bool) × (unit_told wants l (as_closed u) ≡ changing no_room l c))
      → (no_room : Bool) (l : Lists) → (wants : Bool) × (unit_told wants l (closed_by u line) ≡ changing no_room l c)
  ended_well same c told no_room l = let as_told = told no_room l in (as_told.0, ap (unit_told as_told.0 l) same ∙ as_told.1)

  closed_text : closes u line ≡ true → takes_text u.first ≡ true → closed_by u line ≡ as_closed u
  closed_text ends takes = closed_so u line (is_short-dot line (subst (λ b. cond b (is_dot line) (is_none (members_of u.inner).text && is_end line) ≡ true) takes ends))

  pub text_ends : (t : OpenText) (c : Single) → closes u line ≡ true → IsText u t → ClosesText u (Ok c)
      → (no_room : Bool) (l : Lists) → (wants : Bool) × (unit_told wants l (closed_by u line) ≡ changing no_room l (One c))
  text_ends t c ends i told = ended_well (closed_text ends i.takes) (One c) (λ no_room l. (no_room, told.0 no_room l))

  pub text_ends_refused : (t : OpenText) (r : ShellRefusal) → closes u line ≡ true → IsText u t → ClosesText u (Err r) → IsRefused (closed_by u line) r
  text_ends_refused t r ends i told = subst (λ v. IsRefused v r) (sym (closed_text ends i.takes)) told.0

  pub group_ends : (g : OpenGroup) (list : Vec Single Global) (cs : List Single) → is_above line ≡ false → g.commands ≡ Ok list → IsGroup u g → cs ≡ list.items
      → (no_room : Bool) (l : Lists) → (wants : Bool) × (unit_told wants l (closed_by u line) ≡ changing no_room l (commands.Group cs))
  group_ends g list cs short holds i same = ended_well (closed_so u line (short_line line short)) (commands.Group cs) (group_closed u g list cs holds i same)

  pub group_ends_refused : (g : OpenGroup) (r : ShellRefusal) → g.commands ≡ Err r → IsGroup u g → IsRefused (closed_by u line) r
  group_ends_refused g r holds i =
      spoiled_so u (nat_le (length line) 8192) r i.other i.takes (subst (Collects (line_of u.first) (members_of u.inner).commands (not (length u.inner == 0))) holds i.commands)

  pub group_ends_badly : (g : OpenGroup) → is_above line ≡ true → IsGroup u g → IsRefused (closed_by u line) ScriptSyntax
  group_ends_badly g long i = record {
    no_room = false;
    told = λ l. told_group false l (closed_by u line) i.other i.takes
        ∙ no_commands l (line_of u.first) (closed_by u line) (ap (λ b. cond b (few (members_of u.inner).commands) None) (long_line line long));
  }

-- a text that a line begins
pub text_opened : (number : ℕ) (l : List ℕ) (t : OpenText) → Begins (line_of l) t → takes_text l ≡ true → IsText (opened number l) t
text_opened number l (texts.Text name rule text) b takes = record { unclosed = refl; takes = takes; lines = (b.0, refl, b.1) }
text_opened number l (texts.Refused r) b takes = record { unclosed = refl; takes = takes; lines = inl (b.0, inl b.1) }
