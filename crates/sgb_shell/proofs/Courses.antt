-- How a course goes on by a line.
use Rattle.std.proofs.Common.{◌≡◌, ℕ, ◌+◌, ◌<◌, ◌≤◌, Bool, true, false, ◌==◌, cond, List, [], ◌∷◌, ◌++◌, length, Option, None, Some, refl, sym, ap, ◌∙◌, subst, arith, append_assoc, append-nil}
use Rattle.std.specs.Prelude.{fold as fold_list}
use Rattle.std.specs.List.{list_any}
use Rattle.std.proofs.lemmas.Bool.{ne_eqb, eq-eqb, or_left, or_from}
use Rattle.std.proofs.lemmas.List.Sums.{fold-append}
use Rattle.sgb_shell.specs.declared.answer.Answer.{Answer}
use Rattle.sgb_shell.specs.declared.answer.Answer.TheVariants as answers
use Rattle.sgb_shell.specs.Private.Performing.{Kept, Does, by_unit, lists_of}
use Rattle.sgb_shell.specs.Private.Reaching.{Taken, GoesOn, Ends, unit_by, number_at, unanswered}
use Rattle.sgb_shell.specs.Answer.{answer_text}
use Rattle.sgb_shell.specs.Transcript.{unit_told, refusals, state_of}
use Rattle.sgb_shell.specs.Private.Course.{Course, course, start, advance, taken, answered_unit, goes_on}
use Rattle.sgb_shell.specs.Unit.{ScriptUnit, alone, opened, with_line, closed_by, takes_lines}
use Rattle.sgb_shell.specs.Group.{closes}

-- ---- one line more

abbrev pub course_from : List ℕ → Course → List (List ℕ) → Course
course_from no_room c ls = fold_list (advance no_room) c ls

pub course-push : (no_room : List ℕ) (ls : List (List ℕ)) (line : List ℕ) → course no_room (ls ++ line ∷ []) ≡ advance no_room (course no_room ls) line
unfolding course
course-push no_room ls line = fold-append (advance no_room) start ls (line ∷ [])

abbrev pub stepped : Course → Course
stepped c = record c { lines = c.lines + 1 }

-- a course whose last line comes to this
abbrev pub resolved : List ℕ → Course → Taken → Course
resolved no_room c (GoesOn u) = record c { pending = Some u }
resolved no_room c (Ends u) = answered_unit no_room c u

goes_or_ends : (goes : Bool) (no_room : List ℕ) (c : Course) (u v : ScriptUnit)
    → cond goes (record c { pending = Some u }) (answered_unit no_room c v) ≡ resolved no_room c (cond goes (GoesOn u) (Ends v))
goes_or_ends true no_room c u v = refl
goes_or_ends false no_room c u v = refl

ends_or_goes : (ends : Bool) (no_room : List ℕ) (c : Course) (u v : ScriptUnit)
    → cond ends (answered_unit no_room c u) (record c { pending = Some v }) ≡ resolved no_room c (cond ends (Ends u) (GoesOn v))
ends_or_goes true no_room c u v = refl
ends_or_goes false no_room c u v = refl

taken-by : (no_room : List ℕ) (c : Course) (o : Option ScriptUnit) (line : List ℕ) → taken no_room c o line ≡ resolved no_room c (unit_by c.lines o line)
taken-by no_room c None line = goes_or_ends (takes_lines line) no_room c (opened c.lines line) (alone c.lines line)
taken-by no_room c (Some u) line = ends_or_goes (closes u line) no_room c (closed_by u line) (with_line u line)

pub advance-by : (no_room : List ℕ) (c : Course) (line : List ℕ) → advance no_room c line ≡ resolved no_room (stepped c) (unit_by (c.lines + 1) c.pending line)
advance-by no_room c line = taken-by no_room (stepped c) c.pending line

abbrev pub unit_in : Taken → ScriptUnit
unit_in (GoesOn u) = u
unit_in (Ends u) = u

either_number : (b : Bool) (t s : Taken) (n : ℕ) → (unit_in t).number ≡ n → (unit_in s).number ≡ n → (unit_in (cond b t s)).number ≡ n
either_number true t s n p q = p
either_number false t s n p q = q

pub number-by : (n : ℕ) (o : Option ScriptUnit) (line : List ℕ) → (unit_in (unit_by n o line)).number ≡ number_at n o
number-by n None line = either_number (takes_lines line) (GoesOn (opened n line)) (Ends (alone n line)) n refl refl
number-by n (Some u) line = either_number (closes u line) (Ends (closed_by u line)) (GoesOn (with_line u line)) u.number refl refl

-- ---- the lines and the refusals of a course

resolved-lines : (no_room : List ℕ) (c : Course) (t : Taken) → (resolved no_room c t).lines ≡ c.lines
resolved-lines no_room c (GoesOn u) = refl
resolved-lines no_room c (Ends u) = refl

advance-lines : (no_room : List ℕ) (c : Course) (line : List ℕ) → (advance no_room c line).lines ≡ c.lines + 1
advance-lines no_room c line = ap (λ d. d.lines) (advance-by no_room c line) ∙ resolved-lines no_room (stepped c) (unit_by (c.lines + 1) c.pending line)

course_from-lines : (no_room : List ℕ) (c : Course) (ls : List (List ℕ)) → (course_from no_room c ls).lines ≡ c.lines + length ls
course_from-lines no_room c [] = omega arith
course_from-lines no_room c (l ∷ ls) = omega (arith, course_from-lines no_room (advance no_room c l) ls, advance-lines no_room c l)

pub course-lines : (no_room : List ℕ) (ls : List (List ℕ)) → (course no_room ls).lines ≡ length ls
unfolding course
course-lines no_room ls = omega (arith, course_from-lines no_room start ls)

pub refusals-few : (answer : Answer) → refusals answer ≤ 1
refusals-few answers.Silent = omega arith
refusals-few answers.Undone = omega arith
refusals-few (answers.Replied reply) = omega arith
refusals-few answers.Generator = omega arith
refusals-few answers.Graphs = omega arith
refusals-few (answers.Graph i) = omega arith
refusals-few (answers.Saved saved) = omega arith
refusals-few (answers.Refused r) = omega arith

resolved-refused : (no_room : List ℕ) (c : Course) (t : Taken) → (resolved no_room c t).refused ≤ c.refused + 1
resolved-refused no_room c (GoesOn u) = omega arith
resolved-refused no_room c (Ends u) = omega (arith, refusals-few (unit_told (list_any (λ n. n == u.number) no_room) c.lists u).1)

advance-refused : (no_room : List ℕ) (c : Course) (line : List ℕ) → (advance no_room c line).refused ≤ c.refused + 1
advance-refused no_room c line =
    subst (λ d. d.refused ≤ c.refused + 1) (sym (advance-by no_room c line)) (resolved-refused no_room (stepped c) (unit_by (c.lines + 1) c.pending line))

course_from-refused : (no_room : List ℕ) (c : Course) (ls : List (List ℕ)) → (course_from no_room c ls).refused ≤ c.refused + length ls
course_from-refused no_room c [] = omega arith
course_from-refused no_room c (l ∷ ls) = omega (arith, course_from-refused no_room (advance no_room c l) ls, advance-refused no_room c l)

pub course-refused : (no_room : List ℕ) (ls : List (List ℕ)) → (course no_room ls).refused ≤ length ls
unfolding course
course-refused no_room ls = omega (arith, course_from-refused no_room start ls)

-- ---- the numbers of its units

-- the next unit to be answered begins at a line so far, or at the next
abbrev IsOrdered : Course → Type 0
IsOrdered c = unanswered c ≤ c.lines + 1

record Steps (c d : Course) : Type 0 where
  later : unanswered c ≤ unanswered d
  ordered : IsOrdered d

resolved_steps : (no_room : List ℕ) (c : Course) (t : Taken) → (unit_in t).number ≡ unanswered c → IsOrdered c → Steps c (resolved no_room (stepped c) t)
resolved_steps no_room c (GoesOn u) same ordered = record { later = omega arith; ordered = omega arith }
resolved_steps no_room c (Ends u) same ordered = record { later = omega arith; ordered = omega arith }

advance_steps : (no_room : List ℕ) (c : Course) (line : List ℕ) → IsOrdered c → Steps c (advance no_room c line)
advance_steps no_room c line ordered =
    let t = unit_by (c.lines + 1) c.pending line in
    subst (Steps c) (sym (advance-by no_room c line)) (resolved_steps no_room c t (number-by (c.lines + 1) c.pending line) ordered)

from_steps : (no_room : List ℕ) (c : Course) (ls : List (List ℕ)) → IsOrdered c → Steps c (course_from no_room c ls)
from_steps no_room c [] ordered = record { later = omega arith; ordered = ordered }
from_steps no_room c (l ∷ ls) ordered =
    let one = advance_steps no_room c l ordered in
    let more = from_steps no_room (advance no_room c l) ls one.ordered in
    record { later = let first = one.later in let rest = more.later in omega arith; ordered = more.ordered }

pub course_ordered : (no_room : List ℕ) (ls : List (List ℕ)) → unanswered (course no_room ls) ≤ (course no_room ls).lines + 1
unfolding course
course_ordered no_room ls = (from_steps no_room start ls (omega arith)).ordered

-- a number that no answered unit has changes nothing
resolved-above : (n : ℕ) (no_room : List ℕ) (c : Course) (t : Taken) → (unit_in t).number ≡ unanswered c → IsOrdered c → unanswered (resolved no_room (stepped c) t) ≤ n
    → resolved (n ∷ no_room) (stepped c) t ≡ resolved no_room (stepped c) t
resolved-above n no_room c (GoesOn u) same ordered above = refl
resolved-above n no_room c (Ends u) same ordered above =
    let other : (n == u.number) ≡ false = ne_eqb n u.number (λ e. absurd (omega arith)) in rw other refl

advance-above : (n : ℕ) (no_room : List ℕ) (c : Course) (line : List ℕ) → IsOrdered c → unanswered (advance no_room c line) ≤ n → advance (n ∷ no_room) c line ≡ advance no_room c line
advance-above n no_room c line ordered above =
    let t = unit_by (c.lines + 1) c.pending line in
    advance-by (n ∷ no_room) c line
    ∙ resolved-above n no_room c t (number-by (c.lines + 1) c.pending line) ordered (subst (λ d. unanswered d ≤ n) (advance-by no_room c line) above)
    ∙ sym (advance-by no_room c line)

course_from-above : (n : ℕ) (no_room : List ℕ) (c : Course) (ls : List (List ℕ)) → IsOrdered c → unanswered (course_from no_room c ls) ≤ n → course_from (n ∷ no_room) c ls ≡ course_from no_room c ls
course_from-above n no_room c [] ordered above = refl
course_from-above n no_room c (l ∷ ls) ordered above =
    let one = advance_steps no_room c l ordered in
    let more = from_steps no_room (advance no_room c l) ls one.ordered in
    let first : unanswered (advance no_room c l) ≤ n = (let later = more.later in omega arith) in
    ap (λ d. course_from (n ∷ no_room) d ls) (advance-above n no_room c l ordered first)
    ∙ course_from-above n no_room (advance no_room c l) ls one.ordered above

abbrev pub with_number : Bool → ℕ → List ℕ → List ℕ
with_number wants n no_room = cond wants (n ∷ no_room) no_room

pub course-with_number : (wants : Bool) (n : ℕ) (no_room : List ℕ) (ls : List (List ℕ)) → unanswered (course no_room ls) ≤ n → course (with_number wants n no_room) ls ≡ course no_room ls
unfolding course
course-with_number true n no_room ls above = course_from-above n no_room start ls (omega arith) above
course-with_number false n no_room ls above = refl

asked_of_number : (wants : Bool) (n : ℕ) (no_room : List ℕ) → list_any (λ k. k == n) no_room ≡ false → list_any (λ k. k == n) (with_number wants n no_room) ≡ wants
asked_of_number true n no_room none = or_left (n == n) (list_any (λ k. k == n) no_room) (eq-eqb n n refl)
asked_of_number false n no_room none = none

pub other_number : (wants : Bool) (m n : ℕ) (no_room : List ℕ) → m < n → list_any (λ k. k == n) no_room ≡ false → list_any (λ k. k == n) (with_number wants m no_room) ≡ false
other_number true m n no_room above none = or_from (m == n) (list_any (λ k. k == n) no_room) (ne_eqb m n (λ e. absurd (omega arith))) none
other_number false m n no_room above none = none

-- a unit that was done is told so
pub unit-answered : (no_room : List ℕ) (c : Course) (u : ScriptUnit) (old new : Kept) (answer : Answer) (d : Does (by_unit u) old new answer)
    → list_any (λ k. k == u.number) no_room ≡ false → c.lists ≡ lists_of old
    → answered_unit (with_number d.no_room u.number no_room) c u ≡ goes_on c u.number (lists_of new, answer)
unit-answered no_room c u old new answer d none lists =
    ap (λ b. goes_on c u.number (unit_told b c.lists u)) (asked_of_number d.no_room u.number no_room none)
    ∙ ap (λ l. goes_on c u.number (unit_told d.no_room l u)) lists
    ∙ ap (goes_on c u.number) d.told

-- ---- the text of a course

-- an answer stands behind the text so far
resolved-grows : (no_room : List ℕ) (c : Course) (t : Taken) → (rest : List ℕ) × ((resolved no_room c t).text ≡ c.text ++ rest)
resolved-grows no_room c (GoesOn u) = ([], sym (append-nil c.text))
resolved-grows no_room c (Ends u) =
    let told = unit_told (list_any (λ n. n == u.number) no_room) c.lists u in
    (answer_text u.number (state_of told.0.standing) told.1, refl)

text_from-grows : (no_room : List ℕ) (c : Course) (ls : List (List ℕ)) → (rest : List ℕ) × ((course_from no_room c ls).text ≡ c.text ++ rest)
text_from-grows no_room c [] = ([], sym (append-nil c.text))
text_from-grows no_room c (l ∷ ls) =
    let more = text_from-grows no_room (advance no_room c l) ls in
    let one = resolved-grows no_room (stepped c) (unit_by (c.lines + 1) c.pending l) in
    let first : (advance no_room c l).text ≡ c.text ++ one.0 = ap (λ d. d.text) (advance-by no_room c l) ∙ one.1 in
    (one.0 ++ more.0, more.1 ∙ ap (λ t. t ++ more.0) first ∙ append_assoc c.text one.0 more.0)

pub text-grows : (no_room : List ℕ) (ls more : List (List ℕ)) → (rest : List ℕ) × ((course no_room (ls ++ more)).text ≡ (course no_room ls).text ++ rest)
unfolding course
text-grows no_room ls more =
    let grown = text_from-grows no_room (course_from no_room start ls) more in
    (grown.0, ap (λ c. c.text) (fold-append (advance no_room) start ls more) ∙ grown.1)
