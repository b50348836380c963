-- A script's course, line by line, leads where the report of its units does.
use Rattle.std.proofs.Common.{◌≡◌, ℕ, ◌+◌, List, [], ◌∷◌, length, Option, None, Some, refl, sym, ap, ◌∙◌, inl, inr, arith}
use Rattle.std.specs.Prelude.{fold as fold_list}
use Rattle.std.proofs.lemmas.Bool.{cases_Bool}
use Rattle.std.proofs.lemmas.List.Sums.{fold-append}
use Rattle.sgb_shell.specs.Group.{closes}
use Rattle.sgb_shell.specs.Lines.{whole_lines, lines}
use Rattle.sgb_shell.specs.Private.Course.{Course, course, whole_course, ended}
use Rattle.sgb_shell.specs.Transcript.{Report, report, nothing, with_unit, script_report, transcript, whole_transcript}
use Rattle.sgb_shell.specs.Unit.{ScriptUnit, alone, opened, with_line, closed_by, takes_lines}
use Rattle.sgb_shell.specs.Units.{Cut, cut, units, all_units, one_or_none}
use Rattle.sgb_shell.proofs.Courses.{course_from}

abbrev report_from : List ℕ → Report → List ScriptUnit → Report
report_from no_room r us = fold_list (with_unit no_room) r us

abbrev with_report : ℕ → Option ScriptUnit → Report → Course
with_report n pending r = record { lines = n; pending = pending; lists = r.lists; refused = r.refused; text = r.text }

abbrev led_by : List ℕ → ℕ → Report → Cut → Course
led_by no_room n r k = with_report n k.pending (report_from no_room r k.units)

one_line : (no_room : List ℕ) (n : ℕ) (l : List ℕ) (ls : List (List ℕ)) (r : Report) (k : Cut) → led_by no_room (n + 1 + length ls) r k ≡ led_by no_room (n + length (l ∷ ls)) r k
one_line no_room n l ls r k = ap (λ j. led_by no_room j r k) (omega arith)

from_cut : (no_room : List ℕ) (n : ℕ) (pending : Option ScriptUnit) (r : Report) (ls : List (List ℕ))
    → course_from no_room (with_report n pending r) ls ≡ led_by no_room (n + length ls) r (cut (n + 1) pending ls)
unfolding cut
from_cut no_room n pending r [] = ap (λ k. with_report k pending r) (omega arith)
from_cut no_room n None r (l ∷ ls) = elim (cases_Bool (takes_lines l)) [
  | inl takes ↦
      let u = opened (n + 1) l in
      rw takes (from_cut no_room (n + 1) (Some u) r ls ∙ one_line no_room n l ls r (cut (n + 1 + 1) (Some u) ls))
  | inr other ↦
      let u = alone (n + 1) l in
      rw other (from_cut no_room (n + 1) None (with_unit no_room r u) ls ∙ one_line no_room n l ls (with_unit no_room r u) (cut (n + 1 + 1) None ls))
]
from_cut no_room n (Some u) r (l ∷ ls) = elim (cases_Bool (closes u l)) [
  | inl closing ↦
      let v = closed_by u l in
      rw closing (from_cut no_room (n + 1) None (with_unit no_room r v) ls ∙ one_line no_room n l ls (with_unit no_room r v) (cut (n + 1 + 1) None ls))
  | inr going ↦
      let v = with_line u l in
      rw going (from_cut no_room (n + 1) (Some v) r ls ∙ one_line no_room n l ls r (cut (n + 1 + 1) (Some v) ls))
]

course-cut : (no_room : List ℕ) (ls : List (List ℕ)) → course no_room ls ≡ led_by no_room (0 + length ls) nothing (cut 1 None ls)
unfolding course
course-cut no_room ls = from_cut no_room 0 None nothing ls

pub whole_text : (no_room script : List ℕ) → (course no_room (whole_lines script)).text ≡ whole_transcript no_room script
whole_text no_room script = ap (λ c. c.text) (course-cut no_room (whole_lines script))

abbrev report_of : Course → Report
report_of c = record { lists = c.lists; refused = c.refused; text = c.text }

ended-report : (no_room : List ℕ) (c : Course) (o : Option ScriptUnit) → report_of (ended no_room c o) ≡ report_from no_room (report_of c) (one_or_none o)
ended-report no_room c None = refl
ended-report no_room c (Some u) = refl

whole_report : (no_room : List ℕ) (ls : List (List ℕ)) → report_of (whole_course no_room ls) ≡ report no_room (all_units ls)
unfolding whole_course
whole_report no_room ls =
    ap (λ c. report_of (ended no_room c c.pending)) (course-cut no_room ls)
    ∙ ended-report no_room (led_by no_room (0 + length ls) nothing (cut 1 None ls)) (cut 1 None ls).pending
    ∙ sym (fold-append (with_unit no_room) nothing (units ls) (one_or_none (cut 1 None ls).pending))

pub all_text : (no_room script : List ℕ) → (whole_course no_room (lines script)).text ≡ transcript no_room script
all_text no_room script = ap (λ (r : Report). r.text) (whole_report no_room (lines script))

pub all_refused : (no_room script : List ℕ) → (whole_course no_room (lines script)).refused ≡ (script_report no_room script).refused
all_refused no_room script = ap (λ (r : Report). r.refused) (whole_report no_room (lines script))
