-- What a text is read as is what accepts or refuses it.
use Rattle.std.proofs.Common.{◌≡◌, ◌⊎◌, ℕ, Bool, true, false, List, Option, Some, None, Result, Ok, Err, IfOk, IfErr, IsErrOf, refl, sym, ap, subst, ◌∙◌, inl, inr, if◌then◌else◌}
use Rattle.sgb_graph.specs.Graph.{GraphOf}
use Rattle.sgb_graph.specs.declared.refusal.Refusal.{Refusal}
use Rattle.sgb_graph.specs.declared.refusal.Refusal.TheVariants.{NoRoom, TooLarge, BadOperand, CheckWrong, Syntax, BadSpecs, LengthRange, Stuck}
use Rattle.sgb_graph.specs.Linked.{graph_of_parts}
use Rattle.sgb_graph.proofs.LinkedParts.{built_some, some_built}
use Rattle.sgb_grammar.specs.declared.header.Header.{Header}
use Rattle.sgb_grammar.specs.Header.{header_at}
use Rattle.sgb_grammar.specs.Saved.{SavedOf, saved_in}
use Rattle.sgb_grammar.specs.Spelled.{FirstLine, HasNoFirstLine}
use Rattle.sgb_grammar.proofs.SpelledRecords.{header_spelled, header_read, saved_spelled, saved_read}
use Rattle.sgb_text.specs.declared.restoring.CheckRule.{CheckRule}
use Rattle.sgb_text.specs.declared.restoring.CheckRule.TheVariants.{Any}
use Rattle.sgb_text.specs.Restore.{Reads, Accepted, Refused, IsSpoiled, is_within_limits, passes}
use Rattle.sgb_text.proofs.Exactness.{has_header}
use Rattle.sgb_text.specs.Read.{begins_well, graph_passed, graph_saved, graph_under, read_as}

-- ---- from the relations

within_read : (rule : CheckRule) (t : List ℕ) (h : Header) (lines : List ℕ) → FirstLine h t lines → is_within_limits h ≡ true → read_as rule t ≡ graph_saved rule (saved_in h lines)
unfolding read_as
within_read rule t h lines first within = rw (header_read t lines h first, within) refl

reads_read : (rule : CheckRule) (t : List ℕ) (g : GraphOf) (s : SavedOf) → Reads t g s → read_as rule t ≡ graph_passed (passes rule s.number s.body) (Some g)
reads_read rule t g s r =
    within_read rule t r.header r.lines r.first r.within
    ∙ ap (graph_saved rule) (saved_read r.header r.lines s r.spelled)
    ∙ ap (graph_passed (passes rule s.number s.body)) (built_some s.parts g r.graph)

pub accepted_read : (rule : CheckRule) (t : List ℕ) (g : GraphOf) → Accepted rule t g → read_as rule t ≡ Ok g
accepted_read rule t g a = reads_read rule t g a.saved a.reads ∙ ap (λ b. graph_passed b (Some g)) a.passed

no_line : (t : List ℕ) (o : Option (Header × List ℕ)) → header_at t ≡ o → HasNoFirstLine t → o ≡ None
no_line t None e none = refl
no_line t (Some line) e none = absurd (none line.0 line.1 (header_spelled t line e))

spoiled_parts : (rule : CheckRule) (t : List ℕ) (h : Header) (lines : List ℕ) (s : SavedOf) (o : Option GraphOf)
    → FirstLine h t lines → is_within_limits h ≡ true → saved_in h lines ≡ Some s → graph_of_parts s.parts ≡ o → IsSpoiled t
    → graph_passed (passes rule s.number s.body) o ≡ Err Syntax
spoiled_parts rule t h lines s None first within text e none = refl
spoiled_parts rule t h lines s (Some g) first within text e none =
    absurd (none g s (record { header = h; lines = lines; first = first; within = within; spelled = saved_spelled h lines s text; graph = some_built s.parts g e }))

spoiled_lines : (rule : CheckRule) (t : List ℕ) (h : Header) (lines : List ℕ) (o : Option SavedOf)
    → FirstLine h t lines → is_within_limits h ≡ true → saved_in h lines ≡ o → IsSpoiled t → graph_saved rule o ≡ Err Syntax
spoiled_lines rule t h lines None first within e none = refl
spoiled_lines rule t h lines (Some s) first within e none = spoiled_parts rule t h lines s (graph_of_parts s.parts) first within e refl none

pub refused_read : (rule : CheckRule) (t : List ℕ) (e : Refusal) → Refused rule t e → (e ≡ NoRoom) ⊎ (read_as rule t ≡ Err e)
unfolding read_as
refused_read rule t NoRoom r = inl refl
refused_read rule t Syntax (inl none) = inr (ap (graph_under rule) (no_line t (header_at t) refl none))
refused_read rule t Syntax (inr (line, none)) =
    inr (within_read rule t line.header line.lines line.first line.limits ∙ spoiled_lines rule t line.header line.lines (saved_in line.header line.lines) line.first line.limits refl none)
refused_read rule t TooLarge line = inr (rw (header_read t line.lines line.header line.first, line.limits) refl)
refused_read rule t CheckWrong w = inr (reads_read rule t w.graph w.saved w.reads ∙ ap (λ b. graph_passed b (Some w.graph)) w.failed)
refused_read rule t BadOperand r = absurd r
refused_read rule t BadSpecs r = absurd r
refused_read rule t LengthRange r = absurd r
refused_read rule t Stuck r = absurd r

-- ---- what restoring answers

pub graph_read : (rule : CheckRule) (t : List ℕ) (r : Result GraphOf Refusal) → IfOk r (λ g. Accepted rule t g) → IfOk r (λ g. read_as rule t ≡ Ok g)
graph_read rule t (Ok g) a = accepted_read rule t g a
graph_read rule t (Err e) a = tt

pub refusal_read : (rule : CheckRule) (t : List ℕ) (r : Result GraphOf Refusal) → IfErr r (λ e. Refused rule t e) → IfErr r (λ e. (e ≡ NoRoom) ⊎ (read_as rule t ≡ Err e))
refusal_read rule t (Ok g) a = tt
refusal_read rule t (Err e) a = refused_read rule t e a

-- ---- to the relations

abbrev Answers : CheckRule → List ℕ → Result GraphOf Refusal → Type 0
Answers rule t (Ok g) = Accepted rule t g
Answers rule t (Err e) = Refused rule t e

line_read : (rule : CheckRule) (t : List ℕ) (h : Header) (lines : List ℕ) → header_at t ≡ Some (h, lines) → is_within_limits h ≡ true → read_as rule t ≡ graph_saved rule (saved_in h lines)
unfolding read_as
line_read rule t h lines line within = rw (line, within) refl

spoiled_by : (t : List ℕ) → read_as Any t ≡ Err Syntax → IsSpoiled t
spoiled_by t e g s r = let wrong : Ok g ≡ Err Syntax = sym (reads_read Any t g s r) ∙ e in cc

reads_of : (t : List ℕ) (s : SavedOf) (h : Header) (lines : List ℕ) (g : GraphOf)
    → header_at t ≡ Some (h, lines) → is_within_limits h ≡ true → saved_in h lines ≡ Some s → graph_of_parts s.parts ≡ Some g → Reads t g s
reads_of t s h lines g line within text parts = record {
  header = h;
  lines = lines;
  first = header_spelled t (h, lines) line;
  within = within;
  spelled = saved_spelled h lines s text;
  graph = some_built s.parts g parts;
}

passed_answers : (rule : CheckRule) (t : List ℕ) (s : SavedOf) (h : Header) (lines : List ℕ) (o : Option GraphOf) (b : Bool)
    → header_at t ≡ Some (h, lines) → is_within_limits h ≡ true → saved_in h lines ≡ Some s → graph_of_parts s.parts ≡ o → passes rule s.number s.body ≡ b
    → Answers rule t (graph_passed b o)
passed_answers rule t s h lines None b line within text parts passed =
    inr (has_header (header_spelled t (h, lines) line) within, spoiled_by t (line_read Any t h lines line within ∙ ap (graph_saved Any) text ∙ ap (graph_passed true) parts))
passed_answers rule t s h lines (Some g) true line within text parts passed =
    record { saved = s; reads = reads_of t s h lines g line within text parts; passed = passed }
passed_answers rule t s h lines (Some g) false line within text parts passed =
    record { graph = g; saved = s; reads = reads_of t s h lines g line within text parts; failed = passed }

saved_answers : (rule : CheckRule) (t : List ℕ) (h : Header) (lines : List ℕ) (o : Option SavedOf)
    → header_at t ≡ Some (h, lines) → is_within_limits h ≡ true → saved_in h lines ≡ o → Answers rule t (graph_saved rule o)
saved_answers rule t h lines None line within text =
    inr (has_header (header_spelled t (h, lines) line) within, spoiled_by t (line_read Any t h lines line within ∙ ap (graph_saved Any) text))
saved_answers rule t h lines (Some s) line within text =
    passed_answers rule t s h lines (graph_of_parts s.parts) (passes rule s.number s.body) line within text refl refl

limited_answers : (rule : CheckRule) (t : List ℕ) (h : Header) (lines : List ℕ) (b : Bool)
    → header_at t ≡ Some (h, lines) → is_within_limits h ≡ b → Answers rule t (if b then graph_saved rule (saved_in h lines) else Err TooLarge)
limited_answers rule t h lines false line within = has_header (header_spelled t (h, lines) line) within
limited_answers rule t h lines true line within = saved_answers rule t h lines (saved_in h lines) line within refl

line_answers : (rule : CheckRule) (t : List ℕ) (o : Option (Header × List ℕ)) → header_at t ≡ o → Answers rule t (graph_under rule o)
line_answers rule t None line = inl (λ h lines first. let wrong : None ≡ Some (h, lines) = sym line ∙ header_read t lines h first in cc)
line_answers rule t (Some p) line = limited_answers rule t p.0 p.1 (is_within_limits p.0) line refl

read_answers : (rule : CheckRule) (t : List ℕ) → Answers rule t (read_as rule t)
unfolding read_as
read_answers rule t = line_answers rule t (header_at t) refl

pub read_accepted : (rule : CheckRule) (t : List ℕ) (g : GraphOf) → read_as rule t ≡ Ok g → Accepted rule t g
read_accepted rule t g e = subst (Answers rule t) e (read_answers rule t)

pub read_begins : (rule : CheckRule) (t : List ℕ) (g : GraphOf) → read_as rule t ≡ Ok g → begins_well t ≡ true
read_begins rule t g e =
    let r = (read_accepted rule t g e).reads in
    rw (header_read t r.lines r.header r.first) r.within

pub read_refused : (rule : CheckRule) (t : List ℕ) (e : Refusal) → read_as rule t ≡ Err e → Refused rule t e
read_refused rule t e is = subst (Answers rule t) is (read_answers rule t)

pub room_read : (rule : CheckRule) (t : List ℕ) (r : Result GraphOf Refusal) → IfErr r (λ e. Refused rule t e) → IsErrOf r NoRoom → begins_well t ≡ true
room_read rule t (Ok g) a is = cc
room_read rule t (Err NoRoom) a is = rw (header_read t a.lines a.header a.first) a.limits
room_read rule t (Err e) a is = cc
