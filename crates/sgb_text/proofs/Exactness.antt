-- A text has one graph, and its refusals exclude each other.
use Rattle.std.proofs.Common.{◌≡◌, ◌⊎◌, ℕ, List, Bool, refl, sym, ap, subst, ◌∙◌, inl, inr}
use Rattle.std.proofs.lemmas.Bool.{both_ways}
use Rattle.sgb_graph.specs.Graph.{GraphOf}
use Rattle.sgb_graph.specs.Parts.{Builds}
use Rattle.sgb_graph.specs.declared.parts.Parts.{Parts}
use Rattle.sgb_graph.specs.declared.refusal.Refusal.{Refusal}
use Rattle.sgb_graph.specs.declared.refusal.Refusal.TheVariants.{NoRoom, TooLarge, BadOperand, CheckWrong, Syntax, BadSpecs, LengthRange, Stuck}
use Rattle.sgb_grammar.specs.declared.fault.Fault.{Fault}
use Rattle.sgb_grammar.specs.declared.fault.Fault.TheVariants as faults
use Rattle.sgb_grammar.specs.declared.header.Header.{Header}
use Rattle.sgb_grammar.specs.Saved.{SavedOf}
use Rattle.sgb_grammar.specs.Spelled.{FirstLine, SavedText, WholeText, SpellsNothing, IsOnlyLine, IsOnlyText}
use Rattle.sgb_text.specs.declared.restoring.CheckRule.{CheckRule}
use Rattle.sgb_text.specs.Restore.{Reads, Accepted, Refused, HasHeader, IsSpoiled, is_within_limits, passes}

-- a text spells one first line, and one list of parts with one number and one body
abbrev HasOneLine : Type 0
HasOneLine = (t : List ℕ) (h : Header) (lines : List ℕ) → FirstLine h t lines → IsOnlyLine t h lines

abbrev HasOneText : Type 0
HasOneText = (t : List ℕ) (h k : Header) (s r : SavedOf) → WholeText h s t → WholeText k r t → (h ≡ k) × (s ≡ r)

one_saved : HasOneText → (t : List ℕ) (g h : GraphOf) (s r : SavedOf) → Reads t g s → Reads t h r → s ≡ r
one_saved once t g h s r a b = (once t a.header b.header s r (a.lines, a.first, a.spelled) (b.lines, b.first, b.spelled)).1

pub has_header : {t : List ℕ} {h : Header} {lines : List ℕ} {b : Bool} → FirstLine h t lines → is_within_limits h ≡ b → HasHeader t b
has_header {t} {h} {lines} first limits = record { header = h; lines = lines; first = first; limits = limits }

-- what a fault of spelling says
pub nothing : (h : Header) (bs : List ℕ) (e : Fault) → e ≡ faults.Syntax → (e ≡ faults.NoRoom) ⊎ ((e ≡ faults.Syntax) × SpellsNothing h bs) → SpellsNothing h bs
nothing h bs e same (inl room) = let bad : faults.Syntax ≡ faults.NoRoom = sym same ∙ room in cc
nothing h bs e same (inr (syntax, none)) = none

-- no graph is spelled where the only first line is this one, and nothing is spelled behind it, or parts of no graph
pub spoiled : (t : List ℕ) (h : Header) (lines : List ℕ) → IsOnlyLine t h lines → SpellsNothing h lines → IsSpoiled t
spoiled t h lines line none g s r =
    let same = line r.header r.lines r.first in
    none s (subst (λ k. SavedText k s lines) same.0 (subst (λ bs. SavedText r.header s bs) same.1 r.spelled))

pub partless : (t : List ℕ) (h : Header) (lines : List ℕ) (s : SavedOf) → IsOnlyLine t h lines → IsOnlyText h s lines → ((g : GraphOf) → Builds s.parts g → ⊥) → IsSpoiled t
partless t h lines s line text none g r a =
    let same = line a.header a.lines a.first in
    let saved : r ≡ s = text r (subst (λ k. SavedText k r lines) same.0 (subst (λ bs. SavedText a.header r bs) same.1 a.spelled)) in
    none g (subst (λ (x : SavedOf). Builds x.parts g) saved a.graph)

pub one_graph : ((p : Parts) (g h : GraphOf) → Builds p g → Builds p h → g ≡ h) → HasOneText
    → (rule other : CheckRule) (t : List ℕ) (g h : GraphOf) → Accepted rule t g → Accepted other t h → g ≡ h
one_graph law once rule other t g h a b =
    let same = one_saved once t g h a.saved b.saved a.reads b.reads in
    law a.saved.parts g h a.reads.graph (subst (λ (s : SavedOf). Builds s.parts h) (sym same) b.reads.graph)

pub refused_for_room : HasOneLine → HasOneText → (rule : CheckRule) (t : List ℕ) (g : GraphOf) (e : Refusal) → Accepted rule t g → Refused rule t e → e ≡ NoRoom
refused_for_room line once rule t g NoRoom a r = refl
refused_for_room line once rule t g Syntax a (inl bad) = absurd (bad a.reads.header a.reads.lines a.reads.first)
refused_for_room line once rule t g Syntax a (inr spoiled) = absurd (spoiled.1 g a.saved a.reads)
refused_for_room line once rule t g TooLarge a r =
    let header = (line t r.header r.lines r.first a.reads.header a.reads.lines a.reads.first).0 in
    absurd (both_ways (is_within_limits r.header) r.limits (sym (ap (λ (h : Header). is_within_limits h) header) ∙ a.reads.within))
refused_for_room line once rule t g CheckWrong a r =
    let saved = one_saved once t g r.graph a.saved r.saved a.reads r.reads in
    let same : passes rule a.saved.number a.saved.body ≡ passes rule r.saved.number r.saved.body = ap (λ (s : SavedOf). passes rule s.number s.body) saved in
    absurd (both_ways (passes rule r.saved.number r.saved.body) r.failed (sym same ∙ a.passed))
refused_for_room line once rule t g BadOperand a r = absurd r
refused_for_room line once rule t g BadSpecs a r = absurd r
refused_for_room line once rule t g LengthRange a r = absurd r
refused_for_room line once rule t g Stuck a r = absurd r
