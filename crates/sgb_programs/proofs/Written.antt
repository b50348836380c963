-- What is written of a text, from what its reading and its export answer.
use Rattle.std.proofs.Common.{◌≡◌, ◌∙◌, ℕ, List, None, Some, Result, Ok, Err, ap, sym, subst, inl, inr}
use Rattle.std.specs.Prelude.{◌⊎◌, ◌≢◌, IfOk, IfErr, IsOkAnd}
use Rattle.sgb_graph.specs.declared.refusal.Refusal.{Refusal}
use Rattle.sgb_graph.specs.declared.refusal.Refusal.TheVariants as refusals
use Rattle.sgb_graph.specs.Graph.{GraphOf}
use Rattle.sgb_print.specs.Meter.{WriterUse}
use Rattle.sgb_print.specs.Print.{Prints}
use Rattle.sgb_print.specs.declared.fault.RunFault.{RunFault}
use Rattle.sgb_print.specs.declared.fault.RunFault.TheVariants as faults
use Rattle.sgb_print.proofs.TextPieces.{prints_done, prints_failed}
use Rattle.sgb_text.specs.declared.restoring.CheckRule.{CheckRule}
use Rattle.sgb_text.specs.Read.{read_as}
use Rattle.sgb_export.specs.declared.fault.ExportFault.{ExportFault}
use Rattle.sgb_export.specs.declared.fault.ExportFault.TheVariants as exporting
use Rattle.sgb_export.specs.declared.format.Format.{Format}
use Rattle.sgb_export.specs.Export.{refusal_of_export, Exports}
use Rattle.sgb_export.specs.Text.{export_text}
use Rattle.sgb_programs.specs.Exported.{exported, text_in, text_unless, ExportsText}

module _ {W : Type 0} (old new : WriterUse W) (rule : CheckRule) (format : Format) (text : List ℕ) where
  -- ---- the text of the graph

  graph_exported : {X E : Type 0} (result : Result X E) (g : GraphOf) → read_as rule text ≡ Ok g → refusal_of_export format g ≡ None
      → Prints old new result (export_text format g) → IsOkAnd (exported rule format text) (Prints old new result)
  unfolding exported
  graph_exported result g read accepted w =
      subst (λ o. IsOkAnd o (Prints old new result)) (sym (ap (text_in format) read ∙ ap (λ o. text_unless o (export_text format g)) accepted)) w

  pub whole_exported : (g : GraphOf) (x : Unit {0}) → read_as rule text ≡ Ok g → Exports format g old new (Ok x) → ExportsText (exported rule format text) old new (Ok (Ok tt))
  whole_exported g x read w = graph_exported (Ok (Ok tt)) g read w.0 (prints_done w.1)

  pub front_exported : (g : GraphOf) (fault : ExportFault) → read_as rule text ≡ Ok g → fault ≡ exporting.Write → Exports format g old new (Err fault)
      → ExportsText (exported rule format text) old new (Err faults.Write)
  front_exported g fault read is w =
      let made : Exports format g old new (Err exporting.Write) = subst (λ f. Exports format g old new (Err f)) is w in
      graph_exported (Err faults.Write) g read made.0 (prints_failed made.1)

  -- ---- a refusal

  -- a failed allocation is a fault, and each other refusal is the answer
  refusal_told : (e : Refusal) (result : Result (Result (Unit {0}) Refusal) RunFault) → IfOk result (λ answer. (answer ≡ Err e) × (e ≢ refusals.NoRoom))
      → IfErr result (λ fault. fault ≡ faults.NoRoom) → (e ≢ refusals.NoRoom → exported rule format text ≡ Err e) → new ≡ old
      → ExportsText (exported rule format text) old new result
  refusal_told e (Ok (Ok x)) answer fault refused kept = let bad = answer.0 in absurd cc
  refusal_told e (Ok (Err r)) answer fault refused kept =
      let same : r ≡ e = (let is = answer.0 in cc) in
      (refused answer.1 ∙ ap Err (sym same), kept)
  refusal_told e (Err f) answer fault refused kept = subst (λ other. ExportsText (exported rule format text) old new (Err other)) (sym fault) kept

  pub text_refused : (e : Refusal) (result : Result (Result (Unit {0}) Refusal) RunFault) → (e ≡ refusals.NoRoom) ⊎ (read_as rule text ≡ Err e)
      → IfOk result (λ answer. (answer ≡ Err e) × (e ≢ refusals.NoRoom)) → IfErr result (λ fault. fault ≡ faults.NoRoom) → new ≡ old
      → ExportsText (exported rule format text) old new result
  unfolding exported
  text_refused e result (inl none) answer fault kept = refusal_told e result answer fault (λ other. absurd (other none)) kept
  text_refused e result (inr same) answer fault kept = refusal_told e result answer fault (λ _. ap (text_in format) same) kept

  graph_refused : (g : GraphOf) (e : Refusal) → read_as rule text ≡ Ok g
      → (e ≡ refusals.NoRoom) ⊎ (refusal_of_export format g ≡ Some e) → e ≢ refusals.NoRoom → exported rule format text ≡ Err e
  unfolding exported
  graph_refused g e read (inl none) other = absurd (other none)
  graph_refused g e read (inr refused) other = ap (text_in format) read ∙ ap (λ o. text_unless o (export_text format g)) refused

  pub export_refused : (g : GraphOf) (fault : ExportFault) (e : Refusal) (result : Result (Result (Unit {0}) Refusal) RunFault) → read_as rule text ≡ Ok g
      → fault ≡ exporting.Refused e → Exports format g old new (Err fault) → IfOk result (λ answer. (answer ≡ Err e) × (e ≢ refusals.NoRoom))
      → IfErr result (λ f. f ≡ faults.NoRoom) → ExportsText (exported rule format text) old new result
  export_refused g fault e result read is w answer told =
      let made : Exports format g old new (Err (exporting.Refused e)) = subst (λ f. Exports format g old new (Err f)) is w in
      refusal_told e result answer told (graph_refused g e read made.0) made.1
