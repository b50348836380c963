-- What is written of a saved text in the format of another tool.
use Rattle.std.specs.Prelude.{◌≡◌, ℕ, List, Option, Some, None, Result, Ok, Err, IsOkAnd}
use Rattle.sgb_graph.specs.declared.refusal.Refusal.{Refusal}
use Rattle.sgb_graph.specs.Graph.{GraphOf}
use Rattle.sgb_print.specs.Meter.{WriterUse}
use Rattle.sgb_print.specs.Print.{Prints}
use Rattle.sgb_print.specs.declared.fault.RunFault.{RunFault}
use Rattle.sgb_text.specs.declared.restoring.CheckRule.{CheckRule}
use Rattle.sgb_text.specs.Read.{read_as}
use Rattle.sgb_export.specs.declared.format.Format.{Format}
use Rattle.sgb_export.specs.Export.{refusal_of_export}
use Rattle.sgb_export.specs.Text.{export_text}
use Rattle.sgb_programs.specs.Ends.{UnlessNoRoom}

-- the text, unless it is refused
abbrev pub text_unless : Option Refusal → List ℕ → Result (List ℕ) Refusal
text_unless None text = Ok text
text_unless (Some e) text = Err e

-- the text of a graph, or the first refusal: of the graph itself, of its export
abbrev pub text_in : Format → Result GraphOf Refusal → Result (List ℕ) Refusal
text_in format (Ok g) = text_unless (refusal_of_export format g) (export_text format g)
text_in format (Err e) = Err e

-- the text of the graph that a saved text is read as
unfoldable pub exported : CheckRule → Format → List ℕ → Result (List ℕ) Refusal
exported rule format text = text_in format (read_as rule text)

-- the text is printed, or the refusal is the answer and nothing is written
abbrev pub ExportsText : {W : Type 0} → Result (List ℕ) Refusal → WriterUse W → WriterUse W → Result (Result (Unit {0}) Refusal) RunFault → Type 0
ExportsText made old new (Ok (Err e)) = (made ≡ Err e) × (new ≡ old)
ExportsText made old new result = UnlessNoRoom old new result (IsOkAnd made (Prints old new result))
