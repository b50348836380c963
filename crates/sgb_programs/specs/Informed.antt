-- What is written of the facts of a saved text's graph.
use Rattle.std.specs.Prelude.{◌≡◌, ℕ, List, Option, Some, None, Result, Ok, Err, IsOkAnd}
use Rattle.sgb_graph.specs.declared.refusal.Refusal.{Refusal}
use Rattle.sgb_graph.specs.Graph.{GraphOf}
use Rattle.sgb_graph.specs.Operand.{refusal_of_operand}
use Rattle.sgb_print.specs.Meter.{WriterUse}
use Rattle.sgb_print.specs.Print.{Prints}
use Rattle.sgb_print.specs.declared.fault.RunFault.{RunFault}
use Rattle.sgb_text.specs.declared.restoring.CheckRule.{CheckRule}
use Rattle.sgb_text.specs.Read.{read_as}
use Rattle.sgb_info.specs.Info.{IsInfo}
use Rattle.sgb_programs.specs.Ends.{UnlessNoRoom}

-- the graph, unless it is refused
abbrev pub graph_unless : Option Refusal → GraphOf → Result GraphOf Refusal
graph_unless None g = Ok g
graph_unless (Some e) g = Err e

abbrev pub operand_in : Result GraphOf Refusal → Result GraphOf Refusal
operand_in (Ok g) = graph_unless (refusal_of_operand g) g
operand_in (Err e) = Err e

-- the graph of a text, or the first refusal: of the text, of an arc that leads to no vertex
unfoldable pub informed : CheckRule → List ℕ → Result GraphOf Refusal
informed rule text = operand_in (read_as rule text)

-- the text of the graph's facts is printed
pub record PrintsInfo {W X E : Type 0} (old new : WriterUse W) (result : Result X E) (g : GraphOf) : Type 0 where
  pub text : List ℕ
  pub info : IsInfo g text
  pub prints : Prints old new result text

-- the facts of the graph are printed, or the refusal is the answer and nothing is written
abbrev pub Informs : {W : Type 0} → Result GraphOf Refusal → WriterUse W → WriterUse W → Result (Result (Unit {0}) Refusal) RunFault → Type 0
Informs read old new (Ok (Err e)) = (read ≡ Err e) × (new ≡ old)
Informs read old new result = UnlessNoRoom old new result (IsOkAnd read (PrintsInfo old new result))
