-- Which graphs are refused, and what an export does to a writer.
use Rattle.std.specs.Prelude.{◌≡◌, ◌⊎◌, Option, Some, None, Bool, true, false, not, Result, Err}
use Rattle.std.specs.Option.{option_or}
use Rattle.sgb_graph.specs.declared.refusal.Refusal.{Refusal}
use Rattle.sgb_graph.specs.declared.refusal.Refusal.TheVariants.{NoRoom, BadOperand}
use Rattle.sgb_graph.specs.Graph.{GraphOf}
use Rattle.sgb_graph.specs.Edit.{refusal_unless}
use Rattle.sgb_graph.specs.Operand.{refusal_of_operand}
use Rattle.sgb_print.specs.Meter.{WriterUse}
use Rattle.sgb_print.specs.Print.{Prints}
use Rattle.sgb_export.specs.declared.fault.ExportFault.{ExportFault}
use Rattle.sgb_export.specs.declared.fault.ExportFault.TheVariants.{Refused}
use Rattle.sgb_export.specs.declared.format.Format.{Format}
use Rattle.sgb_export.specs.declared.format.Format.TheVariants.{PlacedDot, Col, NamedEdges, Graph6}
use Rattle.sgb_export.specs.Dot.{are_placed}
use Rattle.sgb_export.specs.Edges.{are_plain, are_distinct}
use Rattle.sgb_export.specs.Links.{is_directed}
use Rattle.sgb_export.specs.Simple.{is_simple}
use Rattle.sgb_export.specs.Text.{export_text}

-- labels stand for vertices if each fits in a line and no two are the same
abbrev pub refusal_of_names : GraphOf → Option Refusal
refusal_of_names g = refusal_unless (are_plain g) BadOperand (refusal_unless (are_distinct g) BadOperand None)

-- endpoints tell an edge if the graph is undirected, without loops and without repeated edges
abbrev pub refusal_of_edges : GraphOf → Option Refusal
refusal_of_edges g = refusal_unless (not (is_directed g)) BadOperand (refusal_unless (is_simple g) BadOperand None)

-- what a format refuses
abbrev pub refusal_of_format : Format → GraphOf → Option Refusal
refusal_of_format PlacedDot g = refusal_unless (are_placed g) BadOperand None
refusal_of_format Col g = refusal_of_edges g
refusal_of_format NamedEdges g = refusal_of_names g
refusal_of_format Graph6 g = refusal_of_edges g
refusal_of_format format g = None

-- the first refusal but for failed allocations: an arc leads to no vertex, or the format refuses the graph
abbrev pub refusal_of_export : Format → GraphOf → Option Refusal
refusal_of_export format g = option_or (refusal_of_operand g) (refusal_of_format format g)

-- labels are indexed if each fits in a line; edges are compared if the graph is undirected
abbrev pub allocates : Format → GraphOf → Bool
allocates Col g = not (is_directed g)
allocates NamedEdges g = are_plain g
allocates Graph6 g = not (is_directed g)
allocates format g = false

-- where an export may fail to allocate
pub record MayAllocate (format : Format) (g : GraphOf) : Type 0 where
  pub operand : refusal_of_operand g ≡ None
  pub memory : allocates format g ≡ true

-- what an export does to a writer: the graph is refused and nothing is written, or its text is printed
abbrev pub Exports : {W : Type 0} → Format → GraphOf → WriterUse W → WriterUse W → Result (Unit {0}) ExportFault → Type 0
Exports format g old new (Err (Refused e)) = ((e ≡ NoRoom) ⊎ (refusal_of_export format g ≡ Some e)) × (new ≡ old)
Exports format g old new result = (refusal_of_export format g ≡ None) × Prints old new result (export_text format g)
