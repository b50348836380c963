-- What is written of a text of another tool.
use Rattle.std.specs.Prelude.{◌≡◌, ℕ, List, Some, Result, Ok, Err}
use Rattle.sgb_graph.specs.Graph.{GraphOf}
use Rattle.sgb_import.specs.Import.{Spells, refusal_of_import}
use Rattle.sgb_import.specs.declared.refusal.ImportRefusal.{ImportRefusal}
use Rattle.sgb_import.specs.declared.source.Source.{Source}
use Rattle.sgb_print.specs.Meter.{WriterUse}
use Rattle.sgb_print.specs.Print.{Prints}
use Rattle.sgb_print.specs.declared.fault.RunFault.{RunFault}
use Rattle.sgb_text.specs.Clean.{clean_of}
use Rattle.sgb_text.specs.Save.{text_of}
use Rattle.sgb_programs.specs.Ends.{UnlessNoRoom}

-- the saved text of the graph that a text spells is printed, or the refusal is the answer and nothing is written
abbrev pub ImportsText : {W : Type 0} → Source → List ℕ → WriterUse W → WriterUse W → Result (Result (Unit {0}) ImportRefusal) RunFault → Type 0
ImportsText source text old new (Ok (Err e)) = (refusal_of_import source text ≡ Some e) × (new ≡ old)
ImportsText source text old new result = UnlessNoRoom old new result ((g : GraphOf) × Spells source text g × Prints old new result (text_of (clean_of g)))
