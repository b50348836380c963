-- Which values are stored.
use Rattle.std.specs.Prelude.{◌≢◌, pos, [], FitsSigned}
use Rattle.std.specs.Int.{w64}
use Rattle.sgb_graph.specs.declared.field.Util.{Util}
use Rattle.sgb_graph.specs.declared.field.Util.TheVariants.{Zero, Int, Vertex, Arc, Text}
use Rattle.sgb_graph.specs.Text.{IsText}

-- a value that a graph may hold, but for what it names
abbrev pub IsStorable : Util → Type 0
IsStorable Zero = Unit {0}
IsStorable (Int z) = (z ≢ pos 0) × FitsSigned w64 z
IsStorable (Vertex v) = Unit {0}
IsStorable (Arc a) = Unit {0}
IsStorable (Text t) = (t ≢ []) × IsText t
