-- What a text is read as.
use Rattle.std.specs.Prelude.{ℕ, Bool, true, false, List, Option, Some, None, Result, Ok, Err, if◌then◌else◌}
use Rattle.sgb_graph.specs.Graph.{GraphOf}
use Rattle.sgb_graph.specs.declared.refusal.Refusal.{Refusal}
use Rattle.sgb_graph.specs.declared.refusal.Refusal.TheVariants.{TooLarge, CheckWrong, Syntax}
use Rattle.sgb_graph.specs.Linked.{graph_of_parts}
use Rattle.sgb_grammar.specs.declared.header.Header.{Header}
use Rattle.sgb_grammar.specs.Header.{header_at}
use Rattle.sgb_grammar.specs.Saved.{SavedOf, saved_in}
use Rattle.sgb_text.specs.declared.restoring.CheckRule.{CheckRule}
use Rattle.sgb_text.specs.Restore.{is_within_limits, passes}

-- the graph of the parts, where there is one and its check number passes
abbrev pub graph_passed : Bool → Option GraphOf → Result GraphOf Refusal
graph_passed passed None = Err Syntax
graph_passed true (Some g) = Ok g
graph_passed false (Some g) = Err CheckWrong

abbrev pub graph_saved : CheckRule → Option SavedOf → Result GraphOf Refusal
graph_saved rule None = Err Syntax
graph_saved rule (Some s) = graph_passed (passes rule s.number s.body) (graph_of_parts s.parts)

abbrev pub graph_under : CheckRule → Option (Header × List ℕ) → Result GraphOf Refusal
graph_under rule None = Err Syntax
graph_under rule (Some line) = if is_within_limits line.0 then graph_saved rule (saved_in line.0 line.1) else Err TooLarge

-- the graph, or the first refusal: of the first line, of its counts, of what stands behind it, of the check number
unfoldable pub read_as : CheckRule → List ℕ → Result GraphOf Refusal
read_as rule text = graph_under rule (header_at text)

-- whether the text begins with a good first line whose counts are within the limits
abbrev pub fits : Option (Header × List ℕ) → Bool
fits None = false
fits (Some line) = is_within_limits line.0

abbrev pub begins_well : List ℕ → Bool
begins_well text = fits (header_at text)
