-- The named graphs of a session.
use Rattle.std.specs.Prelude.{ℕ, Bool, List, [], length, Option, is_some, unwrap_or, slice_set, slice_index_or}
use Rattle.std.specs.List.{list_all, position}
use Rattle.std.specs.Str.{bytes_eq}
use Rattle.sgb_graph.specs.Graph.{GraphOf}
use Rattle.sgb_session.specs.declared.table.Entry.{Entry}

-- the place of the first graph of this name
abbrev pub find : List Entry → List ℕ → Option ℕ
find table name = position (λ e. bytes_eq e.name name) table

-- what stands at a place that the table has not
abbrev pub no_entry : Entry
no_entry = record { name = []; graph = record { id = []; types = []; fields = []; vertices = []; entries = [] } }

abbrev pub entry_in : List Entry → ℕ → Entry
entry_in table i = slice_index_or table i no_entry

abbrev pub graph_in : List Entry → ℕ → GraphOf
graph_in table i = (entry_in table i).graph

-- each of the names is that of a graph
abbrev pub has_all : List Entry → List (List ℕ) → Bool
has_all table names = list_all (λ name. is_some (find table name)) names

-- the graph of a name
abbrev pub graph_named : List Entry → List ℕ → GraphOf
graph_named table name = graph_in table (unwrap_or (find table name) (length table))

-- the graph at a place is another
abbrev pub with_graph : List Entry → ℕ → GraphOf → List Entry
with_graph table i g = slice_set table i (record (entry_in table i) { graph = g })
