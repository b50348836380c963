-- The slots of a table.
use Rattle.std.specs.Prelude.{ℕ, List, Option, None, Some, slice_set, slice_index_or}
use Rattle.sgb_graph.specs.Graph.{GraphOf}
use Rattle.sgb_session.specs.declared.table.Entry.{Entry}
use Rattle.sgb_session.specs.Table.{no_entry}

-- what a slot holds
abbrev pub held : Option Entry → Entry
held None = no_entry
held (Some e) = e

abbrev pub slot_in : List (Option Entry) → ℕ → Option Entry
slot_in slots i = slice_index_or slots i None

abbrev pub slot_with_graph : List (Option Entry) → ℕ → GraphOf → List (Option Entry)
slot_with_graph slots i g = slice_set slots i (Some (record (held (slot_in slots i)) { graph = g }))
