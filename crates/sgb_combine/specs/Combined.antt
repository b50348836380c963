-- What all combinations share: their refusals, their vertices and their insertions.
use Rattle.std.specs.Prelude.{ℕ, List, map, Option, Bool, ◌||◌, nat_le}
use Rattle.std.specs.List.{range_with_len}
use Rattle.std.specs.Option.{option_or}
use Rattle.sgb_graph.specs.declared.refusal.Refusal.{Refusal}
use Rattle.sgb_graph.specs.Graph.{GraphOf, n_of, label_of}
use Rattle.sgb_graph.specs.New.{six_zeros}
use Rattle.sgb_graph.specs.declared.spoke.Spoke.{Spoke}
use Rattle.sgb_graph.specs.Operand.{refusal_of_operand}
use Rattle.sgb_plan.specs.Plan.{Named}

-- the refusal of the first of two operands, or of the second
abbrev pub refusal_of_operands : GraphOf → GraphOf → Option Refusal
refusal_of_operands g h = option_or (refusal_of_operand g) (refusal_of_operand h)

-- the vertices of g, by their names alone
abbrev pub named_as : GraphOf → ℕ → Named
named_as g v = record { label = label_of g v; fields = six_zeros }

abbrev pub vertices_of : GraphOf → List Named
vertices_of g = map (named_as g) (range_with_len 0 (n_of g))

-- edges are inserted from their smaller end on
abbrev pub is_upward : Bool → ℕ → Spoke → Bool
is_upward directed v s = directed || nat_le v s.to
