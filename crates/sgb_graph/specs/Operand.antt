-- Operands of combinations: their first refusal, and where their arcs lead.
use Rattle.std.specs.Prelude.{◌<◌, ℕ, List, map, Option, None, Bool}
use Rattle.std.specs.List.{list_all}
use Rattle.sgb_graph.specs.declared.field.Tip.{Tip}
use Rattle.sgb_graph.specs.declared.field.Tip.TheVariants.{Zero, One, To}
use Rattle.sgb_graph.specs.declared.refusal.Refusal.{Refusal}
use Rattle.sgb_graph.specs.declared.refusal.Refusal.TheVariants.{BadOperand}
use Rattle.sgb_graph.specs.Graph.{GraphOf, ArcOf}
use Rattle.sgb_graph.specs.Edit.{entry_at, refusal_unless}
use Rattle.sgb_graph.specs.Paired.{walk}
use Rattle.sgb_graph.specs.Read.{leads_on}
use Rattle.sgb_graph.specs.declared.spoke.Spoke.{Spoke}

-- the first refusal of an operand: an arc leads to no vertex
abbrev pub refusal_of_operand : GraphOf → Option Refusal
refusal_of_operand g = refusal_unless (list_all leads_on g.entries) BadOperand None

-- the number of the vertex; of an operand that is not refused every tip is one
abbrev pub tip_number : Tip → ℕ
tip_number Zero = 0
tip_number One = 0
tip_number (To v) = v.0

-- where an arc leads, and its length
abbrev pub spoke_of : ArcOf → Spoke
spoke_of e = record { to = tip_number e.tip; len = e.len }

-- the walk of v: where each of its arcs leads, and how long it is
unfoldable pub spokes : Bool → GraphOf → ℕ → List Spoke
spokes directed g v = map (λ k. spoke_of (entry_at g k)) (walk directed g v)

-- it leads to one of n vertices
abbrev pub IsWithin : ℕ → Spoke → Type 0
IsWithin n s = s.to < n
