-- A slot is a cell and its fields, which are Zero beyond the fields that are kept.
use Rattle.std.specs.Prelude.{◌≡◌, ◌≢◌, ℕ, ℤ, List, [], ◌∷◌, Option, Some, None, Bool, true, false, slice_index_or}
use Rattle.sgb_graph.specs.declared.field.VertexNo.{VertexNo}
use Rattle.sgb_graph.specs.declared.field.ArcNo.{ArcNo}
use Rattle.sgb_graph.specs.declared.field.Tip.{Tip}
use Rattle.sgb_graph.specs.declared.field.Tip.TheVariants.{To}
use Rattle.sgb_graph.specs.declared.field.Util.{Util}
use Rattle.sgb_graph.specs.declared.field.Util.TheVariants.{Zero}
use Rattle.sgb_graph.specs.declared.graph.arena.Cell.{Cell}
use Rattle.sgb_graph.specs.declared.graph.arena.Slot.{Slot}
use Rattle.sgb_graph.specs.Honest.{are_allowed}
use Rattle.sgb_graph.specs.Read.{is_vertex_tip}
use Rattle.sgb_graph.specs.Private.Arena.{Slots}

abbrev pub two_zeros : List Util
two_zeros = Zero ∷ Zero ∷ []

abbrev pub slot_owned : Option VertexNo → List Util → Cell → Option Slot
slot_owned None us c = None
slot_owned (Some v) us c = Some (record { owner = v; tip = c.tip; next = c.next; names = c.names; len = c.len; fields = us })

-- the slot that the cell makes with these fields; one that has no owner is a hole
abbrev pub slot_with : List Util → Cell → Option Slot
slot_with us c = slot_owned c.owner us c

abbrev pub zipped : List Cell → List (List Util) → Slots
zipped [] fs = []
zipped (c ∷ cs) [] = slot_with two_zeros c ∷ zipped cs []
zipped (c ∷ cs) (us ∷ fs) = slot_with us c ∷ zipped cs fs

-- the fields of the arc of this number
abbrev pub kept_at : List (List Util) → ℕ → List Util
kept_at fs k = slice_index_or fs k two_zeros

-- each arc has the fields that it had
abbrev pub SameFields : List (List Util) → List (List Util) → Type 0
SameFields fs gs = (j : ℕ) → kept_at gs j ≡ kept_at fs j

-- arc k has these fields, and each other those that it had
pub record PutsFields (fs : List (List Util)) (k : ℕ) (us : List Util) (gs : List (List Util)) : Type 0 where
  pub here : kept_at gs k ≡ us
  pub others : (j : ℕ) → j ≢ k → kept_at gs j ≡ kept_at fs j

-- the slot of an arc that no field names
abbrev pub unnamed_slot : VertexNo → Tip → Option ArcNo → ℤ → List Util → Slot
unnamed_slot owner tip next len us = record { owner = owner; tip = tip; next = next; names = 0; len = len; fields = us }

-- the cell of a new arc
abbrev pub new_cell : VertexNo → VertexNo → Option ArcNo → ℤ → Cell
new_cell owner to next len = record { owner = Some owner; tip = To to; next = next; names = 0; len = len }

-- the values of the cell's arc are allowed by these letters
abbrev pub owned_allowed : List ℕ → Option VertexNo → List Util → Bool
owned_allowed letters None us = true
owned_allowed letters (Some v) us = are_allowed letters us

-- a hole, or the cell of an arc that leads to a vertex
abbrev pub owned_aimed : Option VertexNo → Tip → Bool
owned_aimed None tip = true
owned_aimed (Some v) tip = is_vertex_tip tip

abbrev pub is_aimed : Cell → Bool
is_aimed c = owned_aimed c.owner c.tip

abbrev pub is_zero : Util → Bool
is_zero Zero = true
is_zero _ = false
