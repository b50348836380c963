-- The fields of two graphs compared.
use Rattle.std.specs.Prelude.{ℕ, List, length, Option, Some, None, Bool, true, false, ◌&&◌, ◌==◌, nat_eq}
use Rattle.std.specs.List.{list_all, zip}
use Rattle.std.specs.Cmp.Lexicographic.{pointwise}
use Rattle.std.specs.Ordering.{int_eq}
use Rattle.sgb_graph.specs.declared.field.ArcNo.{ArcNo}
use Rattle.sgb_graph.specs.declared.field.Util.{Util}
use Rattle.sgb_graph.specs.declared.graph.Vertex.{Vertex}
use Rattle.sgb_graph.specs.declared.graph.arena.Slot.{Slot}
use Rattle.sgb_graph.specs.Private.Arena.{Slots}
use Rattle.sgb_graph.specs.Same.{tip_eq, util_eq}

abbrev pub link_eq : Option ArcNo → Option ArcNo → Bool
link_eq None None = true
link_eq (Some j) (Some k) = nat_eq j.0 k.0
link_eq _ _ = false

abbrev pub row_eq : Vertex → Vertex → Bool
row_eq v w = pointwise nat_eq v.label w.label && pointwise util_eq v.fields w.fields && link_eq v.first w.first

-- but for the owner and the count of names, which the others tell
abbrev pub slot_eq : Option Slot → Option Slot → Bool
slot_eq None None = true
slot_eq (Some s) (Some t) = tip_eq s.tip t.tip && link_eq s.next t.next && int_eq s.len t.len && pointwise util_eq s.fields t.fields
slot_eq _ _ = false

-- as many, and each pair passes the test
abbrev pub each_eq : {K : Type 0} → (K → K → Bool) → List K → List K → Bool
each_eq E xs ys = (length xs == length ys) && list_all (λ p. E p.0 p.1) (zip xs ys)

abbrev pub own_eq : List ℕ → List ℕ → List ℕ → List ℕ → List Util → List Util → Bool
own_eq id id' types types' fields fields' = pointwise nat_eq id id' && pointwise nat_eq types types' && pointwise util_eq fields fields'

abbrev pub lists_eq : List Vertex → List Vertex → Slots → Slots → Bool
lists_eq vs ws ss ts = each_eq row_eq vs ws && each_eq slot_eq ss ts
