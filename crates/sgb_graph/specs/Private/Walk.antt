-- Walking along a vertex's list past the second halves of loops.
use Rattle.std.specs.Prelude.{◌+◌, ℕ, List, [], ◌∷◌, Option, Some, None, Bool, false, ◌&&◌, not, ◌==◌, if◌then◌else◌}
use Rattle.sgb_graph.specs.declared.field.ArcNo.{ArcNo}
use Rattle.sgb_graph.specs.declared.graph.arena.Slot.{Slot}
use Rattle.sgb_graph.specs.Private.Arena.{Slots, slot_at, next_at}
use Rattle.sgb_graph.specs.Paired.{is_vertex}

-- the arc leads to its owner
abbrev pub is_loop_in : Option Slot → Bool
is_loop_in None = false
is_loop_in (Some s) = is_vertex s.owner.0 s.tip

-- both are loops, and the second is numbered next
abbrev pub is_pair_in : Slots → ℕ → ℕ → Bool
is_pair_in ss j k = is_loop_in (slot_at ss j) && is_loop_in (slot_at ss k) && (j + 1 == k)

-- the list without the second of each pair
unfoldable pub without_pairs : Slots → List ℕ → List ℕ
without_pairs ss [] = []
without_pairs ss (j ∷ []) = j ∷ []
without_pairs ss (j ∷ (k ∷ ks)) = if is_pair_in ss j k then j ∷ without_pairs ss ks else j ∷ without_pairs ss (k ∷ ks)

abbrev pub walked : Bool → Slots → List ℕ → List ℕ
walked directed ss ks = if directed then ks else without_pairs ss ks

-- the link by which a walk goes on after arc j, which is followed by this link
abbrev pub past : Bool → Slots → ℕ → Option ArcNo → Option ArcNo
past directed ss j None = None
past directed ss j (Some k) = if not directed && is_pair_in ss j k.0 then next_at ss k.0 else Some k
