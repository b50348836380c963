-- Paired graphs: each arc has its other half, as the arcs of an edge have.
use Rattle.std.specs.Prelude.{◌≡◌, ◌<◌, ◌≤◌, ◌⊎◌, ◌+◌, ◌-◌, ℕ, zero, suc, List, [], ◌∷◌, length, map, slice_index, Option, Some, None, Bool, true, false, ◌&&◌, not, ◌==◌, nat_lt, nat_le, if◌then◌else◌}
use Rattle.std.specs.List.{list_all, filter, range_with_len}
use Rattle.sgb_graph.specs.declared.field.Tip.{Tip}
use Rattle.sgb_graph.specs.declared.field.Tip.TheVariants.{Zero, One, To}
use Rattle.sgb_graph.specs.declared.graph.read.ArcView.{ArcView}
use Rattle.sgb_graph.specs.Graph.{GraphOf, n_of, made_of, arcs_of, has_arc}
use Rattle.sgb_graph.specs.Edit.{owner_of, entry_at}
use Rattle.sgb_graph.specs.Read.{arc_view}

-- the tip is vertex u
abbrev pub is_vertex : ℕ → Tip → Bool
is_vertex u Zero = false
is_vertex u One = false
is_vertex u (To w) = w.0 == u

-- the arc leaves v and leads to u; a hole does not
abbrev pub goes : ℕ → ℕ → Option ArcView → Bool
goes v u None = false
goes v u (Some a) = (a.owner.0 == v) && is_vertex u a.tip

-- arc k lives, leaves v and leads to u
unfoldable pub leads_from : GraphOf → ℕ → ℕ → ℕ → Bool
leads_from g k v u = goes v u (arc_view g k)

-- arc k of v's list leads to v
abbrev pub is_loop : GraphOf → ℕ → ℕ → Bool
is_loop g v k = leads_from g k v v

-- both are loops, and the second is numbered next: where the first is no second half, the second is one
abbrev pub is_loop_pair : GraphOf → ℕ → ℕ → ℕ → Bool
is_loop_pair g v j k = is_loop g v j && is_loop g v k && (j + 1 == k)

-- the list without the second halves of loops
unfoldable pub without_halves : GraphOf → ℕ → List ℕ → List ℕ
without_halves g v [] = []
without_halves g v (j ∷ []) = j ∷ []
without_halves g v (j ∷ (k ∷ ks)) = if is_loop_pair g v j k then j ∷ without_halves g v ks else j ∷ without_halves g v (k ∷ ks)

-- the arc at this place of v's list is a second half: it is a loop, the arc numbered one lower is a loop just before
-- it in the list, and is not itself a second half
unfoldable pub is_half : GraphOf → ℕ → List ℕ → ℕ → Bool
is_half g v ks zero = false
is_half g v ks (suc i) = is_loop_pair g v (slice_index ks i) (slice_index ks (suc i)) && not (is_half g v ks i)

-- the numbers at the places that are no second half, in order
abbrev pub without_half_places : GraphOf → ℕ → List ℕ → List ℕ
without_half_places g v ks = map (slice_index ks) (filter (λ i. not (is_half g v ks i)) (range_with_len 0 (length ks)))

-- the arcs of v that stand for an insertion each
abbrev pub walk : Bool → GraphOf → ℕ → List ℕ
walk directed g v = if directed then arcs_of g v else without_halves g v (arcs_of g v)

-- every loop of the list is a second half, or the next arc is its second half
unfoldable pub are_loops_paired : GraphOf → ℕ → List ℕ → Bool
are_loops_paired g v [] = true
are_loops_paired g v (j ∷ []) = not (is_loop g v j)
are_loops_paired g v (j ∷ (k ∷ ks)) = if is_loop_pair g v j k then are_loops_paired g v ks else not (is_loop g v j) && are_loops_paired g v (k ∷ ks)

-- an arc k from u: its tip is a vertex v, and where v is below u arc k - 1 leads back, where v is above u arc k + 1
abbrev pub is_tip_matched : GraphOf → ℕ → ℕ → Tip → Bool
is_tip_matched g k u Zero = false
is_tip_matched g k u One = false
is_tip_matched g k u (To v) =
    if v.0 == u then true
    else (if nat_lt v.0 u then nat_le 1 k && leads_from g (k - 1) v.0 u else leads_from g (k + 1) v.0 u)

abbrev pub is_view_matched : GraphOf → ℕ → Option ArcView → Bool
is_view_matched g k None = true
is_view_matched g k (Some a) = is_tip_matched g k a.owner.0 a.tip

-- a hole, or an arc with its other half
unfoldable pub is_matched : GraphOf → ℕ → Bool
is_matched g k = is_view_matched g k (arc_view g k)

-- each arc has its other half, and so has each loop
abbrev pub is_paired : GraphOf → Bool
is_paired g =
    list_all (is_matched g) (range_with_len 0 (made_of g))
    && list_all (λ v. are_loops_paired g v (arcs_of g v)) (range_with_len 0 (n_of g))

-- arc k lives, leaves u and leads to v
pub record GoesTo (g : GraphOf) (k u v : ℕ) : Type 0 where
  pub live : has_arc g k ≡ true
  pub owner : owner_of g k ≡ u
  pub tip : (entry_at g k).tip ≡ To (record { 0 = v })

-- each arc leads to a vertex and has its other half; and a loop is a second half, or the next arc of its list is one
pub record HasHalves (g : GraphOf) : Type 0 where
  pub tip : (k : ℕ) → has_arc g k ≡ true → (v : ℕ) × GoesTo g k (owner_of g k) v
  pub down : (k u v : ℕ) → GoesTo g k u v → v < u → (1 ≤ k) × GoesTo g (k - 1) v u
  pub up : (k u v : ℕ) → GoesTo g k u v → u < v → GoesTo g (k + 1) v u
  pub loops : (v i : ℕ) → i < length (arcs_of g v) → GoesTo g (slice_index (arcs_of g v) i) v v →
      (is_half g v (arcs_of g v) i ≡ true) ⊎ ((i + 1 < length (arcs_of g v)) × (is_half g v (arcs_of g v) (i + 1) ≡ true))
