-- The insertions of a product, without those that lead below.
use Rattle.std.specs.Prelude.{◌≤◌, ◌+◌, ◌*◌, ◌==◌, ℕ, List, [], ◌++◌, length, map, Bool, true, ◌||◌, nat_lt, if◌then◌else◌}
use Rattle.std.specs.List.{flat_map}
use Rattle.std.specs.Int.{int_min}
use Rattle.sgb_graph.specs.Graph.{GraphOf, n_of}
use Rattle.sgb_graph.specs.Builder.{along, Insertion}
use Rattle.sgb_graph.specs.declared.spoke.Spoke.{Spoke}
use Rattle.sgb_combine.specs.declared.spec.ProductSpec.{ProductSpec}
use Rattle.sgb_combine.specs.Product.{has_single, has_double, pair_number}
use Rattle.sgb_combine.specs.Private.Rows.{row_of}

-- it leads to a vertex above a
abbrev pub is_above : ℕ → Spoke → Bool
is_above a s = nat_lt a s.to

-- with this vertex, the numbers of the pairs are within n
abbrev pub IsRowWithin : ℕ → ℕ → Spoke → Type 0
IsRowWithin k n s = s.to * k + k ≤ n

abbrev pub scaled : ℕ → ℕ → Spoke → Spoke
scaled scale offset s = record { to = s.to * scale + offset; len = s.len }

abbrev pub double : ℕ → Spoke → Spoke → Spoke
double k s t = record { to = pair_number k s.to t.to; len = int_min s.len t.len }

abbrev pub double_steps : ℕ → Spoke → List Spoke → List Spoke
double_steps k s ts = map (double k s) ts

-- from a along one arc: of these to its equal numbers only upward ones
abbrev pub inner : Bool → ℕ → List Spoke → List Spoke → Spoke → List Spoke
inner directed a all upward s = if directed || nat_lt a s.to then all else upward

abbrev pub singles : Bool → ℕ → ℕ → ℕ → List Spoke → List Spoke → List Spoke
singles single k a b from upward = if single then map (scaled k b) from ++ map (scaled 1 (a * k)) upward else []

-- none leads on from itself where no arc of b leads upward
abbrev pub outer : List Spoke → List Spoke → List Spoke → List Spoke
outer from above upward = if length upward == 0 then above else from

abbrev pub doubles_over : Bool → ℕ → ℕ → List Spoke → List Spoke → List Spoke → List Spoke
doubles_over directed k a all upward ss = flat_map (λ s. double_steps k s (inner directed a all upward s)) ss

abbrev pub doubles : Bool → Bool → ℕ → ℕ → List Spoke → List Spoke → List Spoke → List Spoke → List Spoke
doubles pairs directed k a from above all upward =
    if pairs then (if length all == 0 then [] else doubles_over directed k a all upward (outer from above upward)) else []

-- what is inserted from (a, b)
unfoldable pub pruned : ProductSpec → ℕ → ℕ → ℕ → List Spoke → List Spoke → List Spoke → List Spoke → List Insertion
pruned spec k a b from above all upward =
    map (along (pair_number k a b))
    (singles (has_single spec.kind) k a b from upward ++ doubles (has_double spec.kind) spec.directed k a from above all upward)

abbrev pub pruned_at : ProductSpec → GraphOf → ℕ → List Spoke → List Spoke → ℕ → List Insertion
pruned_at spec h a from above b =
    pruned spec (n_of h) a b from above (row_of true spec.directed h b) (row_of spec.directed spec.directed h b)
