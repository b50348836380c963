-- The vertices that stand for those of a graph: copies of one, or one for a class.
use Rattle.std.specs.Prelude.{◌++◌, ◌==◌, ℕ, List, length, map, codes, decimal, Bool, false, nat_le, slice_index_or, if◌then◌else◌}
use Rattle.std.specs.List.{flat_map, list_all, position_or_len, range_with_len, sum_by}
use Rattle.sgb_graph.specs.Graph.{GraphOf, n_of, label_of}
use Rattle.sgb_graph.specs.New.{six_zeros}
use Rattle.sgb_plan.specs.Plan.{Named}
use Rattle.sgb_induced.specs.declared.fate.Fate.{Fate}
use Rattle.sgb_induced.specs.declared.fate.Fate.TheVariants.{Copies, Class}

abbrev pub fate : List Fate → ℕ → Fate
fate fs v = slice_index_or fs v (Copies 0)

abbrev pub is_member : ℕ → Fate → Bool
is_member c (Copies k) = false
is_member c (Class d) = d == c

-- the vertex in whose place the images of v stand: v itself, or the first member of its class
abbrev pub leader_by : List Fate → ℕ → Fate → ℕ
leader_by fs v (Copies k) = v
leader_by fs v (Class c) = position_or_len (is_member c) fs

abbrev pub leader : List Fate → ℕ → ℕ
leader fs v = leader_by fs v (fate fs v)

-- how many images a vertex has; a class has one
abbrev pub count_of : Fate → ℕ
count_of (Copies k) = k
count_of (Class c) = 1

-- how many new vertices stand in the place of v
unfoldable pub made_at : List Fate → ℕ → ℕ
made_at fs v = if leader fs v == v then count_of (fate fs v) else 0

-- how many new vertices stand before those of v
abbrev pub start : List Fate → ℕ → ℕ
start fs v = sum_by (made_at fs) (range_with_len 0 v)

-- the new vertices that stand for v
abbrev pub images : List Fate → ℕ → List ℕ
images fs v = range_with_len (start fs (leader fs v)) (count_of (fate fs v))

-- the first copy has the name itself
abbrev pub copy_name : List ℕ → ℕ → List ℕ
copy_name label j = if nat_le j 1 then label else label ++ codes ":" ++ decimal j

-- the new vertices in the place of v
abbrev pub copy : List ℕ → ℕ → Named
copy label j = record { label = copy_name label j; fields = six_zeros }

abbrev pub named_at : GraphOf → List Fate → ℕ → List Named
named_at g fs v = map (copy (label_of g v)) (range_with_len 1 (made_at fs v))

abbrev pub named : GraphOf → List Fate → List Named
named g fs = flat_map (named_at g fs) (range_with_len 0 (n_of g))

-- the last of the new vertices in the place of v has a name of at most 4,095 bytes; no other has a longer one
abbrev pub has_name : GraphOf → List Fate → ℕ → Bool
has_name g fs v = nat_le (length (copy_name (label_of g v) (made_at fs v))) 4095

abbrev pub have_names : GraphOf → List Fate → Bool
have_names g fs = list_all (has_name g fs) (range_with_len 0 (n_of g))
