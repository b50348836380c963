-- Lemmas on the spokes of vertices that a graph may lack, and on those that lead below a number.
use Rattle.std.proofs.Common.{◌≡◌, ◌<◌, ◌≤◌, ℕ, pos, List, [], ◌++◌, get_or, map, Bool, true, false, All, sym, ap, subst, arith}
use Rattle.std.specs.List.{filter}
use Rattle.std.proofs.lemmas.Bool.{and_parts, ltb-true}
use Rattle.std.proofs.lemmas.List.Elements.{filter_passes}
use Rattle.sgb_graph.specs.Graph.{GraphOf, n_of}
use Rattle.sgb_graph.specs.Edit.{entry_at}
use Rattle.sgb_graph.specs.Paired.{walk, without_halves}
use Rattle.sgb_graph.proofs.Graphs.{no_arcs_past}
use Rattle.sgb_graph.specs.declared.spoke.Spoke.{Spoke}
use Rattle.sgb_graph.specs.Operand.{spokes, spoke_of, IsWithin}
use Rattle.sgb_combine.specs.Gunion.{candidates, is_candidate}

-- the spoke at a place, and what stands where none does
abbrev pub no_spoke : Spoke
no_spoke = record { to = 0; len = pos 0 }

abbrev pub spoke_in : List Spoke → ℕ → Spoke
spoke_in ss i = get_or ss i no_spoke

pub within_as : {m n : ℕ} {ss ts : List Spoke} → ss ≡ ts → m ≡ n → All (IsWithin n) ts → All (IsWithin m) ss
within_as {m} {n} {ss} {ts} same wide all =
    subst (λ rs. All (IsWithin m) rs) (sym same) (subst (λ k. All (IsWithin k) ts) (sym wide) all)

walk_past : (directed : Bool) (g : GraphOf) (v : ℕ) → n_of g ≤ v → walk directed g v ≡ []
unfolding without_halves
walk_past true g v past = no_arcs_past g v past
walk_past false g v past = ap (without_halves g v) (no_arcs_past g v past)

pub spokes_past : (directed : Bool) (g : GraphOf) (v : ℕ) → n_of g ≤ v → spokes directed g v ≡ []
unfolding spokes
spokes_past directed g v past = ap (map (λ k. spoke_of (entry_at g k))) (walk_past directed g v past)

-- what a test of candidates passes
pub passed_within : (directed : Bool) (n v : ℕ) (ss : List Spoke) → All (IsWithin n) (filter (is_candidate directed n v) ss)
passed_within directed n v ss k d low = ltb-true _ n (and_parts _ _ (filter_passes (is_candidate directed n v) ss k d low)).0

pub candidates_within : (directed : Bool) (g h : GraphOf) (v : ℕ) → All (IsWithin (n_of g)) (candidates directed g h v)
unfolding candidates
candidates_within directed g h v = passed_within directed (n_of g) v (spokes directed g v ++ spokes directed h v)

-- a number below the count of a graph that is another's
pub below_n : {w n : ℕ} {g h : GraphOf} → w < n → n ≡ n_of g → g ≡ h → w < n_of h
below_n {g = g} low is same = omega (arith, low, is, ap n_of same)

pub past_n : {w n : ℕ} {g h : GraphOf} → n ≤ w → n ≡ n_of g → g ≡ h → n_of h ≤ w
past_n {g = g} past is same = omega (arith, past, is, ap n_of same)
