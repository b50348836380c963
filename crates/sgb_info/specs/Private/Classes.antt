-- Classes of the numbers below n, as the list of the least number of the class of each; and what joins them.
use Rattle.std.specs.Prelude.{◌≡◌, ◌≢◌, ◌≤◌, ◌<◌, ◌+◌, ◌==◌, ℕ, List, length, map, min, max, slice_index, if◌then◌else◌}
use Rattle.std.specs.List.{filter, range_with_len}
use Rattle.sgb_graph.specs.declared.field.Tip.TheVariants.{To}
use Rattle.sgb_graph.specs.Graph.{GraphOf}
use Rattle.sgb_graph.specs.Edit.{entry_at}
use Rattle.sgb_info.specs.Components.{IsJoined, Closure}

-- each has the least of its class, which has itself
pub record IsClasses (ls : List ℕ) : Type 0 where
  pub least : (v : ℕ) → v < length ls → slice_index ls v ≤ v
  pub itself : (v : ℕ) → v < length ls → slice_index ls (slice_index ls v) ≡ slice_index ls v

-- the number is in place of the larger of two least ones
abbrev pub lowered : ℕ → ℕ → ℕ → ℕ
lowered x y l = if l == max x y then min x y else l

-- the classes of a and b are one
unfoldable pub united : ℕ → ℕ → List ℕ → List ℕ
united a b ls = map (lowered (slice_index ls a) (slice_index ls b)) ls

-- the numbers below k that are the least of their class, and all that are
abbrev pub least_below : List ℕ → ℕ → List ℕ
least_below ls k = filter (λ v. slice_index ls v == v) (range_with_len 0 k)

unfoldable pub least_of_each : List ℕ → List ℕ
least_of_each ls = least_below ls (length ls)

-- each vertex has two numbers, so far apart; an arc joins the first number of each end with the second of the other
pub data IsCrossed (g : GraphOf) (gap : ℕ) : ℕ → ℕ → Type 0 where
  forth : (u v : ℕ) → IsJoined g u v → IsCrossed g gap u (v + gap)
  over : (u v : ℕ) → IsJoined g u v → IsCrossed g gap (u + gap) v

-- R connects each number with the least of its class
abbrev pub AreWithin : (ℕ → ℕ → Type 0) → List ℕ → Type 0
AreWithin R ls = (v : ℕ) → v < length ls → Closure R v (slice_index ls v)

-- the numbers that arc k of u joins are in one class
abbrev pub IsPut : GraphOf → ℕ → ℕ → List ℕ → ℕ → Type 0
IsPut g gap u ls k = (v : ℕ) → (entry_at g k).tip ≡ To (record { 0 = v }) →
    (slice_index ls u ≡ slice_index ls (v + gap)) × (slice_index ls (u + gap) ≡ slice_index ls v)

-- what joins by a graph's arcs lead to: numbers that are in one class stay in one, and only arcs bring others there
pub record Joins (g : GraphOf) (gap : ℕ) (ls ms : List ℕ) : Type 0 where
  pub len : length ms ≡ length ls
  pub together : (v w : ℕ) → slice_index ls v ≡ slice_index ls w → slice_index ms v ≡ slice_index ms w
  pub within : AreWithin (IsCrossed g gap) ls → AreWithin (IsCrossed g gap) ms

-- no number below n is in one class with the number that is n larger
abbrev pub AreApart : ℕ → List ℕ → Type 0
AreApart n ls = (v : ℕ) → v < n → slice_index ls v ≢ slice_index ls (v + n)
