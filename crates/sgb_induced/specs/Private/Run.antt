-- Images as they are kept, and runs: the insertions from each image of one vertex to each of another.
use Rattle.std.specs.Prelude.{◌≡◌, ◌≤◌, ◌+◌, ◌==◌, ◌&&◌, not, ℕ, List, [], ◌∷◌, map, fold, Bool, min, max, nat_eq, slice_index_or, if◌then◌else◌}
use Rattle.std.specs.HashMap.{HashMap, get}
use Rattle.std.specs.Int.{int_min}
use Rattle.std.specs.List.{filter, flat_map, position, range_with_len}
use Rattle.sgb_graph.specs.Builder.{Insertion, insertion}
use Rattle.sgb_graph.specs.Graph.{GraphOf, n_of}
use Rattle.sgb_graph.specs.declared.spoke.Spoke.{Spoke}
use Rattle.sgb_graph.specs.Operand.{spokes}
use Rattle.sgb_induced.specs.declared.fate.Fate.{Fate}
use Rattle.sgb_induced.specs.declared.image.Image.{Image}
use Rattle.sgb_induced.specs.declared.run.Run.{Run}
use Rattle.sgb_induced.specs.Image.{fate, leader, start, count_of, is_member}
use Rattle.sgb_induced.specs.Induced.{is_met, is_wanted}

-- ---- images
abbrev pub image_of : List Fate → ℕ → Image
image_of fs v = record { leader = leader fs v; start = start fs (leader fs v); count = count_of (fate fs v) }

abbrev pub no_image : Image
no_image = record { leader = 0; start = 0; count = 0 }

abbrev pub image_at : List Image → ℕ → Image
image_at is v = slice_index_or is v no_image

abbrev pub numbers : Image → List ℕ
numbers i = range_with_len i.start i.count

-- every image is one of n vertices
abbrev pub AreWithin : ℕ → List Image → Type 0
AreWithin n is = (v : ℕ) → (image_at is v).start + (image_at is v).count ≤ n

-- the map knows the first member of each class among these
abbrev pub IsLed : {S : Type 0} → HashMap ℕ ℕ S → List Fate → Type 0
IsLed classes fs = (c : ℕ) → get nat_eq classes c ≡ position (is_member c) fs

-- ---- runs of which each pair of ends has one
abbrev pub Key : Type 0
Key = ℕ × ℕ

abbrev pub key_eq : Key → Key → Bool
key_eq p q = (p.0 == q.0) && (p.1 == q.1)

abbrev pub key_of : Bool → Run → Key
key_of directed r = if directed then (r.from, r.to) else (min r.from r.to, max r.from r.to)

abbrev pub has_key : Bool → Key → Run → Bool
has_key directed q r = key_eq (key_of directed r) q

abbrev pub same_run : Bool → Run → Run → Bool
same_run directed r s = key_eq (key_of directed r) (key_of directed s)

abbrev pub lowered_run : Run → Run → Run
lowered_run r s = record r { len = int_min r.len s.len }

-- a run comes last, or lowers the one with its ends
unfoldable pub merge : Bool → List Run → Run → List Run
merge directed [] s = s ∷ []
merge directed (r ∷ rs) s = if same_run directed r s then lowered_run r s ∷ rs else r ∷ merge directed rs s

abbrev pub merged : Bool → List Run → List Run
merged directed = fold (merge directed) []

-- the map knows the place of the run with these ends
abbrev pub IsPlaced : {S : Type 0} → Bool → HashMap Key ℕ S → List Run → Type 0
IsPlaced directed places rs = (q : Key) → get key_eq places q ≡ position (has_key directed q) rs

-- ---- the insertions of a run
abbrev pub from_one : Bool → Bool → Image → Run → ℕ → List Insertion
from_one loops directed to r x = map (λ y. insertion x y r.len) (filter (is_wanted loops directed (r.from == r.to) x) (numbers to))

unfoldable pub between : Bool → Bool → Image → Image → Run → List Insertion
between loops directed from to r = flat_map (from_one loops directed to r) (numbers from)

unfoldable pub expanded : Bool → Bool → List Image → Run → List Insertion
expanded loops directed is r = between loops directed (image_at is r.from) (image_at is r.to) r

-- ---- the runs of a graph
abbrev pub run_at : List Image → ℕ → Spoke → Run
run_at is v s = record { from = (image_at is v).leader; to = (image_at is s.to).leader; len = s.len }

-- a spoke that counts, to a vertex that has images
abbrev pub is_run : Bool → List Image → ℕ → Spoke → Bool
is_run directed is v s = is_met directed v s && not ((image_at is s.to).count == 0)

unfoldable pub runs_at : Bool → GraphOf → List Image → ℕ → List Run
runs_at directed g is v =
    if (image_at is v).count == 0 then [] else map (run_at is v) (filter (is_run directed is v) (spokes directed g v))

abbrev pub all_runs : Bool → GraphOf → List Image → List Run
all_runs directed g is = flat_map (runs_at directed g is) (range_with_len 0 (n_of g))

unfoldable pub runs_of : Bool → Bool → GraphOf → List Image → List Run
runs_of multi directed g is = if multi then all_runs directed g is else merged directed (all_runs directed g is)
