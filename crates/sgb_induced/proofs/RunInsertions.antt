-- Lemmas on the insertions of runs, as loops make them.
use Rattle.std.proofs.Common.{◌≡◌, ◌<◌, ◌≤◌, ◌+◌, ◌-◌, ℕ, ℤ, pos, List, [], ◌∷◌, length, get_or, drop, map, Bool, true, false, cond, sym, ap, ap₂, ◌∙◌, arith}
use Rattle.std.specs.List.{filter, flat_map, range_with_len}
use Rattle.sgb_graph.specs.declared.builder.Builder.{Builder}
use Rattle.sgb_graph.specs.Builder.{Insertion, grown, insertion}
use Rattle.std.proofs.lemmas.List.{at_drop_more}
use Rattle.sgb_graph.specs.declared.refusal.Refusal.{Refusal}
use Rattle.sgb_graph.proofs.InsertionRuns.{LeftFrom, LeftOf, RefusesInsertions, left_as, left_refused, left_some, map-filter}
use Rattle.sgb_induced.specs.declared.image.Image.{Image}
use Rattle.sgb_induced.specs.declared.run.Run.{Run}
use Rattle.sgb_induced.specs.Private.Run.{AreWithin, between, expanded, image_at}

-- a loop over these numbers begins
pub begin_at : (a : Builder) (f : ℕ → List Insertion) (i n : ℕ) → LeftFrom a (flat_map f (range_with_len i n)) a f i (i + n)
begin_at a f i n =
    let count : (i + n) - i ≡ n = omega arith in
    record { left = record { same = ap (λ k. grown a (flat_map f (range_with_len i k))) count } }

-- the same with one insertion for each number that passes
abbrev pub where_passing : (ℕ → Insertion) → (ℕ → Bool) → ℕ → List Insertion
where_passing f p y = cond (p y) (f y ∷ []) []

pub begin_filtered : (a : Builder) (f : ℕ → Insertion) (p : ℕ → Bool) (i n : ℕ) → LeftFrom a (map f (filter p (range_with_len i n))) a (where_passing f p) i (i + n)
begin_filtered a f p i n =
    let count : (i + n) - i ≡ n = omega arith in
    record { left = record { same = ap (λ k. grown a (flat_map (where_passing f p) (range_with_len i k))) count ∙ ap (grown a) (sym (map-filter f p (range_with_len i n))) } }

-- an image of the list stands among the vertices
pub within_at : (is : List Image) (i : Image) (n m v : ℕ) → i ≡ image_at is v → AreWithin n is → m ≡ n → i.start + i.count ≤ m
within_at is i n m v found within same =
    let there : i.start + i.count ≡ (image_at is v).start + (image_at is v).count = ap (λ (j : Image). j.start + j.count) found in
    omega (arith, there, within v, same)

pub expanded_is : (loops directed : Bool) (is : List Image) (from to : Image) (r : Run) → from ≡ image_at is r.from → to ≡ image_at is r.to → between loops directed from to r ≡ expanded loops directed is r
unfolding expanded
expanded_is loops directed is from to r first second = ap₂ (λ i j. between loops directed i j r) first second

-- a number that does not pass has no insertion, and one that passes has its own
pub skips : (f : ℕ → Insertion) (p : ℕ → Bool) (y : ℕ) (b : Bool) → b ≡ p y → b ≡ false → where_passing f p y ≡ []
skips f p y b is fails = ap (λ a. cond a (f y ∷ []) []) (sym is ∙ fails)

pub takes : (f : ℕ → Insertion) (p : ℕ → Bool) (y : ℕ) (b : Bool) → b ≡ p y → b ≡ true → f y ∷ [] ≡ where_passing f p y
takes f p y b is passes = sym (ap (λ a. cond a (f y ∷ []) []) (sym is ∙ passes))

-- an insertion from x to y, with its length as it is passed
pub made_at_one : (x y : ℕ) (len : ℤ) (p : ℕ → Bool) (b : Bool) {passed : ℤ} → passed ≡ len → b ≡ p y → b ≡ true → insertion x y passed ∷ [] ≡ where_passing (λ z. insertion x z len) p y
made_at_one x y len p b same is passes = ap (λ k. insertion x y k ∷ []) same ∙ takes (λ z. insertion x z len) p y b is passes

-- a run over a slice, where its element is read with a default
pub at_some : {X : Type 0} {a b c : Builder} {all : List Insertion} {f : X → List Insertion} {xs : List X} {i : ℕ} (d : X) → i < length xs → LeftOf a all b f xs i → c ≡ grown b (f (get_or xs i d)) → LeftOf a all c f xs (i + 1)
at_some {f = f} {xs = xs} {i = i} d h left made =
    record { left = left_some (f (get_or xs i d)) (flat_map f (drop (i + 1) xs)) (left_as left.left (at_drop_more (flat_map f) xs i d h)) made }

pub at_refused : {X : Type 0} {a b : Builder} {all : List Insertion} {f : X → List Insertion} {xs : List X} {i : ℕ} {e : Refusal} (d : X) → i < length xs → LeftOf a all b f xs i → RefusesInsertions b (f (get_or xs i d)) e → RefusesInsertions a all e
at_refused {f = f} {xs = xs} {i = i} d h left refused =
    left_refused (f (get_or xs i d)) (flat_map f (drop (i + 1) xs)) (left_as left.left (at_drop_more (flat_map f) xs i d h)) refused

abbrev pub no_run : Run
no_run = record { from = 0; to = 0; len = pos 0 }
