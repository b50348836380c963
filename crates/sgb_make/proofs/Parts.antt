-- Lemmas on the absolute values of vectors, part by part.
use Rattle.std.proofs.Common.{◌≡◌, ◌<◌, ◌≤◌, ◌+◌, ◌-◌, ◌*◌, ◌==◌, ℕ, zero, suc, List, [], ◌∷◌, ◌++◌, length, get_or, map, take, set, replicate, Bool, true, false, ◌⊎◌, inl, inr, refl, sym, ap, subst, ◌∙◌, arith, append_assoc}
use Rattle.std.specs.List.{flat_map, filter, range_with_len}
use Rattle.std.proofs.Math.Nat.{le-mul_of_pos_right}
use Rattle.std.proofs.lemmas.Bool.{cases_Bool, eq-eqb, ne_eqb, eqb-true}
use Rattle.std.proofs.lemmas.List.{append-nil, take_more_set, take-take, take-set-le}
use Rattle.std.proofs.lemmas.List.Elements.{filter_agree}
use Rattle.std.proofs.lemmas.List.Sums.{sum_by-cons}
use Rattle.std.proofs.lemmas.List.Folds.{flat_map-map}
use Rattle.sgb_graph.specs.declared.builder.Builder.{Builder}
use Rattle.sgb_graph.specs.Builder.{Insertion}
use Rattle.sgb_graph.proofs.InsertionRuns.{LeftFrom, from_start}
use Rattle.sgb_plan.proofs.Lists.{filter_none, filter-map, filter-flat_map, flat_map_agree, flat_map_none, flat_map-flat_map}
use Rattle.sgb_simplex.proofs.Runs.{cut}
use Rattle.sgb_make.specs.declared.side.Side.{Side}
use Rattle.sgb_make.specs.Choice.{choices}
use Rattle.sgb_make.specs.Ride.{rides_along}
use Rattle.sgb_make.specs.Vector.{squares, absolutes, vectors_of, vectors}
use Rattle.sgb_make.specs.Private.Signs.{parts_below, along_vectors, along_parts}

-- ---- the parts behind a first one
abbrev others : ℕ → ℕ → List (List ℕ)
others most d = choices (replicate d (range_with_len 0 (most + 1)))

abbrev led_by : ℕ → ℕ → ℕ → ℕ → List (List ℕ)
led_by most d left a = map (λ t. a ∷ t) (filter (λ t. squares (a ∷ t) == left) (others most d))

parts_below-suc : (most d left : ℕ) → parts_below most (suc d) left ≡ flat_map (led_by most d left) (range_with_len 0 (most + 1))
unfolding parts_below choices
parts_below-suc most d left =
    filter-flat_map (λ parts. squares parts == left) (λ a. map (λ t. a ∷ t) (others most d)) (range_with_len 0 (most + 1))
    ∙ flat_map_agree (λ a. filter (λ parts. squares parts == left) (map (λ t. a ∷ t) (others most d))) (led_by most d left) (range_with_len 0 (most + 1))
    (λ a. filter-map (λ parts. squares parts == left) (λ t. a ∷ t) (others most d))

squares-cons : (a : ℕ) (t : List ℕ) → squares (a ∷ t) ≡ a * a + squares t
squares-cons a t = sum_by-cons (λ b. b * b) a t

same_test : (a s left : ℕ) → a * a ≤ left → (a * a + s == left) ≡ (s == left - a * a)
same_test a s left low =
    elim (cases_Bool (s == left - a * a)) [
      | inl same ↦ eq-eqb (a * a + s) left (omega (arith, eqb-true s (left - a * a) same)) ∙ sym same
      | inr other ↦ ne_eqb (a * a + s) left (λ is. absurd (let wrong : s ≡ left - a * a = omega arith in let t = eq-eqb s (left - a * a) wrong in let no : true ≡ false = sym t ∙ other in cc)) ∙ sym other
    ]

led_low : (most d left a : ℕ) → a * a ≤ left → led_by most d left a ≡ map (λ t. a ∷ t) (parts_below most d (left - a * a))
unfolding parts_below
led_low most d left a low =
    ap (map (λ t. a ∷ t)) (filter_agree (λ t. squares (a ∷ t) == left) (λ t. squares t == left - a * a) (λ t. ap (λ s. s == left) (squares-cons a t) ∙ same_test a (squares t) left low) (others most d))

led_high : (most d left a : ℕ) → left < a * a → led_by most d left a ≡ []
led_high most d left a high =
    ap (map (λ t. a ∷ t)) (filter_none (λ t. squares (a ∷ t) == left) (others most d) (λ k t below. ne_eqb (squares (a ∷ get_or (others most d) k t)) left (λ is. absurd (omega (arith, squares-cons a (get_or (others most d) k t))))))

-- ---- the insertions, part by part
abbrev pub behind_part : List Side → Bool → ℕ → List ℕ → ℕ → ℕ → ℕ → List Insertion
behind_part sides rides most begun d left a = along_parts sides rides most (begun ++ a ∷ []) d (left - a * a)

-- a part that no vector has, or that all vectors with it make no insertion
abbrev pub IsIdle : List Side → Bool → List ℕ → ℕ → ℕ → Type 0
IsIdle sides rides begun left a = (left < a * a) ⊎ ((t : List ℕ) → along_vectors sides rides (begun ++ a ∷ t) ≡ [])

idle_part : (sides : List Side) (rides : Bool) (most : ℕ) (begun : List ℕ) (d left a : ℕ) → IsIdle sides rides begun left a → flat_map (λ parts. along_vectors sides rides (begun ++ parts)) (led_by most d left a) ≡ []
idle_part sides rides most begun d left a (inl high) =
    ap (flat_map (λ parts. along_vectors sides rides (begun ++ parts))) (led_high most d left a high)
idle_part sides rides most begun d left a (inr none) =
    flat_map-map (λ parts. along_vectors sides rides (begun ++ parts)) (λ t. a ∷ t) (filter (λ t. squares (a ∷ t) == left) (others most d))
    ∙ flat_map_none (λ t. along_vectors sides rides (begun ++ a ∷ t)) (filter (λ t. squares (a ∷ t) == left) (others most d)) none

live_part : (sides : List Side) (rides : Bool) (most : ℕ) (begun : List ℕ) (d left a : ℕ) → a * a ≤ left → flat_map (λ parts. along_vectors sides rides (begun ++ parts)) (led_by most d left a) ≡ behind_part sides rides most begun d left a
unfolding along_parts
live_part sides rides most begun d left a low =
    let ts = parts_below most d (left - a * a) in
    ap (flat_map (λ parts. along_vectors sides rides (begun ++ parts))) (led_low most d left a low)
    ∙ (flat_map-map (λ parts. along_vectors sides rides (begun ++ parts)) (λ t. a ∷ t) ts
    ∙ flat_map_agree (λ t. along_vectors sides rides (begun ++ a ∷ t)) (λ t. along_vectors sides rides ((begun ++ a ∷ []) ++ t)) ts
    (λ t. ap (along_vectors sides rides) (sym (append_assoc begun (a ∷ []) t))))

square_high : (e : ℕ) → e ≤ e * e
square_high zero = omega arith
square_high (suc e) = le-mul_of_pos_right (suc e) (omega arith)

few_parts : (left most end : ℕ) → left ≤ most → ((a : ℕ) → a < end → a * a ≤ left) → end ≤ most + 1
few_parts left most zero low few = omega arith
few_parts left most (suc e) low few = omega (arith, few e (omega arith), square_high e)

pub part_by_part : (sides : List Side) (rides : Bool) (most : ℕ) (begun : List ℕ) (n d left end : ℕ) → n ≡ suc d → left ≤ most → ((a : ℕ) → a < end → a * a ≤ left) → ((a : ℕ) → end ≤ a → IsIdle sides rides begun left a) → along_parts sides rides most begun n left ≡ flat_map (behind_part sides rides most begun d left) (range_with_len 0 end)
unfolding along_parts
part_by_part sides rides most begun n d left end is low few idle =
    let f = λ (parts : List ℕ). along_vectors sides rides (begun ++ parts) in
    ap (λ k. flat_map f (parts_below most k left)) is
    ∙ (ap (flat_map f) (parts_below-suc most d left)
    ∙ (flat_map-flat_map f (led_by most d left) (range_with_len 0 (most + 1))
    ∙ cut (λ a. flat_map f (led_by most d left a)) (behind_part sides rides most begun d left) end (most + 1) (few_parts left most end low few)
    (λ a below. live_part sides rides most begun d left a (few a below))
    (λ a above. idle_part sides rides most begun d left a (idle a above))))

pub parts_start : (sides : List Side) (rides : Bool) (most : ℕ) (begun : List ℕ) (n d left end : ℕ) (b : Builder) → n ≡ suc d → left ≤ most → ((a : ℕ) → a < end → a * a ≤ left) → ((a : ℕ) → end ≤ a → IsIdle sides rides begun left a) → LeftFrom b (along_parts sides rides most begun n left) b (behind_part sides rides most begun d left) 0 end
parts_start sides rides most begun n d left end b is low few idle =
    subst (λ all. LeftFrom b all b (behind_part sides rides most begun d left) 0 end) (sym (part_by_part sides rides most begun n d left end is low few idle))
    (from_start b (behind_part sides rides most begun d left) end)

-- ---- all parts are there
pub whole_zero : (sides : List Side) (rides : Bool) (most : ℕ) (parts : List ℕ) (left : ℕ) → left ≡ 0 → along_parts sides rides most parts 0 left ≡ along_vectors sides rides parts
unfolding along_parts parts_below choices
whole_zero sides rides most parts left none =
    rw none (append-nil (along_vectors sides rides (parts ++ [])) ∙ ap (along_vectors sides rides) (append-nil parts))

pub whole_some : (sides : List Side) (rides : Bool) (most : ℕ) (parts : List ℕ) (left : ℕ) → 0 < left → along_parts sides rides most parts 0 left ≡ []
unfolding along_parts parts_below choices
whole_some sides rides most parts left some = rw (ne_eqb 0 left (omega arith)) refl

-- ---- the vectors of a piece
pub all_vectors : (sides : List Side) (rides : Bool) (d total : ℕ) → flat_map (rides_along sides rides) (vectors d total) ≡ along_parts sides rides total [] d total
unfolding vectors along_parts parts_below
all_vectors sides rides d total = flat_map-flat_map (rides_along sides rides) vectors_of (absolutes d total)

-- ---- the parts as they are set
-- the same before `at`
pub kept_parts : (xs ys : List ℕ) (at a : ℕ) → at < length xs → take (at + 1) ys ≡ take (at + 1) (set xs at a) → take at ys ≡ take at xs
kept_parts xs ys at a below same =
    sym (take-take at (at + 1) ys (omega arith)) ∙ (ap (take at) same ∙ (take-take at (at + 1) (set xs at a) (omega arith) ∙ take-set-le at xs at a (omega arith)))

pub begun_more : (xs ys : List ℕ) (at a : ℕ) → at < length ys → take at ys ≡ take at xs → take (at + 1) (set ys at a) ≡ take at xs ++ a ∷ []
begun_more xs ys at a below same = take_more_set ys at a below ∙ ap (λ ps. ps ++ a ∷ []) same
