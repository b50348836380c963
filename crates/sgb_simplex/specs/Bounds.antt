-- The bounds of coordinates, by the numbers that are given.
use Rattle.std.specs.Prelude.{◌+◌, ◌&&◌, ℕ, ℤ, pos, negsuc, unsigned_abs, int_lt, int_le, nat_le, min, List, ◌∷◌, length, map, replicate, get_or, Bool, Result, Ok, Err, if◌then◌else◌}
use Rattle.std.specs.Fmt.{signed_decimal}
use Rattle.std.specs.Int.{int_min}
use Rattle.std.specs.List.{range_with_len}
use Rattle.std.specs.Ordering.{int_eq}
use Rattle.sgb_graph.specs.declared.refusal.Refusal.{Refusal}
use Rattle.sgb_graph.specs.declared.refusal.Refusal.TheVariants.{BadSpecs}
use Rattle.sgb_plan.specs.Plan.{Plan}
use Rattle.sgb_simplex.specs.Points.{points}
use Rattle.sgb_plan.specs.Listing.{listed, shown_at}

-- 0 stands for -2
abbrev pub first_of : ℤ → ℤ
first_of n0 = if int_eq n0 (pos 0) then negsuc 1 else n0

-- -d in front gives d + 1 times the sum; else the list of the numbers, where -d at its end makes d + 1 of them; none is above the sum
unfoldable pub bounds_of : ℕ → List ℤ → List ℕ
bounds_of total numbers =
    let first : ℤ = get_or numbers 0 (pos 0) in
    if int_lt first (pos 0) then replicate (unsigned_abs first + 1) total
    else map (λ b. min b total) (listed 1 numbers)

-- points may have this sum
abbrev pub is_total : ℤ → Bool
is_total n = int_le (pos 0) n && int_le n (pos 65535)

-- and they have at most 16 coordinates
abbrev pub are_in_range : ℤ → List ℤ → Bool
are_in_range n numbers = is_total n && nat_le (length (bounds_of (unsigned_abs n) numbers)) 16

-- else nothing is planned
abbrev pub plan_within : ℤ → List ℤ → Plan → Result Plan Refusal
plan_within n numbers p = if are_in_range n numbers then Ok p else Err BadSpecs

-- the points with these bounds
abbrev pub points_within : ℤ → List ℤ → List (List ℕ)
points_within n numbers = points (unsigned_abs n) (bounds_of (unsigned_abs n) numbers)

-- the number at this place, as ids show it
abbrev pub shown_bound : ℤ → List ℤ → ℕ → ℤ
shown_bound n numbers i = int_min (shown_at numbers i) n

-- n and the five numbers, as ids show them
abbrev pub shown_parts : ℤ → List ℤ → List (List ℕ)
shown_parts n numbers = signed_decimal n ∷ map (λ i. signed_decimal (shown_bound n numbers i)) (range_with_len 0 5)
