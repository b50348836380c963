-- Boards: which graph a specification plans.
use Rattle.std.specs.Prelude.{◌^◌, ℕ, ℤ, pos, unsigned_abs, int_le, int_lt, nat_le, List, [], ◌∷◌, ◌++◌, length, map, codes, Bool, ◌&&◌, Result, Ok, Err, if◌then◌else◌}
use Rattle.std.specs.Fmt.{signed_decimal}
use Rattle.std.specs.Int.{int_rem_euclid, int_div_euclid}
use Rattle.std.specs.List.{flat_map, range_with_len, zip}
use Rattle.std.specs.Ordering.{int_eq}
use Rattle.sgb_graph.specs.declared.refusal.Refusal.{Refusal}
use Rattle.sgb_graph.specs.declared.refusal.Refusal.TheVariants.{BadSpecs}
use Rattle.sgb_plan.specs.Id.{id_of, flag_text}
use Rattle.sgb_plan.specs.Listing.{listed, shown}
use Rattle.sgb_plan.specs.Plan.{Plan}
use Rattle.sgb_simplex.specs.Points.{point_types, point_vertex}
use Rattle.sgb_make.specs.declared.spec.BoardSpec.{BoardSpec}
use Rattle.sgb_make.specs.declared.side.Side.{Side}
use Rattle.sgb_make.specs.Ride.{positions, rides_along}
use Rattle.sgb_make.specs.Vector.{vectors}

-- the four numbers of sizes: without a first size, those of a chessboard
abbrev pub sizes_asked : BoardSpec → List ℤ
sizes_asked s =
    if int_le s.n1 (pos 0) then pos 8 ∷ pos 8 ∷ pos 0 ∷ s.n4 ∷ []
    else (s.n1 ∷ s.n2 ∷ s.n3 ∷ s.n4 ∷ [])

abbrev pub piece_of : BoardSpec → ℤ
piece_of s = if int_eq s.piece (pos 0) then pos 1 else s.piece

-- bit k of a number in two's complement
abbrev pub has_bit : ℤ → ℕ → Bool
has_bit z k = int_eq (int_rem_euclid (int_div_euclid z (pos (2 ^ k))) (pos 2)) (pos 1)

-- the side of a size and its place: its ends are joined where the bit of that place is set
abbrev pub side_at : ℤ → (ℕ × ℕ) → Side
side_at wrap p = record { size = p.0; wraps = has_bit wrap p.1 }

-- the sides of these sizes, whose places are numbered from 0
abbrev pub sides_of : ℤ → List ℕ → List Side
sides_of wrap sizes = map (side_at wrap) (zip sizes (range_with_len 0 (length sizes)))

-- the greatest absolute value of a piece on a board of d coordinates, of which there are at most 20
abbrev pub most_of_piece : ℕ → ℕ
most_of_piece d = if nat_le d 4 then 128 else (if nat_le d 16 then 16 else 4)

abbrev pub is_board : ℕ → ℤ → Bool
is_board d piece = nat_le d 20 && nat_le (unsigned_abs piece) (most_of_piece d)

abbrev pub board_id : BoardSpec → List ℕ
board_id s =
    id_of (codes "board")
    (map signed_decimal (shown (sizes_asked s) ++ piece_of s ∷ s.wrap ∷ []) ++ flag_text s.directed ∷ [])

unfoldable pub board_plan : BoardSpec → List Side → Plan
board_plan s sides = record {
  id = board_id s;
  types = point_types;
  vertices = map point_vertex (positions sides);
  directed = s.directed;
  insertions = flat_map (rides_along sides (int_lt (piece_of s) (pos 0))) (vectors (length sides) (unsigned_abs (piece_of s)));
}

-- a rider, with a piece below 0, goes on until its ride ends
abbrev pub plan_of_board : BoardSpec → Result Plan Refusal
plan_of_board s =
    let sizes = listed 0 (sizes_asked s) in
    if is_board (length sizes) (piece_of s) then Ok (board_plan s (sides_of s.wrap sizes)) else Err BadSpecs
