-- Lemmas on the plan of a board, and on when there is none.
use Rattle.std.proofs.Common.{◌≡◌, ◌<◌, ◌≤◌, ◌%◌, ◌==◌, ℕ, zero, suc, ℤ, pos, negsuc, unsigned_abs, int_lt, nat_le, List, [], length, map, get_or, drop, Bool, true, false, ◌&&◌, Ok, Err, if◌then◌else◌, refl, sym, ap, subst, ◌∙◌, arith}
use Rattle.std.specs.List.{range_with_len}
use Rattle.std.proofs.lemmas.Bool.{le-leb, lt-leb, and_from}
use Rattle.std.proofs.lemmas.List.{length-map}
use Rattle.std.proofs.lemmas.List.Elements.{All-map}
use Rattle.std.proofs.lemmas.List.FromFn.{length-map-range_with_len, length-range_with_len, get_or-range_with_len}
use Rattle.std.proofs.lemmas.List.Sums.{prefix_len_passes}
use Rattle.std.proofs.lemmas.Nat.{mod_below}
use Rattle.sgb_graph.specs.declared.builder.Builder.{Builder}
use Rattle.sgb_graph.specs.declared.refusal.Refusal.{Refusal}
use Rattle.sgb_graph.specs.declared.refusal.Refusal.TheVariants.{TooLarge, BadSpecs}
use Rattle.sgb_graph.specs.Graph.{n_of}
use Rattle.sgb_graph.specs.New.{bare_graph}
use Rattle.sgb_plan.specs.Listing.{is_positive, leading, count_from, count_of, listed_at, listed}
use Rattle.sgb_plan.specs.Plan.{Plan, IsMade, with_named, MayAllocate}
use Rattle.sgb_plan.proofs.Plans.{begun, n-with_named, many_vertices}
use Rattle.sgb_make.specs.declared.side.Side.{Side}
use Rattle.sgb_make.specs.declared.spec.BoardSpec.{BoardSpec}
use Rattle.sgb_make.specs.Board.{sizes_asked, piece_of, most_of_piece, sides_of, board_id, board_plan, plan_of_board}
use Rattle.sgb_simplex.specs.Points.{point_vertex}
use Rattle.sgb_make.specs.Ride.{positions}
use Rattle.sgb_make.specs.Private.Rank.{volume, cells}
use Rattle.sgb_make.specs.Private.Ridden.{ridden_plan}
use Rattle.sgb_make.proofs.Ranks.{length-positions}
use Rattle.sgb_make.proofs.Volumes.{ArePositive, cells-sides_of}

-- ---- the builder of a plan
pub begins : (p : Plan) (types : List ℕ) (b : Builder) → b ≡ record { graph = bare_graph p.id types []; directed = p.directed } → types ≡ p.types → b ≡ begun p
begins p types b is letters = is ∙ ap (λ t. record { graph = bare_graph p.id t []; directed = p.directed }) letters

pub named_n : (p : Plan) (sides : List Side) (a b : Builder) → a ≡ begun p → b ≡ with_named a p.vertices → p.vertices ≡ map point_vertex (positions sides) → n_of b.graph ≡ cells sides
named_n p sides a b begin named is =
    let none : n_of a.graph ≡ 0 = ap (λ (c : Builder). n_of c.graph) begin in
    let all : n_of b.graph ≡ n_of (with_named a p.vertices).graph = ap (λ (c : Builder). n_of c.graph) named in
    omega (arith, none, all, n-with_named a p.vertices, ap length is, length-map (positions sides) point_vertex, length-positions sides)

-- ---- the sizes
pub length-listed : (more : ℕ) (ns : List ℤ) → length (listed more ns) ≡ count_of more ns
unfolding listed
length-listed more ns = length-map-range_with_len (listed_at ns) 0 (count_of more ns)

is_begun : (k c i : ℕ) → i < (if k == 0 then 0 else c) → 0 < k
is_begun zero c i inside = omega (arith, inside)
is_begun (suc k) c i inside = omega arith

positive_abs : (z : ℤ) → is_positive z ≡ true → 0 < unsigned_abs z
positive_abs (pos zero) is = absurd (let wrong : false ≡ true = is in cc)
positive_abs (pos (suc n)) is = omega arith
positive_abs (negsuc n) is = omega arith

positive_at : (ns : List ℤ) (k : ℕ) → k < leading ns → is_positive (get_or ns k (pos 0)) ≡ true
positive_at ns k low = prefix_len_passes is_positive ns k (pos 0) low

pub positive-listed : (more : ℕ) (ns : List ℤ) → ArePositive (listed more ns)
unfolding listed
positive-listed more ns =
    let n : ℕ = count_of more ns in
    All-map (λ k. 0 < k) (listed_at ns) (range_with_len 0 n)
    (λ i d below.
    let inside : i < n = omega (arith, length-range_with_len 0 n) in
    let some : 0 < leading ns = is_begun (leading ns) (count_from more (leading ns) (drop (leading ns) ns)) i inside in
    let here : get_or (range_with_len 0 n) i d ≡ i = get_or-range_with_len 0 n i d inside ∙ omega arith in
    subst (λ j. 0 < listed_at ns j) (sym here)
    (positive_abs (get_or ns (i % leading ns) (pos 0)) (positive_at ns (i % leading ns) (mod_below i (leading ns) some))))

-- ---- when there is no plan
and_no : (p q : Bool) → q ≡ false → (p && q) ≡ false
and_no true q fails = fails
and_no false q fails = refl

pub too_many_sizes : (s : BoardSpec) → 20 < count_of 0 (sizes_asked s) → plan_of_board s ≡ Err BadSpecs
too_many_sizes s many =
    let d : ℕ = length (listed 0 (sizes_asked s)) in
    let over : nat_le d 20 ≡ false = lt-leb d 20 (omega (arith, length-listed 0 (sizes_asked s))) in
    ap (λ t. if t && nat_le (unsigned_abs (piece_of s)) (most_of_piece d) then Ok (board_plan s (sides_of s.wrap (listed 0 (sizes_asked s)))) else Err BadSpecs) over

pub too_large_piece : (s : BoardSpec) → most_of_piece (length (listed 0 (sizes_asked s))) < unsigned_abs (piece_of s) → plan_of_board s ≡ Err BadSpecs
too_large_piece s large =
    let d : ℕ = length (listed 0 (sizes_asked s)) in
    let over : (nat_le d 20 && nat_le (unsigned_abs (piece_of s)) (most_of_piece d)) ≡ false = and_no (nat_le d 20) (nat_le (unsigned_abs (piece_of s)) (most_of_piece d)) (lt-leb (unsigned_abs (piece_of s)) (most_of_piece d) large) in
    ap (λ t. if t then Ok (board_plan s (sides_of s.wrap (listed 0 (sizes_asked s)))) else Err BadSpecs) over

pub planned : (s : BoardSpec) → length (listed 0 (sizes_asked s)) ≤ 20 → unsigned_abs (piece_of s) ≤ most_of_piece (length (listed 0 (sizes_asked s))) → plan_of_board s ≡ Ok (board_plan s (sides_of s.wrap (listed 0 (sizes_asked s))))
planned s few small =
    let d : ℕ = length (listed 0 (sizes_asked s)) in
    let both : (nat_le d 20 && nat_le (unsigned_abs (piece_of s)) (most_of_piece d)) ≡ true = and_from (nat_le d 20) (nat_le (unsigned_abs (piece_of s)) (most_of_piece d)) (le-leb d 20 few) (le-leb (unsigned_abs (piece_of s)) (most_of_piece d) small) in
    ap (λ t. if t then Ok (board_plan s (sides_of s.wrap (listed 0 (sizes_asked s)))) else Err BadSpecs) both

pub board_plan_is : (s : BoardSpec) (sides : List Side) → ridden_plan (board_id s) sides (int_lt (piece_of s) (pos 0)) (unsigned_abs (piece_of s)) s.directed ≡ board_plan s sides
unfolding board_plan
board_plan_is s sides = refl

pub too_many_positions : (s : BoardSpec) (sizes : List ℕ) (e : Refusal) → e ≡ TooLarge → 65535 < volume sizes → IsMade (Ok (board_plan s (sides_of s.wrap sizes))) (Err e)
unfolding board_plan
too_many_positions s sizes e is many =
    let sides = sides_of s.wrap sizes in
    many_vertices (board_plan s sides) is (omega (arith, many, length-map (positions sides) point_vertex, length-positions sides, cells-sides_of s.wrap sizes))

-- a board of few positions may want for memory
pub few_positions : (s : BoardSpec) → length (listed 0 (sizes_asked s)) ≤ 20 → unsigned_abs (piece_of s) ≤ most_of_piece (length (listed 0 (sizes_asked s))) → volume (listed 0 (sizes_asked s)) ≤ 65535 → MayAllocate (plan_of_board s)
unfolding board_plan
few_positions s few small positions_few =
    let sizes : List ℕ = listed 0 (sizes_asked s) in
    let sides = sides_of s.wrap sizes in
    subst MayAllocate (sym (planned s few small))
    (omega (arith, positions_few, length-map (positions sides) point_vertex, length-positions sides, cells-sides_of s.wrap sizes))
