-- The insertions of moves and pairs, as loops over numbers make them.
use Rattle.std.proofs.Common.{◌≡◌, ◌<◌, ◌+◌, ◌-◌, ℕ, Bool, true, false, Result, pos, List, [], ◌∷◌, length, get_or, nat_lt, if◌then◌else◌, sym, ap, subst, ◌∙◌, arith}
use Rattle.std.specs.List.{flat_map, range_with_len, slice_index}
use Rattle.sgb_graph.specs.declared.builder.Builder.{Builder}
use Rattle.sgb_graph.specs.Builder.{Insertion, insertion, grown, Inserts}
use Rattle.sgb_graph.specs.declared.refusal.Refusal.{Refusal}
use Rattle.sgb_graph.proofs.Insertions.{grown-nil}
use Rattle.std.proofs.lemmas.Bool.{cond-true, cond-false, lt-ltb, le-ltb}
use Rattle.sgb_graph.proofs.InsertionRuns.{LeftFrom, from_start, from_start_at, flat_map-filter, map-filter}
use Rattle.sgb_simplex.specs.Moves.{moves, moves_to, moves_from, move_from}
use Rattle.sgb_simplex.specs.Overlap.{pairs, pairs_to, is_partner}

-- ---- what is inserted or not
pub none_inserted : (b : Builder) (t : Bool) (es : List Insertion) → t ≡ false → b ≡ grown b (if t then es else [])
none_inserted b t es off = sym (ap (grown b) (cond-false t es [] off) ∙ grown-nil b)

pub some_inserted : (b new : Builder) (t : Bool) (es fs : List Insertion) (r : Result (Unit {0}) Refusal) → t ≡ true → es ≡ fs → Inserts {T = Unit {0}} b new es r → Inserts {T = Unit {0}} b new (if t then fs else []) r
some_inserted b new t es fs r on same = subst (λ l. Inserts {T = Unit {0}} b new l r) (same ∙ sym (cond-true t fs [] on))

-- ---- runs of them
abbrev pub pair_of : List (List ℕ) → ℕ → ℕ → ℕ → List Insertion
pair_of all bits v u = if is_partner all bits v u then insertion u v (pos 1) ∷ [] else []

pub pairs_begin : (b : Builder) (all : List (List ℕ)) (bits n : ℕ) → n ≡ length all → LeftFrom b (pairs all bits) b (pairs_to all bits) 0 n
unfolding pairs
pairs_begin b all bits n is =
    subst (λ k. LeftFrom b (flat_map (pairs_to all bits) (range_with_len 0 k)) b (pairs_to all bits) 0 n) is (from_start b (pairs_to all bits) n)

pub pairs_to_begin : (b : Builder) (all : List (List ℕ)) (bits v : ℕ) → LeftFrom b (pairs_to all bits v) b (pair_of all bits v) 0 (v + 1)
pairs_to_begin b all bits v =
    subst (λ es. LeftFrom b es b (pair_of all bits v) 0 (v + 1)) (sym (map-filter (λ u. insertion u v (pos 1)) (is_partner all bits v) (range_with_len 0 (v + 1)))) (from_start b (pair_of all bits v) (v + 1))

abbrev pub moves_at : List (List ℕ) → List ℕ → ℕ → List Insertion
moves_at all bounds v = moves_to all bounds v (get_or all v [])

pub moves_begin : (b : Builder) (all : List (List ℕ)) (bounds : List ℕ) (n : ℕ) → n ≡ length all → LeftFrom b (moves all bounds) b (moves_at all bounds) 0 n
unfolding moves
moves_begin b all bounds n is =
    subst (λ k. LeftFrom b (flat_map (moves_at all bounds) (range_with_len 0 k)) b (moves_at all bounds) 0 n) is (from_start b (moves_at all bounds) n)

abbrev pub moves_if : List (List ℕ) → List ℕ → ℕ → List ℕ → ℕ → List Insertion
moves_if all bounds v t j = if nat_lt 0 (slice_index t j) then moves_from all bounds v t j else []

pub moves_to_begin : (b : Builder) (all : List (List ℕ)) (bounds : List ℕ) (v : ℕ) (t : List ℕ) (n : ℕ) → n ≡ length bounds - 1 → LeftFrom b (moves_to all bounds v t) b (moves_if all bounds v t) 0 n
moves_to_begin b all bounds v t n is =
    subst (λ es. LeftFrom b es b (moves_if all bounds v t) 0 n)
    (ap (λ k. flat_map (moves_if all bounds v t) (range_with_len 0 k)) is ∙ sym (flat_map-filter (moves_from all bounds v t) (λ j. nat_lt 0 (slice_index t j)) (range_with_len 0 (length bounds - 1))))
    (from_start b (moves_if all bounds v t) n)

pub none_to_take : (t : List ℕ) (j : ℕ) → slice_index t j ≡ 0 → nat_lt 0 (slice_index t j) ≡ false
none_to_take t j none = le-ltb 0 (slice_index t j) (omega (arith, none))

abbrev pub move_if : List (List ℕ) → List ℕ → ℕ → List ℕ → ℕ → ℕ → List Insertion
move_if all bounds v t j k = if nat_lt (slice_index t k) (slice_index bounds k) then move_from all v t j k ∷ [] else []

pub moves_from_begin : (b : Builder) (all : List (List ℕ)) (bounds : List ℕ) (v : ℕ) (t : List ℕ) (j n : ℕ) → n ≡ length bounds → 0 < slice_index t j → LeftFrom b (moves_if all bounds v t j) b (move_if all bounds v t j) (j + 1) n
moves_from_begin b all bounds v t j n is some =
    subst (λ es. LeftFrom b es b (move_if all bounds v t j) (j + 1) n)
    (ap (λ k. flat_map (move_if all bounds v t j) (range_with_len (j + 1) (k - (j + 1)))) is
    ∙ (sym (map-filter (move_from all v t j) (λ k. nat_lt (slice_index t k) (slice_index bounds k)) (range_with_len (j + 1) (length bounds - (j + 1))))
    ∙ sym (cond-true (nat_lt 0 (slice_index t j)) (moves_from all bounds v t j) [] (lt-ltb 0 (slice_index t j) some))))
    (from_start_at b (move_if all bounds v t j) (j + 1) n)
