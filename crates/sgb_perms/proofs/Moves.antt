-- Lemmas on the exchanges that are inserted.
use Rattle.std.proofs.Common.{◌≡◌, ◌<◌, ◌≤◌, ◌+◌, ◌-◌, ℕ, List, [], ◌∷◌, length, get_or, true, false, cond, sym, ap, subst, ◌∙◌, pos, arith}
use Rattle.std.specs.List.{flat_map, range_with_len}
use Rattle.std.proofs.lemmas.Bool.{cond-true, cond-false, lt-ltb, le-ltb}
use Rattle.std.proofs.lemmas.List.Elements.{Contains-get_or}
use Rattle.sgb_graph.specs.Builder.{Insertion, insertion}
use Rattle.sgb_graph.proofs.InsertionRuns.{LeftFrom, from_start, map-filter}
use Rattle.sgb_graph.specs.declared.builder.Builder.{Builder}
use Rattle.sgb_perms.specs.Arrangement.{is_descent, descents, exchanged, arrangements}
use Rattle.sgb_perms.specs.Perms.{exchange, exchanges, exchanges_of, place_of, row_at}
use Rattle.sgb_perms.specs.Private.Places.{IsClosed, LeadsWithin}
use Rattle.sgb_perms.proofs.ExchangeSources.{exchange_listed, place_within, exchanged_back}

-- the exchange at a place, where there is one
abbrev pub move_at : List (List ℕ) → ℕ → List ℕ → ℕ → List Insertion
move_at rows v a place = cond (is_descent a place) (exchange rows v a place ∷ []) []

moves_are : (rows : List (List ℕ)) (v : ℕ) (a : List ℕ) → flat_map (move_at rows v a) (range_with_len 0 (length a - 1)) ≡ exchanges_of rows v a
unfolding exchanges_of descents
moves_are rows v a = sym (map-filter (exchange rows v a) (is_descent a) (range_with_len 0 (length a - 1)))

pub moves_start : (b : Builder) (rows : List (List ℕ)) (v : ℕ) (a : List ℕ) → LeftFrom b (exchanges_of rows v a) b (move_at rows v a) 0 (length a - 1)
moves_start b rows v a =
    subst (λ all. LeftFrom b all b (move_at rows v a) 0 (length a - 1)) (moves_are rows v a) (from_start b (move_at rows v a) (length a - 1))

pub exchanges_start : (b : Builder) (rows : List (List ℕ)) → LeftFrom b (exchanges rows) b (λ v. exchanges_of rows v (row_at rows v)) 0 (length rows)
unfolding exchanges
exchanges_start b rows = from_start b (λ v. exchanges_of rows v (row_at rows v)) (length rows)

pub move_some : (rows : List (List ℕ)) (v : ℕ) (a : List ℕ) (place from : ℕ) → is_descent a place ≡ true → from ≡ place_of rows (exchanged a place) → insertion from v (pos 1) ∷ [] ≡ move_at rows v a place
move_some rows v a place from descends is =
    ap (λ t. insertion t v (pos 1) ∷ []) is ∙ sym (cond-true (is_descent a place) (exchange rows v a place ∷ []) [] descends)

pub move_none : (rows : List (List ℕ)) (v : ℕ) (a : List ℕ) (place : ℕ) → is_descent a place ≡ false → move_at rows v a place ≡ []
move_none rows v a place rises = cond-false (is_descent a place) (exchange rows v a place ∷ []) [] rises

-- no exchange leads out of the arrangements
pub closed : (zeros : ℕ) (counts : List ℕ) (most : ℕ) → IsClosed (arrangements (zeros ∷ counts) most)
closed zeros counts most v less place low descends =
    let rows = arrangements (zeros ∷ counts) most in
    place_within rows (exchanged (row_at rows v) place)
    (exchange_listed zeros counts most (row_at rows v) place (Contains-get_or rows v [] less) low descends)

-- ---- as they are met in a row that is, for now, another list of the same elements
pub descends_so : (row a : List ℕ) (place : ℕ) → row ≡ a → get_or row (place + 1) 0 < get_or row place 0 → is_descent a place ≡ true
descends_so row a place same less =
    lt-ltb (get_or a (place + 1) 0) (get_or a place 0) (subst (λ r. get_or r (place + 1) 0 < get_or r place 0) same less)

pub rises_so : (row a : List ℕ) (place : ℕ) → row ≡ a → get_or row place 0 ≤ get_or row (place + 1) 0 → is_descent a place ≡ false
rises_so row a place same le =
    le-ltb (get_or a (place + 1) 0) (get_or a place 0) (subst (λ r. get_or r place 0 ≤ get_or r (place + 1) 0) same le)

pub place_so : (rows : List (List ℕ)) (row after a : List ℕ) (place to : ℕ) → row ≡ a → after ≡ exchanged row place → LeadsWithin rows a → place + 1 < length a → is_descent a place ≡ true → (place_of rows after < length rows → to ≡ place_of rows after) → to ≡ place_of rows (exchanged a place)
place_so rows row after a place to same put leads low descends found =
    let moved : after ≡ exchanged a place = put ∙ ap (λ r. exchanged r place) same in
    found (subst (λ r. place_of rows r < length rows) (sym moved) (leads place low descends)) ∙ ap (place_of rows) moved

pub row_back : (row after last a : List ℕ) (place : ℕ) → place + 1 < length a → row ≡ a → after ≡ exchanged row place → last ≡ exchanged after place → last ≡ a
row_back row after last a place within same put back =
    back ∙ (ap (λ r. exchanged r place) (put ∙ ap (λ r. exchanged r place) same) ∙ exchanged_back a place within)

-- where an exchange leads there is a vertex
pub from_within : (rows : List (List ℕ)) (a : List ℕ) (place from : ℕ) → LeadsWithin rows a → place + 1 < length a → is_descent a place ≡ true → from ≡ place_of rows (exchanged a place) → from < length rows
from_within rows a place from closed low descends is =
    let less : place_of rows (exchanged a place) < length rows = closed place low descends in
    omega arith
