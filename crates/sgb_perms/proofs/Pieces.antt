-- Lemmas on pieces of one width.
use Rattle.std.proofs.Common.{◌≡◌, ◌<◌, ◌≤◌, ◌+◌, ◌*◌, ℕ, zero, suc, List, [], ◌∷◌, ◌++◌, length, get_or, take, drop, refl, sym, ap, ap₂, ◌∙◌, arith}
use Rattle.std.proofs.Math.Nat.{mul-le-mul_left}
use Rattle.std.proofs.lemmas.List.{length-drop, take_all, take-append-le, drop-append-le, drop-drop, nil_from_length}
use Rattle.sgb_perms.specs.declared.rows.Rows.TheInside.{Inside}
use Rattle.sgb_perms.specs.Private.Rows.{RowsOf, pieces, rows_of, IsRows, with_rows}

pub length-pieces : (n w : ℕ) (xs : List ℕ) → length (pieces n w xs) ≡ n
unfolding pieces
length-pieces zero w xs = refl
length-pieces (suc n) w xs = ap suc (length-pieces n w (drop w xs))

pub pieces_push : (n w : ℕ) (xs row : List ℕ) → length xs ≡ n * w → length row ≡ w → pieces (n + 1) w (xs ++ row) ≡ pieces n w xs ++ row ∷ []
unfolding pieces
pieces_push zero w xs row filled long =
    let none : xs ≡ [] = nil_from_length xs (omega arith) in
    rw none (ap (λ r. r ∷ []) (take_all w row (omega arith)))
pieces_push (suc n) w xs row filled long =
    let one_on : suc n + 1 ≡ suc (n + 1) = omega arith in
    let more : suc n * w ≡ w + n * w = omega arith in
    let fits : w ≤ length xs = omega arith in
    let rest : length (drop w xs) ≡ n * w = length-drop w xs ∙ omega arith in
    rw one_on
    (ap₂ (λ p ps. p ∷ ps) (take-append-le w xs row fits)
    (ap (pieces (n + 1) w) (drop-append-le w xs row fits) ∙ pieces_push n w (drop w xs) row rest long))

pub get_or-pieces : (n w : ℕ) (xs : List ℕ) (i : ℕ) (d : List ℕ) → i < n → get_or (pieces n w xs) i d ≡ take w (drop (i * w) xs)
unfolding pieces
get_or-pieces zero w xs i d less = absurd (omega arith)
get_or-pieces (suc n) w xs zero d less = let none : 0 * w ≡ 0 = omega arith in rw none refl
get_or-pieces (suc n) w xs (suc i) d less =
    let more : w + i * w ≡ suc i * w = omega arith in
    get_or-pieces n w (drop w xs) i d (omega arith)
    ∙ ap (take w) (drop-drop (i * w) w xs ∙ ap (λ m. drop m xs) more)

-- where a piece begins and ends
pub piece_within : (n w i : ℕ) → i < n → i * w + w ≤ n * w
piece_within zero w i less = absurd (omega arith)
piece_within (suc n) w zero less = omega arith
piece_within (suc n) w (suc i) less = let rest = piece_within n w i (omega arith) in omega arith

pub small_product : (n w : ℕ) → n ≤ 65535 → w ≤ 255 → n * w ≤ 16711425
small_product n w few narrow = omega (arith, mul-le-mul_left n narrow, mul-le-mul_left 255 few)

-- ---- a buffer of rows, as it is shown
pub length_shown : (r : Inside) (v : RowsOf) → rows_of r ≡ v → length v.rows ≡ r.count
length_shown r v is = ap (λ (w : RowsOf). length w.rows) (sym is) ∙ length-pieces r.count r.width r.kinds.items

pub width_shown : (r : Inside) (v : RowsOf) → rows_of r ≡ v → v.width ≡ r.width
width_shown r v is = ap (λ (w : RowsOf). w.width) (sym is)

pub end_within : (r : Inside) (v : RowsOf) (place : ℕ) → rows_of r ≡ v → IsRows r → place < length v.rows → place * r.width + r.width ≤ length r.kinds.items
end_within r v place is sound less =
    let count = length_shown r v is in
    let filled = sound.filled in
    let within = piece_within r.count r.width place (omega arith) in
    omega arith

pub end_small : (r : Inside) (v : RowsOf) (place : ℕ) → rows_of r ≡ v → IsRows r → place < length v.rows → place * r.width + r.width ≤ 16711425
end_small r v place is sound less =
    let within = end_within r v place is sound less in
    let filled = sound.filled in
    let small = small_product r.count r.width sound.few sound.narrow in
    omega arith

pub row_shown : (r : Inside) (v : RowsOf) (place : ℕ) → rows_of r ≡ v → place < length v.rows → take r.width (drop (place * r.width) r.kinds.items) ≡ get_or v.rows place []
row_shown r v place is less =
    let count = length_shown r v is in
    sym (get_or-pieces r.count r.width r.kinds.items place [] (omega arith)) ∙ ap (λ (w : RowsOf). get_or w.rows place []) is

pub row_pushed : (r : Inside) (v : RowsOf) (row : List ℕ) → rows_of r ≡ v → IsRows r → length row ≡ v.width → record { width = r.width; rows = pieces (r.count + 1) r.width (r.kinds.items ++ row) } ≡ with_rows v (row ∷ [])
row_pushed r v row is sound long =
    ap (λ ps. record { width = r.width; rows = ps }) (pieces_push r.count r.width r.kinds.items row sound.filled (long ∙ width_shown r v is))
    ∙ ap (λ w. with_rows w (row ∷ [])) is
