-- Lemmas on rows as they are counted, with budgets at the front of a buffer, the next one last.
use Rattle.std.proofs.Common.{◌≡◌, ◌<◌, ◌≤◌, ◌+◌, ◌-◌, ℕ, zero, suc, List, [], ◌∷◌, ◌++◌, length, get_or, set, take, sym, ap, ◌∙◌, arith}
use Rattle.std.specs.Prelude.{reverse}
use Rattle.std.proofs.lemmas.List.{length-append, length-map, length-set, take_more, take_more_set, take-take, take-set-le}
use Rattle.sgb_binary.specs.Private.Listing.{rows, dotted_rows, leaf_rows, rooms, letters_left}
use Rattle.sgb_binary.proofs.Rows.{rows_end, rows_more, dotted_none, rooms-nil}

-- without dots there is one row, of leaves alone
pub leaves_alone : (bs : List ℕ) → length (rows (letters_left 0 bs) bs) ≡ 1
leaves_alone [] = ap (λ ws. length ws) rows_end
leaves_alone (b ∷ bs) =
    let m : ℕ = letters_left 0 bs in
    let more : letters_left 0 (b ∷ bs) ≡ suc m = omega arith in
    let cut : rows (letters_left 0 (b ∷ bs)) (b ∷ bs) ≡ dotted_rows m b bs ++ leaf_rows m bs = ap (λ k. rows k (b ∷ bs)) more ∙ rows_more m b bs in
    let none = ap (λ ws. length ws) (dotted_none b bs) in
    omega (arith, ap (λ ws. length ws) cut, length-append (dotted_rows m b bs) (leaf_rows m bs), none, length-map (rows m bs) (λ w. 120 ∷ w), leaves_alone bs)

-- where there is room for a dot, a tree is waiting
pub some_waiting : (bs : List ℕ) (w d : ℕ) → 0 < d → d ≤ rooms (reverse (take w bs)) → 0 < w
some_waiting bs zero d some enough =
    let little : d ≤ rooms [] = enough in
    absurd (omega (arith, rooms-nil, little, some))
some_waiting bs (suc w) d some enough = omega arith

-- the next budget
pub last_of_front : (bs : List ℕ) (w : ℕ) → 0 < w → w ≤ length bs → take w bs ≡ take (w - 1) bs ++ get_or bs (w - 1) 0 ∷ []
last_of_front bs w some within =
    let more : w - 1 + 1 ≡ w = omega arith in
    ap (λ k. take k bs) (sym more) ∙ take_more bs (w - 1) 0 (omega arith)

-- one behind the front, and two
pub one_behind : (bs : List ℕ) (w k : ℕ) → w < length bs → take (w + 1) (set bs w k) ≡ take w bs ++ k ∷ []
one_behind bs w k less = take_more_set bs w k less

pub two_behind : (bs : List ℕ) (w k : ℕ) → w + 1 < length bs → take (w + 2) (set (set bs w k) (w + 1) k) ≡ take (w + 1) (set bs w k) ++ k ∷ []
two_behind bs w k less =
    let more : w + 1 + 1 ≡ w + 2 = omega arith in
    ap (λ n. take n (set (set bs w k) (w + 1) k)) (sym more)
    ∙ take_more_set (set bs w k) (w + 1) k (omega (arith, less, length-set bs w k))

-- what stands before two that are written is kept
pub kept_before : (bs after : List ℕ) (w k : ℕ) → take (w + 2) after ≡ take (w + 2) (set (set bs w k) (w + 1) k) → take w after ≡ take w bs
kept_before bs after w k same =
    sym (take-take w (w + 2) after (omega arith))
    ∙ (ap (take w) same
    ∙ (take-take w (w + 2) (set (set bs w k) (w + 1) k) (omega arith)
    ∙ (take-set-le w (set bs w k) (w + 1) k (omega arith) ∙ take-set-le w bs w k (omega arith))))
