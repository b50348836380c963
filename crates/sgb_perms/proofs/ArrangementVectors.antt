-- The vector of an arrangement tells the arrangement.
use Rattle.std.proofs.Common.{◌≡◌, ◌≤◌, ◌+◌, ◌-◌, ℕ, zero, suc, List, [], ◌∷◌, ◌++◌, length, replicate, Bool, true, nat_le, ◌&&◌, inl, inr, refl, sym, ap, ap₂, ◌∙◌, arith}
use Rattle.std.specs.List.{filter}
use Rattle.std.proofs.lemmas.Bool.{cases_order, and_parts, and_from, leb-true, le-leb, lt-ltb, le-ltb, eq-eqb, ne_eqb}
use Rattle.sgb_perms.specs.Arrangement.{count, counts_from, smaller_right, vector_from}
use Rattle.sgb_perms.specs.Private.Listed.{placed}
use Rattle.sgb_perms.proofs.Vectors.{below, at, length-smaller_right}
use Rattle.sgb_perms.proofs.VectorArrangements.{copies_of, decoded, length-placed}

-- the numbers of the copies of one kind: none is greater than the one before, and the first not than `most`
unfoldable pub falls : ℕ → List ℕ → Bool
falls most [] = true
falls most (x ∷ xs) = nat_le x most && falls x xs

pub falls-more : (m n : ℕ) (xs : List ℕ) → m ≤ n → falls m xs ≡ true → falls n xs ≡ true
unfolding falls
falls-more m n [] le is = refl
falls-more m n (x ∷ xs) le is =
    let both = and_parts (nat_le x m) (falls x xs) is in
    and_from (nat_le x n) (falls x xs) (le-leb x n (omega (arith, leb-true x m both.0))) both.1

-- one copy after another is inserted
unfoldable placed_all : List ℕ → ℕ → List ℕ → List ℕ
placed_all row k [] = row
placed_all row k (x ∷ xs) = placed_all (placed row k x) k xs

-- an element in front stays there
placed-cons : (y k x : ℕ) (row : List ℕ) → x ≤ length row → placed (y ∷ row) k x ≡ y ∷ placed row k x
placed-cons y k x row le =
    let one_on : suc (length row) - x ≡ suc (length row - x) = omega arith in
    rw one_on refl

placed_all-cons : (y k : ℕ) (xs row : List ℕ) → falls (length row) xs ≡ true → placed_all (y ∷ row) k xs ≡ y ∷ placed_all row k xs
unfolding placed_all falls
placed_all-cons y k [] row is = refl
placed_all-cons y k (x ∷ xs) row is =
    let both = and_parts (nat_le x (length row)) (falls x xs) is in
    let le = leb-true x (length row) both.0 in
    let long = length-placed row k x in
    ap (λ r. placed_all r k xs) (placed-cons y k x row le)
    ∙ placed_all-cons y k xs (placed row k x) (falls-more x (length (placed row k x)) xs (omega arith) both.1)

pub falls-smaller_right : (k : ℕ) (a : List ℕ) → falls (count (below k) a) (smaller_right k a) ≡ true
unfolding falls smaller_right
falls-smaller_right k [] = refl
falls-smaller_right k (y ∷ a) =
    let rest = falls-smaller_right k a in
    elim (cases_order y k) [
      | inl same ↦
          rw (eq-eqb y k same, le-ltb y k (omega arith))
          (and_from (nat_le (count (below k) a) (count (below k) a)) (falls (count (below k) a) (smaller_right k a))
          (le-leb (count (below k) a) (count (below k) a) (omega arith)) rest)
      | inr other ↦
          elim other [
            | inl less ↦
                rw (ne_eqb y k (λ same. omega arith), lt-ltb y k less)
                (falls-more (count (below k) a) (suc (count (below k) a)) (smaller_right k a) (omega arith) rest)
            | inr more ↦ rw (ne_eqb y k (λ same. omega arith), le-ltb y k (omega arith)) rest
          ]
    ]

-- the copies go to where they stand
merged : (k : ℕ) (a : List ℕ) → placed_all (filter (below k) a) k (smaller_right k a) ≡ filter (below (k + 1)) a
unfolding placed_all smaller_right
merged k [] = refl
merged k (y ∷ a) =
    let rest = merged k a in
    let row = filter (below k) a in
    let fall = falls-smaller_right k a in
    elim (cases_order y k) [
      | inl same ↦
          let none : length row - length row ≡ 0 = omega arith in
          let first : placed row k (length row) ≡ k ∷ row = rw none refl in
          rw (eq-eqb y k same, le-ltb y k (omega arith), lt-ltb y (k + 1) (omega arith))
          (ap (λ r. placed_all r k (smaller_right k a)) first
          ∙ (placed_all-cons k k (smaller_right k a) row fall ∙ ap₂ (λ z zs. z ∷ zs) (sym same) rest))
      | inr other ↦
          elim other [
            | inl less ↦
                rw (ne_eqb y k (λ same. omega arith), lt-ltb y k less, lt-ltb y (k + 1) (omega arith))
                (placed_all-cons y k (smaller_right k a) row fall ∙ ap (λ zs. y ∷ zs) rest)
            | inr more ↦ rw (ne_eqb y k (λ same. omega arith), le-ltb y k (omega arith), le-ltb y (k + 1) (omega arith)) rest
          ]
    ]

copies_of-append : (k : ℕ) (next : List ℕ → List ℕ → List (List ℕ)) (xs : List ℕ) (right : ℕ) (row v : List ℕ) → falls right xs ≡ true → copies_of (length xs) k next right row (xs ++ v) ≡ next (placed_all row k xs) v
unfolding copies_of placed_all falls
copies_of-append k next [] right row v is = refl
copies_of-append k next (x ∷ xs) right row v is =
    let both = and_parts (nat_le x right) (falls x xs) is in
    let low : nat_le x right ≡ true = both.0 in
    rw low (copies_of-append k next xs x (placed row k x) v both.1)

-- what the vector of a tells is a, as far as its kinds go
pub encoded : (k : ℕ) (counts a : List ℕ) → counts_from k (length counts) a ≡ counts → decoded k counts (filter (below k) a) (vector_from k (length counts) a) ≡ filter (below (k + length counts)) a ∷ []
unfolding decoded vector_from counts_from
encoded k [] a are = let none : k + 0 ≡ k = omega arith in rw none refl
encoded k (c ∷ counts) a are =
    let mine : count (at k) a ≡ c = cc in
    let others : counts_from (k + 1) (length counts) a ≡ counts = cc in
    let long : c ≡ length (smaller_right k a) = sym mine ∙ sym (length-smaller_right k a) in
    let more : k + 1 + length counts ≡ k + suc (length counts) = omega arith in
    let v = vector_from (k + 1) (length counts) a in
    ap (λ n. copies_of n k (decoded (k + 1) counts) (count (below k) a) (filter (below k) a) (smaller_right k a ++ v)) long
    ∙ (copies_of-append k (decoded (k + 1) counts) (smaller_right k a) (count (below k) a) (filter (below k) a) v (falls-smaller_right k a)
    ∙ (ap (λ r. decoded (k + 1) counts r v) (merged k a)
    ∙ (encoded (k + 1) counts a others
    ∙ ap (λ n. filter (below n) a ∷ []) more)))

-- the elements of kind 0
pub zeros_kept : (a : List ℕ) → filter (below 1) a ≡ replicate (count (at 0) a) 0
zeros_kept [] = refl
zeros_kept (zero ∷ a) = ap (λ xs. 0 ∷ xs) (zeros_kept a)
zeros_kept (suc y ∷ a) =
    rw (ne_eqb (suc y) 0 (λ same. omega arith), le-ltb (suc y) 1 (omega arith)) (zeros_kept a)
