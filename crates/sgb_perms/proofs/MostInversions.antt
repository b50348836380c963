-- The greatest number of inversions: no arrangement has more, and one has as many.
use Rattle.std.proofs.Common.{◌≡◌, ◌<◌, ◌≤◌, ◌+◌, ◌-◌, ◌*◌, ℕ, zero, suc, List, [], ◌∷◌, ◌++◌, length, replicate, true, nat_le, refl, sym, ap, ap₂, ◌∙◌, arith}
use Rattle.std.proofs.Math.Nat.{mul_comm, mul-suc}
use Rattle.std.specs.List.{sum}
use Rattle.std.proofs.lemmas.Bool.{and_parts, leb-true, le-leb}
use Rattle.std.proofs.lemmas.List.{length-replicate}
use Rattle.std.proofs.lemmas.List.Folds.{sum_by-replicate}
use Rattle.std.proofs.lemmas.List.Sums.{sum_by-cons, sum_by-append}
use Rattle.sgb_perms.specs.Arrangement.{count, counts_from, IsArrangement, smaller_right, vector_from, vector_of, greatest_from}
use Rattle.sgb_perms.specs.Private.Listed.{placed}
use Rattle.sgb_perms.proofs.Vectors.{below, at, count_more, length-smaller_right}
use Rattle.sgb_perms.proofs.VectorArrangements.{copies_of, decoded, length-placed}
use Rattle.sgb_perms.proofs.ArrangementVectors.{falls, falls-more, falls-smaller_right, zeros_kept}
use Rattle.sgb_perms.proofs.Arrangements.{from_decoded}

-- ---- none has more
sum_falls : (most : ℕ) (xs : List ℕ) → falls most xs ≡ true → sum xs ≤ most * length xs
unfolding falls
sum_falls most [] is = omega arith
sum_falls most (x ∷ xs) is =
    let both = and_parts (nat_le x most) (falls x xs) is in
    let le = leb-true x most both.0 in
    let rest = sum_falls most xs (falls-more x most xs le both.1) in
    omega (arith, le, rest, sum_by-cons (λ y. y) x xs, mul-suc most (length xs))

sum_vector : (k n : ℕ) (a : List ℕ) → sum (vector_from k n a) ≤ greatest_from (count (below k) a) (counts_from k n a)
unfolding vector_from counts_from greatest_from
sum_vector k zero a = omega arith
sum_vector k (suc n) a =
    let s = count (below k) a in
    let others = counts_from (k + 1) n a in
    let next : count (below (k + 1)) a ≡ s + count (at k) a = omega (arith, count_more k a) in
    let rest = sum_vector (k + 1) n a in
    let same : greatest_from (count (below (k + 1)) a) others ≡ greatest_from (s + count (at k) a) others = ap (λ m. greatest_from m others) next in
    let mine = sum_falls s (smaller_right k a) (falls-smaller_right k a) in
    let long : s * length (smaller_right k a) ≡ s * count (at k) a = ap (λ m. s * m) (length-smaller_right k a) in
    let both = sum_by-append (λ y. y) (smaller_right k a) (vector_from (k + 1) n a) in
    omega (arith, rest, same, mine, long, both)

pub at_most : (counts a : List ℕ) → 0 < length counts → IsArrangement counts a → sum (vector_of counts a) ≤ greatest_from 0 counts
unfolding counts_from greatest_from
at_most [] a some is = absurd (omega arith)
at_most (zeros ∷ cs) a some is =
    let counted : counts_from 0 (suc (length cs)) a ≡ zeros ∷ cs = is.counted in
    let first : count (at 0) a ≡ zeros = cc in
    let later : counts_from 1 (length cs) a ≡ cs = cc in
    let others : suc (length cs) - 1 ≡ length cs = omega arith in
    let mine : sum (vector_of (zeros ∷ cs) a) ≡ sum (vector_from 1 (length cs) a) = ap (λ n. sum (vector_from 1 n a)) others in
    let front : count (below 1) a ≡ zeros = ap length (zeros_kept a) ∙ (length-replicate (count (at 0) a) 0 ∙ first) in
    let same : greatest_from (count (below 1) a) (counts_from 1 (length cs) a) ≡ greatest_from zeros cs = ap₂ greatest_from front later in
    let begun : greatest_from (0 + zeros) cs ≡ greatest_from zeros cs = ap (λ m. greatest_from m cs) (omega arith) in
    omega (arith, mine, sum_vector 1 (length cs) a, same, begun)

-- ---- one has as many: each copy stands in front of all smaller elements
unfoldable top_vector : ℕ → List ℕ → List ℕ
top_vector smaller [] = []
top_vector smaller (c ∷ counts) = replicate c smaller ++ top_vector (smaller + c) counts

sum_top : (smaller : ℕ) (counts : List ℕ) → sum (top_vector smaller counts) ≡ greatest_from smaller counts
unfolding top_vector greatest_from
sum_top smaller [] = refl
sum_top smaller (c ∷ counts) =
    sum_by-append (λ y. y) (replicate c smaller) (top_vector (smaller + c) counts)
    ∙ ap₂ (λ m n. m + n) (sum_by-replicate (λ y. y) c smaller ∙ mul_comm c smaller) (sum_top (smaller + c) counts)

record Copied (n k : ℕ) (next : List ℕ → List ℕ → List (List ℕ)) (right x : ℕ) (row v : List ℕ) : Type 0 where
  after : List ℕ
  made : copies_of n k next right row (replicate n x ++ v) ≡ next after v
  long : length after ≡ length row + n

copied : (n k : ℕ) (next : List ℕ → List ℕ → List (List ℕ)) (right x : ℕ) (row v : List ℕ) → x ≤ right → Copied n k next right x row v
unfolding copies_of
copied zero k next right x row v le = record { after = row; made = refl; long = omega arith }
copied (suc n) k next right x row v le =
    let rest = copied n k next x x (placed row k x) v (omega arith) in
    record {
      after = rest.after;
      made = rw (le-leb x right le) rest.made;
      long = omega (arith, rest.long, length-placed row k x);
    }

record Topped (k : ℕ) (counts row : List ℕ) : Type 0 where
  top : List ℕ
  made : decoded k counts row (top_vector (length row) counts) ≡ top ∷ []

topped : (k : ℕ) (counts row : List ℕ) → Topped k counts row
unfolding decoded top_vector
topped k [] row = record { top = row; made = refl }
topped k (c ∷ counts) row =
    let one = copied c k (decoded (k + 1) counts) (length row) (length row) row (top_vector (length row + c) counts) (omega arith) in
    let rest = topped (k + 1) counts one.after in
    record {
      top = rest.top;
      made = one.made ∙ (ap (λ s. decoded (k + 1) counts one.after (top_vector s counts)) (sym one.long) ∙ rest.made);
    }

pub reached : (counts : List ℕ) → 0 < length counts → (a : List ℕ) × (IsArrangement counts a × (sum (vector_of counts a) ≡ greatest_from 0 counts))
unfolding greatest_from
reached [] some = absurd (omega arith)
reached (zeros ∷ cs) some =
    let t = topped 1 cs (replicate zeros 0) in
    let told = from_decoded zeros cs (top_vector (length (replicate zeros 0)) cs) t.top t.made in
    let long = length-replicate zeros 0 in
    let total : sum (vector_of (zeros ∷ cs) t.top) ≡ greatest_from zeros cs =
    ap sum told.vector ∙ (sum_top (length (replicate zeros 0)) cs ∙ ap (λ s. greatest_from s cs) long) in
    let begun : greatest_from (0 + zeros) cs ≡ greatest_from zeros cs = ap (λ m. greatest_from m cs) (omega arith) in
    (t.top, (told.is, omega (arith, total, begun)))
