-- The vectors of arrangements, as they are met by recursion: where a number is too large nothing follows.
use Rattle.std.proofs.Common.{◌≡◌, ◌<◌, ◌≤◌, ◌+◌, ◌-◌, ℕ, zero, suc, min, List, [], ◌∷◌, length, map, Bool, true, false, nat_le, cond, inl, inr, refl, sym, ap, ◌∙◌, arith}
use Rattle.std.specs.List.{flat_map, range_with_len, sum}
use Rattle.std.proofs.lemmas.Bool.{cases_lt, le-leb, lt-leb}
use Rattle.std.proofs.lemmas.List.Folds.{flat_map-map}
use Rattle.std.proofs.lemmas.List.Sums.{sum_by-cons}
use Rattle.sgb_plan.proofs.Lists.{flat_map_agree, flat_map_none, flat_map-flat_map}
use Rattle.sgb_simplex.proofs.Runs.{cut}
use Rattle.sgb_perms.specs.Arrangement.{words}
use Rattle.sgb_perms.specs.Private.Listed.{placed, copies_from, rows_from}
use Rattle.sgb_perms.proofs.VectorArrangements.{copies_of, decoded, length-placed}

-- ---- the sum of a vector and its first number
sum_fits : (x left : ℕ) (v : List ℕ) → x ≤ left → nat_le (sum (x ∷ v)) left ≡ nat_le (sum v) (left - x)
sum_fits x left v le =
    let all : sum (x ∷ v) ≡ x + sum v = sum_by-cons (λ y. y) x v in
    elim (cases_lt (left - x) (sum v)) [
      | inl more ↦ lt-leb (sum (x ∷ v)) left (omega arith) ∙ sym (lt-leb (sum v) (left - x) more)
      | inr less ↦ le-leb (sum (x ∷ v)) left (omega arith) ∙ sym (le-leb (sum v) (left - x) less)
    ]

sum_too_large : (x left : ℕ) (v : List ℕ) → left < x → nat_le (sum (x ∷ v)) left ≡ false
sum_too_large x left v less =
    let all : sum (x ∷ v) ≡ x + sum v = sum_by-cons (λ y. y) x v in
    lt-leb (sum (x ∷ v)) left (omega arith)

-- the vectors with a sum of at most `left`, and what they tell
abbrev pub told : ℕ → (List ℕ → List (List ℕ)) → List ℕ → List (List ℕ)
told left tell v = cond (nat_le (sum v) left) (tell v) []

cond_none : {X : Type 0} (b : Bool) → cond {A = List X} b [] [] ≡ []
cond_none true = refl
cond_none false = refl

-- `next` and `rows` agree on what is left behind the copies of a kind, where m numbers are left of the vector
abbrev GoesOn : ℕ → ℕ → (List ℕ → List ℕ → List (List ℕ)) → (ℕ → List ℕ → List (List ℕ)) → Type 0
GoesOn bound m next rows =
    (left : ℕ) (row : List ℕ) → length row + m ≤ bound →
    flat_map (told left (next row)) (words bound m) ≡ rows left row

copies_pruned : (bound m n k : ℕ) (next : List ℕ → List ℕ → List (List ℕ)) (rows : ℕ → List ℕ → List (List ℕ)) → GoesOn bound m next rows → (all : ℕ) → all ≡ n + m → (right left : ℕ) (row : List ℕ) → right ≤ length row → length row + all ≤ bound → flat_map (told left (copies_of n k next right row)) (words bound all) ≡ copies_from n k rows right left row
unfolding copies_of copies_from words
copies_pruned bound m zero k next rows goes all is right left row low fits =
    let same : all ≡ m = omega arith in
    ap (λ t. flat_map (told left (next row)) (words bound t)) same ∙ goes left row (omega arith)
copies_pruned bound m (suc n) k next rows goes zero is right left row low fits = absurd (omega arith)
copies_pruned bound m (suc n) k next rows goes (suc all) is right left row low fits =
    let tell = copies_of (suc n) k next right row in
    let inner : ℕ → List (List ℕ) = λ x. flat_map (λ v. told left tell (x ∷ v)) (words bound all) in
    let step : flat_map (told left tell) (flat_map (λ x. map (λ v. x ∷ v) (words bound all)) (range_with_len 0 bound)) ≡ flat_map inner (range_with_len 0 bound) =
    flat_map-flat_map (told left tell) (λ x. map (λ v. x ∷ v) (words bound all)) (range_with_len 0 bound)
    ∙ flat_map_agree (λ x. flat_map (told left tell) (map (λ v. x ∷ v) (words bound all))) inner
    (range_with_len 0 bound) (λ x. flat_map-map (told left tell) (λ v. x ∷ v) (words bound all)) in
    let same : (x : ℕ) → x < min right left + 1 → inner x ≡ copies_from n k rows x (left - x) (placed row k x) =
    λ x less.
    let long = length-placed row k x in
    let right_so : nat_le x right ≡ true = le-leb x right (omega arith) in
    flat_map_agree (λ v. told left tell (x ∷ v)) (told (left - x) (copies_of n k next x (placed row k x)))
    (words bound all)
    (λ v. let sums = sum_fits x left v (omega arith) in rw (sums, right_so) refl)
    ∙ copies_pruned bound m n k next rows goes all (omega arith) x (left - x) (placed row k x) (omega arith) (omega arith) in
    let none : (x : ℕ) → min right left + 1 ≤ x → inner x ≡ [] =
    λ x more.
    flat_map_none (λ v. told left tell (x ∷ v)) (words bound all)
    (λ v.
    elim (cases_lt right x) [
      | inl high ↦
          let fails : nat_le x right ≡ false = lt-leb x right high in
          rw fails (cond_none (nat_le (sum (x ∷ v)) left))
      | inr not_high ↦ let fails = sum_too_large x left v (omega arith) in rw fails refl
    ]) in
    step ∙ cut inner (λ x. copies_from n k rows x (left - x) (placed row k x)) (min right left + 1) bound (omega arith) same none

-- the arrangements that the vectors of these counts tell
pub pruned : (bound k : ℕ) (counts : List ℕ) (left : ℕ) (row : List ℕ) → length row + sum counts ≤ bound → flat_map (told left (decoded k counts row)) (words bound (sum counts)) ≡ rows_from k counts left row
unfolding decoded rows_from words
pruned bound k [] left row fits =
    let none : nat_le 0 left ≡ true = le-leb 0 left (omega arith) in
    rw none refl
pruned bound k (c ∷ counts) left row fits =
    let all : sum (c ∷ counts) ≡ c + sum counts = sum_by-cons (λ y. y) c counts in
    copies_pruned bound (sum counts) c k (decoded (k + 1) counts) (rows_from (k + 1) counts)
    (λ rest r few. pruned bound (k + 1) counts rest r few)
    (sum (c ∷ counts)) all (length row) left row (omega arith) fits
