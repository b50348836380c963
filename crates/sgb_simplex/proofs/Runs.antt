-- Lemmas on lists that are joined from one list for each number of a range.
use Rattle.std.proofs.Common.{◌≡◌, ◌<◌, ◌≤◌, ◌+◌, ℕ, zero, suc, List, [], ◌++◌, length, Bool, true, false, not, eqb, refl, ap, subst, ◌∙◌, arith}
use Rattle.std.specs.List.{flat_map, position_or_len, range_with_len}
use Rattle.std.proofs.lemmas.Bool.{eq-eqb, ne_eqb}
use Rattle.std.proofs.lemmas.List.{length-append}
use Rattle.std.proofs.lemmas.List.Folds.{prefix_len-append}
use Rattle.sgb_simplex.specs.Private.Counts.{sum_from}

-- ---- ranges that are cut
pub agree : {Y : Type 0} (f g : ℕ → List Y) (a n : ℕ) → ((x : ℕ) → a ≤ x → x < a + n → f x ≡ g x) → flat_map f (range_with_len a n) ≡ flat_map g (range_with_len a n)
agree f g a zero same = refl
agree f g a (suc n) same =
    let here : f a ≡ g a = same a (omega arith) (omega arith) in
    let rest : flat_map f (range_with_len (a + 1) n) ≡ flat_map g (range_with_len (a + 1) n) = agree f g (a + 1) n (λ x low high. same x (omega arith) (omega arith)) in
    ap (λ ys. ys ++ flat_map f (range_with_len (a + 1) n)) here ∙ ap (λ ys. g a ++ ys) rest

pub empty : {Y : Type 0} (f : ℕ → List Y) (a n : ℕ) → ((x : ℕ) → a ≤ x → x < a + n → f x ≡ []) → flat_map f (range_with_len a n) ≡ []
empty f a zero none = refl
empty f a (suc n) none =
    let here : f a ≡ [] = none a (omega arith) (omega arith) in
    ap (λ ys. ys ++ flat_map f (range_with_len (a + 1) n)) here ∙ empty f (a + 1) n (λ x low high. none x (omega arith) (omega arith))

pub cut_above : {Y : Type 0} (f : ℕ → List Y) (a n m : ℕ) → m ≤ n → ((x : ℕ) → a + m ≤ x → x < a + n → f x ≡ []) → flat_map f (range_with_len a n) ≡ flat_map f (range_with_len a m)
cut_above f a n zero less none = empty f a n (λ x low high. none x (omega arith) high)
cut_above f a zero (suc m) less none = absurd (omega (arith, less))
cut_above f a (suc n) (suc m) less none =
    ap (λ ys. f a ++ ys) (cut_above f (a + 1) n m (omega (arith, less)) (λ x low high. none x (omega arith) (omega arith)))

pub cut : {Y : Type 0} (f g : ℕ → List Y) (n all : ℕ) → n ≤ all → ((x : ℕ) → x < n → f x ≡ g x) → ((x : ℕ) → n ≤ x → f x ≡ []) → flat_map f (range_with_len 0 all) ≡ flat_map g (range_with_len 0 n)
cut f g n all le same none = cut_above f 0 all n le (λ x low high. none x (omega arith)) ∙ agree f g 0 n (λ x low high. same x (omega arith))

pub cut_below : {Y : Type 0} (f : ℕ → List Y) (a k n m b : ℕ) → m ≡ k + n → b ≡ a + k → ((x : ℕ) → a ≤ x → x < b → f x ≡ []) → flat_map f (range_with_len a m) ≡ flat_map f (range_with_len b n)
cut_below f a zero n m b sum is none =
    let same : m ≡ n = omega (arith, sum) in
    let start : a ≡ b = omega (arith, is) in
    ap (λ l. flat_map f (range_with_len a l)) same ∙ ap (λ l. flat_map f (range_with_len l n)) start
cut_below f a (suc k) n zero b sum is none = absurd (omega (arith, sum))
cut_below f a (suc k) n (suc m) b sum is none =
    let here : f a ≡ [] = none a (omega arith) (omega (arith, is)) in
    ap (λ ys. ys ++ flat_map f (range_with_len (a + 1) m)) here
    ∙ cut_below f (a + 1) k n m b (omega (arith, sum)) (omega (arith, is)) (λ x low high. none x (omega arith) high)

-- ---- how long they are, and where an element stands
pub length_in : {Y : Type 0} (f : ℕ → List Y) (a n : ℕ) → length (flat_map f (range_with_len a n)) ≡ sum_from (λ x. length (f x)) a n
unfolding sum_from
length_in f a zero = refl
length_in f a (suc n) = length-append (f a) (flat_map f (range_with_len (a + 1) n)) ∙ ap (λ k. length (f a) + k) (length_in f (a + 1) n)

position-here : {Y : Type 0} (p : Y → Bool) (xs ys : List Y) → position_or_len p xs < length xs → position_or_len p (xs ++ ys) ≡ position_or_len p xs
position-here p xs ys found =
    let other : eqb (position_or_len p xs) (length xs) ≡ false = ne_eqb (position_or_len p xs) (length xs) (λ same. omega (arith, found, same)) in
    prefix_len-append (λ x. not (p x)) xs ys ∙ rw other refl

position-behind : {Y : Type 0} (p : Y → Bool) (xs ys : List Y) → position_or_len p xs ≡ length xs → position_or_len p (xs ++ ys) ≡ length xs + position_or_len p ys
position-behind p xs ys none =
    let all : eqb (position_or_len p xs) (length xs) ≡ true = eq-eqb (position_or_len p xs) (length xs) none in
    prefix_len-append (λ x. not (p x)) xs ys ∙ rw all refl

pub position_in : {Y : Type 0} (p : Y → Bool) (f : ℕ → List Y) (a n k x : ℕ) → k < n → x ≡ a + k → ((y : ℕ) → a ≤ y → y < x → position_or_len p (f y) ≡ length (f y)) → position_or_len p (f x) < length (f x)
    → position_or_len p (flat_map f (range_with_len a n)) ≡ sum_from (λ y. length (f y)) a k + position_or_len p (f x)
unfolding sum_from
position_in p f a zero k x less is none found = absurd (omega (arith, less))
position_in p f a (suc n) zero x less is none found =
    let here : x ≡ a = omega (arith, is) in
    let at : position_or_len p (f a) < length (f a) = subst (λ y. position_or_len p (f y) < length (f y)) here found in
    let first : position_or_len p (f a ++ flat_map f (range_with_len (a + 1) n)) ≡ position_or_len p (f a) = position-here p (f a) (flat_map f (range_with_len (a + 1) n)) at in
    let same : position_or_len p (f x) ≡ position_or_len p (f a) = ap (λ y. position_or_len p (f y)) here in
    omega (arith, first, same)
position_in p f a (suc n) (suc k) x less is none found =
    let first : position_or_len p (f a ++ flat_map f (range_with_len (a + 1) n)) ≡ length (f a) + position_or_len p (flat_map f (range_with_len (a + 1) n)) =
    position-behind p (f a) (flat_map f (range_with_len (a + 1) n)) (none a (omega arith) (omega (arith, is))) in
    let rest : position_or_len p (flat_map f (range_with_len (a + 1) n)) ≡ sum_from (λ y. length (f y)) (a + 1) k + position_or_len p (f x) =
    position_in p f (a + 1) n k x (omega (arith, less)) (omega (arith, is)) (λ y low high. none y (omega arith) high) found in
    omega (arith, first, rest)
