-- Lemmas on sums of values of a function.
use Rattle.std.proofs.Common.{◌≡◌, ◌<◌, ◌≤◌, ◌+◌, ◌-◌, ◌*◌, ℕ, zero, suc, min, refl, ap, arith}
use Rattle.sgb_simplex.specs.Private.Counts.{sum_from}

pub sum_same : (f g : ℕ → ℕ) (a n : ℕ) → ((x : ℕ) → a ≤ x → x < a + n → f x ≡ g x) → sum_from f a n ≡ sum_from g a n
unfolding sum_from
sum_same f g a zero same = refl
sum_same f g a (suc n) same =
    let here : f a ≡ g a = same a (omega arith) (omega arith) in
    let rest : sum_from f (a + 1) n ≡ sum_from g (a + 1) n = sum_same f g (a + 1) n (λ x low high. same x (omega arith) (omega arith)) in
    omega (arith, here, rest)

pub sum_more : (f : ℕ → ℕ) (a n m x : ℕ) → m ≡ n + 1 → x ≡ a + n → sum_from f a m ≡ sum_from f a n + f x
unfolding sum_from
sum_more f a n zero x more is = absurd (omega (arith, more))
sum_more f a zero (suc m) x more is =
    let none : m ≡ 0 = omega (arith, more) in
    let here : f x ≡ f a = ap f (let same : x ≡ a = omega (arith, is) in same) in
    let rest : sum_from f (a + 1) m ≡ 0 = ap (sum_from f (a + 1)) none in
    omega (arith, here, rest)
sum_more f a (suc n) (suc m) x more is =
    let rest : sum_from f (a + 1) m ≡ sum_from f (a + 1) n + f x = sum_more f (a + 1) n m x (omega (arith, more)) (omega (arith, is)) in
    omega (arith, rest)

pub sum_part : (f : ℕ → ℕ) (a k n x : ℕ) → k < n → x ≡ a + k → sum_from f a k + f x ≤ sum_from f a n
unfolding sum_from
sum_part f a k zero x less is = absurd (omega (arith, less))
sum_part f a zero (suc n) x less is =
    let here : f x ≡ f a = ap f (let same : x ≡ a = omega (arith, is) in same) in
    omega (arith, here)
sum_part f a (suc k) (suc n) x less is =
    let rest : sum_from f (a + 1) k + f x ≤ sum_from f (a + 1) n = sum_part f (a + 1) k n x (omega (arith, less)) (omega (arith, is)) in
    omega (arith, rest)

-- a sum from its other end
pub sum_back : (g : ℕ → ℕ) (s k rest : ℕ) → k + rest ≡ s + 1 → sum_from (λ y. g (s - y)) 0 k + sum_from g 0 rest ≡ sum_from g 0 (s + 1)
unfolding sum_from
sum_back g s zero rest all =
    let same : sum_from g 0 rest ≡ sum_from g 0 (s + 1) = ap (sum_from g 0) (let whole : rest ≡ s + 1 = omega (arith, all) in whole) in
    omega (arith, same)
sum_back g s (suc k) rest all =
    let before : sum_from (λ y. g (s - y)) 0 k + sum_from g 0 (rest + 1) ≡ sum_from g 0 (s + 1) = sum_back g s k (rest + 1) (omega (arith, all)) in
    let one : sum_from (λ y. g (s - y)) 0 (suc k) ≡ sum_from (λ y. g (s - y)) 0 k + g (s - k) = sum_more (λ y. g (s - y)) 0 k (suc k) k (omega arith) (omega arith) in
    let last : sum_from g 0 (rest + 1) ≡ sum_from g 0 rest + g rest = sum_more g 0 rest (rest + 1) rest (omega arith) (omega arith) in
    let same : g (s - k) ≡ g rest = ap g (let is : s - k ≡ rest = omega (arith, all) in is) in
    omega (arith, before, one, last, same)

-- a count up to a limit may be made of counts up to it
pub sum_limited : (c : ℕ) (f : ℕ → ℕ) (a n : ℕ) → min c (sum_from (λ x. min c (f x)) a n) ≡ min c (sum_from f a n)
unfolding sum_from
sum_limited c f a zero = refl
sum_limited c f a (suc n) =
    let rest : min c (sum_from (λ x. min c (f x)) (a + 1) n) ≡ min c (sum_from f (a + 1) n) = sum_limited c f (a + 1) n in
    omega (arith, rest)

pub sum_bounded : (c : ℕ) (f : ℕ → ℕ) (a n : ℕ) → ((x : ℕ) → f x ≤ c) → sum_from f a n ≤ n * c
unfolding sum_from
sum_bounded c f a zero small = omega arith
sum_bounded c f a (suc n) small = grind (arith, small a, sum_bounded c f (a + 1) n small)
