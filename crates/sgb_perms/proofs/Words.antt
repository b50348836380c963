-- Lemmas on the lists of numbers below a bound.
use Rattle.std.proofs.Common.{◌≡◌, ◌≢◌, ◌<◌, ◌≤◌, ◌+◌, ℕ, zero, suc, List, [], ◌∷◌, length, map, true, nat_lt, All, Contains, refl, ap, arith}
use Rattle.std.specs.List.{list_all, range_with_len}
use Rattle.std.proofs.lemmas.Bool.{ltb-true, lt-ltb, and_parts, and_from}
use Rattle.std.proofs.lemmas.List.Elements.{All-nil, All-cons, All-map, All-weaker}
use Rattle.sgb_plan.specs.Distinct.{Distinct}
use Rattle.sgb_plan.proofs.Distincts.{Distinct-nil, Distinct-cons, Distinct-map, Distinct-flat_map_range, All-flat_map}
use Rattle.sgb_perms.specs.Arrangement.{words}
use Rattle.sgb_perms.proofs.Filters.{Contains-head, Contains-flat_map, Contains-range_with_len}

-- n numbers below `below`
pub record IsWord (below n : ℕ) (w : List ℕ) : Type 0 where
  pub long : length w ≡ n
  pub low : list_all (λ y. nat_lt y below) w ≡ true

Contains-map : {X Y : Type 0} (f : X → Y) (xs : List X) (x : X) → Contains xs x → Contains (map f xs) (f x)
Contains-map f [] x (k, less, is) = absurd (omega arith)
Contains-map f (y ∷ xs) x (zero, less, is) = (zero, omega arith, ap f is)
Contains-map f (y ∷ xs) x (suc k, less, is) =
    let rest : Contains (map f xs) (f x) = Contains-map f xs x (k, omega arith, is) in
    (suc rest.0, omega (arith, rest.1), rest.2)

pub words_have : (below n : ℕ) (w : List ℕ) → IsWord below n w → Contains (words below n) w
unfolding words
words_have below zero [] is = Contains-head [] []
words_have below zero (x ∷ w) is = absurd (omega (arith, is.long))
words_have below (suc n) [] is = absurd (omega (arith, is.long))
words_have below (suc n) (x ∷ w) is =
    let both = and_parts (nat_lt x below) (list_all (λ y. nat_lt y below) w) is.low in
    Contains-flat_map (λ y. map (λ v. y ∷ v) (words below n)) (range_with_len 0 below) x (x ∷ w)
    (Contains-range_with_len 0 below x (omega arith) (omega (arith, ltb-true x below both.0)))
    (Contains-map (λ v. x ∷ v) (words below n) w
    (words_have below n w (record { long = omega (arith, is.long); low = both.1 })))

-- what holds of each number of a run
All-range_with_len : (P : ℕ → Type 0) (a n : ℕ) → ((x : ℕ) → a ≤ x → x < a + n → P x) → All P (range_with_len a n)
All-range_with_len P a zero each = All-nil P
All-range_with_len P a (suc n) each =
    All-cons P a (range_with_len (a + 1) n) (each a (omega arith) (omega arith))
    (All-range_with_len P (a + 1) n (λ x low high. each x (omega arith) (omega arith)))

pub words_are : (below n : ℕ) → All (IsWord below n) (words below n)
unfolding words
words_are below zero = All-cons (IsWord below zero) [] [] (record { long = refl; low = refl }) (All-nil (IsWord below zero))
words_are below (suc n) =
    All-flat_map (IsWord below (suc n)) (λ y. map (λ v. y ∷ v) (words below n)) (range_with_len 0 below)
    (All-range_with_len (λ y. All (IsWord below (suc n)) (map (λ v. y ∷ v) (words below n))) 0 below
    (λ y low high.
    All-map (IsWord below (suc n)) (λ v. y ∷ v) (words below n)
    (All-weaker (IsWord below n) (λ v. IsWord below (suc n) (y ∷ v))
    (λ v is.
    record {
      long = ap suc is.long;
      low = and_from (nat_lt y below) (list_all (λ z. nat_lt z below) v) (lt-ltb y below (omega arith)) is.low;
    })
    (words below n) (words_are below n))))

head_or : List ℕ → ℕ
head_or [] = 0
head_or (x ∷ w) = x

pub words_differ : (below n : ℕ) → Distinct (words below n)
unfolding words head_or
words_differ below zero = Distinct-cons [] [] (All-nil (λ w. [] ≢ w)) Distinct-nil
words_differ below (suc n) =
    Distinct-flat_map_range (λ x. map (λ w. x ∷ w) (words below n)) head_or 0 below
    (λ x. All-map (λ w. head_or w ≡ x) (λ w. x ∷ w) (words below n) (λ k d less. refl))
    (λ x. Distinct-map (λ w. x ∷ w) (words below n) (λ v w same. cc) (words_differ below n))
