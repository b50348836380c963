-- What digits spell.
use Rattle.std.proofs.Common.{◌≡◌, ◌≢◌, ℕ, ◌+◌, ◌-◌, ◌*◌, ◌^◌, ◌<◌, ◌≤◌, min, true, nat_lt, nat_le, List, take, drop, Option, Some, None, pos, neg_ℤ, refl, sym, ap, ◌∙◌, arith}
use Rattle.std.specs.Option.{option_and_then}
use Rattle.std.specs.Char.{digit_value}
use Rattle.std.specs.Str.Parse.{digits_value}
use Rattle.std.proofs.lemmas.Bool.{lt-ltb, le-ltb, le-leb, lt-leb, eq-eqb, ne_eqb}
use Rattle.std.proofs.Math.Nat.{pow-le-pow_right}
use Rattle.sgb_grammar.specs.Number.{digits_in, digits_at, count_of, positive_of, negative_of}

pub digit_is : (c : ℕ) → 48 ≤ c → c ≤ 57 → digit_value c ≡ c - 48
digit_is c low high = rw (le-ltb c 48 low, lt-ltb c 58 (omega arith)) refl

-- one digit more, each number cut off
pub worth_more : (top n v q d : ℕ) → v ≡ min n top → q ≡ min (v * 10 + d) top → q ≡ min (n * 10 + d) top
worth_more top n v q d e f = omega arith

-- with one digit more, few digits spell a number that has a place in 64 bits
pub few_digits : (v k d : ℕ) → v < 10 ^ k → k < 19 → d < 10 → v * 10 + d < 2 ^ 64
few_digits v k d h few e =
    let power : 10 ^ k ≤ 10 ^ 18 = pow-le-pow_right (let some : 0 < 10 = omega arith in some) (let least : k ≤ 18 = omega (arith, few) in least) in
    omega (arith, h, e, power)

pub no_digits : (bs : List ℕ) (k : ℕ) → k ≡ digits_in bs → k ≡ 0 → digits_at bs ≡ None
unfolding digits_at
no_digits bs k e z = rw (eq-eqb (digits_in bs) 0 (sym e ∙ z)) refl

pub some_digits : (bs : List ℕ) (k : ℕ) → k ≡ digits_in bs → k ≢ 0 → digits_at bs ≡ Some (digits_value 10 (take k bs), drop k bs)
unfolding digits_at
some_digits bs k e nz = rw (ne_eqb (digits_in bs) 0 (λ z. nz (e ∙ z))) (ap (λ j. Some (digits_value 10 (take j bs), drop j bs)) (sym e))

uncapped : (n v : ℕ) → v ≡ min n (2 ^ 64 - 1) → v ≤ 2 ^ 63 → n ≡ v
uncapped n v e h = omega arith

large : (n v : ℕ) → v ≡ min n (2 ^ 64 - 1) → 2 ^ 63 ≤ v → 2 ^ 63 ≤ n
large n v e h = omega arith

larger : (n v : ℕ) → v ≡ min n (2 ^ 64 - 1) → 2 ^ 63 < v → 2 ^ 63 < n
larger n v e h = omega arith

pub count_small : (m : Option (ℕ × List ℕ)) (n v : ℕ) (rest : List ℕ) → m ≡ Some (n, rest) → v ≡ min n (2 ^ 64 - 1) → v < 2 ^ 63 → option_and_then count_of m ≡ Some (v, rest)
count_small m n v rest e f h =
    let same = uncapped n v f (omega arith) in
    let small : nat_lt n (2 ^ 63) ≡ true = lt-ltb n (2 ^ 63) (omega arith) in
    rw (e, small) (ap (λ k. Some (k, rest)) same)

pub count_large : (m : Option (ℕ × List ℕ)) (n v : ℕ) (rest : List ℕ) → m ≡ Some (n, rest) → v ≡ min n (2 ^ 64 - 1) → 2 ^ 63 ≤ v → option_and_then count_of m ≡ None
count_large m n v rest e f h = rw (e, le-ltb n (2 ^ 63) (large n v f h)) refl

pub positive_small : (m : Option (ℕ × List ℕ)) (n v : ℕ) (rest : List ℕ) → m ≡ Some (n, rest) → v ≡ min n (2 ^ 64 - 1) → v < 2 ^ 63 → option_and_then positive_of m ≡ Some (pos v, rest)
positive_small m n v rest e f h =
    let same = uncapped n v f (omega arith) in
    let small : nat_lt n (2 ^ 63) ≡ true = lt-ltb n (2 ^ 63) (omega arith) in
    rw (e, small) (ap (λ k. Some (pos k, rest)) same)

pub positive_large : (m : Option (ℕ × List ℕ)) (n v : ℕ) (rest : List ℕ) → m ≡ Some (n, rest) → v ≡ min n (2 ^ 64 - 1) → 2 ^ 63 ≤ v → option_and_then positive_of m ≡ None
positive_large m n v rest e f h = rw (e, le-ltb n (2 ^ 63) (large n v f h)) refl

pub negative_small : (m : Option (ℕ × List ℕ)) (n v : ℕ) (rest : List ℕ) → m ≡ Some (n, rest) → v ≡ min n (2 ^ 64 - 1) → v ≤ 2 ^ 63 → option_and_then negative_of m ≡ Some (neg_ℤ (pos v), rest)
negative_small m n v rest e f h =
    let same = uncapped n v f h in
    let small : nat_le n (2 ^ 63) ≡ true = le-leb n (2 ^ 63) (omega arith) in
    rw (e, small) (ap (λ k. Some (neg_ℤ (pos k), rest)) same)

pub negative_large : (m : Option (ℕ × List ℕ)) (n v : ℕ) (rest : List ℕ) → m ≡ Some (n, rest) → v ≡ min n (2 ^ 64 - 1) → 2 ^ 63 < v → option_and_then negative_of m ≡ None
negative_large m n v rest e f h = rw (e, lt-leb n (2 ^ 63) (larger n v f h)) refl
