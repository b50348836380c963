-- Lemmas on coordinates that are moved.
use Rattle.std.proofs.Common.{◌≡◌, ◌<◌, ◌≤◌, ◌+◌, ◌-◌, ◌*◌, ◌/◌, ◌%◌, ℕ, suc, ℤ, pos, negsuc, ◌+ℤ◌, unsigned_abs, int_lt, int_le, Bool, true, false, ◌&&◌, Option, Some, None, if◌then◌else◌, inl, inr, refl, sym, ap, ◌∙◌, arith}
use Rattle.std.proofs.Math.IntN.{neg_ℤ}
use Rattle.std.proofs.Math.Nat.{mod-add-mod, le-mul_of_pos_right}
use Rattle.std.proofs.lemmas.Bool.{cases_Bool, ltb-true, le-leb, lt-ltb, and_from}
use Rattle.std.proofs.lemmas.Int.{ints, int_rem_euclid_is}
use Rattle.std.proofs.lemmas.Nat.{div-add-mod', mod_below, mod-mul-add}
use Rattle.std.specs.Int.{int_rem_euclid}
use Rattle.sgb_make.specs.declared.side.Side.{Side}
use Rattle.sgb_make.specs.Ride.{moved}

-- a step back on a side whose ends are joined
pub back_wrapped : (x n by : ℕ) → 0 < n → (x + (n - by % n)) % n ≡ unsigned_abs (int_rem_euclid (pos x +ℤ neg_ℤ (pos by)) (pos n))
back_wrapped x n by some =
    let q = by / n in
    let parts : q * n + by % n ≡ by = div-add-mod' by n in
    let low : by % n < n = mod_below by n some in
    let more : (q + 1) * n ≡ q * n + n = omega arith in
    sym (ap unsigned_abs (int_rem_euclid_is (pos x +ℤ neg_ℤ (pos by)) (pos n) n (q + 1) (x + (n - by % n)) some refl (omega (arith, ints))))

-- ---- remainders of sums
-- enough times the divisor makes a number a natural one
made_natural : (z : ℤ) (n : ℕ) → 0 < n → (k : ℕ) × ((m : ℕ) × (z +ℤ pos (k * n) ≡ pos m))
made_natural (pos a) n some = (0, (a, omega (arith, ints)))
made_natural (negsuc a) n some =
    let high : suc a ≤ suc a * n = le-mul_of_pos_right (suc a) some in
    (suc a, (suc a * n - suc a, omega (arith, ints)))

pub rem_sum : (u z : ℤ) (n : ℕ) → 0 < n → int_rem_euclid (u +ℤ z) (pos n) ≡ int_rem_euclid (pos (unsigned_abs (int_rem_euclid u (pos n))) +ℤ z) (pos n)
rem_sum (pos a) z n some =
    let (k, (m, is)) = made_natural z n some in
    int_rem_euclid_is (pos a +ℤ z) (pos n) n k (a + m) some refl (omega (arith, ints))
    ∙ (ap pos (sym (mod-add-mod a n m))
    ∙ sym (int_rem_euclid_is (pos (a % n) +ℤ z) (pos n) n k (a % n + m) some refl (omega (arith, ints))))
rem_sum (negsuc a) z n some =
    let (k, (m, is)) = made_natural z n some in
    let q = a / n in
    let parts : q * n + a % n ≡ a = div-add-mod' a n in
    let low : a % n < n = mod_below a n some in
    let more : (k + (q + 1)) * n ≡ k * n + (q * n + n) = omega arith in
    int_rem_euclid_is (negsuc a +ℤ z) (pos n) n (k + (q + 1)) (n - 1 - a % n + m) some refl (omega (arith, ints))
    ∙ sym (int_rem_euclid_is (pos (n - 1 - a % n) +ℤ z) (pos n) n k (n - 1 - a % n + m) some refl (omega (arith, ints)))

rem_low : (y : ℤ) (n : ℕ) → 0 < n → unsigned_abs (int_rem_euclid y (pos n)) < n
rem_low (pos a) n some = mod_below a n some
rem_low (negsuc a) n some = omega arith

-- ---- a side whose ends are not joined
abbrev within : ℕ → ℤ → Option ℕ
within n y = if int_le (pos 0) y && int_lt y (pos n) then Some (unsigned_abs y) else None

and_second : (p q : Bool) → (p && q) ≡ true → q ≡ true
and_second true q both = both
and_second false q both = absurd (let wrong : false ≡ true = both in cc)

within_is : (n : ℕ) (y : ℤ) (x : ℕ) → within n y ≡ Some x → (y ≡ pos x) × (x < n)
within_is n (negsuc a) x is = absurd (let wrong : None ≡ Some x = is in cc)
within_is n (pos a) x is =
    let test = int_le (pos 0) (pos a) && int_lt (pos a) (pos n) in
    elim (cases_Bool test) [
      | inl low ↦
          let same : Some a ≡ Some x = sym (ap (λ t. if t then Some a else None) low) ∙ is in
          let here : a ≡ x = cc in
          let below : a < n = ltb-true a n (and_second (int_le (pos 0) (pos a)) (int_lt (pos a) (pos n)) low) in
          (ap pos here, omega (arith, here, below))
      | inr high ↦ absurd (let wrong : None ≡ Some x = sym (ap (λ t. if t then Some a else None) high) ∙ is in cc)
    ]

-- ---- both
abbrev moved_to : Bool → ℕ → ℤ → Option ℕ
moved_to wraps n y = if wraps then Some (unsigned_abs (int_rem_euclid y (pos n))) else within n y

below_to : (wraps : Bool) (n : ℕ) (y : ℤ) (x : ℕ) → 0 < n → moved_to wraps n y ≡ Some x → x < n
below_to true n y x some is =
    let same : unsigned_abs (int_rem_euclid y (pos n)) ≡ x = cc in
    omega (arith, rem_low y n some, same)
below_to false n y x some is = (within_is n y x is).1

pub moved-below : (a : Side) (x : ℕ) (z : ℤ) (y : ℕ) → x < a.size → moved a x z ≡ Some y → y < a.size
moved-below a x z y on is = below_to a.wraps a.size (pos x +ℤ z) y (omega arith) is

sum_assoc : (x w z : ℤ) → x +ℤ (w +ℤ z) ≡ x +ℤ w +ℤ z
sum_assoc x w z = omega (arith, ints)

next_to : (wraps : Bool) (n : ℕ) (u z : ℤ) (y : ℕ) → 0 < n → moved_to wraps n u ≡ Some y → moved_to wraps n (u +ℤ z) ≡ moved_to wraps n (pos y +ℤ z)
next_to true n u z y some is =
    let same : unsigned_abs (int_rem_euclid u (pos n)) ≡ y = cc in
    ap (λ r. Some (unsigned_abs r)) (rem_sum u z n some ∙ ap (λ k. int_rem_euclid (pos k +ℤ z) (pos n)) same)
next_to false n u z y some is = ap (λ k. within n (k +ℤ z)) (within_is n u y is).0

-- a second move goes on from where the first one came
pub moved-next : (a : Side) (x : ℕ) (w z : ℤ) (y : ℕ) → x < a.size → moved a x w ≡ Some y → moved a x (w +ℤ z) ≡ moved a y z
moved-next a x w z y on is =
    ap (moved_to a.wraps a.size) (sum_assoc (pos x) w z) ∙ next_to a.wraps a.size (pos x +ℤ w) z y (omega arith) is

-- no move leaves a coordinate where it is
none_to : (wraps : Bool) (n x : ℕ) → x < n → moved_to wraps n (pos x +ℤ pos 0) ≡ Some x
none_to true n x on =
    let same : x + 0 ≡ 0 * n + x = omega arith in
    ap (λ k. Some k) (ap (λ k. k % n) same ∙ mod-mul-add 0 n x on)
none_to false n x on =
    let same : x + 0 ≡ x = omega arith in
    let test : (int_le (pos 0) (pos (x + 0)) && int_lt (pos (x + 0)) (pos n)) ≡ true = and_from (int_le (pos 0) (pos (x + 0))) (int_lt (pos (x + 0)) (pos n)) (le-leb 0 (x + 0) (omega arith)) (lt-ltb (x + 0) n (omega arith)) in
    rw test (ap (λ k. Some k) same)

pub moved-none : (a : Side) (x : ℕ) → x < a.size → moved a x (pos 0) ≡ Some x
moved-none a x on = none_to a.wraps a.size x on
