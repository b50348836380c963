-- The size in front of a graph in graph6, and bytes of six bits.
use Rattle.std.proofs.Common.{◌≡◌, ℕ, ◌+◌, ◌-◌, ◌*◌, ◌^◌, ◌<◌, ◌≤◌, true, false, List, length, take, drop, get_or, sym, ap, ◌∙◌, subst, arith}
use Rattle.std.proofs.Math.Nat.{pow-le-pow_right}
use Rattle.std.proofs.lemmas.Bool.Decides.{nat_tests}
use Rattle.std.proofs.lemmas.Grind.{common_steps}
use Rattle.std.proofs.lemmas.List.{take_rest, length-take, length-drop}
use Rattle.std.proofs.lemmas.List.Elements.{All-take, All-drop}
use Rattle.std.proofs.lemmas.List.Sums.{AllPass-from_list_all, list_all-from_AllPass, fold_more}
use Rattle.std.specs.List.{list_all}
use Rattle.sgb_import.specs.Graph6.{is_six_bits, number_in, tildes, size_end, has_size, size_in, body_in}
use Rattle.sgb_import.specs.Private.Pairs.{AreSixBits}

pub AreSixBits-drop : (n : ℕ) (xs : List ℕ) → AreSixBits xs → AreSixBits (drop n xs)
AreSixBits-drop n xs h =
    list_all-from_AllPass is_six_bits (drop n xs) (All-drop (λ b. is_six_bits b ≡ true) n xs (AllPass-from_list_all is_six_bits xs h))

pub AreSixBits-take : (n : ℕ) (xs : List ℕ) → AreSixBits xs → AreSixBits (take n xs)
AreSixBits-take n xs h =
    list_all-from_AllPass is_six_bits (take n xs) (All-take (λ b. is_six_bits b ≡ true) n xs (AllPass-from_list_all is_six_bits xs h))

pub tildes-below : (bytes : List ℕ) → tildes bytes < size_end bytes
unfolding tildes size_end
tildes-below bytes = grind (arith, nat_tests)

pub size_end-near : (bytes : List ℕ) → size_end bytes ≤ tildes bytes + 6
unfolding tildes size_end
size_end-near bytes = grind (arith, nat_tests)

pub has_size-true : (bytes : List ℕ) → AreSixBits bytes → size_end bytes ≤ length bytes → has_size bytes ≡ true
unfolding has_size
has_size-true bytes six long = grind (arith, nat_tests)

pub has_size-false : (bytes : List ℕ) → list_all is_six_bits bytes ≡ false → has_size bytes ≡ false
unfolding has_size
has_size-false bytes other = grind (arith, nat_tests)

pub has_size-short : (bytes : List ℕ) → length bytes < size_end bytes → has_size bytes ≡ false
unfolding has_size
has_size-short bytes short = grind (arith, nat_tests)

pub body-six_bits : (bytes : List ℕ) → has_size bytes ≡ true → AreSixBits (body_in bytes)
unfolding has_size body_in
body-six_bits bytes h =
    let six : AreSixBits bytes = grind (arith, nat_tests) in
    AreSixBits-drop (size_end bytes) bytes six

-- the digits of the size, as the code cuts them
pub digits-six_bits : (bytes front : List ℕ) (from end : ℕ) → front ≡ take end bytes → AreSixBits bytes → AreSixBits (take (length front - from) (drop from front))
digits-six_bits bytes front from end e six =
    AreSixBits-take (length front - from) (drop from front) (AreSixBits-drop from front (subst AreSixBits (sym e) (AreSixBits-take end bytes six)))

pub digits-few : (front : List ℕ) (from : ℕ) → length front ≤ from + 6 → length (take (length front - from) (drop from front)) ≤ 6
digits-few front from h = simp (length-take, length-drop) (omega arith)

pub size_in-digits : (bytes front : List ℕ) (from : ℕ) → front ≡ take (size_end bytes) bytes → from ≡ tildes bytes →
    number_in (take (length front - from) (drop from front)) ≡ size_in bytes
unfolding size_in
size_in-digits bytes front from e t =
    ap number_in (take_rest front from) ∙ ap (λ xs. number_in (drop from xs)) e ∙ ap (λ k. number_in (drop k (take (size_end bytes) bytes))) t

pub six_bits-at : (xs : List ℕ) (i : ℕ) → AreSixBits xs → i < length xs → get_or xs i 0 ≤ 126
six_bits-at xs i six h = grind (arith, nat_tests, common_steps, AllPass-from_list_all is_six_bits xs six)

pub number_in-more : (xs : List ℕ) (i : ℕ) → i < length xs → number_in (take (i + 1) xs) ≡ 64 * number_in (take i xs) + (get_or xs i 0 - 63)
unfolding number_in
number_in-more xs i h = fold_more (λ (n b : ℕ). 64 * n + (b - 63)) 0 xs i 0 h

-- five digits and one more fit
pub digits_below : (i n : ℕ) → i < 6 → n < 64 ^ i → n < 2 ^ 30
digits_below i n few h =
    let five : i ≤ 5 = omega arith in
    let e : 64 ^ i ≤ 64 ^ 5 = pow-le-pow_right {n = 64} (omega arith) {i = i} {j = 5} five in
    omega arith

pub digit_fits : (n d p : ℕ) → n < p → d < 64 → 64 * n + d < p * 64
digit_fits n d p h l = omega arith
