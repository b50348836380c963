-- What is spelled of a number is read as the number.
use Rattle.std.proofs.Common.{◌≡◌, ℕ, ℤ, suc, ◌+◌, ◌-◌, ◌^◌, ◌<◌, ◌≤◌, min, true, List, [], ◌∷◌, ◌++◌, take, drop, length, codes, Some, None, pos, negsuc, refl, sym, ap, ◌∙◌, arith, w64, FitsSigned, option_and_then}
use Rattle.std.specs.Option.{option_map}
use Rattle.std.specs.Char.{is_ascii_digit}
use Rattle.std.specs.Fmt.{decimal, signed_decimal}
use Rattle.std.specs.Str.Parse.{AllDigits, digits_value}
use Rattle.std.proofs.lemmas.Bool.{lt-ltb, le-leb, ne_eqb}
use Rattle.std.proofs.lemmas.Fmt.{digits_decimal, digits_value-decimal, decimal_nonempty, length-decimal-le}
use Rattle.std.proofs.lemmas.Str.Parse.{IsNumeralModel, numerals_by_value, tells_digits}
use Rattle.std.proofs.Math.Seq.{take-append_seam, drop-append_seam}
use Rattle.sgb_grammar.specs.Reading.{after}
use Rattle.sgb_grammar.specs.Number.{digits_in, digits_at, count_of, positive_of, negative_of, count_at, signed_at, number_at}
use Rattle.sgb_grammar.specs.Field.{index_at}

numerals : IsNumeralModel (AllDigits 10) (digits_value 10)
numerals = numerals_by_value (AllDigits 10) tells_digits

digit_yes : (c : ℕ) (cs : List ℕ) → AllDigits 10 (c ∷ cs) → is_ascii_digit c ≡ true
digit_yes c cs d = let range = (tells_digits.parts c cs d).0 in rw (le-leb 48 c range.0, le-leb c 57 range.1) refl

digits_front : (ds rest : List ℕ) → AllDigits 10 ds → digits_in rest ≡ 0 → digits_in (ds ++ rest) ≡ length ds
digits_front [] rest d none = none
digits_front (c ∷ cs) rest d none = rw (digit_yes c cs d) (ap (λ n. 1 + n) (digits_front cs rest d.1 none) ∙ (let same : 1 + length cs ≡ suc (length cs) = omega arith in same))

some_digits : (bs : List ℕ) (k : ℕ) → digits_in bs ≡ k → 0 < k → digits_at bs ≡ Some (digits_value 10 (take k bs), drop k bs)
unfolding digits_at
some_digits bs k e some =
    rw (ne_eqb (digits_in bs) 0 (λ z. let bad : k ≡ 0 = sym e ∙ z in omega arith)) (ap (λ j. Some (digits_value 10 (take j bs), drop j bs)) e)

digits_spelled : (n : ℕ) (rest : List ℕ) → n < 2 ^ 64 → digits_in rest ≡ 0 → digits_at (decimal n ++ rest) ≡ Some (n, rest)
digits_spelled n rest small none =
    let ds = decimal n in
    some_digits (ds ++ rest) (length ds) (digits_front ds rest (digits_decimal numerals n small) none) (decimal_nonempty n small)
    ∙ ap (λ xs. Some (digits_value 10 xs, drop (length ds) (ds ++ rest))) (take-append_seam ds rest)
    ∙ ap (λ xs. Some (digits_value 10 ds, xs)) (drop-append_seam ds rest)
    ∙ ap (λ k. Some (k, rest)) (digits_value-decimal numerals n small)

counted : (n : ℕ) (rest : List ℕ) → n < 2 ^ 63 → count_of (n, rest) ≡ Some (n, rest)
counted n rest small = rw (lt-ltb n (2 ^ 63) small) refl

pub count_spelled : (n : ℕ) (rest : List ℕ) → n < 2 ^ 63 → digits_in rest ≡ 0 → count_at (decimal n ++ rest) ≡ Some (n, rest)
unfolding count_at
count_spelled n rest small none = ap (option_and_then count_of) (digits_spelled n rest (omega arith) none) ∙ counted n rest small

pub index_spelled : (n : ℕ) (rest : List ℕ) → n < 2 ^ 32 → digits_in rest ≡ 0 → index_at (decimal n ++ rest) ≡ Some (n, rest)
unfolding index_at
index_spelled n rest small none =
    let same : min n (2 ^ 32 - 1) ≡ n = omega arith in
    ap (option_map (λ p. (min p.0 (2 ^ 32 - 1), p.1))) (count_spelled n rest (omega arith) none) ∙ ap (λ k. Some (k, rest)) same

no_minus : (ds rest : List ℕ) → AllDigits 10 ds → 0 < length ds → after (codes "-") (ds ++ rest) ≡ None
unfolding after
no_minus [] rest d some = absurd (omega arith)
no_minus (c ∷ cs) rest d some =
    let range = (tells_digits.parts c cs d).0 in
    rw (ne_eqb c 45 (λ e. absurd (omega (arith, range.0)))) refl

positive : (n : ℕ) (rest : List ℕ) → n < 2 ^ 63 → positive_of (n, rest) ≡ Some (pos n, rest)
positive n rest small = rw (lt-ltb n (2 ^ 63) small) refl

negative : (n : ℕ) (rest : List ℕ) → suc n ≤ 2 ^ 63 → negative_of (suc n, rest) ≡ Some (negsuc n, rest)
negative n rest small = rw (le-leb (suc n) (2 ^ 63) small) refl

minus_first : (bs : List ℕ) → after (codes "-") (45 ∷ bs) ≡ Some bs
unfolding after
minus_first bs = refl

pub number_spelled : (z : ℤ) (rest : List ℕ) → FitsSigned w64 z → digits_in rest ≡ 0 → number_at (signed_decimal z ++ rest) ≡ Some (z, rest)
unfolding number_at
number_spelled (pos n) rest fits none =
    let small : n < 2 ^ 63 = fits.sfits in
    ap (λ m. signed_at m (decimal n ++ rest)) (no_minus (decimal n) rest (digits_decimal numerals n (omega arith)) (decimal_nonempty n (omega arith)))
    ∙ ap (option_and_then positive_of) (digits_spelled n rest (omega arith) none) ∙ positive n rest small
number_spelled (negsuc n) rest fits none =
    let small : n < 2 ^ 63 = fits.sfits in
    ap (λ m. signed_at m (45 ∷ (decimal (suc n) ++ rest))) (minus_first (decimal (suc n) ++ rest))
    ∙ ap (option_and_then negative_of) (digits_spelled (suc n) rest (omega arith) none) ∙ negative n rest (omega arith)

-- ---- how it looks
pub decimal_digits : (n : ℕ) → n < 2 ^ 64 → AllDigits 10 (decimal n)
decimal_digits n small = digits_decimal numerals n small

pub decimal_some : (n : ℕ) → n < 2 ^ 64 → 0 < length (decimal n)
decimal_some n small = decimal_nonempty n small

pub digit_start : (c : ℕ) (cs : List ℕ) → AllDigits 10 (c ∷ cs) → 48 ≤ c
digit_start c cs d = (tells_digits.parts c cs d).0.0

pub decimal_short : (n : ℕ) → n < 2 ^ 64 → length (decimal n) ≤ 20
decimal_short n small = length-decimal-le 20 n (omega arith) (omega arith) small

pub signed_short : (z : ℤ) → FitsSigned w64 z → length (signed_decimal z) ≤ 21
signed_short (pos n) fits = let small : n < 2 ^ 63 = fits.sfits in omega (arith, decimal_short n (omega arith))
signed_short (negsuc n) fits = let small : n < 2 ^ 63 = fits.sfits in omega (arith, decimal_short (suc n) (omega arith))
