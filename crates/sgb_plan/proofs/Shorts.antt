-- Lemmas on the bytes that names and ids are put together from.
use Rattle.std.proofs.Common.{◌≡◌, ◌≢◌, ◌<◌, ◌≤◌, ◌+◌, ◌-◌, ◌*◌, ◌/◌, ◌%◌, ◌^◌, ◌==◌, nat_le, ℕ, zero, suc, ℤ, pos, negsuc, List, [], ◌∷◌, ◌++◌, length, take, codes, decimal, true, false, nat_lt, ◌&&◌, IsTrue, inl, inr, refl, subst, ◌∙◌, arith, length-append}
use Rattle.std.specs.List.{list_all}
use Rattle.std.specs.Fmt.{signed_decimal, digits, digits_onto, digit_glyph}
use lib.Signed.{mag}
use Rattle.std.proofs.lemmas.Bool.{cases_Bool, ltb-true, ltb-false, leb-true, le-leb, ne_eqb, eq-eqb, and_from}
use Rattle.std.proofs.lemmas.List.{length-take}
use Rattle.std.proofs.lemmas.List.Folds.{list_all-append}
use Rattle.std.proofs.lemmas.Fmt.{length-decimal-le, length_signed_le}
use Rattle.sgb_graph.specs.Text.{IsText, is_text_byte}
use Rattle.sgb_graph.proofs.NewLemmas.{decimal_bytes}
use Rattle.sgb_plan.specs.Id.{hexadecimal, shortened}
use Rattle.sgb_plan.specs.Private.Bytes.{IsShort}

pub IsShort-append : {m n : ℕ} {s t : List ℕ} → IsShort m s → IsShort n t → IsShort (m + n) (s ++ t)
IsShort-append {m} {n} {s} {t} front back = record {
  short = omega (arith, length-append s t, front.short, back.short);
  printable =
      list_all-append is_text_byte s t
      ∙ and_from (list_all is_text_byte s) (list_all is_text_byte t) front.printable back.printable;
}

pub IsShort-byte : (c : ℕ) → is_text_byte c ≡ true → IsShort 1 (c ∷ [])
IsShort-byte c is = record { short = omega arith; printable = rw is refl }

pub IsShort-more : {m n : ℕ} {s : List ℕ} → m ≤ n → IsShort m s → IsShort n s
IsShort-more h is = record { short = omega (arith, h, is.short); printable = is.printable }

pub IsShort-as : {n : ℕ} {s t : List ℕ} → IsShort n s → s ≡ t → IsShort n t
IsShort-as {n} is same = subst (IsShort n) same is

pub IsShort-exact : {n : ℕ} {s : List ℕ} → IsShort n s → IsShort (length s) s
IsShort-exact is = record { short = omega arith; printable = is.printable }

pub IsShort-from_text : {t : List ℕ} → IsText t → IsShort (length t) t
IsShort-from_text is = record { short = omega arith; printable = is.printable }

pub text_from_short : {n : ℕ} {t : List ℕ} → n ≤ 4095 → IsShort n t → IsText t
text_from_short h is = record { short = omega (arith, h, is.short); printable = is.printable }

-- ---- numbers
pub IsShort-decimal : (n : ℕ) → n < 2 ^ 32 → IsShort 10 (decimal n)
IsShort-decimal n h = record {
  short = length-decimal-le 10 n (omega arith) (omega arith) (omega arith);
  printable = decimal_bytes n (omega arith);
}

printable_signed : (z : ℤ) → mag z < 2 ^ 63 → IsTrue (list_all is_text_byte (signed_decimal z))
printable_signed (pos n) h = decimal_bytes n (omega arith)
printable_signed (negsuc n) h = decimal_bytes (suc n) (omega arith)

pub IsShort-signed : (z : ℤ) → mag z < 2 ^ 63 → IsShort 20 (signed_decimal z)
IsShort-signed z h = record { short = length_signed_le 19 z (omega arith) h; printable = printable_signed z h }

text_byte : (c : ℕ) → 32 ≤ c → c ≤ 126 → c ≢ 34 → c ≢ 92 → is_text_byte c ≡ true
text_byte c low high quote backslash = rw (le-leb 32 c low, le-leb c 126 high, ne_eqb c 34 quote, ne_eqb c 92 backslash) refl

glyph_byte : (d : ℕ) → d < 16 → is_text_byte (digit_glyph false d) ≡ true
glyph_byte d h =
    elim (cases_Bool (nat_lt d 10)) [
      | inl low ↦
          let below : d < 10 = ltb-true d 10 low in
          rw low (text_byte (48 + d) (omega arith) (omega arith) (omega arith) (omega arith))
      | inr high ↦
          let above : 10 ≤ d = ltb-false d 10 high in
          rw high (text_byte (87 + d) (omega arith) (omega arith) (omega arith) (omega arith))
    ]

printable_hex : (k n : ℕ) (acc : List ℕ) → IsTrue (list_all is_text_byte acc) → IsTrue (list_all is_text_byte (digits_onto k 16 false n acc))
printable_hex zero n acc h = h
printable_hex (suc k) n acc h =
    let low : n % 16 < 16 = omega arith in
    let more : IsTrue (list_all is_text_byte (digit_glyph false (n % 16) ∷ acc)) =
    and_from (is_text_byte (digit_glyph false (n % 16))) (list_all is_text_byte acc) (glyph_byte (n % 16) low) h in
    elim (cases_Bool (n / 16 == 0)) [
      | inl last ↦ rw last more
      | inr other ↦ rw other (printable_hex k (n / 16) (digit_glyph false (n % 16) ∷ acc) more)
    ]

-- 16 to the power of j + 1
above_digits : ℕ → ℕ
above_digits zero = 16
above_digits (suc j) = 16 * above_digits j

short_hex : (j k n : ℕ) (acc : List ℕ) → j < k → n < above_digits j → length (digits_onto k 16 false n acc) ≤ j + 1 + length acc
unfolding above_digits
short_hex j zero n acc h below = absurd (omega arith)
short_hex zero (suc k) n acc h below =
    let none : n / 16 ≡ 0 = omega arith in
    rw (eq-eqb (n / 16) 0 none) (omega arith)
short_hex (suc j) (suc k) n acc h below =
    elim (cases_Bool (n / 16 == 0)) [
      | inl last ↦ rw last (omega arith)
      | inr other ↦
          let low : n / 16 < above_digits j = omega arith in
          let rest : length (digits_onto k 16 false (n / 16) (digit_glyph false (n % 16) ∷ acc)) ≤ j + 1 + length (digit_glyph false (n % 16) ∷ acc) =
          short_hex j k (n / 16) (digit_glyph false (n % 16) ∷ acc) (omega arith) low in
          rw other (omega (arith, rest))
    ]

above_is : above_digits 15 ≡ 2 ^ 64
unfolding above_digits
above_is = refl

pub IsShort-hexadecimal : (n : ℕ) → n < 2 ^ 64 → IsShort 18 (hexadecimal n)
unfolding digits
IsShort-hexadecimal n h =
    let few : length (digits_onto 64 16 false n []) ≤ 16 = omega (arith, short_hex 15 64 n [] (omega arith) (omega (arith, above_is))) in
    let prefix : IsShort 2 (codes "0x") = record { short = omega arith; printable = refl } in
    let figures : IsShort 16 (digits_onto 64 16 false n []) = record { short = few; printable = printable_hex 64 n [] refl } in
    IsShort-append prefix figures

-- ---- texts that are cut
printable_front : (n : ℕ) (t : List ℕ) → IsTrue (list_all is_text_byte t) → IsTrue (list_all is_text_byte (take n t))
printable_front zero t h = refl
printable_front (suc n) [] h = refl
printable_front (suc n) (c ∷ t) h =
    elim (cases_Bool (is_text_byte c)) [
      | inl good ↦ rw good (printable_front n t (let rest : (is_text_byte c && list_all is_text_byte t) ≡ true = h in rw good at rest))
      | inr bad ↦ absurd (let rest : (is_text_byte c && list_all is_text_byte t) ≡ true = h in let no : false ≡ true = rw bad at rest in cc)
    ]

pub IsShort-shortened : (most : ℕ) (t : List ℕ) → 4 ≤ most → IsTrue (list_all is_text_byte t) → IsShort most (shortened most t)
IsShort-shortened most t h printable =
    elim (cases_Bool (nat_le (length t) most)) [
      | inl fits ↦ rw fits (record { short = leb-true (length t) most fits; printable = printable })
      | inr long ↦
          let front : IsShort (most - 4) (take (most - 4) t) =
          record { short = omega (arith, length-take (most - 4) t); printable = printable_front (most - 4) t printable } in
          let whole : IsShort (most - 4 + 4) (take (most - 4) t ++ codes "...)") = IsShort-append front (record { short = omega arith; printable = refl }) in
          rw long (IsShort-more (omega arith) whole)
    ]
