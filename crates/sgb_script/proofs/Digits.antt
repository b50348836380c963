-- What `parse` reads, and the number that a word spells.
use Rattle.std.proofs.Common.{◌≡◌, ◌≢◌, ℕ, zero, suc, ◌+◌, ◌*◌, ◌-◌, ◌<◌, ◌≤◌, ◌^◌, Bool, true, false, not, ◌&&◌, ◌==◌, cond, List, [], ◌∷◌, length, drop, drop-cons, add-one, Result, Ok, Err, None, Some, ℤ, pos, neg_ℤ, refl, sym, ap, ◌∙◌, arith, w64, nat_le, nat_lt, get_or, slice_index, inl, inr}
use Rattle.std.specs.Option.{option_and_then}
use Rattle.std.specs.Result.{OkIff, result_ok}
use Rattle.std.specs.Str.{all_ascii_digits, IsUtf8, IsAscii}
use Rattle.std.specs.Str.Parse.{ParsesSigned, ParsesUnsigned, digits_value, digits_value_after}
use Rattle.std.specs.Char.{digit_value, is_ascii_digit}
use Rattle.std.specs.Int.{IsInRange}
use Rattle.std.proofs.Math.Nat.{pow-le-pow_right}
use Rattle.std.proofs.lemmas.Grind.{pow_more}
use Rattle.std.proofs.lemmas.List.{drop_all}
use Rattle.std.proofs.lemmas.Str.{digit_value_digit}
use Rattle.std.proofs.lemmas.Bool.{cases_Bool, and_right, false_from_ne_true, eqb-true, eqb-false, ne_eqb, leb-true, le-leb, ltb-true, lt-ltb}
use Rattle.std.proofs.lemmas.Str.{IsUtf8-from_ascii}
use Rattle.std.proofs.lemmas.Fmt.{IsAscii-from_digits}
use Rattle.std.proofs.lemmas.Str.Parse.{IsNumeralModel, numerals_by_value, tells_all_ascii_digits, parse_signed_minus, parse_signed_plain, parse_plain}
use Rattle.sgb_script.specs.Numbers.{number_of, natural_of, index_of, bits_of}

own : IsNumeralModel (λ ds. all_ascii_digits ds ≡ true) (digits_value 10)
own = numerals_by_value _ tells_all_ascii_digits

-- a number that is read under three conditions, and the test that asks for them
read_if : {E : Type 0} (r : Result ℤ E) (a b c : Bool) (P Q R : Type 0) (z : ℤ) → (a ≡ true → P) → (P → a ≡ true) → (b ≡ false → Q) → (Q → b ≡ false) → (c ≡ true → R) → (R → c ≡ true)
    → OkIff r (P × Q × R) z → result_ok r ≡ cond (not b && a) (cond c (Some z) None) None
read_if (Ok x) a b c P Q R z _ to_a _ to_b _ to_c h = rw (to_a h.0.0, to_b h.0.1, to_c h.0.2) (ap Some h.1)
read_if (Err e) false true c P Q R z p _ q _ r _ h = refl
read_if (Err e) false false c P Q R z p _ q _ r _ h = refl
read_if (Err e) true true c P Q R z p _ q _ r _ h = refl
read_if (Err e) true false false P Q R z p _ q _ r _ h = refl
read_if (Err e) true false true P Q R z p _ q _ r _ h = absurd (h (p refl, q refl, r refl))

-- the second condition asked of the number itself
asked_after : (a c : Bool) (n : ℕ) (t : ℕ → Bool) (z : ℕ → ℤ) → c ≡ t n
    → cond a (cond c (Some (z n)) None) None ≡ option_and_then (λ k. cond (t k) (Some (z k)) None) (cond a (Some n) None)
asked_after true c n t z e = ap (λ b. cond b (Some (z n)) None) e
asked_after false c n t z e = refl

no_digits : (ds : List ℕ) → (length ds == 0) ≡ false → 0 < length ds
no_digits ds e = let ne : length ds ≢ 0 = eqb-false (length ds) 0 e in omega arith

some_digits : (ds : List ℕ) → 0 < length ds → (length ds == 0) ≡ false
some_digits ds h = ne_eqb (length ds) 0 (λ e. absurd (omega arith))

nothing_read : {E : Type 0} (r : Result ℤ E) (P Q : Type 0) (z : ℤ) → OkIff r (P × (0 < 0) × Q) z → result_ok r ≡ None
nothing_read (Ok x) P Q z h = absurd (let bad : 0 < 0 = h.0.1 in omega arith)
nothing_read (Err e) P Q z h = refl

number_read : {E : Type 0} (w : List ℕ) (r : Result ℤ E) → ParsesSigned w64 10 w r → get_or w 0 0 ≢ 43 → result_ok r ≡ number_of w
unfolding number_of natural_of
number_read [] r h plus = nothing_read r _ _ _ (parse_signed_plain own w64 [] r h plus (λ e. absurd (omega arith)))
number_read (c ∷ cs) r h plus = elim (cases_Bool (c == 45)) [
  | inl minus ↦ rw minus (
      read_if r (all_ascii_digits cs) (length cs == 0) (nat_le (digits_value 10 cs) (2 ^ 63)) _ _ _ _ (λ e. e) (λ e. e) (no_digits cs) (some_digits cs)
      (leb-true (digits_value 10 cs) (2 ^ 63)) (le-leb (digits_value 10 cs) (2 ^ 63))
      (parse_signed_minus own w64 (c ∷ cs) r h (eqb-true c 45 minus))
      ∙ asked_after (not (length cs == 0) && all_ascii_digits cs) _ (digits_value 10 cs) (λ n. nat_le n (2 ^ 63)) (λ n. neg_ℤ (pos n)) refl)
  | inr plain ↦ rw plain (
      read_if r (all_ascii_digits (c ∷ cs)) (length (c ∷ cs) == 0) (nat_lt (digits_value 10 (c ∷ cs)) (2 ^ 63)) _ _ _ _ (λ e. e) (λ e. e) (no_digits (c ∷ cs)) (some_digits (c ∷ cs))
      (ltb-true (digits_value 10 (c ∷ cs)) (2 ^ 63)) (lt-ltb (digits_value 10 (c ∷ cs)) (2 ^ 63))
      (parse_signed_plain own w64 (c ∷ cs) r h plus (eqb-false c 45 plain))
      ∙ asked_after (not (length (c ∷ cs) == 0) && all_ascii_digits (c ∷ cs)) _ (digits_value 10 (c ∷ cs)) (λ n. nat_lt n (2 ^ 63)) pos refl)
]

ascii_digits : (ds : List ℕ) → all_ascii_digits ds ≡ true → IsAscii ds
ascii_digits ds h = IsAscii-from_digits ds (own.to ds h)

natural_none : (ds : List ℕ) → all_ascii_digits ds ≡ false → natural_of ds ≡ None
unfolding natural_of
natural_none ds h = rw (and_right (not (length ds == 0)) (all_ascii_digits ds) h) refl

after_minus : (c : ℕ) (cs : List ℕ) → c ≡ 45 → IsAscii cs → IsAscii (c ∷ cs)
after_minus c cs e h zero = omega arith
after_minus c cs e h (suc i) = h i

pub number_is_utf8 : (w : List ℕ) → (IsUtf8 w → ⊥) → number_of w ≡ None
unfolding number_of
number_is_utf8 [] not_text = refl
number_is_utf8 (c ∷ cs) not_text = elim (cases_Bool (c == 45)) [
  | inl minus ↦ rw (minus, natural_none cs (false_from_ne_true _ (λ h. not_text (IsUtf8-from_ascii (c ∷ cs) (after_minus c cs (eqb-true c 45 minus) (ascii_digits cs h)))))) refl
  | inr plain ↦ rw (plain, natural_none (c ∷ cs) (false_from_ne_true _ (λ h. not_text (IsUtf8-from_ascii (c ∷ cs) (ascii_digits (c ∷ cs) h))))) refl
]

pub text_read : {E : Type 0} (w text : List ℕ) (r : Result ℤ E) (plus : Bool) → text ≡ w → plus ≡ (slice_index w 0 == 43) → plus ≡ false → ParsesSigned w64 10 text r → result_ok r ≡ number_of w
text_read w text r plus same tested none h =
    let no_plus : get_or text 0 0 ≢ 43 = λ e. eqb-false (get_or w 0 0) 43 (sym tested ∙ none) (sym (ap (λ t. get_or t 0 0) same) ∙ e) in
    number_read text r h no_plus ∙ ap number_of same

-- ---- digits alone, below 2^64

bits_when : {E : Type 0} (r : Result ℕ E) (a b c : Bool) (P Q R : Type 0) (n : ℕ) → (a ≡ true → P) → (P → a ≡ true) → (b ≡ false → Q) → (Q → b ≡ false) → (c ≡ true → R) → (R → c ≡ true)
    → OkIff r (P × Q × R) n → result_ok r ≡ option_and_then (λ k. cond c (Some n) None) (cond (not b && a) (Some n) None)
bits_when (Ok x) a b c P Q R n _ to_a _ to_b _ to_c h = rw (to_a h.0.0, to_b h.0.1, to_c h.0.2) (ap Some h.1)
bits_when (Err e) false true c P Q R n p _ q _ r _ h = refl
bits_when (Err e) false false c P Q R n p _ q _ r _ h = refl
bits_when (Err e) true true c P Q R n p _ q _ r _ h = refl
bits_when (Err e) true false false P Q R n p _ q _ r _ h = refl
bits_when (Err e) true false true P Q R n p _ q _ r _ h = absurd (h (p refl, q refl, r refl))

of_itself : (a : Bool) (n : ℕ) (t : ℕ → Bool) → option_and_then (λ k. cond (t n) (Some n) None) (cond a (Some n) None) ≡ option_and_then (λ k. cond (t k) (Some k) None) (cond a (Some n) None)
of_itself true n t = refl
of_itself false n t = refl

bits_of_digits : {E : Type 0} (w : List ℕ) (r : Result ℕ E) → ParsesUnsigned 64 10 w r → get_or w 0 0 ≢ 43 → result_ok r ≡ bits_of w
unfolding bits_of natural_of
bits_of_digits w r h plus =
    bits_when r (all_ascii_digits w) (length w == 0) (nat_lt (digits_value 10 w) (2 ^ 64)) _ _ _ _ (λ e. e) (λ e. e) (no_digits w) (some_digits w)
    (ltb-true (digits_value 10 w) (2 ^ 64)) (lt-ltb (digits_value 10 w) (2 ^ 64)) (parse_plain own 64 w r h plus)
    ∙ of_itself (not (length w == 0) && all_ascii_digits w) (digits_value 10 w) (λ n. nat_lt n (2 ^ 64))

pub bits_read : {E : Type 0} (w text : List ℕ) (r : Result ℕ E) (plus : Bool) → text ≡ w → plus ≡ (slice_index w 0 == 43) → plus ≡ false → ParsesUnsigned 64 10 text r → result_ok r ≡ bits_of w
bits_read w text r plus same tested none h =
    let no_plus : get_or text 0 0 ≢ 43 = λ e. eqb-false (get_or w 0 0) 43 (sym tested ∙ none) (sym (ap (λ t. get_or t 0 0) same) ∙ e) in
    bits_of_digits text r h no_plus ∙ ap bits_of same

no_bits : (w : List ℕ) → natural_of w ≡ None → bits_of w ≡ None
unfolding bits_of
no_bits w none = ap (option_and_then (λ n. cond (nat_lt n (2 ^ 64)) (Some n) None)) none

pub bits_are_utf8 : (w : List ℕ) → (IsUtf8 w → ⊥) → bits_of w ≡ None
bits_are_utf8 w not_text = no_bits w (natural_none w (false_from_ne_true _ (λ h. not_text (IsUtf8-from_ascii w (ascii_digits w h)))))

pub no_plus_in_bits : (w : List ℕ) → (slice_index w 0 == 43) ≡ true → bits_of w ≡ None
unfolding natural_of
no_plus_in_bits [] plus = no_bits [] refl
no_plus_in_bits (c ∷ cs) plus =
    let first : c ≡ 43 = eqb-true c 43 plus in
    rw first (no_bits (43 ∷ cs) (natural_none (43 ∷ cs) refl))

-- digits alone: what `number_of` reads where no minus stands first
pub index_is : (ds : List ℕ) → (slice_index ds 0 == 45) ≡ false → number_of ds ≡ index_of ds
unfolding number_of index_of natural_of
index_is [] plain = refl
index_is (c ∷ cs) plain = let first : (c == 45) ≡ false = plain in rw first refl

pub no_index : (ds : List ℕ) → (slice_index ds 0 == 45) ≡ true → index_of ds ≡ None
unfolding index_of natural_of
no_index [] minus = refl
no_index (c ∷ cs) minus =
    let first : c ≡ 45 = eqb-true c 45 minus in
    rw first (ap (option_and_then (λ n. cond (nat_lt n (2 ^ 63)) (Some (pos n)) None)) (natural_none (45 ∷ cs) refl))

-- a plus is no digit
pub no_plus : (w : List ℕ) → (slice_index w 0 == 43) ≡ true → number_of w ≡ None
unfolding number_of
no_plus [] plus = refl
no_plus (c ∷ cs) plus =
    let first : c ≡ 43 = eqb-true c 43 plus in
    rw first (ap (option_and_then (λ n. cond (nat_lt n (2 ^ 63)) (Some (pos n)) None)) (natural_none (43 ∷ cs) refl))

-- ---- a few digits, read one by one

digit_is : (c : ℕ) → IsInRange 48 57 c → digit_value c ≡ c - 48
digit_is c range = let same : digit_value c + 48 ≡ c = digit_value_digit c range in omega arith

pub value_more : (value i : ℕ) (ds : List ℕ) → i < length ds → IsInRange 48 57 (get_or ds i 0) → digits_value_after 10 value (drop i ds) ≡ digits_value 10 ds
    → digits_value_after 10 (value * 10 + (get_or ds i 0 - 48)) (drop (i + 1) ds) ≡ digits_value 10 ds
value_more value i ds here range spelled =
    rw add-one (sym (ap (λ d. digits_value_after 10 (value * 10 + d) (drop (suc i) ds)) (digit_is (get_or ds i 0) range)) ∙ sym (ap (digits_value_after 10 value) (drop-cons ds i 0 here)) ∙ spelled)

pub digits_more : (i : ℕ) (ds : List ℕ) → i < length ds → true ≡ is_ascii_digit (get_or ds i 0) → all_ascii_digits (drop i ds) ≡ all_ascii_digits ds → all_ascii_digits (drop (i + 1) ds) ≡ all_ascii_digits ds
digits_more i ds here digit tested =
    rw add-one (ap (λ b. b && all_ascii_digits (drop (suc i) ds)) digit ∙ sym (ap all_ascii_digits (drop-cons ds i 0 here)) ∙ tested)

pub small_more : (value i d : ℕ) → value < 10 ^ i → d < 10 → value * 10 + d < 10 ^ (i + 1)
small_more value i d small digit = rw (pow_more 10 i) (omega arith)

pub below : (value i k : ℕ) → value < 10 ^ i → i ≤ k → value < 10 ^ k
below value i k small few =
    let some : 0 < 10 = omega arith in
    let most : 10 ^ i ≤ 10 ^ k = pow-le-pow_right some few in
    omega arith

pub all_read : (value i : ℕ) (ds : List ℕ) → length ds ≤ i → (length ds == 0) ≡ false → digits_value_after 10 value (drop i ds) ≡ digits_value 10 ds → all_ascii_digits (drop i ds) ≡ all_ascii_digits ds
    → natural_of ds ≡ Some value
unfolding natural_of
all_read value i ds past some spelled tested =
    let left : drop i ds ≡ [] = drop_all i ds past in
    let value_is : value ≡ digits_value 10 ds = rw left at spelled in
    let digits : true ≡ all_ascii_digits ds = rw left at tested in
    rw (some, ← digits) (ap Some (sym value_is))

no_empty : (n : ℕ) → natural_of [] ≡ Some n → ⊥
unfolding natural_of
no_empty n bad = cc

pub short_number : (w : List ℕ) (n : ℕ) → natural_of w ≡ Some n → n < 10 ^ 17 → number_of w ≡ Some (pos n)
unfolding number_of
short_number [] n spelled small = absurd (let bad : natural_of [] ≡ Some n = spelled in no_empty n bad)
short_number (c ∷ cs) n spelled small = elim (cases_Bool (c == 45)) [
  | inl minus ↦ absurd (let none : natural_of (c ∷ cs) ≡ None = natural_none (c ∷ cs) (rw (eqb-true c 45 minus) refl) in let bad : None ≡ Some n = sym none ∙ spelled in cc)
  | inr plain ↦ rw (plain, spelled) (let fits : nat_lt n (2 ^ 63) ≡ true = lt-ltb n (2 ^ 63) (omega arith) in rw fits refl)
]
