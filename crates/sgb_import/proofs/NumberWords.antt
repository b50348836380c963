-- The numbers that words spell, up to the greatest of 64 bits.
use Rattle.std.proofs.Common.{◌≡◌, ℕ, ◌+◌, ◌*◌, ◌-◌, ◌<◌, ◌≤◌, ◌^◌, true, false, not, ◌&&◌, ◌==◌, cond, List, [], ◌∷◌, length, suc, drop, drop-cons, add-one, Some, None, Option, pos, refl, sym, ap, ◌∙◌, arith, nat_le, nat_lt, get_or, min, inl, inr}
use Rattle.std.specs.Option.{option_map, option_and_then}
use Rattle.std.specs.Str.{all_ascii_digits}
use Rattle.std.specs.Str.Parse.{digits_value, digits_value_after}
use Rattle.std.specs.Char.{digit_value, is_ascii_digit}
use Rattle.std.specs.Int.{IsInRange}
use Rattle.std.proofs.lemmas.List.{drop_all}
use Rattle.std.proofs.lemmas.Str.{digit_value_digit}
use Rattle.std.proofs.lemmas.Bool.{cases_Bool, cases_lt, and_right, eqb-true, eqb-false, eq-eqb, ne_eqb, lt-leb, le-ltb}
use Rattle.sgb_import.specs.Numbers.{natural_of, length_of}
use Rattle.sgb_import.specs.Lines.{behind}
use Rattle.sgb_import.specs.Private.Signs.{positive_of, negative_of, negated_of}

-- numbers with the same cap go on to numbers with the same cap
capped_step : (a b d cap : ℕ) → min a cap ≡ min b cap → min (a * 10 + d) cap ≡ min (b * 10 + d) cap
capped_step a b d cap same = elim (cases_lt a cap) [
  | inl low ↦ (let e : a ≡ b = omega arith in ap (λ n. min (n * 10 + d) cap) e)
  | inr high ↦ omega arith
]

pub capped_after : (ds : List ℕ) (a b cap : ℕ) → min a cap ≡ min b cap → min (digits_value_after 10 a ds) cap ≡ min (digits_value_after 10 b ds) cap
capped_after [] a b cap same = same
capped_after (c ∷ cs) a b cap same = capped_after cs (a * 10 + digit_value c) (b * 10 + digit_value c) cap (capped_step a b (digit_value c) cap same)

digit_is : (c : ℕ) → IsInRange 48 57 c → digit_value c ≡ c - 48
digit_is c range = let same : digit_value c + 48 ≡ c = digit_value_digit c range in omega arith

pub value_more : (value i cap : ℕ) (ds : List ℕ) → i < length ds → IsInRange 48 57 (get_or ds i 0) → min (digits_value_after 10 value (drop i ds)) cap ≡ min (digits_value 10 ds) cap
    → min (digits_value_after 10 (min (min (value * 10) cap + (get_or ds i 0 - 48)) cap) (drop (i + 1) ds)) cap ≡ min (digits_value 10 ds) cap
value_more value i cap ds here range spelled =
    let d = get_or ds i 0 - 48 in
    let capped : min (min (min (value * 10) cap + d) cap) cap ≡ min (value * 10 + d) cap = omega arith in
    rw add-one (
    capped_after (drop (suc i) ds) (min (min (value * 10) cap + d) cap) (value * 10 + d) cap capped
    ∙ ap (λ n. min (digits_value_after 10 (value * 10 + n) (drop (suc i) ds)) cap) (sym (digit_is (get_or ds i 0) range))
    ∙ sym (ap (λ l. min (digits_value_after 10 value l) cap) (drop-cons ds i 0 here))
    ∙ spelled)

pub digits_more : (i : ℕ) (ds : List ℕ) → i < length ds → true ≡ is_ascii_digit (get_or ds i 0) → all_ascii_digits (drop i ds) ≡ all_ascii_digits ds → all_ascii_digits (drop (i + 1) ds) ≡ all_ascii_digits ds
digits_more i ds here digit tested =
    rw add-one (ap (λ b. b && all_ascii_digits (drop (suc i) ds)) digit ∙ sym (ap all_ascii_digits (drop-cons ds i 0 here)) ∙ tested)

-- all digits are read
pub all_read : (value i cap : ℕ) (ds : List ℕ) → length ds ≤ i → value ≤ cap → (length ds == 0) ≡ false → min (digits_value_after 10 value (drop i ds)) cap ≡ min (digits_value 10 ds) cap → all_ascii_digits (drop i ds) ≡ all_ascii_digits ds
    → Some value ≡ option_map (λ n. min n cap) (natural_of ds)
unfolding natural_of
all_read value i cap ds past fits some spelled tested =
    let left : drop i ds ≡ [] = drop_all i ds past in
    let value_is : min value cap ≡ min (digits_value 10 ds) cap = rw left at spelled in
    let digits : true ≡ all_ascii_digits ds = rw left at tested in
    rw (some, ← digits) (ap Some (let e : value ≡ min value cap = omega arith in e ∙ value_is))

pub natural_of-empty : (ds : List ℕ) → (length ds == 0) ≡ true → natural_of ds ≡ None
unfolding natural_of
natural_of-empty ds empty = rw empty refl

-- one of the bytes is no digit
pub not_digits : (i : ℕ) (ds : List ℕ) → i < length ds → false ≡ is_ascii_digit (get_or ds i 0) → all_ascii_digits (drop i ds) ≡ all_ascii_digits ds → natural_of ds ≡ None
unfolding natural_of
not_digits i ds here other tested =
    let no : false ≡ all_ascii_digits ds = ap (λ b. b && all_ascii_digits (drop (suc i) ds)) other ∙ sym (ap all_ascii_digits (drop-cons ds i 0 here)) ∙ tested in
    rw (← no, and_right (not (length ds == 0)) false refl) refl

-- ---- with a sign

pub none_of_map : {A B : Type 0} (f : A → B) (o : Option A) → None ≡ option_map f o → o ≡ None
none_of_map f None e = refl
none_of_map f (Some x) e = cc

-- a cap above 2^63 changes no number that fits
capped_below : (n : ℕ) → cond (nat_lt (min n (2 ^ 64 - 1)) (2 ^ 63)) (Some (pos (min n (2 ^ 64 - 1)))) None ≡ cond (nat_lt n (2 ^ 63)) (Some (pos n)) None
capped_below n = elim (cases_lt n (2 ^ 63)) [
  | inl low ↦ (let e : min n (2 ^ 64 - 1) ≡ n = omega arith in ap (λ m. cond (nat_lt m (2 ^ 63)) (Some (pos m)) None) e)
  | inr high ↦ (let a : nat_lt (min n (2 ^ 64 - 1)) (2 ^ 63) ≡ false = le-ltb (min n (2 ^ 64 - 1)) (2 ^ 63) (omega arith) in let b : nat_lt n (2 ^ 63) ≡ false = le-ltb n (2 ^ 63) high in rw (a, b) refl)
]

capped_negated : (n : ℕ) → negated_of (min n (2 ^ 64 - 1)) ≡ negated_of n
capped_negated n = elim (cases_lt (2 ^ 63) n) [
  | inl high ↦ (let a : nat_le (min n (2 ^ 64 - 1)) (2 ^ 63) ≡ false = lt-leb (min n (2 ^ 64 - 1)) (2 ^ 63) (omega arith) in let b : nat_le n (2 ^ 63) ≡ false = lt-leb n (2 ^ 63) high in rw (a, b) refl)
  | inr low ↦ (let e : min n (2 ^ 64 - 1) ≡ n = omega arith in ap negated_of e)
]

positive_by : (o : Option ℕ) (m : ℕ) → Some m ≡ option_map (λ n. min n (2 ^ 64 - 1)) o → cond (nat_lt m (2 ^ 63)) (Some (pos m)) None ≡ option_and_then (λ n. cond (nat_lt n (2 ^ 63)) (Some (pos n)) None) o
positive_by None m e = cc
positive_by (Some n) m e =
    let same : m ≡ min n (2 ^ 64 - 1) = cc in
    ap (λ k. cond (nat_lt k (2 ^ 63)) (Some (pos k)) None) same ∙ capped_below n

pub positive_is : (ds : List ℕ) (m : ℕ) → Some m ≡ option_map (λ n. min n (2 ^ 64 - 1)) (natural_of ds) → cond (nat_lt m (2 ^ 63)) (Some (pos m)) None ≡ positive_of ds
positive_is ds m e = positive_by (natural_of ds) m e

negative_by : (o : Option ℕ) (m : ℕ) → Some m ≡ option_map (λ n. min n (2 ^ 64 - 1)) o → negated_of m ≡ option_and_then negated_of o
negative_by None m e = cc
negative_by (Some n) m e =
    let same : m ≡ min n (2 ^ 64 - 1) = cc in
    ap negated_of same ∙ capped_negated n

pub negative_is : (ds : List ℕ) (m : ℕ) → Some m ≡ option_map (λ n. min n (2 ^ 64 - 1)) (natural_of ds) → negated_of m ≡ negative_of ds
negative_is ds m e = negative_by (natural_of ds) m e

pub length_minus : (w ds : List ℕ) → Some ds ≡ behind (45 ∷ []) w → negative_of ds ≡ length_of w
unfolding behind length_of
length_minus [] ds e = cc
length_minus (c ∷ cs) ds e = elim (cases_Bool (45 == c)) [
  | inl minus ↦ (let here : Some ds ≡ Some cs = rw minus at e in let same : ds ≡ cs = cc in let first : (c == 45) ≡ true = eq-eqb c 45 (sym (eqb-true 45 c minus)) in rw first (ap negative_of same))
  | inr plain ↦ absurd (let here : Some ds ≡ None = rw plain at e in cc)
]

pub length_plain : (w : List ℕ) → None ≡ behind (45 ∷ []) w → positive_of w ≡ length_of w
unfolding behind length_of natural_of
length_plain [] e = refl
length_plain (c ∷ cs) e = elim (cases_Bool (45 == c)) [
  | inl minus ↦ absurd (let here : None ≡ Some cs = rw minus at e in cc)
  | inr plain ↦ (let first : (c == 45) ≡ false = ne_eqb c 45 (λ k. eqb-false 45 c plain (sym k)) in rw first refl)
]
