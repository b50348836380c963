-- The readers of the parts of a record are the relations of their spelling.
use Rattle.std.proofs.Common.{◌≡◌, ◌≢◌, ℕ, ℤ, pos, neg_ℤ, suc, ◌+◌, ◌^◌, ◌==◌, Bool, true, false, nat_lt, nat_le, List, [], ◌∷◌, ◌++◌, take, drop, length, codes, slice_index, Option, Some, None, refl, sym, subst, ap, ◌∙◌, inl, inr, arith, if◌then◌else◌}
use Rattle.std.specs.List.{list_all}
use Rattle.std.specs.Option.{option_map, option_and_then}
use Rattle.std.specs.Char.{is_ascii_digit}
use Rattle.std.specs.Str.Parse.{digits_value}
use Rattle.std.proofs.lemmas.Bool.{cases_Bool, and_parts, eqb-true, eqb-false, ne_eqb, lt-ltb, ltb-true, le-leb, leb-true}
use Rattle.std.proofs.lemmas.List.{take-append-drop}
use Rattle.std.proofs.Math.Seq.{take-append_seam, drop-append_seam}
use Rattle.sgb_graph.specs.Text.{is_text_byte}
use Rattle.sgb_grammar.specs.Reading.{after, behind}
use Rattle.sgb_grammar.specs.Number.{digits_in, digits_at, count_of, count_at, positive_of, negative_of, signed_at, number_at}
use Rattle.sgb_grammar.specs.String.{inside_at, within, text_at}
use Rattle.sgb_grammar.specs.Spelled.{Inside, ended, byte, broken, Quoted, Digits, Count, Number}
use Rattle.sgb_grammar.proofs.Words.{after_is, after-sound}
use Rattle.sgb_grammar.proofs.QuotedRuns.{text_byte, text_is, short}

-- ---- what an option came from

pub some_same : {A : Type 0} (x y : A) → Some x ≡ Some y → x ≡ y
some_same x y e = cc

pub bound : {A B : Type 0} (m : Option A) (f : A → Option B) (b : B) → option_and_then f m ≡ Some b → (a : A) × (m ≡ Some a) × (f a ≡ Some b)
bound None f b e = cc
bound (Some a) f b e = (a, refl, e)

pub kept : {A : Type 0} (test : Bool) (q p : A) → (if test then Some q else None) ≡ Some p → (test ≡ true) × (q ≡ p)
kept true q p e = (refl, some_same q p e)
kept false q p e = cc

pub mapped : {A B : Type 0} (m : Option A) (f : A → B) (b : B) → option_map f m ≡ Some b → (a : A) × (m ≡ Some a) × (f a ≡ b)
mapped None f b e = cc
mapped (Some a) f b e = (a, refl, some_same (f a) b e)

pub behind_is : {A : Type 0} (xs : List A) (m : Option (List A × List ℕ)) (p : List A × List ℕ) → behind xs m ≡ Some p → (q : List A × List ℕ) × (m ≡ Some q) × ((xs ++ q.0, q.1) ≡ p)
behind_is xs m p e = mapped m (λ q. (xs ++ q.0, q.1)) p e

-- ---- strings

abbrev Stands : Bool → List ℕ → List ℕ × List ℕ → Type 0
Stands false bs p = (inside : List ℕ) × (bs ≡ inside ++ (34 ∷ p.1)) × Inside p.0 inside
Stands true bs p = (inside : List ℕ) × (bs ≡ 10 ∷ (inside ++ (34 ∷ p.1))) × Inside p.0 inside

inside_spelled : (escaped : Bool) (bs : List ℕ) (p : List ℕ × List ℕ) → inside_at escaped bs ≡ Some p → Stands escaped bs p
unfolding inside_at
inside_spelled true [] p e = cc
inside_spelled true (c ∷ cs) p e = elim (cases_Bool (c == 10)) [
  | inl line ↦
      let s = inside_spelled false cs p (rw line at e) in
      (s.0, ap (λ b. b ∷ cs) (eqb-true c 10 line) ∙ ap (λ t. 10 ∷ t) s.1, s.2)
  | inr other ↦ let none : None ≡ Some p = rw other at e in cc
]
inside_spelled false [] p e = cc
inside_spelled false (c ∷ cs) p e = elim (cases_Bool (c == 34)) [
  | inl quote ↦
      let same : ([], cs) ≡ p = some_same ([], cs) p (rw quote at e) in
      subst (λ q. Stands false (c ∷ cs) q) same ([], ap (λ b. b ∷ cs) (eqb-true c 34 quote), ended)
  | inr plain ↦ elim (cases_Bool (c == 92)) [
    | inl slash ↦
        let s = inside_spelled true cs p (rw (plain, slash) at e) in
        (92 ∷ 10 ∷ s.0, ap (λ b. b ∷ cs) (eqb-true c 92 slash) ∙ ap (λ t. 92 ∷ t) s.1, broken p.0 s.0 s.2)
    | inr whole ↦ elim (cases_Bool (is_text_byte c)) [
      | inl text ↦
          let q = behind_is (c ∷ []) (inside_at false cs) p (rw (text, plain, whole) at e) in
          let s = inside_spelled false cs q.0 q.1 in
          subst (λ r. Stands false (c ∷ cs) r) q.2 (c ∷ s.0, ap (λ t. c ∷ t) s.1, byte c q.0.0 s.0 text s.2)
      | inr other ↦ let none : None ≡ Some p = rw (other, plain, whole) at e in cc
    ]
  ]
]

inside_read : (text bs rest : List ℕ) → Inside text bs → inside_at false (bs ++ (34 ∷ rest)) ≡ Some (text, rest)
unfolding inside_at
inside_read text bs rest ended = refl
inside_read text bs rest (byte c t cs h more) = text_byte c (cs ++ (34 ∷ rest)) h ∙ ap (behind (c ∷ [])) (inside_read t cs rest more)
inside_read text bs rest (broken t cs more) = inside_read t cs rest more

pub text_spelled : (limit : ℕ) (bs : List ℕ) (p : List ℕ × List ℕ) → text_at limit bs ≡ Some p → Quoted limit p.0 bs p.1
unfolding text_at
text_spelled limit bs p e =
    let a = bound (after (34 ∷ []) bs) _ p e in
    let b = bound (inside_at false a.0) (within limit) p a.2 in
    let k = kept (nat_le (length b.0.0) limit) b.0 p b.2 in
    let s = inside_spelled false a.0 b.0 b.1 in
    subst (λ r. Quoted limit r.0 bs r.1) k.1 (s.0, after-sound (34 ∷ []) bs a.0 a.1 ∙ ap (λ t. 34 ∷ t) s.1, s.2, leb-true (length b.0.0) limit k.0)

pub text_read : (limit : ℕ) (bs rest text : List ℕ) → Quoted limit text bs rest → text_at limit bs ≡ Some (text, rest)
text_read limit bs rest text (inside, e, h, few) =
    text_is limit bs (inside ++ (34 ∷ rest)) (text, rest) (after_is (34 ∷ []) bs (inside ++ (34 ∷ rest)) e) (inside_read text inside rest h)
    ∙ short limit text rest few

-- ---- numbers

front_all : (bs : List ℕ) → list_all is_ascii_digit (take (digits_in bs) bs) ≡ true
front_all [] = refl
front_all (c ∷ cs) = elim (cases_Bool (is_ascii_digit c)) [
  | inl digit ↦ let more : 1 + digits_in cs ≡ suc (digits_in cs) = omega arith in rw (digit, more, digit) (front_all cs)
  | inr other ↦ rw other refl
]

behind_none : (bs : List ℕ) → is_ascii_digit (slice_index (drop (digits_in bs) bs) 0) ≡ false
behind_none [] = refl
behind_none (c ∷ cs) = elim (cases_Bool (is_ascii_digit c)) [
  | inl digit ↦ let more : 1 + digits_in cs ≡ suc (digits_in cs) = omega arith in rw (digit, more) (behind_none cs)
  | inr other ↦ rw other other
]

front_some : (bs : List ℕ) → digits_in bs ≢ 0 → take (digits_in bs) bs ≢ []
front_some [] h = λ e. h refl
front_some (c ∷ cs) h = elim (cases_Bool (is_ascii_digit c)) [
  | inl digit ↦ let more : 1 + digits_in cs ≡ suc (digits_in cs) = omega arith in rw (digit, more) (λ e. cc)
  | inr other ↦ λ e. h (rw other refl)
]

digits_front : (ds rest : List ℕ) → list_all is_ascii_digit ds ≡ true → is_ascii_digit (slice_index rest 0) ≡ false → digits_in (ds ++ rest) ≡ length ds
digits_front [] [] all stop = refl
digits_front [] (r ∷ rs) all stop = rw stop refl
digits_front (d ∷ ds) rest all stop =
    let both = and_parts (is_ascii_digit d) (list_all is_ascii_digit ds) all in
    let more : 1 + digits_in (ds ++ rest) ≡ suc (digits_in (ds ++ rest)) = omega arith in
    rw (both.0, more) (ap (λ k. suc k) (digits_front ds rest both.1 stop))

digits_spelled : (bs : List ℕ) (p : ℕ × List ℕ) → digits_at bs ≡ Some p → Digits p.0 bs p.1
unfolding digits_at
digits_spelled bs p e = elim (cases_Bool (digits_in bs == 0)) [
  | inl none ↦ let bad : None ≡ Some p = rw none at e in cc
  | inr some ↦
      let k = digits_in bs in
      let same : (digits_value 10 (take k bs), drop k bs) ≡ p = some_same _ p (rw some at e) in
      subst (λ r. Digits r.0 bs r.1) same
      (take k bs, sym (take-append-drop k bs), front_some bs (eqb-false k 0 some), front_all bs, behind_none bs, refl)
]

length_some : (ds : List ℕ) → ds ≢ [] → length ds ≢ 0
length_some [] h = λ e. h refl
length_some (d ∷ ds) h = λ e. omega (arith, e)

digits_read : (bs rest : List ℕ) (n : ℕ) → Digits n bs rest → digits_at bs ≡ Some (n, rest)
unfolding digits_at
digits_read bs rest n (ds, e, some, all, stop, value) =
    let count : digits_in bs ≡ length ds = ap digits_in e ∙ digits_front ds rest all stop in
    let front : take (digits_in bs) bs ≡ ds = ap (λ k. take k bs) count ∙ ap (λ t. take (length ds) t) e ∙ take-append_seam ds rest in
    let back : drop (digits_in bs) bs ≡ rest = ap (λ k. drop k bs) count ∙ ap (λ t. drop (length ds) t) e ∙ drop-append_seam ds rest in
    let test : (digits_in bs == 0) ≡ false = ne_eqb (digits_in bs) 0 (λ z. length_some ds some (sym count ∙ z)) in
    rw (test, front, back, value) refl

pub count_spelled : (bs : List ℕ) (p : ℕ × List ℕ) → count_at bs ≡ Some p → Count p.0 bs p.1
unfolding count_at
count_spelled bs p e =
    let a = bound (digits_at bs) count_of p e in
    let k = kept (nat_lt a.0.0 (2 ^ 63)) a.0 p a.2 in
    subst (λ r. Count r.0 bs r.1) k.1 (digits_spelled bs a.0 a.1, ltb-true a.0.0 (2 ^ 63) k.0)

pub count_read : (bs rest : List ℕ) (n : ℕ) → Count n bs rest → count_at bs ≡ Some (n, rest)
unfolding count_at
count_read bs rest n (digits, small) = rw (digits_read bs rest n digits, lt-ltb n (2 ^ 63) small) refl

signed_spelled : (m : Option (List ℕ)) (bs : List ℕ) (p : ℤ × List ℕ) → after (codes "-") bs ≡ m → signed_at m bs ≡ Some p → Number p.0 bs p.1
signed_spelled None bs p w e =
    let a = bound (digits_at bs) positive_of p e in
    let k = kept (nat_lt a.0.0 (2 ^ 63)) (pos a.0.0, a.0.1) p a.2 in
    subst (λ r. Number r.0 bs r.1) k.1 (inl (a.0.0, digits_spelled bs a.0 a.1, ltb-true a.0.0 (2 ^ 63) k.0, refl))
signed_spelled (Some ds) bs p w e =
    let a = bound (digits_at ds) negative_of p e in
    let k = kept (nat_le a.0.0 (2 ^ 63)) (neg_ℤ (pos a.0.0), a.0.1) p a.2 in
    subst (λ r. Number r.0 bs r.1) k.1 (inr (a.0.0, (ds, after-sound (codes "-") bs ds w, digits_spelled ds a.0 a.1), leb-true a.0.0 (2 ^ 63) k.0, refl))

pub number_spelled : (bs : List ℕ) (p : ℤ × List ℕ) → number_at bs ≡ Some p → Number p.0 bs p.1
unfolding number_at
number_spelled bs p e = signed_spelled (after (codes "-") bs) bs p refl e

no_minus : (ds rest : List ℕ) → ds ≢ [] → list_all is_ascii_digit ds ≡ true → after (codes "-") (ds ++ rest) ≡ None
unfolding after
no_minus [] rest h all = absurd (h refl)
no_minus (d ∷ ds) rest h all =
    let digit = and_parts (nat_le 48 d) (nat_le d 57) (and_parts (is_ascii_digit d) (list_all is_ascii_digit ds) all).0 in
    let low = leb-true 48 d digit.0 in
    rw (ne_eqb d 45 (λ e. omega (arith, e, low))) refl

pub number_read : (bs rest : List ℕ) (z : ℤ) → Number z bs rest → number_at bs ≡ Some (z, rest)
unfolding number_at
number_read bs rest z (inl (n, digits, small, value)) =
    let plain : after (codes "-") bs ≡ None = ap (after (codes "-")) digits.1 ∙ no_minus digits.0 rest digits.2 digits.3 in
    rw (plain, digits_read bs rest n digits, lt-ltb n (2 ^ 63) small, value) refl
number_read bs rest z (inr (n, (ds, minus, digits), small, value)) =
    rw (after_is (codes "-") bs ds minus, digits_read ds rest n digits, le-leb n (2 ^ 63) small, value) refl
