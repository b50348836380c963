-- Words, lines and numbers that were printed are read back.
use Rattle.std.proofs.Common.{◌≡◌, ◌<◌, ◌≤◌, ◌+◌, ◌^◌, ℕ, ℤ, pos, negsuc, suc, List, [], ◌∷◌, ◌++◌, length, get_or, map, Some, Bool, true, false, not, ◌&&◌, ◌==◌, nat_le, All, IsTrue, FitsSigned, w64, refl, ap, ap₂, ◌∙◌, arith, append_assoc}
use Rattle.std.specs.Fmt.{decimal, signed_decimal}
use Rattle.std.specs.List.{enumerate_from, filter, flat_map, list_all, slice_split}
use Rattle.std.specs.Str.{all_ascii_digits}
use Rattle.std.specs.Str.Parse.{AllDigits, digits_value}
use Rattle.std.proofs.lemmas.Bool.{and_parts, leb-true, le-leb, lt-ltb, ne_eqb}
use Rattle.std.proofs.lemmas.Fmt.{decimal_nonempty, digits_decimal, digits_value-decimal}
use Rattle.std.proofs.lemmas.List.Elements.{All-append, All-cons, All-from_get_or, All-head, All-nil, All-tail, All-weaker}
use Rattle.std.proofs.lemmas.List.Splits.{slice_split_at, slice_split_none}
use Rattle.std.proofs.lemmas.Str.Parse.{IsNumeralModel, digit_at, numerals_by_value, tells_all_ascii_digits, tells_digits}
use Rattle.sgb_graph.specs.Text.{IsText, is_text_byte}
use Rattle.sgb_import.specs.Lines.{LineOf, is_blank, lines, without_return, words}
use Rattle.sgb_import.specs.Numbers.{length_of, natural_of}

-- ---- words
-- some bytes, none of them a space or below it
pub record IsWord (w : List ℕ) : Type 0 where
  pub some : 0 < length w
  pub bytes : All (λ b. 33 ≤ b) w

no_blank : (b : ℕ) → 33 ≤ b → is_blank b ≡ false
no_blank b high = rw (ne_eqb b 32 (λ e. omega arith), ne_eqb b 9 (λ e. omega arith)) refl

blankless : (w : List ℕ) → IsWord w → All (λ b. is_blank b ≡ false) w
blankless w is = All-weaker (λ b. 33 ≤ b) (λ b. is_blank b ≡ false) no_blank w is.bytes

kept_word : (w : List ℕ) (ws : List (List ℕ)) → 0 < length w → filter (λ v. not (length v == 0)) (w ∷ ws) ≡ w ∷ filter (λ v. not (length v == 0)) ws
kept_word w ws some = rw (ne_eqb (length w) 0 (λ e. omega arith)) refl

pub words_first : (w rest : List ℕ) → IsWord w → words (w ++ 32 ∷ rest) ≡ w ∷ words rest
unfolding words
words_first w rest is =
    ap (filter (λ v. not (length v == 0))) (slice_split_at is_blank w 32 rest (blankless w is) refl) ∙ kept_word w (slice_split is_blank rest) is.some

pub words_last : (w : List ℕ) → IsWord w → words w ≡ w ∷ []
unfolding words
words_last w is =
    ap (filter (λ v. not (length v == 0))) (slice_split_none is_blank w (blankless w is)) ∙ kept_word w [] is.some

pub no_words : words [] ≡ []
unfolding words
no_words = refl

-- ---- lines
-- no byte below a space
abbrev pub IsLine : List ℕ → Type 0
IsLine l = All (λ b. 32 ≤ b) l

pub line_of_word : (w : List ℕ) → IsWord w → IsLine w
line_of_word w is = All-weaker (λ b. 33 ≤ b) (λ b. 32 ≤ b) (λ b high. omega arith) w is.bytes

pub line_of_text : (t : List ℕ) → IsText t → IsLine t
line_of_text t is = go t is.printable
  where
    go : (bs : List ℕ) → IsTrue (list_all is_text_byte bs) → IsLine bs
    go [] all = All-nil (λ b. 32 ≤ b)
    go (b ∷ bs) all =
        let p = and_parts (is_text_byte b) (list_all is_text_byte bs) all in
        let q = and_parts (nat_le 32 b && nat_le b 126 && not (b == 34)) (not (b == 92)) p.0 in
        let r = and_parts (nat_le 32 b && nat_le b 126) (not (b == 34)) q.0 in
        let s = and_parts (nat_le 32 b) (nat_le b 126) r.0 in
        All-cons (λ c. 32 ≤ c) b bs (leb-true 32 b s.0) (go bs p.1)

abbrev is_newline : ℕ → Bool
is_newline b = b == 10

newlineless : (l : List ℕ) → IsLine l → All (λ b. is_newline b ≡ false) l
newlineless l is = All-weaker (λ b. 32 ≤ b) (λ b. is_newline b ≡ false) (λ b high. ne_eqb b 10 (λ e. omega arith)) l is

-- each line with its newline
abbrev pub text_of_lines : List (List ℕ) → List ℕ
text_of_lines = flat_map (λ l. l ++ 10 ∷ [])

split_lines : (ls : List (List ℕ)) → All IsLine ls → slice_split is_newline (text_of_lines ls) ≡ ls ++ [] ∷ []
split_lines [] all = refl
split_lines (l ∷ ls) all =
    ap (slice_split is_newline) (append_assoc l (10 ∷ []) (text_of_lines ls))
    ∙ (slice_split_at is_newline l 10 (text_of_lines ls) (newlineless l (All-head IsLine l ls all)) refl
    ∙ ap (λ xs. l ∷ xs) (split_lines ls (All-tail IsLine l ls all)))

no_return : (l : List ℕ) → IsLine l → without_return l ≡ l
no_return [] is = refl
no_return (b ∷ []) is = let high = All-head (λ c. 32 ≤ c) b [] is in rw (ne_eqb b 13 (λ e. omega arith)) refl
no_return (b ∷ (c ∷ cs)) is = ap (λ l. b ∷ l) (no_return (c ∷ cs) (All-tail (λ d. 32 ≤ d) b (c ∷ cs) is))

-- the lines, numbered from n on
abbrev pub numbered_from : ℕ → List (List ℕ) → List LineOf
numbered_from n ls = map (λ p. record { number = p.0; bytes = p.1 }) (enumerate_from n ls)

no_returns : (n : ℕ) (ls : List (List ℕ)) → All IsLine ls → map (λ p. record { number = p.0; bytes = without_return p.1 }) (enumerate_from n ls) ≡ numbered_from n ls
no_returns n [] all = refl
no_returns n (l ∷ ls) all =
    ap₂ (λ bs rest. record { number = n; bytes = bs } ∷ rest) (no_return l (All-head IsLine l ls all)) (no_returns (n + 1) ls (All-tail IsLine l ls all))

-- the lines of a text that ends in a newline: the last is empty
pub lines_of_text : (ls : List (List ℕ)) → All IsLine ls → lines (text_of_lines ls) ≡ numbered_from 1 (ls ++ [] ∷ [])
unfolding lines
lines_of_text ls all =
    ap (λ ps. map (λ p. record { number = p.0; bytes = without_return p.1 }) (enumerate_from 1 ps)) (split_lines ls all)
    ∙ no_returns 1 (ls ++ [] ∷ []) (All-append IsLine ls ([] ∷ []) all (All-cons IsLine [] [] (All-nil (λ b. 32 ≤ b)) (All-nil IsLine)))

-- ---- numbers
ascii_numerals : IsNumeralModel (λ ds. all_ascii_digits ds ≡ true) (digits_value 10)
ascii_numerals = numerals_by_value (λ ds. all_ascii_digits ds ≡ true) tells_all_ascii_digits

numerals : IsNumeralModel (AllDigits 10) (digits_value 10)
numerals = numerals_by_value (AllDigits 10) tells_digits

pub natural_of_decimal : (n : ℕ) → n < 2 ^ 64 → natural_of (decimal n) ≡ Some n
unfolding natural_of
natural_of_decimal n small =
    let some = decimal_nonempty n small in
    rw (ne_eqb (length (decimal n)) 0 (λ e. omega arith), digits_decimal ascii_numerals n small) (ap (λ m. Some m) (digits_value-decimal numerals n small))

positive_length : (ds : List ℕ) (n : ℕ) → AllDigits 10 ds → 0 < length ds → n < 2 ^ 63 → natural_of ds ≡ Some n → length_of ds ≡ Some (pos n)
unfolding length_of
positive_length [] n digits some small is = absurd (omega arith)
positive_length (c ∷ cs) n digits some small is =
    let range = (tells_digits.parts c cs digits).0 in
    let low = range.0 in
    rw (ne_eqb c 45 (λ e. omega arith), is, lt-ltb n (2 ^ 63) small) refl

negative_length : (ds : List ℕ) (n : ℕ) → suc n ≤ 2 ^ 63 → natural_of ds ≡ Some (suc n) → length_of (45 ∷ ds) ≡ Some (negsuc n)
unfolding length_of
negative_length ds n small is = rw (is, le-leb (suc n) (2 ^ 63) small) refl

pub length_of_signed : (z : ℤ) → FitsSigned w64 z → length_of (signed_decimal z) ≡ Some z
length_of_signed (pos n) fits =
    let small : n < 2 ^ 63 = fits.sfits in
    positive_length (decimal n) n (digits_decimal numerals n (omega arith)) (decimal_nonempty n (omega arith)) small (natural_of_decimal n (omega arith))
length_of_signed (negsuc n) fits =
    let small : n < 2 ^ 63 = fits.sfits in
    negative_length (decimal (suc n)) n (omega arith) (natural_of_decimal (suc n) (omega arith))

pub word_of_decimal : (n : ℕ) → n < 2 ^ 64 → IsWord (decimal n)
word_of_decimal n small = record {
  some = decimal_nonempty n small;
  bytes = All-from_get_or (λ b. 33 ≤ b) (decimal n) 0 (λ i h. let low = (digit_at (decimal n) i (digits_decimal numerals n small) h).0 in omega arith);
}

pub word_of_signed : (z : ℤ) → FitsSigned w64 z → IsWord (signed_decimal z)
word_of_signed (pos n) fits = let small : n < 2 ^ 63 = fits.sfits in word_of_decimal n (omega arith)
word_of_signed (negsuc n) fits =
    let small : n < 2 ^ 63 = fits.sfits in
    let w = word_of_decimal (suc n) (omega arith) in
    record { some = omega arith; bytes = All-cons (λ b. 33 ≤ b) 45 (decimal (suc n)) (omega arith) w.bytes }

-- the first byte of a number is a digit or a minus
pub first_of_decimal : (n : ℕ) → n < 2 ^ 64 → 48 ≤ get_or (decimal n) 0 0
first_of_decimal n small = (digit_at (decimal n) 0 (digits_decimal numerals n small) (decimal_nonempty n small)).0
