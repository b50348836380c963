-- A line's words, found from the left.
use Rattle.std.proofs.Common.{◌≡◌, ◌≢◌, ℕ, suc, ◌+◌, ◌-◌, ◌<◌, ◌≤◌, Bool, true, false, not, ◌&&◌, ◌||◌, ◌==◌, cond, List, [], ◌∷◌, ◌++◌, length, take, drop, map, slice_index, Option, Some, None, refl, sym, ap, ◌∙◌, subst, arith, filter, inl, inr, take-append-drop}
use Rattle.std.specs.Option.{option_map}
use Rattle.std.specs.List.{slice_split, onto_first, prefix_len, list_all, after_first}
use Rattle.std.proofs.lemmas.Bool.{cases_Bool, cases_lt, ne_eqb, eq-eqb, eqb-true, eqb-false}
use Rattle.std.proofs.lemmas.List.{append-nil, nil_from_length, length-drop, drop-drop, take_all}
use Rattle.std.proofs.lemmas.List.Folds.{length-prefix_len}
use Rattle.std.proofs.lemmas.List.Splits.{slice_split_first}
use Rattle.sgb_script.specs.Private.Words.{is_nothing}
use Rattle.sgb_script.specs.Words.{Word, Plain, Quoted, plain_words, words_in, words_of, begins_with_space, ends_with_space, is_quotable}

abbrev pub is_space : ℕ → Bool
is_space b = b == 32

abbrev pub is_quote : ℕ → Bool
is_quote b = b == 34

abbrev pub is_letter : ℕ → Bool
is_letter b = not (b == 32 || b == 34)

-- ---- parts

-- w put before the first part
abbrev pub onto_all : List ℕ → List (List ℕ) → List (List ℕ)
onto_all w [] = w ∷ []
onto_all w (p ∷ ps) = (w ++ p) ∷ ps

onto_all-cons : (x : ℕ) (w : List ℕ) (ps : List (List ℕ)) → onto_first x (onto_all w ps) ≡ onto_all (x ∷ w) ps
onto_all-cons x w [] = refl
onto_all-cons x w (p ∷ ps) = refl

onto_all-nil : (p : List ℕ) (ps : List (List ℕ)) → onto_all [] (p ∷ ps) ≡ p ∷ ps
onto_all-nil p ps = refl

-- what a split gives has a first part
pub record Parts (ps : List (List ℕ)) : Type 0 where
  pub first : List ℕ
  pub others : List (List ℕ)
  pub are : ps ≡ first ∷ others

onto_parts : (x : ℕ) (ps : List (List ℕ)) → Parts (onto_first x ps)
onto_parts x [] = record { first = x ∷ []; others = []; are = refl }
onto_parts x (p ∷ ps) = record { first = x ∷ p; others = ps; are = refl }

pub parts : (q : ℕ → Bool) (xs : List ℕ) → Parts (slice_split q xs)
parts q [] = record { first = []; others = []; are = refl }
parts q (x ∷ xs) = elim (cases_Bool (q x)) [
  | inl cut ↦ rw cut (record { first = []; others = slice_split q xs; are = refl })
  | inr kept ↦ rw kept (onto_parts x (slice_split q xs))
]

-- bytes at which nothing is cut go before the first part
pub split_run : (q : ℕ → Bool) (w rest : List ℕ) → list_all (λ b. not (q b)) w ≡ true → slice_split q (w ++ rest) ≡ onto_all w (slice_split q rest)
split_run q [] rest h = let ps = parts q rest in rw ps.are refl
split_run q (x ∷ w) rest h = elim (cases_Bool (q x)) [
  | inl cut ↦ absurd (let bad : false ≡ true = rw cut at h in cc)
  | inr kept ↦ rw kept (ap (onto_first x) (split_run q w rest (rw kept at h)) ∙ onto_all-cons x w (slice_split q rest))
]

-- ---- spaces

pub plain_words-space : (xs : List ℕ) → plain_words (32 ∷ xs) ≡ plain_words xs
plain_words-space xs = refl

none_at_suc : (n : ℕ) → (suc n == 0) ≡ false
none_at_suc n = ne_eqb (suc n) 0 (λ e. absurd (omega arith))

words_in-space : (p : List ℕ) (ps : List (List ℕ)) → words_in ((32 ∷ p) ∷ ps) ≡ words_in (p ∷ ps)
words_in-space p [] = refl
words_in-space p (t ∷ []) = refl
words_in-space [] (t ∷ q ∷ more) = refl
words_in-space (c ∷ cs) (t ∷ q ∷ more) = rw (none_at_suc (suc (length cs)), none_at_suc (length cs)) refl

words_in-onto_space : (ps : List (List ℕ)) → Parts ps → words_in (onto_first 32 ps) ≡ words_in ps
words_in-onto_space ps split = rw split.are (words_in-space split.first split.others)

pub words_of-space : (xs : List ℕ) → words_of (32 ∷ xs) ≡ words_of xs
unfolding words_of
words_of-space xs = words_in-onto_space (slice_split is_quote xs) (parts is_quote xs)

drop-one_more : (n x : ℕ) (xs : List ℕ) → drop (1 + n) (x ∷ xs) ≡ drop n xs
drop-one_more n x xs = let s : 1 + n ≡ suc n = omega arith in ap (λ k. drop k (x ∷ xs)) s

pub take-one_more : (n x : ℕ) (xs : List ℕ) → take (1 + n) (x ∷ xs) ≡ x ∷ take n xs
take-one_more n x xs = let s : 1 + n ≡ suc n = omega arith in ap (λ k. take k (x ∷ xs)) s

pub words_of-spaces : (xs : List ℕ) → words_of (drop (prefix_len is_space xs) xs) ≡ words_of xs
words_of-spaces [] = refl
words_of-spaces (x ∷ xs) = elim (cases_Bool (x == 32)) [
  | inl space ↦ rw space (ap words_of (drop-one_more (prefix_len is_space xs) x xs) ∙ words_of-spaces xs ∙ sym (words_of-space xs) ∙ ap (λ b. words_of (b ∷ xs)) (sym (eqb-true x 32 space)))
  | inr letter ↦ rw letter refl
]

-- ---- the end of a word

abbrev pub ends : List ℕ → Bool
ends rest = slice_index rest 0 == 32 || length rest == 0

-- the same of the parts of what follows
abbrev pub ends_parts : List (List ℕ) → Bool
ends_parts [] = true
ends_parts (q ∷ more) = begins_with_space q || (length q == 0 && length more == 0)

or_false : (b : Bool) → b || false ≡ b
or_false true = refl
or_false false = refl

ends_quote : (ps : List (List ℕ)) → Parts ps → ends_parts ([] ∷ ps) ≡ false
ends_quote ps split = rw (split.are, none_at_suc (length split.others)) refl

ends_other : (b : ℕ) (bs : List ℕ) (ps : List (List ℕ)) → Parts ps → ends_parts (onto_first b ps) ≡ ends (b ∷ bs)
ends_other b bs ps split = rw (split.are, none_at_suc (length split.first), none_at_suc (length bs)) refl

pub ends_is : (rest : List ℕ) → ends_parts (slice_split is_quote rest) ≡ ends rest
ends_is [] = refl
ends_is (b ∷ bs) = elim (cases_Bool (b == 34)) [
  | inl quote ↦ rw (quote, ends_quote (slice_split is_quote bs) (parts is_quote bs), none_at_suc (length bs), or_false) (sym (ap (λ k. k == 32) (eqb-true b 34 quote)))
  | inr other ↦ rw other (ends_other b bs (slice_split is_quote bs) (parts is_quote bs))
]

-- ---- a text between quotes

pub no_cut : (q : ℕ → Bool) (xs : List ℕ) → length xs ≤ prefix_len (λ b. not (q b)) xs → slice_split q xs ≡ xs ∷ []
no_cut q [] h = refl
no_cut q (x ∷ xs) h = elim (cases_Bool (q x)) [
  | inl cut ↦ absurd (let bad : suc (length xs) ≤ 0 = rw cut at h in omega arith)
  | inr kept ↦ (let less : suc (length xs) ≤ 1 + prefix_len (λ b. not (q b)) xs = rw kept at h in rw kept (ap (onto_first x) (no_cut q xs (omega arith))))
]

pub open_quote : (xs : List ℕ) → length xs ≤ prefix_len (λ b. not (b == 34)) xs → words_of (34 ∷ xs) ≡ None
unfolding words_of
open_quote xs h = ap (λ ps. words_in ([] ∷ ps)) (no_cut is_quote xs h)

quoted_parts : (t : List ℕ) (ps : List (List ℕ)) → Parts ps
    → words_in ([] ∷ t ∷ ps) ≡ cond (is_quotable t && ends_parts ps) (option_map (λ ws. Quoted t ∷ ws) (words_in ps)) None
quoted_parts t ps split = rw split.are refl

pub closed_quote : (xs : List ℕ) → prefix_len (λ b. not (b == 34)) xs < length xs
    → let n = prefix_len (λ b. not (b == 34)) xs in
    words_of (34 ∷ xs) ≡ cond (is_quotable (take n xs) && ends (after_first is_quote xs)) (option_map (λ ws. Quoted (take n xs) ∷ ws) (words_of (after_first is_quote xs))) None
unfolding words_of
closed_quote xs h =
    let rest = after_first is_quote xs in
    let t = take (prefix_len (λ b. not (b == 34)) xs) xs in
    ap (λ ps. words_in ([] ∷ ps)) (slice_split_first is_quote xs 0 h)
    ∙ quoted_parts t (slice_split is_quote rest) (parts is_quote rest)
    ∙ ap (λ b. cond (is_quotable t && b) (option_map (λ ws. Quoted t ∷ ws) (words_in (slice_split is_quote rest))) None) (ends_is rest)

-- ---- a plain word

letters_no_space : (w : List ℕ) → list_all is_letter w ≡ true → list_all (λ b. not (b == 32)) w ≡ true
letters_no_space [] h = refl
letters_no_space (x ∷ w) h = elim (cases_Bool (x == 32)) [
  | inl space ↦ absurd (let bad : false ≡ true = rw space at h in cc)
  | inr other ↦ elim (cases_Bool (x == 34)) [
    | inl quote ↦ absurd (let bad : false ≡ true = rw (other, quote) at h in cc)
    | inr letter ↦ rw other (letters_no_space w (rw (other, letter) at h))
  ]
]

letters_no_quote : (w : List ℕ) → list_all is_letter w ≡ true → list_all (λ b. not (b == 34)) w ≡ true
letters_no_quote [] h = refl
letters_no_quote (x ∷ w) h = elim (cases_Bool (x == 32)) [
  | inl space ↦ absurd (let bad : false ≡ true = rw space at h in cc)
  | inr other ↦ elim (cases_Bool (x == 34)) [
    | inl quote ↦ absurd (let bad : false ≡ true = rw (other, quote) at h in cc)
    | inr letter ↦ rw letter (letters_no_quote w (rw (other, letter) at h))
  ]
]

kept : (w : List ℕ) (ws : List (List ℕ)) → 0 < length w → filter (λ v. not (length v == 0)) (w ∷ ws) ≡ w ∷ filter (λ v. not (length v == 0)) ws
kept [] ws some = absurd (omega arith)
kept (x ∷ w) ws some = rw (none_at_suc (length w)) refl

-- behind the word comes a space or nothing
plain_words-end : (w : List ℕ) → 0 < length w → list_all (λ b. not (b == 32)) w ≡ true → plain_words (w ++ []) ≡ Plain w ∷ []
plain_words-end w some letters =
    ap (λ ps. map Plain (filter (λ v. not (length v == 0)) ps)) (split_run is_space w [] letters ∙ ap (λ v. v ∷ []) (append-nil w))
    ∙ ap (map Plain) (kept w [] some)

plain_words-more : (w p : List ℕ) → 0 < length w → list_all (λ b. not (b == 32)) w ≡ true → plain_words (w ++ 32 ∷ p) ≡ Plain w ∷ plain_words (32 ∷ p)
plain_words-more w p some letters =
    ap (λ ps. map Plain (filter (λ v. not (length v == 0)) ps)) (split_run is_space w (32 ∷ p) letters ∙ ap (λ v. v ∷ slice_split is_space p) (append-nil w))
    ∙ ap (map Plain) (kept w (slice_split is_space p) some)

some_bytes : (w p : List ℕ) → 0 < length w → (length (w ++ p) == 0) ≡ false
some_bytes [] p some = absurd (omega arith)
some_bytes (x ∷ w) p some = none_at_suc (length (w ++ p))

ends_behind : (w : List ℕ) (b : ℕ) (p : List ℕ) → ends_with_space (w ++ b ∷ p) ≡ ends_with_space (b ∷ p)
ends_behind [] b p = refl
ends_behind (x ∷ []) b p = refl
ends_behind (x ∷ y ∷ w) b p = ends_behind (y ∷ w) b p

ends_with_letter : (w : List ℕ) → 0 < length w → list_all (λ b. not (b == 32)) w ≡ true → ends_with_space (w ++ []) ≡ false
ends_with_letter [] some letters = absurd (omega arith)
ends_with_letter (x ∷ []) some letters = elim (cases_Bool (x == 32)) [
  | inl space ↦ absurd (let bad : false ≡ true = rw space at letters in cc)
  | inr letter ↦ letter
]
ends_with_letter (x ∷ y ∷ w) some letters = elim (cases_Bool (x == 32)) [
  | inl space ↦ absurd (let bad : false ≡ true = rw space at letters in cc)
  | inr letter ↦ ends_with_letter (y ∷ w) (omega arith) (rw letter at letters)
]

-- the word goes before what the rest gives
moved : (w : Word) (ws : List Word) (t : List ℕ) (b : Bool) (o : Option (List Word))
    → cond b (option_map (λ vs. (w ∷ ws) ++ Quoted t ∷ vs) o) None ≡ option_map (λ vs. w ∷ vs) (cond b (option_map (λ vs. ws ++ Quoted t ∷ vs) o) None)
moved w ws t false o = refl
moved w ws t true None = refl
moved w ws t true (Some vs) = refl

words_in-run : (w p : List ℕ) (ps : List (List ℕ)) → 0 < length w → list_all (λ b. not (b == 32)) w ≡ true
    → words_in ((w ++ 32 ∷ p) ∷ ps) ≡ option_map (λ ws. Plain w ∷ ws) (words_in ((32 ∷ p) ∷ ps))
words_in-run w p [] some letters = ap Some (plain_words-more w p some letters)
words_in-run w p (t ∷ []) some letters = refl
words_in-run w p (t ∷ q ∷ more) some letters =
    rw (some_bytes w (32 ∷ p) some, ends_behind w 32 p, none_at_suc (length p), plain_words-more w p some letters)
    (moved (Plain w) (plain_words (32 ∷ p)) t (ends_with_space (32 ∷ p) && is_quotable t && (begins_with_space q || (length q == 0 && length more == 0))) (words_in (q ∷ more)))

words_in-onto_run : (w : List ℕ) (ps : List (List ℕ)) → Parts ps → 0 < length w → list_all (λ b. not (b == 32)) w ≡ true
    → words_in (onto_all w (onto_first 32 ps)) ≡ option_map (λ ws. Plain w ∷ ws) (words_in (onto_first 32 ps))
words_in-onto_run w ps split some letters = rw split.are (words_in-run w split.first split.others some letters)

words_in-run_quote : (w : List ℕ) (ps : List (List ℕ)) → 0 < length w → list_all (λ b. not (b == 32)) w ≡ true → words_in (onto_all w ([] ∷ ps)) ≡ words_in ((w ++ []) ∷ ps)
words_in-run_quote w ps some letters = refl

no_quote_behind : (w : List ℕ) (t : List ℕ) (ps : List (List ℕ)) → 0 < length w → list_all (λ b. not (b == 32)) w ≡ true → words_in ((w ++ []) ∷ t ∷ ps) ≡ None
no_quote_behind w t [] some letters = refl
no_quote_behind w t (q ∷ more) some letters = rw (some_bytes w [] some, ends_with_letter w some letters) refl

quote_behind : (w : List ℕ) (ps : List (List ℕ)) → Parts ps → 0 < length w → list_all (λ b. not (b == 32)) w ≡ true → words_in ((w ++ []) ∷ ps) ≡ None
quote_behind w ps split some letters = rw split.are (no_quote_behind w split.first split.others some letters)

ends_at_quote : (r : List ℕ) → ends (34 ∷ r) ≡ false
ends_at_quote r = none_at_suc (length r)

pub plain_word : (w rest : List ℕ) → 0 < length w → list_all is_letter w ≡ true → prefix_len is_letter rest ≡ 0
    → words_of (w ++ rest) ≡ cond (ends rest) (option_map (λ ws. Plain w ∷ ws) (words_of rest)) None
unfolding words_of
plain_word w [] some letters stop =
    ap words_in (split_run is_quote w [] (letters_no_quote w letters)) ∙ ap Some (plain_words-end w some (letters_no_space w letters))
plain_word w (b ∷ r) some letters stop = elim (cases_Bool (b == 32)) [
  | inl space ↦ rw (eqb-true b 32 space) (
      ap words_in (split_run is_quote w (32 ∷ r) (letters_no_quote w letters))
      ∙ words_in-onto_run w (slice_split is_quote r) (parts is_quote r) some (letters_no_space w letters))
  | inr other ↦ elim (cases_Bool (b == 34)) [
    | inl quote ↦ rw (eqb-true b 34 quote, ends_at_quote r) (
        ap words_in (split_run is_quote w (34 ∷ r) (letters_no_quote w letters))
        ∙ quote_behind w (slice_split is_quote r) (parts is_quote r) some (letters_no_space w letters))
    | inr letter ↦ absurd (let more : 1 + prefix_len is_letter r ≡ 0 = rw (other, letter) at stop in omega arith)
  ]
]

pub letters_first : (xs : List ℕ) → list_all is_letter (take (prefix_len is_letter xs) xs) ≡ true
letters_first [] = refl
letters_first (x ∷ xs) = elim (cases_Bool (is_letter x)) [
  | inl letter ↦ rw (letter, take-one_more, letter) (letters_first xs)
  | inr other ↦ rw other refl
]

pub letters_stop : (xs : List ℕ) → prefix_len is_letter (drop (prefix_len is_letter xs) xs) ≡ 0
letters_stop [] = refl
letters_stop (x ∷ xs) = elim (cases_Bool (is_letter x)) [
  | inl letter ↦ rw (letter, drop-one_more) (letters_stop xs)
  | inr other ↦ rw (other, other) refl
]

-- a text that begins with a plain word
pub first_word : (text : List ℕ) → 0 < prefix_len is_letter text
    → let n = prefix_len is_letter text in
    words_of text ≡ cond (ends (drop n text)) (option_map (λ ws. Plain (take n text) ∷ ws) (words_of (drop n text))) None
first_word text some =
    let n = prefix_len is_letter text in
    let long : 0 < length (take n text) = subst (λ k. 0 < k) (sym (length-prefix_len is_letter text)) some in
    ap words_of (sym (take-append-drop n text)) ∙ plain_word (take n text) (drop n text) long (letters_first text) (letters_stop text)

-- ---- no word

not_nothing : (b : Bool) (w : Word) (o : Option (List Word)) → is_nothing (cond b (option_map (λ ws. w ∷ ws) o) None) ≡ false
not_nothing false w o = refl
not_nothing true w None = refl
not_nothing true w (Some ws) = refl

quoted_first : (xs : List ℕ) → is_nothing (words_of (34 ∷ xs)) ≡ false
quoted_first xs = elim (cases_lt (prefix_len (λ b. not (b == 34)) xs) (length xs)) [
  | inl closed ↦ ap is_nothing (closed_quote xs closed) ∙ not_nothing _ _ _
  | inr unclosed ↦ ap is_nothing (open_quote xs unclosed)
]

pub some_word : (c : ℕ) (xs : List ℕ) → (c == 32) ≡ false → is_nothing (words_of (c ∷ xs)) ≡ false
some_word c xs other = elim (cases_Bool (c == 34)) [
  | inl quote ↦ ap (λ b. is_nothing (words_of (b ∷ xs))) (eqb-true c 34 quote) ∙ quoted_first xs
  | inr letter ↦ (let some : 0 < prefix_len is_letter (c ∷ xs) = rw (other, letter) (omega arith) in ap is_nothing (first_word (c ∷ xs) some) ∙ not_nothing _ _ _)
]

suc_eq : (m n : ℕ) → (1 + m == suc n) ≡ (m == n)
suc_eq m n = elim (cases_Bool (m == n)) [
  | inl same ↦ (let e : m ≡ n = eqb-true m n same in eq-eqb (1 + m) (suc n) (omega arith) ∙ sym same)
  | inr apart ↦ (let ne : m ≢ n = eqb-false m n apart in ne_eqb (1 + m) (suc n) (λ e. ne (omega arith)) ∙ sym apart)
]

blank_empty : (0 == 0) ≡ is_nothing (words_of [])
unfolding words_of
blank_empty = refl

pub blank : (xs : List ℕ) → (prefix_len is_space xs == length xs) ≡ is_nothing (words_of xs)
blank [] = blank_empty
blank (x ∷ xs) = elim (cases_Bool (x == 32)) [
  | inl space ↦ rw space (suc_eq (prefix_len is_space xs) (length xs) ∙ blank xs ∙ ap is_nothing (sym (words_of-space xs)) ∙ ap (λ b. is_nothing (words_of (b ∷ xs))) (sym (eqb-true x 32 space)))
  | inr other ↦ rw other (ne_eqb 0 (suc (length xs)) (λ e. absurd (omega arith)) ∙ sym (some_word x xs other))
]

-- ---- as the program takes them off

pub after_spaces : (line text : List ℕ) (k : ℕ) → k ≡ prefix_len is_space line → text ≡ drop k line → words_of text ≡ words_of line
after_spaces line text k count rest = ap words_of (rest ∙ ap (λ j. drop j line) count) ∙ words_of-spaces line

pub no_word : (line text : List ℕ) (k : ℕ) → k ≡ prefix_len is_space line → text ≡ drop k line → length text ≡ 0 → words_of line ≡ Some []
unfolding words_of
no_word line text k count rest empty = sym (after_spaces line text k count rest) ∙ ap words_of (nil_from_length text empty)

no_space : (xs : List ℕ) → 0 < length (drop (prefix_len is_space xs) xs) → (slice_index (drop (prefix_len is_space xs) xs) 0 == 32) ≡ false
no_space [] some = absurd (omega arith)
no_space (x ∷ xs) some = elim (cases_Bool (x == 32)) [
  | inl space ↦ rw (space, drop-one_more) (no_space xs (rw (space, drop-one_more) at some))
  | inr letter ↦ rw letter letter
]

letter_first : (text : List ℕ) → 0 < length text → (slice_index text 0 == 32) ≡ false → (slice_index text 0 == 34) ≡ false → 0 < prefix_len is_letter text
letter_first [] some space quote = absurd (omega arith)
letter_first (x ∷ xs) some space quote =
    let a : (x == 32) ≡ false = space in
    let b : (x == 34) ≡ false = quote in
    rw (a, b) (omega arith)

pub letter_behind : (line text : List ℕ) (k : ℕ) → k ≡ prefix_len is_space line → text ≡ drop k line → 0 < length text → (slice_index text 0 == 34) ≡ false → 0 < prefix_len is_letter text
letter_behind line text k count rest some quote =
    let same : drop (prefix_len is_space line) line ≡ text = sym (rest ∙ ap (λ j. drop j line) count) in
    letter_first text some (subst (λ t. (slice_index t 0 == 32) ≡ false) same (no_space line (subst (λ t. 0 < length t) (sym same) some))) quote

pub plain_is : (text word rest : List ℕ) (n : ℕ) → n ≡ prefix_len is_letter text → word ≡ take n text → rest ≡ drop n text → 0 < prefix_len is_letter text
    → words_of text ≡ cond (ends rest) (option_map (λ ws. Plain word ∷ ws) (words_of rest)) None
plain_is text word rest n count front back some =
    let word_is : take (prefix_len is_letter text) text ≡ word = sym (front ∙ ap (λ j. take j text) count) in
    let rest_is : drop (prefix_len is_letter text) text ≡ rest = sym (back ∙ ap (λ j. drop j text) count) in
    first_word text some ∙ ap (λ w. cond (ends (drop (prefix_len is_letter text) text)) (option_map (λ ws. Plain w ∷ ws) (words_of (drop (prefix_len is_letter text) text))) None) word_is
    ∙ ap (λ r. cond (ends r) (option_map (λ ws. Plain word ∷ ws) (words_of r)) None) rest_is

pub unclosed : (inside behind : List ℕ) (n : ℕ) → n ≡ prefix_len (λ b. not (b == 34)) inside → behind ≡ drop n inside → length behind ≡ 0 → words_of (34 ∷ inside) ≡ None
unclosed inside behind n count back empty =
    open_quote inside (omega (arith, length-drop n inside, ap length back))

pub quoted_is : (inside text behind rest : List ℕ) (n : ℕ) → n ≡ prefix_len (λ b. not (b == 34)) inside → text ≡ take n inside → behind ≡ drop n inside → 0 < length behind → rest ≡ drop 1 behind
    → words_of (34 ∷ inside) ≡ cond (is_quotable text && ends rest) (option_map (λ ws. Quoted text ∷ ws) (words_of rest)) None
quoted_is inside text behind rest n count front back some after =
    let m = prefix_len (λ b. not (b == 34)) inside in
    let text_is : take m inside ≡ text = sym (front ∙ ap (λ j. take j inside) count) in
    let rest_is : after_first is_quote inside ≡ rest = sym (after ∙ ap (drop 1) (back ∙ ap (λ j. drop j inside) count) ∙ drop-drop 1 m inside) in
    closed_quote inside (omega (arith, length-drop n inside, ap length back))
    ∙ ap (λ t. cond (is_quotable t && ends (after_first is_quote inside)) (option_map (λ ws. Quoted t ∷ ws) (words_of (after_first is_quote inside))) None) text_is
    ∙ ap (λ r. cond (is_quotable text && ends r) (option_map (λ ws. Quoted text ∷ ws) (words_of r)) None) rest_is

pub plain_then : (text bytes rest : List ℕ) (n : ℕ) (word : Word) (e : Bool) → n ≡ prefix_len is_letter text → bytes ≡ take n text → rest ≡ drop n text → 0 < prefix_len is_letter text
    → word ≡ Plain bytes → e ≡ ends rest → e ≡ true → words_of text ≡ option_map (λ ws. word ∷ ws) (words_of rest)
plain_then text bytes rest n word e count front back some is tested ended =
    plain_is text bytes rest n count front back some
    ∙ ap (λ b. cond b (option_map (λ ws. Plain bytes ∷ ws) (words_of rest)) None) (sym tested ∙ ended)
    ∙ ap (λ w. option_map (λ ws. w ∷ ws) (words_of rest)) (sym is)

pub plain_else : (text bytes rest : List ℕ) (n : ℕ) (e : Bool) → n ≡ prefix_len is_letter text → bytes ≡ take n text → rest ≡ drop n text → 0 < prefix_len is_letter text
    → e ≡ ends rest → e ≡ false → words_of text ≡ None
plain_else text bytes rest n e count front back some tested ended =
    plain_is text bytes rest n count front back some
    ∙ ap (λ b. cond b (option_map (λ ws. Plain bytes ∷ ws) (words_of rest)) None) (sym tested ∙ ended)

pub behind_quote : (behind : List ℕ) → take (length behind - 1) (drop 1 behind) ≡ drop 1 behind
behind_quote behind = take_all _ (drop 1 behind) (omega (arith, length-drop 1 behind))

pub quoted_then : (inside text behind rest : List ℕ) (n : ℕ) (word : Word) (q e : Bool) → n ≡ prefix_len (λ b. not (b == 34)) inside → text ≡ take n inside → behind ≡ drop n inside → 0 < length behind → rest ≡ drop 1 behind
    → word ≡ Quoted text → q ≡ is_quotable text → q ≡ true → e ≡ ends rest → e ≡ true → words_of (34 ∷ inside) ≡ option_map (λ ws. word ∷ ws) (words_of rest)
quoted_then inside text behind rest n word q e count front back some after is q_tested good tested ended =
    quoted_is inside text behind rest n count front back some after
    ∙ ap (λ b. cond (b && ends rest) (option_map (λ ws. Quoted text ∷ ws) (words_of rest)) None) (sym q_tested ∙ good)
    ∙ ap (λ b. cond b (option_map (λ ws. Quoted text ∷ ws) (words_of rest)) None) (sym tested ∙ ended)
    ∙ ap (λ w. option_map (λ ws. w ∷ ws) (words_of rest)) (sym is)

pub not_quotable : (inside text behind : List ℕ) (n : ℕ) (q : Bool) → n ≡ prefix_len (λ b. not (b == 34)) inside → text ≡ take n inside → behind ≡ drop n inside → 0 < length behind
    → q ≡ is_quotable text → q ≡ false → words_of (34 ∷ inside) ≡ None
not_quotable inside text behind n q count front back some q_tested bad =
    let rest = drop 1 behind in
    quoted_is inside text behind rest n count front back some refl
    ∙ ap (λ b. cond (b && ends rest) (option_map (λ ws. Quoted text ∷ ws) (words_of rest)) None) (sym q_tested ∙ bad)

pub not_ended : (inside text behind rest : List ℕ) (n : ℕ) (q e : Bool) → n ≡ prefix_len (λ b. not (b == 34)) inside → text ≡ take n inside → behind ≡ drop n inside → 0 < length behind → rest ≡ drop 1 behind
    → q ≡ is_quotable text → q ≡ true → e ≡ ends rest → e ≡ false → words_of (34 ∷ inside) ≡ None
not_ended inside text behind rest n q e count front back some after q_tested good tested ended =
    quoted_is inside text behind rest n count front back some after
    ∙ ap (λ b. cond (b && ends rest) (option_map (λ ws. Quoted text ∷ ws) (words_of rest)) None) (sym q_tested ∙ good)
    ∙ ap (λ b. cond b (option_map (λ ws. Quoted text ∷ ws) (words_of rest)) None) (sym tested ∙ ended)

pub quote_first : (text : List ℕ) → 0 < length text → slice_index text 0 ≡ 34 → 34 ∷ take (length text - 1) (drop 1 text) ≡ text
quote_first [] some quote = absurd (omega arith)
quote_first (x ∷ xs) some quote =
    let first : x ≡ 34 = quote in
    ap (λ t. 34 ∷ t) (take_all _ xs (omega arith)) ∙ ap (λ b. b ∷ xs) (sym first)
