-- The words of a line, found from the left.
use Rattle.std.proofs.Common.{◌≡◌, ◌≢◌, ℕ, suc, ◌+◌, ◌<◌, Bool, true, false, not, ◌==◌, List, [], ◌∷◌, length, take, drop, Some, refl, sym, ap, ◌∙◌, subst, arith, filter, inl, inr}
use Rattle.std.specs.Bool.{⊤}
use Rattle.std.specs.List.{slice_split, onto_first, prefix_len}
use Rattle.std.specs.Iterator.{MakesProgress, item_count}
use Rattle.std.proofs.lemmas.Bool.{cases_Bool, ne_eqb, eqb-false, false≢true}
use Rattle.sgb_import.specs.Lines.{words, is_blank}

-- a call of `next` that gave the first of what is left
pub goes-first : {A B : Type 0} (can : List B → Type 0) → ((l : List B) → can l) → (s t : List B) (x : A) (y : B) → s ≡ y ∷ t
    → MakesProgress can (item_count (λ rest. rest)) s (Some x) t
goes-first can always s t x y e = record {
  on = λ _. (always t, tt, subst (λ l. length t < length l) (sym e) (omega arith));
  keeps = always t;
  rests = λ _. tt;
}

abbrev pub is_letter : ℕ → Bool
is_letter b = not (is_blank b)

none_at_suc : (n : ℕ) → (suc n == 0) ≡ false
none_at_suc n = ne_eqb (suc n) 0 (λ e. absurd (omega arith))

take-one_more : (n x : ℕ) (xs : List ℕ) → take (1 + n) (x ∷ xs) ≡ x ∷ take n xs
take-one_more n x xs = let s : 1 + n ≡ suc n = omega arith in ap (λ k. take k (x ∷ xs)) s

drop-one_more : (n x : ℕ) (xs : List ℕ) → drop (1 + n) (x ∷ xs) ≡ drop n xs
drop-one_more n x xs = let s : 1 + n ≡ suc n = omega arith in ap (λ k. drop k (x ∷ xs)) s

-- what is cut behind the first blank
abbrev others : List ℕ → List (List ℕ)
others [] = []
others (b ∷ bs) = slice_split is_blank bs

first_part : (bs : List ℕ) → slice_split is_blank bs ≡ take (prefix_len is_letter bs) bs ∷ others (drop (prefix_len is_letter bs) bs)
first_part [] = refl
first_part (b ∷ bs) = elim (cases_Bool (is_blank b)) [
  | inl blank ↦ rw blank refl
  | inr letter ↦ rw letter (
      ap (onto_first b) (first_part bs)
      ∙ ap (λ w. w ∷ others (drop (prefix_len is_letter bs) bs)) (sym (take-one_more (prefix_len is_letter bs) b bs))
      ∙ ap (λ r. take (1 + prefix_len is_letter bs) (b ∷ bs) ∷ others r) (sym (drop-one_more (prefix_len is_letter bs) b bs)))
]

-- nothing, or a blank in front
abbrev IsCut : List ℕ → Type 0
IsCut [] = ⊤
IsCut (b ∷ bs) = is_blank b ≡ true

behind_letters : (bs : List ℕ) → IsCut (drop (prefix_len is_letter bs) bs)
behind_letters [] = tt
behind_letters (b ∷ bs) = elim (cases_Bool (is_blank b)) [
  | inl blank ↦ rw blank blank
  | inr letter ↦ rw letter (rw (drop-one_more (prefix_len is_letter bs) b bs) (behind_letters bs))
]

words_others : (bs : List ℕ) → IsCut bs → filter (λ w. not (length w == 0)) (others bs) ≡ words bs
unfolding words
words_others [] cut = refl
words_others (b ∷ bs) cut = rw cut refl

words_parts : (bs : List ℕ) (w : List ℕ) (ws : List (List ℕ)) → slice_split is_blank bs ≡ w ∷ ws → words bs ≡ filter (λ v. not (length v == 0)) (w ∷ ws)
unfolding words
words_parts bs w ws e = ap (filter (λ v. not (length v == 0))) e

kept : (w : List ℕ) (ws : List (List ℕ)) → 0 < length w → filter (λ v. not (length v == 0)) (w ∷ ws) ≡ w ∷ filter (λ v. not (length v == 0)) ws
kept [] ws some = absurd (omega arith)
kept (x ∷ w) ws some = rw (none_at_suc (length w)) refl

word_first : (bs : List ℕ) → 0 < length (take (prefix_len is_letter bs) bs) → words bs ≡ take (prefix_len is_letter bs) bs ∷ words (drop (prefix_len is_letter bs) bs)
word_first bs some =
    let n = prefix_len is_letter bs in
    words_parts bs (take n bs) (others (drop n bs)) (first_part bs)
    ∙ kept (take n bs) (others (drop n bs)) some
    ∙ ap (λ ws. take n bs ∷ ws) (words_others (drop n bs) (behind_letters bs))

words-blank : (b : ℕ) (bs : List ℕ) → is_blank b ≡ true → words (b ∷ bs) ≡ words bs
unfolding words
words-blank b bs blank = rw blank refl

words-blanks : (xs : List ℕ) → words (drop (prefix_len is_blank xs) xs) ≡ words xs
words-blanks [] = refl
words-blanks (x ∷ xs) = elim (cases_Bool (is_blank x)) [
  | inl blank ↦ (let n : prefix_len is_blank (x ∷ xs) ≡ 1 + prefix_len is_blank xs = rw blank refl in
      ap (λ k. words (drop k (x ∷ xs))) n ∙ ap words (drop-one_more (prefix_len is_blank xs) x xs) ∙ words-blanks xs ∙ sym (words-blank x xs blank))
  | inr letter ↦ (let n : prefix_len is_blank (x ∷ xs) ≡ 0 = rw letter refl in ap (λ k. words (drop k (x ∷ xs))) n)
]

-- nothing, or a letter in front
abbrev IsWord : List ℕ → Type 0
IsWord [] = ⊤
IsWord (b ∷ bs) = is_blank b ≡ false

behind_blanks : (bs : List ℕ) → IsWord (drop (prefix_len is_blank bs) bs)
behind_blanks [] = tt
behind_blanks (b ∷ bs) = elim (cases_Bool (is_blank b)) [
  | inl blank ↦ rw blank (rw (drop-one_more (prefix_len is_blank bs) b bs) (behind_blanks bs))
  | inr letter ↦ rw letter letter
]

nothing_left : (bs : List ℕ) → IsWord bs → (length (take (prefix_len is_letter bs) bs) == 0) ≡ true → bs ≡ []
nothing_left [] word none = refl
nothing_left (b ∷ bs) word none =
    absurd (let some : (length (take (1 + prefix_len is_letter bs) (b ∷ bs)) == 0) ≡ true = rw word at none in
    let bad : (suc (length (take (prefix_len is_letter bs) bs)) == 0) ≡ true = rw (take-one_more (prefix_len is_letter bs) b bs) at some in
    false≢true (sym (none_at_suc _) ∙ bad))

words-nil : words [] ≡ []
unfolding words
words-nil = refl

-- the next word of a line: behind its blanks, as far as the next one
pub record Next (xs text word rest : List ℕ) : Type 0 where
  pub text_is : text ≡ drop (prefix_len is_blank xs) xs
  pub word_is : word ≡ take (prefix_len is_letter text) text
  pub rest_is : rest ≡ drop (prefix_len is_letter text) text

pub next_at : (xs text word rest : List ℕ) (n m : ℕ) → n ≡ prefix_len is_blank xs → text ≡ drop n xs → m ≡ prefix_len is_letter text → word ≡ take m text → rest ≡ drop m text → Next xs text word rest
next_at xs text word rest n m n_is text_is m_is word_is rest_is = record {
  text_is = text_is ∙ ap (λ k. drop k xs) n_is;
  word_is = word_is ∙ ap (λ k. take k text) m_is;
  rest_is = rest_is ∙ ap (λ k. drop k text) m_is;
}

text_words : (xs text : List ℕ) → text ≡ drop (prefix_len is_blank xs) xs → words xs ≡ words text
text_words xs text e = sym (words-blanks xs) ∙ ap words (sym e)

pub next_word : (xs text word rest : List ℕ) → Next xs text word rest → (length word == 0) ≡ false → words xs ≡ word ∷ words rest
next_word xs text word rest next some =
    let long : length word ≢ 0 = eqb-false (length word) 0 some in
    let taken : 0 < length (take (prefix_len is_letter text) text) = rw next.word_is at (let l : 0 < length word = omega arith in l) in
    text_words xs text next.text_is
    ∙ word_first text taken
    ∙ ap (λ w. w ∷ words (drop (prefix_len is_letter text) text)) (sym next.word_is)
    ∙ ap (λ r. word ∷ words r) (sym next.rest_is)

pub no_word : (xs text word rest : List ℕ) → Next xs text word rest → (length word == 0) ≡ true → (words xs ≡ []) × (words rest ≡ [])
no_word xs text word rest next none =
    let empty : text ≡ [] = nothing_left text (rw next.text_is (behind_blanks xs)) (rw next.word_is at none) in
    let left : rest ≡ [] = next.rest_is ∙ ap (λ t. drop (prefix_len is_letter t) t) empty in
    (text_words xs text next.text_is ∙ ap words empty ∙ words-nil, ap words left ∙ words-nil)
