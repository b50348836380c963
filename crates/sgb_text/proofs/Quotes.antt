-- What is spelled of a text is read as the text, wherever its lines end.
use Rattle.std.proofs.Common.{◌≡◌, ℕ, zero, suc, ◌≤◌, ◌==◌, true, false, not, ◌&&◌, nat_lt, nat_le, List, [], ◌∷◌, ◌++◌, take, drop, length, Option, Some, None, refl, sym, ap, ◌∙◌, inl, inr, arith, append_assoc, append-nil, take-append-drop, length-append, option_and_then}
use Rattle.std.specs.List.{list_all}
use Rattle.std.proofs.lemmas.Bool.{cases_Bool, and_parts, not-true, ltb-true, le-leb}
use Rattle.std.proofs.lemmas.List.{take-append-le, drop-append-le}
use Rattle.sgb_graph.specs.Text.{is_text_byte}
use Rattle.sgb_grammar.specs.Reading.{after, behind}
use Rattle.sgb_grammar.specs.String.{inside_at, within, text_at}
use Rattle.sgb_text.specs.Layout.{cut}

behind_both : {A : Type 0} (xs ys : List A) (m : Option (List A × List ℕ)) → behind xs (behind ys m) ≡ behind (xs ++ ys) m
behind_both xs ys None = refl
behind_both xs ys (Some p) = ap (λ zs. Some (zs, p.1)) (sym (append_assoc xs ys p.0))

behind_nothing : {A : Type 0} (m : Option (List A × List ℕ)) → behind [] m ≡ m
behind_nothing None = refl
behind_nothing (Some p) = refl

no_quote : (c : ℕ) → is_text_byte c ≡ true → (c == 34) ≡ false
no_quote c h = not-true (c == 34) (and_parts _ _ (and_parts _ (not (c == 92)) h).0).1

no_backslash : (c : ℕ) → is_text_byte c ≡ true → (c == 92) ≡ false
no_backslash c h = not-true (c == 92) (and_parts (nat_le 32 c && nat_le c 126 && not (c == 34)) (not (c == 92)) h).1

text_byte : (c : ℕ) (cs : List ℕ) → is_text_byte c ≡ true → inside_at false (c ∷ cs) ≡ behind (c ∷ []) (inside_at false cs)
unfolding inside_at
text_byte c cs h = rw (h, no_quote c h, no_backslash c h) refl

inside_run : (t rest : List ℕ) → list_all is_text_byte t ≡ true → inside_at false (t ++ rest) ≡ behind t (inside_at false rest)
inside_run [] rest h = sym (behind_nothing (inside_at false rest))
inside_run (c ∷ cs) rest h =
    let p = and_parts (is_text_byte c) (list_all is_text_byte cs) h in
    text_byte c (cs ++ rest) p.0 ∙ ap (behind (c ∷ [])) (inside_run cs rest p.1) ∙ behind_both (c ∷ []) cs (inside_at false rest)

line_break : (rest : List ℕ) → inside_at false (92 ∷ 10 ∷ rest) ≡ inside_at false rest
unfolding inside_at
line_break rest = refl

all_front : (n : ℕ) (t : List ℕ) → list_all is_text_byte t ≡ true → list_all is_text_byte (take n t) ≡ true
all_front zero t h = refl
all_front (suc n) [] h = refl
all_front (suc n) (c ∷ cs) h =
    let p = and_parts (is_text_byte c) (list_all is_text_byte cs) h in
    ap (λ b. b && list_all is_text_byte (take n cs)) p.0 ∙ all_front n cs p.1

all_back : (n : ℕ) (t : List ℕ) → list_all is_text_byte t ≡ true → list_all is_text_byte (drop n t) ≡ true
all_back zero t h = h
all_back (suc n) [] h = refl
all_back (suc n) (c ∷ cs) h = all_back n cs (and_parts (is_text_byte c) (list_all is_text_byte cs) h).1

-- one line of a text, whose n bytes are none of its end
one_line : (n m : ℕ) (t tail rest : List ℕ) → list_all is_text_byte t ≡ true → n ≤ length t
    → inside_at false (cut m (drop n t ++ tail) ++ rest) ≡ behind (drop n t) (inside_at false (tail ++ rest))
    → inside_at false ((take n (t ++ tail) ++ 92 ∷ 10 ∷ cut m (drop n (t ++ tail))) ++ rest) ≡ behind t (inside_at false (tail ++ rest))
one_line n m t tail rest all some further =
    ap (λ xs. inside_at false ((xs ++ 92 ∷ 10 ∷ cut m (drop n (t ++ tail))) ++ rest)) (take-append-le n t tail some)
    ∙ ap (λ xs. inside_at false ((take n t ++ 92 ∷ 10 ∷ cut m xs) ++ rest)) (drop-append-le n t tail some)
    ∙ ap (inside_at false) (append_assoc (take n t) (92 ∷ 10 ∷ cut m (drop n t ++ tail)) rest)
    ∙ inside_run (take n t) (92 ∷ 10 ∷ (cut m (drop n t ++ tail) ++ rest)) (all_front n t all)
    ∙ ap (behind (take n t)) (line_break (cut m (drop n t ++ tail) ++ rest) ∙ further)
    ∙ behind_both (take n t) (drop n t) (inside_at false (tail ++ rest))
    ∙ ap (λ xs. behind xs (inside_at false (tail ++ rest))) (take-append-drop n t)

inside_cut : (m : ℕ) (t tail rest : List ℕ) → list_all is_text_byte t ≡ true → length tail ≤ 2
    → inside_at false (cut m (t ++ tail) ++ rest) ≡ behind t (inside_at false (tail ++ rest))
unfolding cut
inside_cut zero t tail rest all two = ap (inside_at false) (append_assoc t tail rest) ∙ inside_run t (tail ++ rest) all
inside_cut (suc m) t tail rest all two = elim (cases_Bool (nat_lt 79 (length (t ++ tail)))) [
  | inl long ↦ rw long (one_line 78 m t tail rest all (omega (arith, ltb-true 79 (length (t ++ tail)) long, length-append t tail))
      (inside_cut m (drop 78 t) tail rest (all_back 78 t all) two))
  | inr short ↦ rw short (ap (inside_at false) (append_assoc t tail rest) ∙ inside_run t (tail ++ rest) all)
]

-- what is read of a text in quotes
opened : (limit : ℕ) (t inside rest : List ℕ) → length t ≤ limit → inside_at false inside ≡ Some (t, rest) → text_at limit (34 ∷ inside) ≡ Some (t, rest)
unfolding text_at after
opened limit t inside rest few read = ap (option_and_then (within limit)) read ∙ rw (le-leb (length t) limit few) refl

closed : (t c rest : List ℕ) → behind t (inside_at false ((34 ∷ c) ++ rest)) ≡ Some (t, c ++ rest)
unfolding inside_at
closed t c rest = ap (λ xs. Some (xs, c ++ rest)) (append-nil t)

pub text_cut : (limit m : ℕ) (t c rest : List ℕ) → list_all is_text_byte t ≡ true → length t ≤ limit → length c ≤ 1
    → text_at limit (cut m (34 ∷ (t ++ 34 ∷ c)) ++ rest) ≡ Some (t, c ++ rest)
unfolding cut
text_cut limit zero t c rest all few one =
    opened limit t ((t ++ 34 ∷ c) ++ rest) (c ++ rest) few
    (ap (inside_at false) (append_assoc t (34 ∷ c) rest) ∙ inside_run t ((34 ∷ c) ++ rest) all ∙ closed t c rest)
text_cut limit (suc m) t c rest all few one = elim (cases_Bool (nat_lt 79 (suc (length (t ++ 34 ∷ c))))) [
  | inl long ↦ rw long (opened limit t ((take 77 (t ++ 34 ∷ c) ++ 92 ∷ 10 ∷ cut m (drop 77 (t ++ 34 ∷ c))) ++ rest) (c ++ rest) few
      (one_line 77 m t (34 ∷ c) rest all (omega (arith, ltb-true 79 (suc (length (t ++ 34 ∷ c))) long, length-append t (34 ∷ c)))
      (inside_cut m (drop 77 t) (34 ∷ c) rest (all_back 77 t all) (omega arith)) ∙ closed t c rest))
  | inr short ↦ rw short (opened limit t ((t ++ 34 ∷ c) ++ rest) (c ++ rest) few
      (ap (inside_at false) (append_assoc t (34 ∷ c) rest) ∙ inside_run t ((34 ∷ c) ++ rest) all ∙ closed t c rest))
]
