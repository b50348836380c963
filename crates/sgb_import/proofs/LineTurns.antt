-- Line by line through a text.
use Rattle.std.proofs.Common.{◌≡◌, ◌==◌, ℕ, ◌+◌, ◌<◌, ◌≤◌, List, [], ◌∷◌, ◌++◌, length, get_or, take, drop, sym, ap, ◌∙◌, arith, inl, inr}
use Rattle.std.specs.List.{slice_split, enumerate_from}
use Rattle.std.proofs.lemmas.Bool.{cases_lt}
use Rattle.std.proofs.lemmas.List.{drop_all, drop_more, take_more, get_or-map, length-map, length-drop}
use Rattle.std.proofs.lemmas.List.FromFn.{get_or-enumerate_from, length-enumerate_from}
use Rattle.sgb_import.specs.Lines.{LineOf, lines}
use Rattle.sgb_import.proofs.LineCursor.{line}

module _ {A : Type 0} where
  -- a turn of a loop: element n is x, and the rest follows it
  pub record Turn (xs : List A) (n : ℕ) (x : A) (rest : List A) : Type 0 where
    pub within : n < length xs
    pub here : (d : A) → get_or xs n d ≡ x
    pub before : take (n + 1) xs ≡ take n xs ++ x ∷ []
    pub left : drop (n + 1) xs ≡ rest

  turn_within : (xs : List A) (n : ℕ) (x : A) (rest : List A) → drop n xs ≡ x ∷ rest → n < length xs
  turn_within xs n x rest e = elim (cases_lt n (length xs)) [
    | inl low ↦ low
    | inr high ↦ absurd (let bad : [] ≡ x ∷ rest = sym (drop_all n xs high) ∙ e in cc)
  ]

  pub turn : (xs : List A) (n : ℕ) (x : A) (rest : List A) → drop n xs ≡ x ∷ rest → Turn xs n x rest
  turn xs n x rest e =
      let within = turn_within xs n x rest e in
      let parts : (d : A) → get_or xs n d ∷ drop (n + 1) xs ≡ x ∷ rest = λ d. sym (drop_more xs n d within) ∙ e in
      let first : (d : A) → get_or xs n d ≡ x = λ d. (let p = parts d in cc) in
      record {
        within = within;
        here = first;
        before = take_more xs n x within ∙ ap (λ y. take n xs ++ y ∷ []) (first x);
        left = (let p = parts x in cc);
      }

  pub all_taken : (xs : List A) (n : ℕ) → drop n xs ≡ [] → length xs ≤ n
  all_taken xs n e = omega (arith, length-drop n xs, ap length e)

pub number_at : (text : List ℕ) (n : ℕ) (d : LineOf) → n < length (lines text) → (get_or (lines text) n d).number ≡ n + 1
unfolding lines
number_at text n d within =
    let parts = slice_split (λ b. b == 10) text in
    let f : (ℕ × List ℕ) → LineOf = λ p. line p.0 p.1 in
    let low : n < length parts = omega (arith, length-map (enumerate_from 1 parts) f, length-enumerate_from 1 parts) in
    ap (λ (l : LineOf). l.number) (get_or-map f (enumerate_from 1 parts) n (0, []) d (omega (arith, length-enumerate_from 1 parts)))
    ∙ ap (λ (p : ℕ × List ℕ). p.0) (get_or-enumerate_from 1 parts n (0, []) low)
    ∙ (let e : 1 + n ≡ n + 1 = omega arith in e)
