-- The words that bytes begin with.
use Rattle.std.proofs.Common.{◌≡◌, ◌≢◌, ℕ, ◌==◌, true, false, List, [], ◌∷◌, ◌++◌, Option, Some, None, MatchOption, refl, ap, ◌∙◌, inl, inr, Bor}
use Rattle.std.proofs.lemmas.Bool.{cases_Bool, eqb-true, eq-eqb}
use Rattle.std.proofs.lemmas.Bool.Decides.{Decides-eqb}
use Rattle.std.proofs.lemmas.Slice.Eq.{strip_prefix_is}
use Rattle.std.specs.Cmp.Lexicographic.{pointwise}
use Rattle.std.specs.Prelude.{take, drop, length, nat_eq, ◌+◌}
use Rattle.sgb_grammar.specs.Reading.{after}

-- behind the word stands what follows it
pub after-word : (word rest : List ℕ) → after word (word ++ rest) ≡ Some rest
unfolding after
after-word [] rest = refl
after-word (c ∷ cs) rest = rw (eq-eqb c c refl) (after-word cs rest)

pub after_is : (word bs rest : List ℕ) → bs ≡ word ++ rest → after word bs ≡ Some rest
after_is word bs rest e = ap (after word) e ∙ after-word word rest

pub after_none : (word bs : List ℕ) → ((rest : List ℕ) → bs ≢ word ++ rest) → after word bs ≡ None
unfolding after
after_none [] bs h = absurd (h bs refl)
after_none (c ∷ cs) [] h = refl
after_none (c ∷ cs) (b ∷ bs) h = elim (cases_Bool (b == c)) [
  | inl same ↦ rw same (after_none cs bs (λ rest e. h rest (let first : b ≡ c = eqb-true b c same in cc)))
  | inr other ↦ rw other refl
]

abbrev Stripped : List ℕ → List ℕ → Option (Bor (List ℕ)) → Type 0
Stripped word bs r = MatchOption r (pointwise nat_eq (take (length word) bs) word ≡ false) (λ x. (pointwise nat_eq (take (length word) bs) word ≡ true) × (x.now ≡ drop (length word) bs) × (length x.now + length word ≡ length bs))

pub stripped : (word bs : List ℕ) (rest : Bor (List ℕ)) → Stripped word bs (Some rest) → after word bs ≡ Some rest.now
stripped word bs rest h = after_is word bs rest.now (strip_prefix_is Decides-eqb bs word (Some rest) h)

pub not_stripped : (word bs : List ℕ) → Stripped word bs None → after word bs ≡ None
not_stripped word bs h = after_none word bs (strip_prefix_is Decides-eqb bs word None h)

pub after-sound : (word bs rest : List ℕ) → after word bs ≡ Some rest → bs ≡ word ++ rest
unfolding after
after-sound [] bs rest e = cc
after-sound (c ∷ cs) [] rest e = cc
after-sound (c ∷ cs) (b ∷ bs) rest e = elim (cases_Bool (b == c)) [
  | inl same ↦ let tail : bs ≡ cs ++ rest = after-sound cs bs rest (rw same at e) in let first : b ≡ c = eqb-true b c same in cc
  | inr other ↦ let none : None ≡ Some rest = rw other at e in cc
]
