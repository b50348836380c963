-- What stands behind the bytes in front.
use Rattle.std.proofs.Common.{◌≡◌, ◌≢◌, ℕ, ◌==◌, true, false, List, [], ◌∷◌, ◌++◌, Option, Some, None, MatchOption, refl, sym, ap, ◌∙◌, inl, inr, Bor, length, take, drop, ◌+◌}
use Rattle.std.proofs.lemmas.Bool.{cases_Bool, eqb-true, eq-eqb}
use Rattle.std.proofs.lemmas.Bool.Decides.{Decides-eqb}
use Rattle.std.proofs.lemmas.Slice.Eq.{strip_prefix_is}
use Rattle.std.specs.Cmp.Lexicographic.{pointwise}
use Rattle.std.specs.Prelude.{nat_eq}
use Rattle.sgb_import.specs.Lines.{behind}

pub behind-append : (front rest : List ℕ) → behind front (front ++ rest) ≡ Some rest
unfolding behind
behind-append [] rest = refl
behind-append (c ∷ cs) rest = rw (eq-eqb c c refl) (behind-append cs rest)

behind_none : (front bs : List ℕ) → ((rest : List ℕ) → bs ≢ front ++ rest) → behind front bs ≡ None
unfolding behind
behind_none [] bs h = absurd (h bs refl)
behind_none (c ∷ cs) [] h = refl
behind_none (c ∷ cs) (b ∷ bs) h = elim (cases_Bool (c == b)) [
  | inl same ↦ rw same (behind_none cs bs (λ rest e. h rest (let first : c ≡ b = eqb-true c b same in cc)))
  | inr other ↦ rw other refl
]

abbrev Stripped : List ℕ → List ℕ → Option (Bor (List ℕ)) → Type 0
Stripped front bs r = MatchOption r (pointwise nat_eq (take (length front) bs) front ≡ false) (λ x. (pointwise nat_eq (take (length front) bs) front ≡ true) × (x.now ≡ drop (length front) bs) × (length x.now + length front ≡ length bs))

pub stripped : (front bs : List ℕ) (rest : Bor (List ℕ)) → Stripped front bs (Some rest) → Some rest.now ≡ behind front bs
stripped front bs rest h = sym (ap (behind front) (strip_prefix_is Decides-eqb bs front (Some rest) h) ∙ behind-append front rest.now)

pub not_stripped : (front bs : List ℕ) → Stripped front bs None → None ≡ behind front bs
not_stripped front bs h = sym (behind_none front bs (strip_prefix_is Decides-eqb bs front None h))
