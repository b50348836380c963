-- The letters of the first line.
use Rattle.std.proofs.Common.{◌≡◌, ℕ, ◌<◌, ◌==◌, List, take, drop, length, Some, None, refl, arith, inl, inr}
use Rattle.std.specs.List.{list_all}
use Rattle.std.proofs.lemmas.Bool.{cases_Bool, eqb-true, eq-eqb, ne_eqb}
use Rattle.std.proofs.lemmas.List.{length-take}
use Rattle.sgb_graph.specs.Types.{IsTypes, is_letter}
use Rattle.sgb_grammar.specs.Header.{letters_at}

pub letters_short : (bs : List ℕ) → length bs < 14 → letters_at bs ≡ None
unfolding letters_at
letters_short bs h =
    let few : length (take 14 bs) ≡ 14 → ⊥ = λ e. absurd (omega (arith, length-take 14 bs)) in
    rw (ne_eqb (length (take 14 bs)) 14 few) refl

pub letters_some : (bs : List ℕ) → IsTypes (take 14 bs) → letters_at bs ≡ Some (take 14 bs, drop 14 bs)
unfolding letters_at
letters_some bs h = rw (eq-eqb (length (take 14 bs)) 14 h.fourteen, h.letters) refl

pub letters_none : (bs : List ℕ) → (IsTypes (take 14 bs) → ⊥) → letters_at bs ≡ None
unfolding letters_at
letters_none bs h = elim (cases_Bool (length (take 14 bs) == 14)) [
  | inl fourteen ↦ elim (cases_Bool (list_all is_letter (take 14 bs))) [
    | inl letters ↦ absurd (h (record { fourteen = eqb-true (length (take 14 bs)) 14 fourteen; letters = letters }))
    | inr others ↦ rw (fourteen, others) refl
  ]
  | inr fewer ↦ rw fewer refl
]
