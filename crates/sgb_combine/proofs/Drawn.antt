-- Lengths that are drawn one by one.
use Rattle.std.proofs.Common.{◌≡◌, ◌+◌, ℕ, zero, suc, ℤ, [], ◌∷◌, length, sym, ap, subst, ◌∙◌, refl, arith, inl, inr}
use Rattle.std.proofs.lemmas.Bool.{cases_Bool}
use Rattle.std.proofs.lemmas.List.{length-append}
use Rattle.std.specs.Ordering.{int_eq}
use Rattle.sgb_flip.specs.Generator.{Generator, IsGenerator, after}
use Rattle.sgb_flip.proofs.Draws.{after-none, after-after, IsGenerator-after}
use Rattle.sgb_flip.proofs.Uniforms.{rest-uniform}
use Rattle.sgb_plan.specs.Length.{drawn_length, width}
use Rattle.sgb_combine.specs.Drawing.{drawn, with_one}

pub drawn-none : (min max : ℤ) (w : Generator) → drawn min max w 0 ≡ record { lens = []; draws = 0; rest = w }
unfolding drawn
drawn-none min max w = refl

pub drawn-more : (min max : ℤ) (w : Generator) (k : ℕ) → drawn min max w (k + 1) ≡ with_one min max (drawn min max w k)
unfolding drawn
drawn-more min max w k = let one : k + 1 ≡ suc k = omega arith in ap (drawn min max w) one

-- there are as many lengths as were drawn
pub length-drawn : (min max : ℤ) (w : Generator) (k : ℕ) → length (drawn min max w k).lens ≡ k
unfolding drawn with_one
length-drawn min max w zero = refl
length-drawn min max w (suc k) =
    let d = drawn min max w k in
    length-append d.lens ((drawn_length min max d.rest).len ∷ []) ∙ (ap (λ n. n + 1) (length-drawn min max w k) ∙ omega arith)

-- the generator is behind as many draws as were counted
length_moved : (min max : ℤ) (w : Generator) → IsGenerator w → (drawn_length min max w).rest ≡ after w (drawn_length min max w).draws
unfolding drawn_length
length_moved min max w is =
    elim (cases_Bool (int_eq min max)) [
      | inl e ↦ rw e (sym (after-none w is))
      | inr e ↦ rw e (rest-uniform w (width min max + 1))
    ]

pub drawn_moved : (min max : ℤ) (w : Generator) (k : ℕ) → IsGenerator w → (drawn min max w k).rest ≡ after w (drawn min max w k).draws
unfolding drawn with_one
drawn_moved min max w zero is = sym (after-none w is)
drawn_moved min max w (suc k) is =
    let d = drawn min max w k in
    let next = drawn_length min max d.rest in
    let before : d.rest ≡ after w d.draws = drawn_moved min max w k is in
    length_moved min max d.rest (subst IsGenerator (sym before) (IsGenerator-after w d.draws is))
    ∙ (ap (λ v. after v next.draws) before ∙ after-after w d.draws next.draws)
