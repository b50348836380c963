-- Lemmas on drawn lengths.
use Rattle.std.proofs.Common.{◌≡◌, ◌+◌, ℕ, ℤ, ◌-ℤ◌, inl, inr, ap, ap₂, sym, ◌∙◌, refl, FitsSigned, to_z, of_z, w64, false, unsigned_abs}
use Rattle.std.proofs.lemmas.Bool.{cases_Bool}
use Rattle.std.proofs.lemmas.Bool.Decides.{Decides-int_eq}
use Rattle.std.proofs.lemmas.Int.{to_z-of_z}
use Rattle.std.specs.Ordering.{int_eq}
use Rattle.sgb_flip.specs.Generator.{Generator, uniform}
use Rattle.sgb_plan.specs.Length.{drawn_length, length_above, width}

-- two numbers that are held alike
pub same_held : (x y : ℤ) → FitsSigned w64 x → FitsSigned w64 y → of_z w64 x ≡ of_z w64 y → x ≡ y
same_held x y fx fy same = sym (to_z-of_z w64 x fx) ∙ ap (to_z w64) same ∙ to_z-of_z w64 y fy

-- one length alone is drawn without a draw
pub drawn-equal : (min max : ℤ) (w : Generator) → min ≡ max → drawn_length min max w ≡ record { len = min; draws = 0; rest = w }
unfolding drawn_length
drawn-equal min max w same = rw ((Decides-int_eq min max).1 same) refl

-- and else by a uniform number
pub drawn-apart : (min max : ℤ) (w : Generator) → (min ≡ max → ⊥) → drawn_length min max w ≡ length_above min (uniform w (width min max + 1))
unfolding drawn_length
drawn-apart min max w apart =
    let differ : int_eq min max ≡ false =
    elim (cases_Bool (int_eq min max)) [ inl same ↦ absurd (apart ((Decides-int_eq min max).0 same)) | inr other ↦ other ] in
    rw differ refl

-- the bound of the uniform number, as it is computed
pub bound-is : (min max : ℤ) (n : ℕ) → FitsSigned w64 min → FitsSigned w64 max → n ≡ unsigned_abs (to_z w64 (of_z w64 max) -ℤ to_z w64 (of_z w64 min)) → n + 1 ≡ width min max + 1
bound-is min max n low high is = ap (λ k. k + 1) (is ∙ ap₂ (λ a b. unsigned_abs (a -ℤ b)) (to_z-of_z w64 max high) (to_z-of_z w64 min low))
