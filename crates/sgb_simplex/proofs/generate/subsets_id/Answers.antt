use Rattle.std.proofs.Common.{◌≡◌, ◌∷◌, [], ℕ, ℤ, List, codes, FitsSigned, w64, to_z, of_z, ap, ◌∙◌, rules}
use Rattle.std.proofs.lemmas.Int.{to_z-of_z}
use Rattle.sgb_plan.specs.Id.{id_of, hexadecimal, flag_text}
use Rattle.sgb_simplex.specs.Bounds.{shown_bound}
use Rattle.sgb_simplex.proofs.Generators.{parts_are}
use Rattle.sgb_simplex.proofs.generate.subsets_id.Goals as goal

shown : (n m r : ℤ) (numbers : List ℤ) (i : ℕ) → FitsSigned w64 r → m ≡ n → r ≡ shown_bound m numbers i → to_z w64 (of_z w64 r) ≡ shown_bound n numbers i
shown n m r numbers i fits same is = to_z-of_z w64 r fits ∙ (is ∙ ap (λ z. shown_bound z numbers i) same)

pub returns-clause-value : goal.returns-clause-value
returns-clause-value c =
    let n : ℤ = c.args.n in
    let numbers : List ℤ = c.args.numbers.now in
    let m : ℤ = to_z w64 (of_z w64 n) in
    let read : m ≡ n = to_z-of_z w64 n c.ranges.n in
    let r0 : to_z w64 (of_z w64 c.shown_bound.result) ≡ shown_bound n numbers 0 = shown n m c.shown_bound.result numbers 0 (search rules) read c.shown_bound.ensures in
    let r1 : to_z w64 (of_z w64 c.shown_bound-2.result) ≡ shown_bound n numbers 1 = shown n m c.shown_bound-2.result numbers 1 (search rules) read c.shown_bound-2.ensures in
    let r2 : to_z w64 (of_z w64 c.shown_bound-3.result) ≡ shown_bound n numbers 2 = shown n m c.shown_bound-3.result numbers 2 (search rules) read c.shown_bound-3.ensures in
    let r3 : to_z w64 (of_z w64 c.shown_bound-4.result) ≡ shown_bound n numbers 3 = shown n m c.shown_bound-4.result numbers 3 (search rules) read c.shown_bound-4.ensures in
    let r4 : to_z w64 (of_z w64 c.shown_bound-5.result) ≡ shown_bound n numbers 4 = shown n m c.shown_bound-5.result numbers 4 (search rules) read c.shown_bound-5.ensures in
    c.in_ok-id.ensures.value
    ∙ ap (id_of (codes "subsets")) (parts_are n m (to_z w64 (of_z w64 c.shown_bound.result)) (to_z w64 (of_z w64 c.shown_bound-2.result)) (to_z w64 (of_z w64 c.shown_bound-3.result)) (to_z w64 (of_z w64 c.shown_bound-4.result)) (to_z w64 (of_z w64 c.shown_bound-5.result)) numbers (hexadecimal c.args.size_bits ∷ flag_text c.args.directed ∷ []) read r0 r1 r2 r3 r4)
