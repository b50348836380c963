use Rattle.std.proofs.Common.{◌≡◌, ℕ, ℤ, List, [], ◌∷◌, codes, decimal, if◌then◌else◌, IfOk, ap, subst, ◌∙◌, to_z, of_z, w64, ◌<◌, ◌^◌}
use lib.Signed.{mag}
use Rattle.std.proofs.lemmas.Int.{to_z-of_z}
use Rattle.std.specs.Fmt.{signed_decimal}
use Rattle.sgb_plan.specs.Id.{id_of}
use Rattle.sgb_plan.specs.Listing.{shown, shown_at}
use Rattle.sgb_perms.specs.declared.spec.PermsSpec.{PermsSpec}
use Rattle.sgb_perms.specs.Perms.{numbers_of, perms_id}
use Rattle.sgb_perms.proofs.names.id_of_perms.Goals as goal

abbrev id_with : PermsSpec → ℕ → ℤ → ℤ → ℤ → ℤ → ℤ → List ℕ
id_with s most a b c d e =
    id_of (codes "perms")
    (signed_decimal a ∷ signed_decimal b ∷ signed_decimal c ∷ signed_decimal d ∷ signed_decimal e ∷ decimal most ∷ (if s.directed then codes "1" else codes "0") ∷ [])

id_shown : (s : PermsSpec) (most : ℕ) (ns : List ℤ) (a b c d e : ℤ) → ns ≡ numbers_of s → a ≡ shown_at ns 0 → b ≡ shown_at ns 1 → c ≡ shown_at ns 2 → d ≡ shown_at ns 3 → e ≡ shown_at ns 4 → id_with s most a b c d e ≡ perms_id s most
unfolding shown
id_shown s most ns a b c d e are one two three four five =
    ap (λ x. id_with s most x b c d e) (one ∙ ap (λ m. shown_at m 0) are)
    ∙ (ap (λ x. id_with s most (shown_at (numbers_of s) 0) x c d e) (two ∙ ap (λ m. shown_at m 1) are)
    ∙ (ap (λ x. id_with s most (shown_at (numbers_of s) 0) (shown_at (numbers_of s) 1) x d e) (three ∙ ap (λ m. shown_at m 2) are)
    ∙ (ap (λ x. id_with s most (shown_at (numbers_of s) 0) (shown_at (numbers_of s) 1) (shown_at (numbers_of s) 2) x e) (four ∙ ap (λ m. shown_at m 3) are)
    ∙ ap (λ x. id_with s most (shown_at (numbers_of s) 0) (shown_at (numbers_of s) 1) (shown_at (numbers_of s) 2) (shown_at (numbers_of s) 3) x) (five ∙ ap (λ m. shown_at m 4) are))))

-- a number as its bits show it
abbrev seen : ℤ → ℤ
seen z = to_z w64 (of_z w64 z)

seen_is : (z : ℤ) → mag z < 2 ^ 63 → seen z ≡ z
seen_is z small = to_z-of_z w64 z (record { sfits = small })

pub returns-clause-value : goal.returns-clause-value
returns-clause-value c =
    subst (λ t. IfOk c.id_of.result (λ id. id ≡ t))
    (id_shown c.args.spec.now c.args.most c.numbers_of-numbers.result
    (seen c.shown_at.result) (seen c.shown_at-2.result) (seen c.shown_at-3.result) (seen c.shown_at-4.result) (seen c.shown_at-5.result)
    c.numbers_of-numbers.ensures
    (seen_is c.shown_at.result c.shown_at.type_inv ∙ c.shown_at.ensures)
    (seen_is c.shown_at-2.result c.shown_at-2.type_inv ∙ c.shown_at-2.ensures)
    (seen_is c.shown_at-3.result c.shown_at-3.type_inv ∙ c.shown_at-3.ensures)
    (seen_is c.shown_at-4.result c.shown_at-4.type_inv ∙ c.shown_at-4.ensures)
    (seen_is c.shown_at-5.result c.shown_at-5.type_inv ∙ c.shown_at-5.ensures))
    c.id_of.ensures.value
