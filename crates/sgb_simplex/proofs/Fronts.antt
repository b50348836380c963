-- Lemmas on bounds by the numbers that are given.
use Rattle.std.proofs.Common.{◌≡◌, ◌<◌, ◌≤◌, ◌+◌, ℕ, ℤ, pos, negsuc, unsigned_abs, int_lt, min, List, length, get_or, map, replicate, true, false, ltb, All, inl, inr, refl, sym, ap, subst, ◌∙◌, arith}
use Rattle.std.proofs.lemmas.Bool.{cases_Bool, ltb-true}
use Rattle.std.proofs.lemmas.List.{get_or-replicate, length-replicate}
use Rattle.std.proofs.lemmas.List.Elements.{All-map}
use Rattle.std.proofs.lemmas.List.FromFn.{length-map-range_with_len}
use Rattle.sgb_plan.specs.Listing.{listed, listed_at, count_of}
use Rattle.sgb_simplex.specs.Bounds.{bounds_of}

pub equal_bounds : (total : ℕ) (numbers : List ℤ) (first : ℤ) → first ≡ get_or numbers 0 (pos 0) → int_lt first (pos 0) ≡ true → bounds_of total numbers ≡ replicate (unsigned_abs first + 1) total
unfolding bounds_of
equal_bounds total numbers first is below =
    let negative : int_lt (get_or numbers 0 (pos 0)) (pos 0) ≡ true = ap (λ z. int_lt z (pos 0)) (sym is) ∙ below in
    rw negative (ap (λ z. replicate (unsigned_abs z + 1) total) (sym is))

pub listed_bounds : (total : ℕ) (numbers : List ℤ) (first : ℤ) → first ≡ get_or numbers 0 (pos 0) → int_lt first (pos 0) ≡ false → bounds_of total numbers ≡ map (λ b. min b total) (listed 1 numbers)
unfolding bounds_of
listed_bounds total numbers first is above =
    let other : int_lt (get_or numbers 0 (pos 0)) (pos 0) ≡ false = ap (λ z. int_lt z (pos 0)) (sym is) ∙ above in
    rw other refl

pub too_many : (first : ℤ) → int_lt first (negsuc 14) ≡ true → (16 < unsigned_abs first + 1) × (int_lt first (pos 0) ≡ true)
too_many (pos k) less = absurd (let wrong : false ≡ true = less in cc)
too_many (negsuc k) less = let more : ltb 14 k ≡ true = less in (omega (arith, ltb-true 14 k more), refl)

pub length_listed : (more : ℕ) (numbers : List ℤ) → length (listed more numbers) ≡ count_of more numbers
unfolding listed
length_listed more numbers = length-map-range_with_len (listed_at numbers) 0 (count_of more numbers)

pub all_below : (total : ℕ) (bounds : List ℕ) → total ≤ 65535 → All (λ b. b ≤ 65535) (map (λ b. min b total) bounds)
all_below total bounds small = All-map (λ b. b ≤ 65535) (λ b. min b total) bounds (λ k d below. omega (arith, small))

pub bounds_below : (total : ℕ) (numbers : List ℤ) → total ≤ 65535 → All (λ b. b ≤ 65535) (bounds_of total numbers)
bounds_below total numbers small =
    let first : ℤ = get_or numbers 0 (pos 0) in
    elim (cases_Bool (int_lt first (pos 0))) [
      | inl below ↦ subst (All (λ b. b ≤ 65535)) (sym (equal_bounds total numbers first refl below)) (λ k d inside. omega (arith, small, get_or-replicate (unsigned_abs first + 1) k total d (omega (arith, inside, length-replicate (unsigned_abs first + 1) total))))
      | inr above ↦ subst (All (λ b. b ≤ 65535)) (sym (listed_bounds total numbers first refl above)) (all_below total (listed 1 numbers) small)
    ]
