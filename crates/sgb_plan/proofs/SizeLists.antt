-- Lemmas on lists that stand for longer ones.
use Rattle.std.proofs.Common.{◌≡◌, ◌<◌, ◌+◌, ◌%◌, ◌==◌, ℕ, zero, suc, ℤ, pos, unsigned_abs, List, [], ◌∷◌, ◌++◌, length, map, get_or, drop, if◌then◌else◌, subst, ap, ap₂, ◌∙◌, sym, arith}
use Rattle.std.proofs.lemmas.List.FromFn.{map-range_with_len_more}
use Rattle.std.proofs.lemmas.List.Sums.{prefix_len-le-length}
use Rattle.std.proofs.lemmas.Nat.{mod_below}
use Rattle.std.specs.List.{range_with_len}
use Rattle.sgb_plan.specs.Listing.{is_positive, leading, count_from, count_of, listed_at}

-- where anything is listed, something stands before the end
is_begun : (k c i : ℕ) → i < (if k == 0 then 0 else c) → 0 < k
is_begun zero c i inside = omega (arith, inside)
is_begun (suc k) c i inside = omega arith

-- each listed number stands in the list
pub place_is_listed : (more : ℕ) (ns : List ℤ) (i p c : ℕ) → p ≡ leading ns → c ≡ count_of more ns → i < c → i % p < length ns
place_is_listed more ns i p c is count inside =
    let begun : 0 < leading ns = is_begun (leading ns) (count_from more (leading ns) (drop (leading ns) ns)) i (subst (λ k. i < k) count inside) in
    let low : i % p < p = mod_below i p (omega (arith, begun, is)) in
    omega (arith, low, is, prefix_len-le-length is_positive ns)

-- one more of the listed numbers
pub listed_more : (ns : List ℤ) (i p x : ℕ) (old new : List ℕ) → p ≡ leading ns → old ≡ map (listed_at ns) (range_with_len 0 i) → new ≡ old ++ x ∷ [] → x ≡ unsigned_abs (get_or ns (i % p) (pos 0)) → new ≡ map (listed_at ns) (range_with_len 0 (i + 1))
listed_more ns i p x old new period listed pushed value =
    let last : x ≡ listed_at ns i = value ∙ ap (λ k. unsigned_abs (get_or ns (i % k) (pos 0))) period in
    pushed ∙ ap₂ (λ xs y. xs ++ y ∷ []) listed last ∙ sym (map-range_with_len_more (listed_at ns) 0 i i (omega arith))
