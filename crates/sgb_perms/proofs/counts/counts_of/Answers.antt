use Rattle.std.proofs.Common.{◌≡◌, ◌<◌, ℕ, ℤ, pos, negsuc, suc, zero, List, [], ◌∷◌, length, sum, drop, true, false, nat_le, int_le, int_lt, ◌&&◌, if◌then◌else◌, ◌==◌, ap, sym, ◌∙◌, arith}
use Rattle.sgb_plan.specs.Listing.{leading, count_of, count_from, listed, listed_at}
use Rattle.std.proofs.lemmas.Bool.{false≢true, and_parts, and_left, and_right, lt-leb, lt-ltb, ne_eqb}
use Rattle.std.proofs.lemmas.List.FromFn.{length-map-range_with_len}
use Rattle.std.proofs.lemmas.Result.{err_from_is_err_and}
use Rattle.sgb_perms.specs.declared.spec.PermsSpec.{PermsSpec}
use Rattle.sgb_perms.specs.Perms.{numbers_of, counts_of, are_allowed}
use Rattle.sgb_perms.proofs.counts.counts_of.Goals as goal

length-listed : (more : ℕ) (ns : List ℤ) → length (listed more ns) ≡ count_of more ns
unfolding listed
length-listed more ns = length-map-range_with_len (listed_at ns) 0 (count_of more ns)

too_many : (n0 limit : ℤ) (counts : List ℕ) → 16 < length counts → are_allowed n0 limit counts ≡ false
too_many n0 limit counts many =
    and_left (int_le (pos 1) n0 && int_le (pos 0) limit && nat_le (length counts) 16) (nat_le (sum counts) 255)
    (and_right (int_le (pos 1) n0 && int_le (pos 0) limit) (nat_le (length counts) 16) (lt-leb (length counts) 16 many))

refused : (s : PermsSpec) (ns : List ℤ) (places : ℕ) → ns ≡ numbers_of s → places ≡ 16 → places < count_of 1 ns → are_allowed s.n0 s.max_inv (counts_of s) ≡ false
refused s ns places are all many =
    let long = length-listed 1 (numbers_of s) in
    let same = ap (count_of 1) are in
    too_many s.n0 s.max_inv (counts_of s) (omega (arith, many, all, long, same))

-- where the first number is above 0, a kind is listed
behind_some : (before : ℕ) (ns : List ℤ) → 0 < before → 0 < count_from 1 before ns
behind_some before [] some = some
behind_some before (pos n ∷ ns) some = some
behind_some before (negsuc d ∷ ns) some = omega arith

count_some : (before : ℕ) (ns : List ℤ) → 0 < before → 0 < (if before == 0 then 0 else count_from 1 before (drop before ns))
count_some before ns some = rw (ne_eqb before 0 (λ none. omega arith)) (behind_some before (drop before ns) some)

first_listed : (n : ℤ) (ns : List ℤ) → int_le (pos 1) n ≡ true → 0 < count_of 1 (n ∷ ns)
first_listed (pos zero) ns above = absurd (false≢true above)
first_listed (pos (suc n)) ns above =
    let positive : int_lt (pos 0) (pos (suc n)) ≡ true = lt-ltb 0 (suc n) (omega arith) in
    let some : 0 < leading (pos (suc n) ∷ ns) = rw positive (omega arith) in
    count_some (leading (pos (suc n) ∷ ns)) (pos (suc n) ∷ ns) some
first_listed (negsuc n) ns above = absurd (false≢true above)

pub returns-in_err-kinds-clause-err : goal.returns-in_err-kinds-clause-err
returns-in_err-kinds-clause-err c =
    let p = err_from_is_err_and c.from_residual.result c.from_residual.ensures.1 in
    rw (p.1, p.2)
    (c.in_err-kinds.ensures.err.0, refused c.args.spec.now c.numbers_of.result _ c.numbers_of.ensures c.requires.places c.in_err-kinds.ensures.err.1)

pub returns-clause-some : goal.returns-clause-some
returns-clause-some c =
    let s = c.args.spec.now in
    let allowed : (int_le (pos 1) s.n0 && int_le (pos 0) s.max_inv) ≡ true = sym c.is_in_range.ensures ∙ c.if-not-is_in_range.false in
    let above = (and_parts (int_le (pos 1) s.n0) (int_le (pos 0) s.max_inv) allowed).0 in
    let some : 0 < count_of 1 (numbers_of s) = first_listed s.n0 (drop 1 (numbers_of s)) above in
    omega (arith, some, length-listed 1 (numbers_of s))
