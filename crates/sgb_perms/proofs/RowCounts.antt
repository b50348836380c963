-- Lemmas on rows as they are counted on from a number.
use Rattle.std.proofs.Common.{◌≡◌, ◌<◌, ◌≤◌, ◌+◌, ◌-◌, ℕ, zero, suc, List, [], ◌∷◌, length, get_or, drop, replicate, min, refl, ap, ap₂, sym, ◌∙◌, arith}
use Rattle.std.specs.List.{flat_map, sum_by, range_with_len}
use Rattle.std.proofs.lemmas.List.{length-append, length-replicate}
use Rattle.std.proofs.lemmas.List.Edits.{length-insert}
use Rattle.std.proofs.lemmas.List.Sums.{sum_by-cons}
use Rattle.sgb_perms.specs.Arrangement.{arrangements}
use Rattle.sgb_perms.specs.Private.Listed.{placed, copies_from, rows_from}
use Rattle.sgb_perms.specs.Private.Counted.{copies_counted, rows_counted}
use Rattle.sgb_perms.proofs.Arrangements.{arrangements_are}

-- ---- what is listed is as long as it is counted
length_each : (f : ℕ → List (List ℕ)) (g : ℕ → ℕ) (xs : List ℕ) → ((x : ℕ) → length (f x) ≡ g x) → length (flat_map f xs) ≡ sum_by g xs
length_each f g [] same = refl
length_each f g (x ∷ xs) same =
    length-append (f x) (flat_map f xs)
    ∙ (ap₂ (λ a b. a + b) (same x) (length_each f g xs same) ∙ sym (sum_by-cons g x xs))

length_copies : (n kind long : ℕ) (next : ℕ → List ℕ → List (List ℕ)) (counted : ℕ → ℕ) → ((left : ℕ) (row : List ℕ) → length row ≡ long → length (next left row) ≡ counted left) → (right left : ℕ) (row : List ℕ) → length row + n ≡ long → length (copies_from n kind next right left row) ≡ copies_counted n counted right left
unfolding copies_from copies_counted
length_copies zero kind long next counted known right left row is = known left row (omega (arith, is))
length_copies (suc n) kind long next counted known right left row is =
    length_each (λ x. copies_from n kind next x (left - x) (placed row kind x)) (λ x. copies_counted n counted x (left - x)) (range_with_len 0 (min right left + 1))
    (λ x.
    length_copies n kind long next counted known x (left - x) (placed row kind x)
    (omega (arith, is, length-insert row (length row - x) kind (omega arith))))

length_rows : (kind : ℕ) (counts : List ℕ) (long left : ℕ) (row : List ℕ) → length row ≡ long → length (rows_from kind counts left row) ≡ rows_counted counts long left
unfolding rows_from rows_counted
length_rows kind [] long left row is = refl
length_rows kind (c ∷ counts) long left row is =
    ap (λ right. length (copies_from c kind (rows_from (kind + 1) counts) right left row)) is
    ∙ length_copies c kind (long + c) (rows_from (kind + 1) counts) (rows_counted counts (long + c))
    (λ less next same. length_rows (kind + 1) counts (long + c) less next same) long left row (omega (arith, is))

arrangements_counted : (counts : List ℕ) (most : ℕ) → 0 < length counts → length (arrangements counts most) ≡ rows_counted (drop 1 counts) (get_or counts 0 0) most
arrangements_counted [] most some = absurd (omega arith)
arrangements_counted (zeros ∷ counts) most some =
    ap (λ rows. length rows) (arrangements_are zeros counts most)
    ∙ length_rows 1 counts zeros most (replicate zeros 0) (length-replicate zeros 0)

-- as they are counted from the start
pub all_counted : (counts others : List ℕ) (most : ℕ) → 0 < length counts → others ≡ drop 1 counts → copies_counted 0 (rows_counted others (get_or counts 0 0)) 0 most ≡ length (arrangements counts most)
unfolding copies_counted
all_counted counts others most some are =
    ap (λ os. rows_counted os (get_or counts 0 0) most) are ∙ sym (arrangements_counted counts most some)

-- ---- one copy more, or the next kind
pub one_counted : (n : ℕ) (next : ℕ → ℕ) (right left : ℕ) → 0 < n → copies_counted n next right left ≡ sum_by (λ x. copies_counted (n - 1) next x (left - x)) (range_with_len 0 (min right left + 1))
unfolding copies_counted
one_counted n next right left some =
    let whole : n ≡ suc (n - 1) = omega arith in
    ap (λ m. copies_counted m next right left) whole

pub none_counted : (n : ℕ) (next : ℕ → ℕ) (right left : ℕ) → n ≡ 0 → copies_counted n next right left ≡ next left
unfolding copies_counted
none_counted n next right left none = ap (λ m. copies_counted m next right left) none

pub kind_counted : (c long left : ℕ) (all counts : List ℕ) → all ≡ c ∷ counts → rows_counted all long left ≡ copies_counted c (rows_counted counts (long + c)) long left
unfolding rows_counted
kind_counted c long left all counts are = ap (λ cs. rows_counted cs long left) are

pub no_kind_counted : (long left : ℕ) (all : List ℕ) → all ≡ [] → rows_counted all long left ≡ 1
unfolding rows_counted
no_kind_counted long left all none = ap (λ cs. rows_counted cs long left) none

-- ---- those of the numbers below x are counted; of all, the others are left
pub record LeftToCount (found : ℕ) (g : ℕ → ℕ) (now x end : ℕ) : Type 0 where
  pub whole : now + sum_by g (range_with_len x (end - x)) ≡ found + sum_by g (range_with_len 0 end)

first_left : (g : ℕ → ℕ) (x n m : ℕ) → n ≡ suc m → sum_by g (range_with_len x n) ≡ g x + sum_by g (range_with_len (x + 1) m)
first_left g x n m more = ap (λ k. sum_by g (range_with_len x k)) more ∙ sum_by-cons g x (range_with_len (x + 1) m)

none_left : (g : ℕ → ℕ) (x n : ℕ) → n ≡ 0 → sum_by g (range_with_len x n) ≡ 0
none_left g x n none = ap (λ k. sum_by g (range_with_len x k)) none

pub count_start : (found : ℕ) (g : ℕ → ℕ) (end : ℕ) → LeftToCount found g found 0 end
count_start found g end =
    let all : end - 0 ≡ end = omega arith in
    record { whole = ap (λ k. found + sum_by g (range_with_len 0 k)) all }

pub count_step : {found : ℕ} {g : ℕ → ℕ} {now new x end : ℕ} → LeftToCount found g now x end → x < end → new ≡ min 65536 (now + g x) → new ≤ 65535 → LeftToCount found g new (x + 1) end
count_step {found} {g} {now} {new} {x} {end} left less counted few =
    let first = first_left g x (end - x) (end - (x + 1)) (omega (arith, less)) in
    record { whole = omega (arith, left.whole, first, counted, few) }

pub count_over : {found : ℕ} {g : ℕ → ℕ} {now new x end : ℕ} → LeftToCount found g now x end → x < end → new ≡ min 65536 (now + g x) → 65535 < new → new ≡ min 65536 (found + sum_by g (range_with_len 0 end))
count_over {found} {g} {now} {new} {x} {end} left less counted many =
    let first = first_left g x (end - x) (end - (x + 1)) (omega (arith, less)) in
    omega (arith, left.whole, first, counted, many)

pub count_end : {found : ℕ} {g : ℕ → ℕ} {now x end : ℕ} → LeftToCount found g now x end → end ≤ x → now ≤ 65535 → now ≡ min 65536 (found + sum_by g (range_with_len 0 end))
count_end {found} {g} {now} {x} {end} left done few =
    let none = none_left g x (end - x) (omega (arith, done)) in
    omega (arith, left.whole, none, few)
