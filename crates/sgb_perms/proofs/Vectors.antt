-- Lemmas on counts and vectors: what stands below a kind, and what an insertion changes.
use Rattle.std.proofs.Common.{◌≡◌, ◌<◌, ◌≤◌, ◌+◌, ℕ, zero, suc, List, [], ◌∷◌, ◌++◌, length, Bool, true, false, ◌==◌, nat_lt, inl, inr, refl, sym, ap, ap₂, ◌∙◌, arith}
use Rattle.std.specs.List.{filter, list_all, sum}
use Rattle.std.proofs.lemmas.Bool.{false≢true, cases_Bool, cases_order, and_parts, ltb-true, lt-ltb, le-ltb, eqb-true, eq-eqb, ne_eqb}
use Rattle.std.proofs.lemmas.List.Elements.{filter-append}
use Rattle.std.proofs.lemmas.List.Sums.{sum_by-cons}
use Rattle.sgb_perms.specs.Arrangement.{count, counts_from, smaller_right}
use Rattle.sgb_perms.proofs.Filters.{filter_all, filter_within, list_all-weaker}

-- the elements below a kind, and those of it
abbrev pub below : ℕ → ℕ → Bool
below kind = λ y. nat_lt y kind

abbrev pub at : ℕ → ℕ → Bool
at kind = λ y. y == kind

-- all elements of a list are below the kind
pub record AllBelow (kind : ℕ) (a : List ℕ) : Type 0 where
  pub all : list_all (below kind) a ≡ true

pub below_weaker : (j k : ℕ) → j ≤ k → (y : ℕ) → nat_lt y j ≡ true → nat_lt y k ≡ true
below_weaker j k le y less = lt-ltb y k (omega (arith, ltb-true y j less))

pub at_below : (j k : ℕ) → j < k → (y : ℕ) → (y == j) ≡ true → nat_lt y k ≡ true
at_below j k less y is = lt-ltb y k (omega (arith, eqb-true y j is))

pub kept_below : (j k : ℕ) → j ≤ k → (a : List ℕ) → filter (below j) (filter (below k) a) ≡ filter (below j) a
kept_below j k le = filter_within (below j) (below k) (below_weaker j k le)

pub kept_at : (j k : ℕ) → j < k → (a : List ℕ) → filter (at j) (filter (below k) a) ≡ filter (at j) a
kept_at j k less = filter_within (at j) (below k) (at_below j k less)

pub all_kept : (k : ℕ) (a : List ℕ) → AllBelow k a → filter (below k) a ≡ a
all_kept k a is = filter_all (below k) a is.all

pub AllBelow-more : (j k : ℕ) → j ≤ k → (a : List ℕ) → AllBelow j a → AllBelow k a
AllBelow-more j k le a is = record { all = list_all-weaker (below j) (below k) (below_weaker j k le) a is.all }

-- one kind more
pub count_more : (k : ℕ) (a : List ℕ) → count (at k) a + count (below k) a ≡ count (below (k + 1)) a
count_more k [] = refl
count_more k (y ∷ a) =
    let rest = count_more k a in
    elim (cases_order y k) [
      | inl same ↦
          rw (eq-eqb y k same, le-ltb y k (omega arith), lt-ltb y (k + 1) (omega arith)) (omega (arith, rest))
      | inr other ↦
          elim other [
            | inl less ↦
                rw (ne_eqb y k (λ same. omega arith), lt-ltb y k less, lt-ltb y (k + 1) (omega arith)) (omega (arith, rest))
            | inr more ↦
                rw (ne_eqb y k (λ same. omega arith), le-ltb y k (omega arith), le-ltb y (k + 1) (omega arith)) rest
          ]
    ]

pub sum_counts : (k n : ℕ) (a : List ℕ) → sum (counts_from k n a) + count (below k) a ≡ count (below (k + n)) a
unfolding counts_from
sum_counts k zero a = let same : k + 0 ≡ k = omega arith in rw same (omega arith)
sum_counts k (suc n) a =
    let rest = sum_counts (k + 1) n a in
    let more = count_more k a in
    let same : k + 1 + n ≡ k + suc n = omega arith in
    let end : count (below (k + 1 + n)) a ≡ count (below (k + suc n)) a = ap (λ m. count (below m) a) same in
    let front : sum (counts_from k (suc n) a) ≡ count (at k) a + sum (counts_from (k + 1) n a) =
    sum_by-cons (λ x. x) (count (at k) a) (counts_from (k + 1) n a) in
    omega (arith, rest, more, end, front)

-- ---- vectors
pub length-smaller_right : (k : ℕ) (a : List ℕ) → length (smaller_right k a) ≡ count (at k) a
unfolding smaller_right
length-smaller_right k [] = refl
length-smaller_right k (y ∷ a) =
    elim (cases_Bool (y == k)) [
      | inl is ↦ rw is (ap suc (length-smaller_right k a))
      | inr is ↦ rw is (length-smaller_right k a)
    ]

-- they do not ask for greater elements
pub smaller_right-kept : (j k : ℕ) → j < k → (a : List ℕ) → smaller_right j (filter (below k) a) ≡ smaller_right j a
unfolding smaller_right
smaller_right-kept j k less [] = refl
smaller_right-kept j k less (y ∷ a) =
    let rest = smaller_right-kept j k less a in
    elim (cases_Bool (nat_lt y k)) [
      | inl low ↦
          rw low
          (elim (cases_Bool (y == j)) [
            | inl is ↦ rw is (ap₂ (λ n v. n ∷ v) (ap length (kept_below j k (omega arith) a)) rest)
            | inr is ↦ rw is rest
          ])
      | inr high ↦
          let other : (y == j) ≡ false =
          ne_eqb y j (λ same. false≢true (sym high ∙ lt-ltb y k (omega arith))) in
          rw (high, other) rest
    ]

-- where all elements are below the kind there is no copy of it
pub smaller_right-none : (k : ℕ) (a : List ℕ) → AllBelow k a → smaller_right k a ≡ []
unfolding smaller_right
smaller_right-none k [] is = refl
smaller_right-none k (y ∷ a) is =
    let both = and_parts (nat_lt y k) (list_all (below k) a) is.all in
    let other : (y == k) ≡ false = ne_eqb y k (λ same. omega (arith, ltb-true y k both.0)) in
    rw other (smaller_right-none k a (record { all = both.1 }))

-- ---- one copy more, in front of smaller elements alone
pub kept_insert : (k : ℕ) (p q : List ℕ) → filter (below k) (p ++ k ∷ q) ≡ filter (below k) (p ++ q)
kept_insert k p q =
    let not_it : nat_lt k k ≡ false = le-ltb k k (omega arith) in
    let front : filter (below k) (p ++ k ∷ q) ≡ filter (below k) p ++ filter (below k) (k ∷ q) = filter-append (below k) p (k ∷ q) in
    let back : filter (below k) (k ∷ q) ≡ filter (below k) q = rw not_it refl in
    front ∙ (ap (λ xs. filter (below k) p ++ xs) back ∙ sym (filter-append (below k) p q))

pub smaller_right-insert : (k : ℕ) (p q : List ℕ) → AllBelow k q → smaller_right k (p ++ k ∷ q) ≡ smaller_right k (p ++ q) ++ length q ∷ []
unfolding smaller_right
smaller_right-insert k [] q is =
    let it : (k == k) ≡ true = eq-eqb k k refl in
    let none = smaller_right-none k q is in
    let all = ap length (all_kept k q is) in
    rw it (ap₂ (λ n v. n ∷ v) all none ∙ ap (λ v. v ++ length q ∷ []) (sym none))
smaller_right-insert k (y ∷ p) q is =
    let rest = smaller_right-insert k p q is in
    elim (cases_Bool (y == k)) [
      | inl it ↦ rw it (ap₂ (λ n v. n ∷ v) (ap length (kept_insert k p q)) rest)
      | inr other ↦ rw other rest
    ]
