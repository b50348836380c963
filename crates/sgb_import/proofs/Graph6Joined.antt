-- Which vertices the edges of a text in graph6 join, and how many edges there are.
use Rattle.std.proofs.Common.{◌≡◌, ℕ, ◌<◌, ◌≤◌, ◌==◌, pos, Bool, true, false, cond, not, ◌&&◌, ◌||◌, zero-add, List, [], ◌∷◌, map, length, get_or, All, refl, sym, ap, ap₂, ◌∙◌, arith, inl, inr}
use Rattle.std.proofs.lemmas.Bool.{cases_order, cases_Bool, and_from, and_parts, eqb-true, eq-eqb, false_from_ne_true, false≢true, both_ways, not-true, or_cases}
use Rattle.std.proofs.lemmas.List.{get_or_default}
use Rattle.std.proofs.lemmas.List.Elements.{All-map, All-head, All-tail, All-filter, filter_passes}
use Rattle.std.proofs.lemmas.List.Filters.{length-filter_both}
use Rattle.std.proofs.lemmas.List.Folds.{Any-from_list_any, list_any_at}
use Rattle.std.proofs.lemmas.List.FromFn.{length-enumerate_from, get_or-enumerate_from}
use Rattle.std.specs.List.{filter, list_any, range_with_len, enumerate_from}
use Rattle.sgb_graph.specs.Builder.{Insertion, insertion}
use Rattle.sgb_plan.specs.Distinct.{Distinct}
use Rattle.sgb_plan.proofs.Distincts.{All-flat_map, Distinct-head, Distinct-tail, Distinct-filter, Distinct-range_with_len, Distinct-map, Distinct-flat_map_range}
use Rattle.sgb_import.specs.Graph6.{is_set, pairs, pair_count, edges_in}
use Rattle.sgb_import.proofs.Graph6Outlines.{All-range_with_len}
use Rattle.sgb_import.proofs.Graph6Pairs.{length-pairs-count, length-edges_in}

-- an edge has the endpoints of another
abbrev pub same_ends : Insertion → Insertion → Bool
same_ends e x = (x.from == e.from) && (x.to == e.to)

-- ---- each two vertices are one pair
pub pairs-unit : (n : ℕ) → All (λ e. e.len ≡ pos 1) (pairs n)
unfolding pairs
pairs-unit n =
    All-flat_map (λ (e : Insertion). e.len ≡ pos 1) (λ j. map (λ i. insertion i j (pos 1)) (range_with_len 0 j)) (range_with_len 0 n)
    (λ k d h. All-map (λ (e : Insertion). e.len ≡ pos 1) (λ i. insertion i (get_or (range_with_len 0 n) k d) (pos 1)) (range_with_len 0 (get_or (range_with_len 0 n) k d)) (λ j x l. refl))

pub pairs-distinct : (n : ℕ) → Distinct (pairs n)
unfolding pairs
pairs-distinct n =
    Distinct-flat_map_range (λ j. map (λ i. insertion i j (pos 1)) (range_with_len 0 j)) (λ (e : Insertion). e.to) 0 n
    (λ j. All-map (λ (e : Insertion). e.to ≡ j) (λ i. insertion i j (pos 1)) (range_with_len 0 j) (λ k d h. refl))
    (λ j. Distinct-map (λ i. insertion i j (pos 1)) (range_with_len 0 j) (λ x y e. ap (λ (l : Insertion). l.from) e) (Distinct-range_with_len 0 j))

abbrev pub none : Insertion
none = insertion 0 0 (pos 1)

-- pair k of those of n vertices
unfoldable pub pair : ℕ → ℕ → Insertion
pair n k = get_or (pairs n) k none

same_edge : (a b : Insertion) → a.from ≡ b.from → a.to ≡ b.to → a.len ≡ b.len → a ≡ b
same_edge a b p q r = λ i. record { from = p i; to = q i; len = r i }

-- two places have the same endpoints only where they are one
one_place : (n k m : ℕ) → k < pair_count n → m < pair_count n → same_ends (pair n k) (pair n m) ≡ true → m ≡ k
unfolding pair
one_place n k m h l e =
    let k' : k < length (pairs n) = omega (arith, length-pairs-count n) in
    let m' : m < length (pairs n) = omega (arith, length-pairs-count n) in
    let ends = and_parts _ _ e in
    let is : pair n m ≡ pair n k = same_edge (pair n m) (pair n k) (eqb-true _ _ ends.0) (eqb-true _ _ ends.1) (pairs-unit n m none m' ∙ sym (pairs-unit n k none k')) in
    elim (cases_order m k) [
      | inl same ↦ same
      | inr other ↦ elim other [
        | inl below ↦ absurd (pairs-distinct n m k none below k' is)
        | inr above ↦ absurd (pairs-distinct n k m none above m' (sym is))
      ]
    ]

-- ---- the edges that are found
any-kept : {X Y : Type 0} (q : Y → Bool) (g : X → Y) (f : X → Bool) (xs : List X) →
    list_any q (map g (filter f xs)) ≡ list_any (λ x. f x && q (g x)) xs
any-kept q g f [] = refl
any-kept {X} {Y} q g f (x ∷ xs) =
    elim (f x) as (λ b. list_any q (map g (cond b (x ∷ filter f xs) (filter f xs))) ≡ ((b && q (g x)) || list_any (λ y. f y && q (g y)) xs)) [
      | true ↦ ap (λ c. q (g x) || c) (any-kept q g f xs)
      | false ↦ any-kept q g f xs
    ]

own_ends : (e : Insertion) → same_ends e e ≡ true
own_ends e = and_from _ _ (eq-eqb e.from e.from refl) (eq-eqb e.to e.to refl)

enumerated_at : (n k : ℕ) (d : ℕ × Insertion) → k < length (enumerate_from 0 (pairs n)) → get_or (enumerate_from 0 (pairs n)) k d ≡ (k, pair n k)
unfolding pair
enumerated_at n k d h =
    let within : k < length (pairs n) = omega (arith, length-enumerate_from 0 (pairs n)) in
    get_or-enumerate_from 0 (pairs n) k d within ∙ ap₂ (λ (m : ℕ) (e : Insertion). (m, e)) (zero-add k) (get_or_default (pairs n) k d.1 none within)

pub edges-joined : (n : ℕ) (body : List ℕ) (k : ℕ) → k < pair_count n → list_any (same_ends (pair n k)) (edges_in n body) ≡ is_set body k
unfolding edges_in
edges-joined n body k h =
    let es = enumerate_from 0 (pairs n) in
    let found = λ (p : ℕ × Insertion). is_set body p.0 && same_ends (pair n k) p.1 in
    let long : length es ≡ pair_count n = length-enumerate_from 0 (pairs n) ∙ length-pairs-count n in
    any-kept (same_ends (pair n k)) (λ (p : ℕ × Insertion). p.1) (λ (p : ℕ × Insertion). is_set body p.0) es
    ∙ elim (cases_Bool (is_set body k)) [
      | inl set ↦
          let within : k < length es = omega arith in
          list_any_at found es k (k, none) within (ap found (enumerated_at n k (k, none) within) ∙ and_from _ _ set (own_ends (pair n k))) ∙ sym set
      | inr unset ↦
          false_from_ne_true (list_any found es) (λ any.
          let at = Any-from_list_any found es any in
          let is : at.1 ≡ (at.0, pair n at.0) = sym at.3 ∙ enumerated_at n at.0 at.1 at.2 in
          let parts = and_parts _ _ (sym (ap found is) ∙ at.4) in
          let here = one_place n k at.0 h (omega (arith, at.2)) parts.1 in
          both_ways (is_set body k) unset (sym (ap (is_set body) here) ∙ parts.0))
          ∙ sym unset
    ]

-- ---- as many edges at most as there are to be found
none_passes : {X : Type 0} (p : X → Bool) (xs : List X) → All (λ x. p x ≡ false) xs → filter p xs ≡ []
none_passes p [] all = refl
none_passes {X} p (x ∷ xs) all =
    let other : p x ≡ false = All-head (λ y. p y ≡ false) x xs all in
    rw other (none_passes p xs (All-tail (λ y. p y ≡ false) x xs all))

one_passes : {X : Type 0} (P : X → Type 0) (p : X → Bool) (xs : List X) → Distinct xs → All P xs →
    ((x y : X) → P x → P y → p x ≡ true → p y ≡ true → x ≡ y) → length (filter p xs) ≤ 1
one_passes P p [] distinct all one = omega arith
one_passes {X} P p (x ∷ xs) distinct all one =
    elim (cases_Bool (p x)) [
      | inl passes ↦
          let others : filter p xs ≡ [] = none_passes p xs (λ k d h. false_from_ne_true _ (λ e.
          Distinct-head x xs distinct k d h (one x (get_or xs k d) (All-head P x xs all) (All-tail P x xs all k d h) passes e))) in
          rw (passes, others) (omega arith)
      | inr other ↦ rw other (one_passes P p xs (Distinct-tail x xs distinct) (All-tail P x xs all) one)
    ]

-- each of some different things is matched by an element, and no element matches two of them
at_most : {X Y : Type 0} (P : X → Type 0) (t : X → Y → Bool) (ys : List Y) (xs : List X) → Distinct xs → All P xs →
    ((x y : X) (z : Y) → P x → P y → t x z ≡ true → t y z ≡ true → x ≡ y) → All (λ x. list_any (t x) ys ≡ true) xs → length xs ≤ length ys
at_most P t [] [] distinct all one matched = omega arith
at_most {X} {Y} P t [] (x ∷ xs) distinct all one matched = absurd (false≢true (All-head (λ y. list_any (t y) [] ≡ true) x xs matched))
at_most {X} {Y} P t (z ∷ zs) xs distinct all one matched =
    let p = λ (x : X). t x z in
    let q = λ (x : X). not (t x z) in
    let rest : length (filter q xs) ≤ length zs =
    at_most P t zs (filter q xs) (Distinct-filter q xs distinct) (All-filter q P xs all) one
    (λ k d h.
    let x = get_or (filter q xs) k d in
    let other : t x z ≡ false = not-true (t x z) (filter_passes q xs k d h) in
    elim (or_cases (t x z) (list_any (t x) zs) (All-filter q (λ y. (t y z || list_any (t y) zs) ≡ true) xs matched k d h)) [
      | inl here ↦ absurd (both_ways (t x z) other here)
      | inr there ↦ there
    ]) in
    omega (arith, one_passes P p xs distinct all (λ x y a b. one x y z a b), length-filter_both p q (λ x. refl) xs)

-- a bit is set only where there is an edge
pub edges-few : (n : ℕ) (body : List ℕ) (ls : List Insertion) → ((k : ℕ) → k < pair_count n → is_set body k ≡ list_any (same_ends (pair n k)) ls) →
    length (edges_in n body) ≤ length ls
edges-few n body ls h =
    let count = pair_count n in
    let places = range_with_len 0 count in
    let set = filter (is_set body) places in
    let within : All (λ k. k < count) set = All-filter (is_set body) (λ k. k < count) places (All-range_with_len (λ k. k < count) 0 count (λ k l. omega arith)) in
    let few : length set ≤ length ls =
    at_most (λ k. k < count) (λ k. same_ends (pair n k)) ls set (Distinct-filter (is_set body) places (Distinct-range_with_len 0 count)) within
    (λ x y z a b p q.
    let e = and_parts _ _ p in
    let f = and_parts _ _ q in
    let from : (pair n y).from ≡ (pair n x).from = sym (eqb-true z.from (pair n y).from f.0) ∙ eqb-true z.from (pair n x).from e.0 in
    let to : (pair n y).to ≡ (pair n x).to = sym (eqb-true z.to (pair n y).to f.1) ∙ eqb-true z.to (pair n x).to e.1 in
    sym (one_place n x y a b (and_from _ _ (eq-eqb (pair n y).from (pair n x).from from) (eq-eqb (pair n y).to (pair n x).to to))))
    (λ k d l. sym (h (get_or set k d) (within k d l)) ∙ filter_passes (is_set body) places k d l) in
    omega (arith, length-edges_in n body)
