-- The pairs of vertices by columns, and those whose bits are set.
use Rattle.std.proofs.Common.{◌≡◌, ℕ, ◌+◌, ◌-◌, ◌*◌, ◌/◌, ◌<◌, ◌≤◌, zero, suc, pos, Bool, true, false, cond, List, [], ◌∷◌, ◌++◌, map, length, take, get_or, inl, inr, add-one, zero-add, refl, sym, ap, ◌∙◌, subst, arith, append-nil, length-append}
use Rattle.std.proofs.lemmas.Bool.{cases_lt, and_parts, eqb-true}
use Rattle.std.proofs.lemmas.List.{get_or_append_left, get_or-append-add, map-append, map-id, length-map, take_all}
use Rattle.std.proofs.lemmas.List.Concat.{flat_map-append}
use Rattle.std.proofs.lemmas.List.Elements.{filter_more}
use Rattle.std.proofs.lemmas.List.FromFn.{map-range_with_len_more, length-map-range_with_len, get_or-map-range_with_len, length-enumerate_from, get_or-enumerate_from}
use Rattle.std.specs.List.{filter, flat_map, range_with_len, enumerate_from}
use Rattle.sgb_graph.specs.Builder.{Insertion, insertion}
use Rattle.sgb_import.specs.declared.graph6.Pair.{Pair}
use Rattle.sgb_import.specs.Graph6.{is_set, pairs, pair_count, fits, edges_in}
use Rattle.sgb_import.specs.Private.Pairs.{edge_of, edges_below, IsPair}

-- the edges to j from those below it
column : ℕ → List Insertion
column j = map (λ i. insertion i j (pos 1)) (range_with_len 0 j)

length-column : (j : ℕ) → length (column j) ≡ j
unfolding column
length-column j = length-map-range_with_len (λ i. insertion i j (pos 1)) 0 j

column-at : (i j : ℕ) (d : Insertion) → i < j → get_or (column j) i d ≡ insertion i j (pos 1)
unfolding column
column-at i j d h = get_or-map-range_with_len (λ i. insertion i j (pos 1)) 0 j i i d h (omega arith)

range-next : (n : ℕ) → range_with_len 0 (suc n) ≡ range_with_len 0 n ++ n ∷ []
range-next n =
    ap (range_with_len 0) (sym (add-one n)) ∙ sym (map-id (range_with_len 0 (n + 1)))
    ∙ map-range_with_len_more (λ (x : ℕ). x) 0 n n (omega arith) ∙ ap (λ (l : List ℕ). l ++ n ∷ []) (map-id (range_with_len 0 n))

pairs-next : (n : ℕ) → pairs (suc n) ≡ pairs n ++ column n
unfolding pairs column
pairs-next n =
    ap (flat_map column) (range-next n) ∙ flat_map-append column (range_with_len 0 n) (n ∷ []) ∙ ap (λ c. pairs n ++ c) (append-nil (column n))

length-pairs-next : (n : ℕ) → length (pairs (suc n)) ≡ length (pairs n) + n
length-pairs-next n =
    ap length (pairs-next n) ∙ length-append (pairs n) (column n) ∙ ap (λ k. length (pairs n) + k) (length-column n)

pub length-pairs : (n : ℕ) → 2 * length (pairs n) + n ≡ n * n
length-pairs zero = unfold pairs in refl
length-pairs (suc n) = omega (arith, length-pairs-next n, length-pairs n)

square : (d : ℕ) → d ≤ d * d
square zero = omega arith
square (suc d) = omega arith

wider : (j d : ℕ) → j * j + (j + d) ≤ (j + d) * (j + d) + j
wider j d = omega (arith, square d)

pub length-pairs-le : (j n : ℕ) → j ≤ n → length (pairs j) ≤ length (pairs n)
length-pairs-le j n h =
    let e : j + (n - j) ≡ n = omega arith in
    let w : j * j + n ≤ n * n + j = subst (λ (m : ℕ). j * j + m ≤ m * m + j) e (wider j (n - j)) in
    omega (arith, length-pairs j, length-pairs n)

pub pair-at : (n i j : ℕ) (d : Insertion) → i < j → j < n → get_or (pairs n) (length (pairs j) + i) d ≡ insertion i j (pos 1)
pair-at zero i j d h l = absurd (omega arith)
pair-at (suc n) i j d h l =
    ap (λ es. get_or es (length (pairs j) + i) d) (pairs-next n)
    ∙ elim (cases_lt j n) [
      | inl lt ↦
          get_or_append_left (pairs n) (column n) d (length (pairs j) + i) (omega (arith, length-pairs-next j, length-pairs-le (suc j) n lt))
          ∙ pair-at n i j d h lt
      | inr ge ↦
          let e : j ≡ n = omega arith in
          ap (λ m. get_or (pairs n ++ column n) (length (pairs m) + i) d) e ∙ get_or-append-add (pairs n) (column n) i d
          ∙ column-at i n d (omega arith) ∙ ap (λ m. insertion i m (pos 1)) (sym e)
    ]

half : (a b : ℕ) → 2 * a ≡ b → a ≡ b / 2
half a b h = omega arith

pub length-pairs-count : (n : ℕ) → length (pairs n) ≡ pair_count n
unfolding pair_count
length-pairs-count zero = unfold pairs in refl
length-pairs-count (suc n) =
    let e : suc n - 1 ≡ n = omega arith in
    let twice : 2 * length (pairs (suc n)) ≡ suc n * n = omega (arith, length-pairs (suc n)) in
    half (length (pairs (suc n))) (suc n * (suc n - 1)) (twice ∙ ap (λ m. suc n * m) (sym e))

pub IsPair-at : (k : ℕ) (p : Pair) → IsPair k p → k ≡ length (pairs p.high) + p.low
IsPair-at k p is = omega (arith, length-pairs p.high)

pub IsPair-within : (n k : ℕ) (p : Pair) → IsPair k p → k < pair_count n → p.high < n
IsPair-within n k p is h =
    elim (cases_lt p.high n) [
      | inl lt ↦ lt
      | inr ge ↦ absurd (omega (arith, length-pairs-le n p.high ge, IsPair-at k p is, length-pairs-count n))
    ]

pub IsPair-edge : (n k : ℕ) (p : Pair) (d : Insertion) → IsPair k p → k < pair_count n → get_or (pairs n) k d ≡ edge_of p
IsPair-edge n k p d is h =
    ap (λ m. get_or (pairs n) m d) (IsPair-at k p is) ∙ pair-at n p.low p.high d is.order (IsPair-within n k p is h)

pub edges_below-none : (n : ℕ) (body : List ℕ) → edges_below n body 0 ≡ []
unfolding edges_below
edges_below-none n body = refl

found : (b : Bool) (q : ℕ × Insertion) → map (λ (p : ℕ × Insertion). p.1) (cond b (q ∷ []) []) ≡ cond b (q.1 ∷ []) []
found true q = refl
found false q = refl

pub edges_below-more : (n : ℕ) (body : List ℕ) (k : ℕ) (d : Insertion) → k < pair_count n →
    edges_below n body (k + 1) ≡ edges_below n body k ++ cond (is_set body k) (get_or (pairs n) k d ∷ []) []
unfolding edges_below
edges_below-more n body k d h =
    let es = enumerate_from 0 (pairs n) in
    let test = λ (p : ℕ × Insertion). is_set body p.0 in
    let edge = λ (p : ℕ × Insertion). p.1 in
    let long : k < length (pairs n) = omega (arith, length-pairs-count n) in
    let within : k < length es = omega (arith, length-enumerate_from 0 (pairs n)) in
    let at : get_or es k (k, d) ≡ (k, get_or (pairs n) k d) =
    get_or-enumerate_from 0 (pairs n) k (k, d) long ∙ ap (λ m. (m, get_or (pairs n) k d)) (zero-add k) in
    ap (map edge) (filter_more test es k (k, d) within)
    ∙ map-append edge (filter test (take k es)) (cond (test (get_or es k (k, d))) (get_or es k (k, d) ∷ []) [])
    ∙ ap (λ (q : ℕ × Insertion). edges_below n body k ++ map edge (cond (test q) (q ∷ []) [])) at
    ∙ ap (λ c. edges_below n body k ++ c) (found (is_set body k) (k, get_or (pairs n) k d))

pub edges_below-all : (n : ℕ) (body : List ℕ) (k : ℕ) → pair_count n ≤ k → edges_below n body k ≡ edges_in n body
unfolding edges_below edges_in
edges_below-all n body k h =
    ap (λ es. map (λ (p : ℕ × Insertion). p.1) (filter (λ (p : ℕ × Insertion). is_set body p.0) es))
    (take_all k (enumerate_from 0 (pairs n)) (omega (arith, length-enumerate_from 0 (pairs n), length-pairs-count n)))

filter_of_enumerated : {X : Type 0} (f : ℕ → Bool) (a : ℕ) (xs : List X) →
    length (filter (λ (p : ℕ × X). f p.0) (enumerate_from a xs)) ≡ length (filter f (range_with_len a (length xs)))
filter_of_enumerated {X} f a [] = refl
filter_of_enumerated {X} f a (x ∷ xs) =
    let rest = enumerate_from (a + 1) xs in
    let numbers = range_with_len (a + 1) (length xs) in
    let before = filter_of_enumerated f (a + 1) xs in
    elim (f a) as (λ b. length (cond b ((a, x) ∷ filter (λ (p : ℕ × X). f p.0) rest) (filter (λ (p : ℕ × X). f p.0) rest)) ≡ length (cond b (a ∷ filter f numbers) (filter f numbers))) [
      | true ↦ ap suc before
      | false ↦ before
    ]

pub length-edges_in : (n : ℕ) (body : List ℕ) → length (edges_in n body) ≡ length (filter (is_set body) (range_with_len 0 (pair_count n)))
unfolding edges_in
length-edges_in n body =
    length-map (filter (λ (p : ℕ × Insertion). is_set body p.0) (enumerate_from 0 (pairs n))) (λ (p : ℕ × Insertion). p.1)
    ∙ filter_of_enumerated (is_set body) 0 (pairs n)
    ∙ ap (λ m. length (filter (is_set body) (range_with_len 0 m))) (length-pairs-count n)

pub fits-within : (n : ℕ) (body : List ℕ) → fits n body ≡ true → pair_count n ≤ 6 * length body
unfolding fits
fits-within n body h =
    let e = eqb-true (length body) ((pair_count n + 5) / 6) (and_parts _ _ h).0 in
    omega arith
