-- Lemmas on the names of pairs.
use Rattle.std.proofs.Common.{◌≡◌, ◌<◌, ◌≤◌, ◌+◌, ◌-◌, ◌*◌, ℕ, zero, suc, List, [], ◌∷◌, ◌++◌, length, map, codes, Bool, true, false, ◌&&◌, nat_le, max, ◌⊎◌, inl, inr, refl, sym, ap, ap₂, subst, ◌∙◌, arith}
use Rattle.std.specs.List.{flat_map, list_all, range_with_len}
use Rattle.std.proofs.Math.Nat.{suc-mul, zero-mul}
use Rattle.std.proofs.lemmas.List.FromFn.{length-map-range_with_len}
use Rattle.std.proofs.lemmas.Bool.{cases_Bool, cases_lt, and_parts, le-leb, leb-true, lt-leb}
use Rattle.std.proofs.lemmas.List.{length-append}
use Rattle.std.proofs.lemmas.List.Folds.{list_all-append, list_all-map}
use Rattle.sgb_graph.specs.Graph.{GraphOf, n_of, label_of}
use Rattle.sgb_graph.specs.declared.builder.Builder.{Builder}
use Rattle.sgb_plan.specs.Plan.{Named, with_named}
use Rattle.sgb_plan.proofs.Plans.{n-with_named}
use Rattle.sgb_combine.specs.Product.{pair_name, pair_names, is_short_name}
use Rattle.sgb_combine.specs.Private.Begin.{bare_builder}
use Rattle.sgb_combine.specs.Private.Pairs.{IsLongestOf, IsLongest}

-- ---- the pairs of vertices from a on
abbrev pub rows_left : GraphOf → GraphOf → ℕ → List Named
rows_left g h a = flat_map (λ v. map (pair_name g h v) (range_with_len 0 (n_of h))) (range_with_len a (n_of g - a))

pub rows_all : (g h : GraphOf) → pair_names g h ≡ rows_left g h 0
unfolding pair_names
rows_all g h =
    let all : n_of g - 0 ≡ n_of g = omega arith in
    sym (ap (λ k. flat_map (λ v. map (pair_name g h v) (range_with_len 0 (n_of h))) (range_with_len 0 k)) all)

pub rows_cons : (g h : GraphOf) (a : ℕ) → a < n_of g → rows_left g h a ≡ map (pair_name g h a) (range_with_len 0 (n_of h)) ++ rows_left g h (a + 1)
rows_cons g h a low =
    let more : n_of g - a ≡ suc (n_of g - (a + 1)) = omega arith in
    ap (λ k. flat_map (λ v. map (pair_name g h v) (range_with_len 0 (n_of h))) (range_with_len a k)) more

pub rows_none : (g h : GraphOf) (a : ℕ) → n_of g ≤ a → rows_left g h a ≡ []
rows_none g h a past =
    let none : n_of g - a ≡ 0 = omega arith in
    ap (λ k. flat_map (λ v. map (pair_name g h v) (range_with_len 0 (n_of h))) (range_with_len a k)) none

-- ---- lengths
-- all of n in a row pass
range_true : (p : ℕ → Bool) (i n m : ℕ) → i + n ≤ m → ((k : ℕ) → k < m → p k ≡ true) → list_all p (range_with_len i n) ≡ true
range_true p i zero m h all = refl
range_true p i (suc n) m h all = rw (all i (omega arith)) (range_true p (i + 1) n m (omega arith) all)

range_at : (p : ℕ → Bool) (i n k : ℕ) → i ≤ k → k < i + n → list_all p (range_with_len i n) ≡ true → p k ≡ true
range_at p i zero k from to all = absurd (omega arith)
range_at p i (suc n) k from to all =
    let both = and_parts (p i) (list_all p (range_with_len (i + 1) n)) all in
    elim (cases_lt i k) [
      | inl later ↦ range_at p (i + 1) n k (omega arith) (omega arith) both.1
      | inr here ↦ let same : i ≡ k = omega arith in subst (λ j. p j ≡ true) same both.0
    ]

abbrev pub is_short_pair : GraphOf → GraphOf → ℕ → ℕ → Bool
is_short_pair g h a b = is_short_name (pair_name g h a b)

all-flat : {X Y : Type 0} (p : Y → Bool) (f : X → List Y) (xs : List X) → list_all p (flat_map f xs) ≡ list_all (λ x. list_all p (f x)) xs
all-flat p f [] = refl
all-flat p f (x ∷ xs) = list_all-append p (f x) (flat_map f xs) ∙ ap (λ b. list_all p (f x) && b) (all-flat p f xs)

all_as : {X : Type 0} (p q : X → Bool) (xs : List X) → ((x : X) → p x ≡ q x) → list_all p xs ≡ list_all q xs
all_as p q [] same = refl
all_as p q (x ∷ xs) same = ap₂ (λ a b. a && b) (same x) (all_as p q xs same)

names_all : (g h : GraphOf) → list_all is_short_name (pair_names g h) ≡ list_all (λ a. list_all (is_short_pair g h a) (range_with_len 0 (n_of h))) (range_with_len 0 (n_of g))
unfolding pair_names
names_all g h =
    all-flat is_short_name (λ a. map (pair_name g h a) (range_with_len 0 (n_of h))) (range_with_len 0 (n_of g))
    ∙ all_as (λ a. list_all is_short_name (map (pair_name g h a) (range_with_len 0 (n_of h)))) (λ a. list_all (is_short_pair g h a) (range_with_len 0 (n_of h))) (range_with_len 0 (n_of g))
    (λ a. list_all-map is_short_name (pair_name g h a) (range_with_len 0 (n_of h)))

-- a pair's name is short
pub short_pair : (g h : GraphOf) (a b : ℕ) → a < n_of g → b < n_of h → list_all is_short_name (pair_names g h) ≡ true → length (pair_name g h a b).label ≤ 4095
short_pair g h a b low_a low_b all =
    let row = range_at (λ v. list_all (is_short_pair g h v) (range_with_len 0 (n_of h))) 0 (n_of g) a (omega arith) (omega arith) (sym (names_all g h) ∙ all) in
    leb-true (length (pair_name g h a b).label) 4095 (range_at (is_short_pair g h a) 0 (n_of h) b (omega arith) (omega arith) row)

pair_length : (s t : List ℕ) → length (s ++ codes "," ++ t) ≡ length s + 1 + length t
pair_length s t = omega (arith, length-append (s ++ codes ",") t, length-append s (codes ","))

pub names_are_short : (g h : GraphOf) (m n : ℕ) → IsLongest g m → IsLongest h n → m + 1 + n ≤ 4095 → list_all is_short_name (pair_names g h) ≡ true
names_are_short g h m n first second fits =
    names_all g h
    ∙ range_true (λ a. list_all (is_short_pair g h a) (range_with_len 0 (n_of h))) 0 (n_of g) (n_of g) (omega arith)
    (λ a low. range_true (is_short_pair g h a) 0 (n_of h) (n_of h) (omega arith)
    (λ b low_b. le-leb (length (label_of g a ++ codes "," ++ label_of h b)) 4095 (omega (arith, pair_length (label_of g a) (label_of h b), first.bound a low, second.bound b low_b))))

-- the vertex with the longest name
longest_one : (g : GraphOf) (n : ℕ) → 0 < n_of g → IsLongest g n → (v : ℕ) × (v < n_of g) × (length (label_of g v) ≡ n)
longest_one g n some longest =
    elim longest.met [
      | inl none ↦ (0, some, (let h = longest.bound 0 some in omega (arith, h, none)))
      | inr one ↦ one
    ]

pub names_are_long : (g h : GraphOf) (m n : ℕ) → 0 < n_of g → 0 < n_of h → IsLongest g m → IsLongest h n → 4095 < m + 1 + n → list_all is_short_name (pair_names g h) ≡ false
names_are_long g h m n some_g some_h first second long =
    elim (cases_Bool (list_all is_short_name (pair_names g h))) [
      | inl all ↦
          let v = longest_one g m some_g first in
          let w = longest_one h n some_h second in
          let short = short_pair g h v.0 w.0 v.1 w.1 all in
          absurd (omega (arith, short, pair_length (label_of g v.0) (label_of h w.0), v.2, w.2))
      | inr some ↦ some
    ]

pub no_names : (g h : GraphOf) → (n_of g ≡ 0) ⊎ (n_of h ≡ 0) → list_all is_short_name (pair_names g h) ≡ true
no_names g h none =
    names_all g h
    ∙ range_true (λ a. list_all (is_short_pair g h a) (range_with_len 0 (n_of h))) 0 (n_of g) (n_of g) (omega arith)
    (λ a low. range_true (is_short_pair g h a) 0 (n_of h) (n_of h) (omega arith)
    (λ b low_b. elim none [
      | inl first ↦ absurd (omega arith)
      | inr second ↦ absurd (omega arith)
    ]))

-- ---- the longest so far
pub longest_more : (g : GraphOf) (k n m l : ℕ) → IsLongestOf g k n → l ≡ length (label_of g k) → m ≡ max n l → IsLongestOf g (k + 1) m
longest_more g k n m l longest is most = record {
  bound = λ v low. elim (cases_lt v k) [
    | inl before ↦ let h = longest.bound v before in omega (arith, h, most)
    | inr past ↦ let here : v ≡ k = omega arith in omega (arith, ap (λ i. length (label_of g i)) here, is, most)
  ];
  met = elim (cases_lt n l) [
    | inl more ↦ inr (k, omega arith, omega (arith, is, most))
    | inr less ↦ elim longest.met [
      | inl none ↦ inl (omega (arith, none, most))
      | inr one ↦ inr (one.0, omega (arith, one.1), (let same = one.2 in omega (arith, same, most)))
    ]
  ];
}

pub names_tell : (g h : GraphOf) (m n : ℕ) → 0 < n_of g → 0 < n_of h → IsLongest g m → IsLongest h n → nat_le (m + 1 + n) 4095 ≡ list_all is_short_name (pair_names g h)
names_tell g h m n some_g some_h first second =
    elim (cases_lt 4095 (m + 1 + n)) [
      | inl long ↦ lt-leb (m + 1 + n) 4095 long ∙ sym (names_are_long g h m n some_g some_h first second long)
      | inr fits ↦ le-leb (m + 1 + n) 4095 (omega arith) ∙ sym (names_are_short g h m n first second (omega arith))
    ]

-- how many pairs there are
count_rows : (g h : GraphOf) (i n : ℕ) → length (flat_map (λ v. map (pair_name g h v) (range_with_len 0 (n_of h))) (range_with_len i n)) ≡ n * n_of h
count_rows g h i zero = sym (zero-mul (n_of h))
count_rows g h i (suc n) =
    let row = map (pair_name g h i) (range_with_len 0 (n_of h)) in
    let rest = flat_map (λ v. map (pair_name g h v) (range_with_len 0 (n_of h))) (range_with_len (i + 1) n) in
    omega (arith, length-append row rest, length-map-range_with_len (pair_name g h i) 0 (n_of h), count_rows g h (i + 1) n, suc-mul n (n_of h))

pub count_pairs : (g h : GraphOf) → length (pair_names g h) ≡ n_of g * n_of h
unfolding pair_names
count_pairs g h = count_rows g h 0 (n_of g)

pub n_pairs : (id : List ℕ) (directed : Bool) (g h : GraphOf) {b : Builder} → b ≡ with_named (bare_builder id directed) (pair_names g h) → n_of b.graph ≡ n_of g * n_of h
n_pairs id directed g h {b} named =
    let all : n_of b.graph ≡ n_of (with_named (bare_builder id directed) (pair_names g h)).graph = ap (λ (c : Builder). n_of c.graph) named in
    omega (arith, all, n-with_named (bare_builder id directed) (pair_names g h), count_pairs g h)
