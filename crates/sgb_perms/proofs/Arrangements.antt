-- The arrangements are those that the code lists.
use Rattle.std.proofs.Common.{◌≡◌, ◌<◌, ◌≤◌, ◌+◌, ◌-◌, ℕ, zero, suc, List, [], ◌∷◌, length, get_or, drop, map, replicate, Bool, true, false, ◌==◌, nat_lt, nat_le, cond, All, Contains, inl, inr, refl, sym, ap, ap₂, subst, ◌∙◌, arith}
use Rattle.std.specs.List.{filter, list_all, sum}
use Rattle.std.proofs.lemmas.Bool.{cases_Bool, ltb-true, lt-ltb, leb-true, le-leb}
use Rattle.std.proofs.lemmas.List.{length-replicate, length-append, map-id}
use Rattle.std.proofs.lemmas.List.Elements.{All-weaker, All-contains, filter_passes}
use Rattle.std.proofs.lemmas.List.Folds.{list_all-append}
use Rattle.std.proofs.lemmas.List.Sums.{sum_by-cons, length-filter, count_by-le-length, AllPass-from_list_all, list_all-from_AllPass}
use Rattle.std.proofs.lemmas.Slice.Eq.{bytes_eq-Decides}
use Rattle.std.proofs.lemmas.Bool.{and_from, le-ltb}
use Rattle.sgb_graph.proofs.InsertionRuns.{flat_map-filter}
use Rattle.sgb_plan.specs.Distinct.{Distinct}
use Rattle.sgb_plan.proofs.Distincts.{Distinct-filter, Distinct-flat_map}
use Rattle.sgb_perms.specs.Arrangement.{words, same_list, count, counts_from, IsArrangement, all_arrangements, smaller_right, vector_from, vector_of, vectors, arrangements}
use Rattle.sgb_perms.specs.Private.Listed.{rows_from}
use Rattle.sgb_plan.proofs.Lists.{filter_none, flat_map_agree}
use Rattle.sgb_perms.proofs.Filters.{filter_one, OnlyOne, All-from_contains, list_all-weaker, Contains-filter, Contains-from_filter, Contains-flat_map, Contains-from_flat_map}
use Rattle.sgb_perms.proofs.Words.{IsWord, words_have, words_are, words_differ}
use Rattle.sgb_perms.proofs.Vectors.{below, at, AllBelow, all_kept, kept_at, below_weaker, sum_counts, length-smaller_right}
use Rattle.sgb_perms.proofs.VectorArrangements.{decoded, decoded_one, decoded_is}
use Rattle.sgb_perms.proofs.ArrangementVectors.{encoded, zeros_kept}
use Rattle.sgb_perms.proofs.VectorPrefixes.{told, pruned}

pub same_from_test : (a b : List ℕ) → same_list a b ≡ true → a ≡ b
same_from_test a b = (bytes_eq-Decides a b).0

pub test_from_same : (a b : List ℕ) → a ≡ b → same_list a b ≡ true
test_from_same a b = (bytes_eq-Decides a b).1

-- ---- all arrangements of a multiset
kinds_are_below : (n : ℕ) (a : List ℕ) → All (λ x. x < n) a → AllBelow n a
kinds_are_below n a is =
    record { all = list_all-from_AllPass (below n) a (All-weaker (λ x. x < n) (λ x. nat_lt x n ≡ true) (λ x less. lt-ltb x n less) a is) }

pub below_are_kinds : (n : ℕ) (a : List ℕ) → AllBelow n a → All (λ x. x < n) a
below_are_kinds n a is =
    All-weaker (λ x. nat_lt x n ≡ true) (λ x. x < n) (λ x less. ltb-true x n less) a (AllPass-from_list_all (below n) a is.all)

none_below_zero : (a : List ℕ) → count (below 0) a ≡ 0
none_below_zero [] = refl
none_below_zero (y ∷ a) = rw (le-ltb y 0 (omega arith)) (none_below_zero a)

pub all_have : (counts a : List ℕ) → IsArrangement counts a → Contains (all_arrangements counts) a
unfolding all_arrangements
all_have counts a is =
    let low = kinds_are_below (length counts) a is.kinds in
    let total = sum_counts 0 (length counts) a in
    let none = none_below_zero a in
    let same : 0 + length counts ≡ length counts = omega arith in
    let all : count (below (0 + length counts)) a ≡ length a =
    ap (λ n. count (below n) a) same ∙ ap length (all_kept (length counts) a low) in
    let sums : sum (counts_from 0 (length counts) a) ≡ sum counts = ap sum is.counted in
    Contains-filter (λ b. same_list (counts_from 0 (length counts) b) counts) (words (length counts) (sum counts)) a
    (words_have (length counts) (sum counts) a (record { long = omega (arith, total, none, all, sums); low = low.all }))
    (test_from_same (counts_from 0 (length counts) a) counts is.counted)

pub all_are : (counts a : List ℕ) → Contains (all_arrangements counts) a → IsArrangement counts a
unfolding all_arrangements
all_are counts a within =
    let both = Contains-from_filter (λ b. same_list (counts_from 0 (length counts) b) counts) (words (length counts) (sum counts)) a within in
    let word : IsWord (length counts) (sum counts) a =
    All-contains (IsWord (length counts) (sum counts)) (words (length counts) (sum counts)) a (words_are (length counts) (sum counts)) both.0 in
    record {
      kinds = below_are_kinds (length counts) a (record { all = word.low });
      counted = same_from_test (counts_from 0 (length counts) a) counts both.1;
    }

pub all_differ : (counts : List ℕ) → Distinct (all_arrangements counts)
unfolding all_arrangements
all_differ counts =
    Distinct-filter (λ b. same_list (counts_from 0 (length counts) b) counts) (words (length counts) (sum counts)) (words_differ (length counts) (sum counts))

-- ---- those of a vector
abbrev start : ℕ → List ℕ
start zeros = replicate zeros 0

start_below : (zeros : ℕ) → AllBelow 1 (start zeros)
start_below zero = record { all = refl }
start_below (suc n) = record { all = (start_below n).all }

start_count : (zeros : ℕ) → count (at 0) (start zeros) ≡ zeros
start_count zero = refl
start_count (suc n) = ap suc (start_count n)

pub record Tells (counts v a : List ℕ) : Type 0 where
  pub is : IsArrangement counts a
  pub vector : vector_of counts a ≡ v

pub from_decoded : (zeros : ℕ) (cs v a : List ℕ) → decoded 1 cs (start zeros) v ≡ a ∷ [] → Tells (zeros ∷ cs) v a
unfolding counts_from
from_decoded zeros cs v a made =
    let d = decoded_is 1 cs (start zeros) v a (start_below zeros) made in
    let one_on : 1 + length cs ≡ suc (length cs) = omega arith in
    let others : suc (length cs) - 1 ≡ length cs = omega arith in
    let first : count (at 0) a ≡ zeros =
    ap length (sym (kept_at 0 1 (omega arith) a)) ∙ (ap (count (at 0)) d.kept ∙ start_count zeros) in
    record {
      is = record {
        kinds = below_are_kinds (suc (length cs)) a (subst (λ n. AllBelow n a) one_on d.low);
        counted = ap₂ (λ n ns. n ∷ ns) first d.counted;
      };
      vector = ap (λ n. vector_from 1 n a) others ∙ d.vector;
    }

to_decoded : (zeros : ℕ) (cs a : List ℕ) → IsArrangement (zeros ∷ cs) a → decoded 1 cs (start zeros) (vector_of (zeros ∷ cs) a) ≡ a ∷ []
unfolding counts_from
to_decoded zeros cs a is =
    let counted : counts_from 0 (suc (length cs)) a ≡ zeros ∷ cs = is.counted in
    let first : count (at 0) a ≡ zeros = cc in
    let later : counts_from 1 (length cs) a ≡ cs = cc in
    let one_on : 1 + length cs ≡ suc (length cs) = omega arith in
    let others : suc (length cs) - 1 ≡ length cs = omega arith in
    let low = kinds_are_below (suc (length cs)) a is.kinds in
    let row : start zeros ≡ filter (below 1) a = sym (zeros_kept a ∙ ap start first) in
    ap₂ (λ r n. decoded 1 cs r (vector_from 1 n a)) row others
    ∙ (encoded 1 cs a later
    ∙ (ap (λ n. filter (below n) a ∷ []) one_on ∙ ap (λ b. b ∷ []) (all_kept (suc (length cs)) a low)))

-- the arrangements that have a vector
abbrev having : List ℕ → List ℕ → List (List ℕ)
having counts v = filter (λ a. same_list (vector_of counts a) v) (all_arrangements counts)

having_is : (zeros : ℕ) (cs v : List ℕ) → having (zeros ∷ cs) v ≡ decoded 1 cs (start zeros) v
having_is zeros cs v =
    let counts = zeros ∷ cs in
    let p : List ℕ → Bool = λ a. same_list (vector_of counts a) v in
    let back : (a : List ℕ) → Contains (all_arrangements counts) a → p a ≡ true → decoded 1 cs (start zeros) v ≡ a ∷ [] =
    λ a within passes.
    ap (decoded 1 cs (start zeros)) (sym (same_from_test (vector_of counts a) v passes)) ∙ to_decoded zeros cs a (all_are counts a within) in
    elim (decoded_one 1 cs (start zeros) v) [
      | inl none ↦
          filter_none p (all_arrangements counts)
          (All-from_contains (λ a. p a ≡ false) (all_arrangements counts)
          (λ a within.
          elim (cases_Bool (p a)) [
            | inl passes ↦ absurd (let wrong : [] ≡ a ∷ [] = sym none ∙ back a within passes in cc)
            | inr fails ↦ fails
          ]))
          ∙ sym none
      | inr one ↦
          let t = from_decoded zeros cs v one.0 one.1 in
          let only : OnlyOne p (all_arrangements counts) one.0 =
          record {
            within = all_have counts one.0 t.is;
            passes = test_from_same (vector_of counts one.0) v t.vector;
            only = λ b within passes.
                let same : one.0 ∷ [] ≡ b ∷ [] = sym one.1 ∙ back b within passes in
                let equal : one.0 ≡ b = cc in sym equal;
          } in
          filter_one p (all_arrangements counts) one.0 (all_differ counts) only ∙ sym one.1
    ]

-- the arrangements are those that the code lists
pub arrangements_are : (zeros : ℕ) (cs : List ℕ) (most : ℕ) → arrangements (zeros ∷ cs) most ≡ rows_from 1 cs most (replicate zeros 0)
unfolding arrangements vectors
arrangements_are zeros cs most =
    let counts = zeros ∷ cs in
    let all : sum counts ≡ zeros + sum cs = sum_by-cons (λ x. x) zeros cs in
    let long : length (start zeros) ≡ zeros = length-replicate zeros 0 in
    flat_map-filter (having counts) (λ v. nat_le (sum v) most) (words (sum counts) (sum cs))
    ∙ (flat_map_agree (told most (having counts)) (told most (decoded 1 cs (start zeros)))
    (words (sum counts) (sum cs)) (λ v. ap (λ ds. cond (nat_le (sum v) most) ds []) (having_is zeros cs v))
    ∙ pruned (sum counts) 1 cs most (start zeros) (omega arith))

-- ---- laws
pub arrangements_differ : (counts : List ℕ) (most : ℕ) → Distinct (arrangements counts most)
unfolding arrangements vectors
arrangements_differ counts most =
    let vs = filter (λ v. nat_le (sum v) most) (words (sum counts) (sum (drop 1 counts))) in
    let names : Distinct (map (λ (v : List ℕ). v) vs) =
    subst Distinct (sym (map-id vs))
    (Distinct-filter (λ v. nat_le (sum v) most) (words (sum counts) (sum (drop 1 counts))) (words_differ (sum counts) (sum (drop 1 counts)))) in
    Distinct-flat_map (having counts) (vector_of counts) (λ v. v) vs names
    (λ v.
    All-weaker (λ a. same_list (vector_of counts a) v ≡ true) (λ a. vector_of counts a ≡ v) (λ a. same_from_test (vector_of counts a) v)
    (having counts v) (filter_passes (λ a. same_list (vector_of counts a) v) (all_arrangements counts)))
    (λ k d less. Distinct-filter (λ a. same_list (vector_of counts a) (get_or vs k d)) (all_arrangements counts) (all_differ counts))

-- an arrangement that is listed, and its inversions
pub record IsListed (counts : List ℕ) (most : ℕ) (a : List ℕ) : Type 0 where
  pub arrangement : IsArrangement counts a
  pub within : sum (vector_of counts a) ≤ most

pub listed_is : (counts : List ℕ) (most : ℕ) (a : List ℕ) → Contains (arrangements counts most) a → IsListed counts most a
unfolding arrangements vectors
listed_is counts most a within =
    let vs = filter (λ v. nat_le (sum v) most) (words (sum counts) (sum (drop 1 counts))) in
    let piece = Contains-from_flat_map (having counts) vs a within in
    let fits = Contains-from_filter (λ v. nat_le (sum v) most) (words (sum counts) (sum (drop 1 counts))) piece.of piece.within in
    let both = Contains-from_filter (λ b. same_list (vector_of counts b) piece.of) (all_arrangements counts) a piece.inside in
    let same : vector_of counts a ≡ piece.of = same_from_test (vector_of counts a) piece.of both.1 in
    let sums : sum (vector_of counts a) ≡ sum piece.of = ap sum same in
    let low = leb-true (sum piece.of) most fits.1 in
    record { arrangement = all_are counts a both.0; within = omega arith }

-- the vector of an arrangement is one of the lists that may be
short_filter : (k : ℕ) (a : List ℕ) → count (below k) a ≤ length a
short_filter k a = omega (arith, length-filter (below k) a, count_by-le-length (below k) a)

short_numbers : (k : ℕ) (a : List ℕ) → list_all (below (length a)) (smaller_right k a) ≡ true
unfolding smaller_right
short_numbers k [] = refl
short_numbers k (y ∷ a) =
    let rest = list_all-weaker (below (length a)) (below (suc (length a))) (below_weaker (length a) (suc (length a)) (omega arith)) (smaller_right k a) (short_numbers k a) in
    elim (cases_Bool (y == k)) [
      | inl is ↦
          rw is
          (and_from (nat_lt (count (below k) a) (suc (length a))) (list_all (below (suc (length a))) (smaller_right k a))
          (lt-ltb (count (below k) a) (suc (length a)) (let few = short_filter k a in omega arith)) rest)
      | inr is ↦ rw is rest
    ]

short_vector : (k n : ℕ) (a : List ℕ) → list_all (below (length a)) (vector_from k n a) ≡ true
unfolding vector_from
short_vector k zero a = refl
short_vector k (suc n) a =
    list_all-append (below (length a)) (smaller_right k a) (vector_from (k + 1) n a)
    ∙ and_from (list_all (below (length a)) (smaller_right k a)) (list_all (below (length a)) (vector_from (k + 1) n a)) (short_numbers k a) (short_vector (k + 1) n a)

length-vector : (k n : ℕ) (a : List ℕ) → length (vector_from k n a) ≡ sum (counts_from k n a)
unfolding vector_from counts_from
length-vector k zero a = refl
length-vector k (suc n) a =
    let rest = length-vector (k + 1) n a in
    let mine = length-smaller_right k a in
    let sums : sum (counts_from k (suc n) a) ≡ count (at k) a + sum (counts_from (k + 1) n a) = sum_by-cons (λ x. x) (count (at k) a) (counts_from (k + 1) n a) in
    let both = length-append (smaller_right k a) (vector_from (k + 1) n a) in
    omega (arith, rest, mine, sums, both)

pub listed_has : (zeros : ℕ) (cs : List ℕ) (most : ℕ) (a : List ℕ) → IsListed (zeros ∷ cs) most a → Contains (arrangements (zeros ∷ cs) most) a
unfolding arrangements vectors all_arrangements counts_from
listed_has zeros cs most a is =
    let counts = zeros ∷ cs in
    let v = vector_of counts a in
    let inside = all_have counts a is.arrangement in
    let word : IsWord (suc (length cs)) (sum counts) a =
    All-contains (IsWord (suc (length cs)) (sum counts)) (words (suc (length cs)) (sum counts)) a (words_are (suc (length cs)) (sum counts))
    (Contains-from_filter (λ b. same_list (counts_from 0 (suc (length cs)) b) counts) (words (suc (length cs)) (sum counts)) a inside).0 in
    let counted : counts_from 0 (suc (length cs)) a ≡ zeros ∷ cs = is.arrangement.counted in
    let later : counts_from 1 (length cs) a ≡ cs = cc in
    let others : suc (length cs) - 1 ≡ length cs = omega arith in
    let long : length v ≡ sum cs =
    ap (λ n. length (vector_from 1 n a)) others ∙ (length-vector 1 (length cs) a ∙ ap sum later) in
    let low : list_all (below (sum counts)) v ≡ true = ap (λ n. list_all (below n) v) (sym word.long) ∙ short_vector 1 (suc (length cs) - 1) a in
    let fits : Contains (filter (λ w. nat_le (sum w) most) (words (sum counts) (sum cs))) v =
    Contains-filter (λ w. nat_le (sum w) most) (words (sum counts) (sum cs)) v
    (words_have (sum counts) (sum cs) v (record { long = long; low = low }))
    (le-leb (sum v) most is.within) in
    Contains-flat_map (having counts) (filter (λ w. nat_le (sum w) most) (words (sum counts) (sum cs))) v a fits
    (Contains-filter (λ b. same_list (vector_of counts b) v) (all_arrangements counts) a inside (test_from_same v v refl))

-- the vector of an arrangement is that of no other
pub vector_tells : (zeros : ℕ) (cs a b : List ℕ) → IsArrangement (zeros ∷ cs) a → IsArrangement (zeros ∷ cs) b → vector_of (zeros ∷ cs) a ≡ vector_of (zeros ∷ cs) b → a ≡ b
vector_tells zeros cs a b one other same =
    let both : a ∷ [] ≡ b ∷ [] =
    sym (to_decoded zeros cs a one) ∙ (ap (decoded 1 cs (start zeros)) same ∙ to_decoded zeros cs b other) in
    cc
