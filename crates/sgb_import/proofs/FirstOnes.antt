-- Lemmas on words as they first appear.
use Rattle.std.proofs.Common.{◌≡◌, ◌≢◌, ◌<◌, ◌≤◌, ◌+◌, ℕ, zero, suc, List, [], ◌∷◌, ◌++◌, length, get_or, map, Bool, true, false, ◌||◌, ◌==◌, nat_lt, cond, inl, inr, All, refl, sym, ap, ap₂, subst, ◌∙◌, arith, append_assoc}
use Rattle.std.specs.List.{filter, list_any}
use Rattle.std.specs.Str.{bytes_eq}
use Rattle.std.proofs.lemmas.Bool.{cases_lt, cases_eq, cases_order, lt-ltb, le-ltb}
use Rattle.std.proofs.lemmas.List.{append-nil, length-map, map_push}
use Rattle.std.proofs.lemmas.List.Elements.{All-append, All-cons, All-head, All-nil, All-tail}
use Rattle.sgb_graph.specs.Graph.{occurrences}
use Rattle.sgb_graph.proofs.Counts.{any_none, any_some, occurs_at, occurs_no, occurs_yes}
use Rattle.sgb_import.specs.Edges.{first_ones}
use Rattle.sgb_import.specs.Private.EdgesRead.{with_name}
use Rattle.sgb_import.proofs.EdgeNames.{first_ones-more, length-with_name}
use Rattle.sgb_import.proofs.FewLinks.{occurs_append}

nothing_first : first_ones [] ≡ []
unfolding first_ones
nothing_first = refl

-- words behind others take none away
pub first_short : (ws vs : List (List ℕ)) → length (first_ones ws) ≤ length (first_ones (ws ++ vs))
first_short ws [] = omega (arith, ap (λ l. length (first_ones l)) (append-nil ws))
first_short ws (v ∷ vs) =
    omega (arith, ap length (first_ones-more ws v), length-with_name (first_ones ws) v, first_short (ws ++ v ∷ []) vs, ap (λ l. length (first_ones l)) (append_assoc ws (v ∷ []) vs))

-- ---- numbers, each below n, that have words of their own
pub occurs_then : (P : ℕ → Type 0) (ks : List ℕ) (k : ℕ) → All P ks → 0 < occurrences k ks → P k
occurs_then P [] k all some = absurd (omega arith)
occurs_then P (j ∷ ks) k all some =
    elim (cases_eq j k) [
      | inl same ↦ subst P same (All-head P j ks all)
      | inr other ↦ let ne : j ≢ k = other in occurs_then P ks k (All-tail P j ks all) (omega (arith, some, occurs_no k j ks ne))
    ]

-- each of the numbers stands once in the second list
pub record FirstNumbers (word : ℕ → List ℕ) (ns ks : List ℕ) : Type 0 where
  pub words : first_ones (map word ns) ≡ map word ks
  pub once : (k : ℕ) → occurrences k ks ≤ 1
  pub some : (k : ℕ) → 0 < occurrences k ns → 0 < occurrences k ks
  pub only : (k : ℕ) → 0 < occurrences k ks → 0 < occurrences k ns

module _ (word : ℕ → List ℕ) (n : ℕ) (test : (m j : ℕ) → m < n → j < n → bytes_eq (word m) (word j) ≡ (j == m)) where
  pub any_same : (m : ℕ) (ns : List ℕ) → m < n → All (λ k. k < n) ns → list_any (bytes_eq (word m)) (map word ns) ≡ list_any (λ j. j == m) ns
  any_same m [] low all = refl
  any_same m (j ∷ ns) low all = ap₂ (λ a b. a || b) (test m j low (All-head (λ k. k < n) j ns all)) (any_same m ns low (All-tail (λ k. k < n) j ns all))

  ks_low : (ns ks : List ℕ) → All (λ k. k < n) ns → FirstNumbers word ns ks → All (λ k. k < n) ks
  ks_low ns ks all x i d h = occurs_then (λ k. k < n) ns (get_or ks i d) all (x.only (get_or ks i d) (occurs_at ks i d h))

  number_more : (ns ks : List ℕ) (m : ℕ) → All (λ k. k < n) ns → m < n → FirstNumbers word ns ks → (js : List ℕ) × FirstNumbers word (ns ++ m ∷ []) js
  number_more ns ks m all low x =
      let words : (b : Bool) → list_any (λ j. j == m) ks ≡ b → first_ones (map word (ns ++ m ∷ [])) ≡ cond b (map word ks) (map word ks ++ word m ∷ []) =
      λ b is. ap first_ones (map_push word ns m)
      ∙ (first_ones-more (map word ns) (word m)
      ∙ (ap (λ l. with_name l (word m)) x.words ∙ ap (λ t. cond t (map word ks) (map word ks ++ word m ∷ [])) (any_same m ks low (ks_low ns ks all x) ∙ is))) in
      let grown : (k : ℕ) → occurrences k (ns ++ m ∷ []) ≡ occurrences k ns + occurrences k (m ∷ []) = λ k. occurs_append k ns (m ∷ []) in
      elim (cases_lt 0 (occurrences m ks)) [
        | inl there ↦ (
          ks,
          record {
            words = words true (any_some m ks there);
            once = x.once;
            some = λ k h. elim (cases_eq m k) [
              | inl same ↦ subst (λ j. 0 < occurrences j ks) same there
              | inr other ↦ let ne : m ≢ k = other in x.some k (omega (arith, h, grown k, occurs_no k m [] ne))
            ];
            only = λ k h. let old = x.only k h in omega (arith, grown k);
          },
        )
        | inr fresh ↦
            let kept : (k : ℕ) → occurrences k (ks ++ m ∷ []) ≡ occurrences k ks + occurrences k (m ∷ []) = λ k. occurs_append k ks (m ∷ []) in (
              ks ++ m ∷ [],
              record {
                words = words false (any_none m ks (omega arith)) ∙ sym (map_push word ks m);
                once = λ k. elim (cases_eq m k) [
                  | inl same ↦ omega (arith, fresh, kept k, ap (λ j. occurrences j ks) same, occurs_yes k m [] same)
                  | inr other ↦ let ne : m ≢ k = other in let one = x.once k in omega (arith, kept k, occurs_no k m [] ne)
                ];
                some = λ k h. elim (cases_eq m k) [
                  | inl same ↦ omega (arith, kept k, occurs_yes k m [] same)
                  | inr other ↦ let ne : m ≢ k = other in let old = x.some k (omega (arith, h, grown k, occurs_no k m [] ne)) in omega (arith, kept k)
                ];
                only = λ k h. elim (cases_eq m k) [
                  | inl same ↦ omega (arith, grown k, occurs_yes k m [] same)
                  | inr other ↦ let ne : m ≢ k = other in let old = x.only k (omega (arith, h, kept k, occurs_no k m [] ne)) in omega (arith, grown k)
                ];
              },
            )
      ]

  numbers_from : (ns done ks : List ℕ) → All (λ k. k < n) done → All (λ k. k < n) ns → FirstNumbers word done ks → (js : List ℕ) × FirstNumbers word (done ++ ns) js
  numbers_from [] done ks low all x = (ks, subst (λ l. FirstNumbers word l ks) (sym (append-nil done)) x)
  numbers_from (m ∷ ns) done ks low all x =
      let here = All-head (λ k. k < n) m ns all in
      let more = number_more done ks m low here x in
      let rest = numbers_from ns (done ++ m ∷ []) more.0 (All-append (λ k. k < n) done (m ∷ []) low (All-cons (λ k. k < n) m [] here (All-nil (λ k. k < n)))) (All-tail (λ k. k < n) m ns all) more.1 in
      (rest.0, subst (λ l. FirstNumbers word l rest.0) (append_assoc done (m ∷ []) ns) rest.1)

  pub first_numbers : (ns : List ℕ) → All (λ k. k < n) ns → (ks : List ℕ) × FirstNumbers word ns ks
  first_numbers ns all =
      numbers_from ns [] [] (All-nil (λ k. k < n)) all (record { words = nothing_first; once = λ k. omega arith; some = λ k h. absurd (omega arith); only = λ k h. absurd (omega arith) })

-- ---- as many as numbers below n, if each of them is there
counted_more : (n : ℕ) (ks : List ℕ) → length (filter (λ j. nat_lt j (suc n)) ks) ≡ length (filter (λ j. nat_lt j n) ks) + occurrences n ks
counted_more n [] = refl
counted_more n (k ∷ ks) =
    let rest = counted_more n ks in
    let more : Bool → List ℕ = λ b. cond b (k ∷ filter (λ j. nat_lt j (suc n)) ks) (filter (λ j. nat_lt j (suc n)) ks) in
    let less : Bool → List ℕ = λ b. cond b (k ∷ filter (λ j. nat_lt j n) ks) (filter (λ j. nat_lt j n) ks) in
    elim (cases_order k n) [
      | inl same ↦
          let a : length (more (nat_lt k (suc n))) ≡ length (more true) = ap (λ b. length (more b)) (lt-ltb k (suc n) (omega arith)) in
          let b : length (less (nat_lt k n)) ≡ length (less false) = ap (λ b. length (less b)) (le-ltb k n (omega arith)) in
          omega (arith, rest, a, b, occurs_yes n k ks same)
      | inr (inl low) ↦
          let a : length (more (nat_lt k (suc n))) ≡ length (more true) = ap (λ b. length (more b)) (lt-ltb k (suc n) (omega arith)) in
          let b : length (less (nat_lt k n)) ≡ length (less true) = ap (λ b. length (less b)) (lt-ltb k n low) in
          omega (arith, rest, a, b, occurs_no n k ks (λ e. omega arith))
      | inr (inr high) ↦
          let a : length (more (nat_lt k (suc n))) ≡ length (more false) = ap (λ b. length (more b)) (le-ltb k (suc n) (omega arith)) in
          let b : length (less (nat_lt k n)) ≡ length (less false) = ap (λ b. length (less b)) (le-ltb k n (omega arith)) in
          omega (arith, rest, a, b, occurs_no n k ks (λ e. omega arith))
    ]

counted_none : (ks : List ℕ) → length (filter (λ j. nat_lt j 0) ks) ≡ 0
counted_none [] = refl
counted_none (k ∷ ks) = rw (le-ltb k 0 (omega arith)) (counted_none ks)

counted_below : (n : ℕ) (ks : List ℕ) → ((v : ℕ) → v < n → occurrences v ks ≡ 1) → length (filter (λ j. nat_lt j n) ks) ≡ n
counted_below zero ks each = counted_none ks
counted_below (suc n) ks each = omega (arith, counted_more n ks, counted_below n ks (λ v low. each v (omega arith)), each n (omega arith))

all_below : (n : ℕ) (ks : List ℕ) → All (λ k. k < n) ks → filter (λ j. nat_lt j n) ks ≡ ks
all_below n [] all = refl
all_below n (k ∷ ks) all = rw (lt-ltb k n (All-head (λ j. j < n) k ks all)) (ap (λ l. k ∷ l) (all_below n ks (All-tail (λ j. j < n) k ks all)))

pub all_met : (word : ℕ → List ℕ) (n : ℕ) (ns ks : List ℕ) → FirstNumbers word ns ks → All (λ k. k < n) ns → ((v : ℕ) → v < n → 0 < occurrences v ns) → length (first_ones (map word ns)) ≡ n
all_met word n ns ks x low each =
    let low' : All (λ k. k < n) ks = λ i d h. occurs_then (λ k. k < n) ns (get_or ks i d) low (x.only (get_or ks i d) (occurs_at ks i d h)) in
    let one : (v : ℕ) → v < n → occurrences v ks ≡ 1 = λ v h. let some = x.some v (each v h) in let most = x.once v in omega arith in
    omega (arith, ap length x.words, length-map ks word, ap length (all_below n ks low'), counted_below n ks one)
