-- Lemmas on the first tree of a word.
use Rattle.std.proofs.Common.{◌≡◌, ◌≢◌, ◌<◌, ◌≤◌, ◌+◌, ◌-◌, ◌==◌, ℕ, zero, suc, List, [], ◌∷◌, length, get_or, map, take, drop, Option, None, Some, Bool, true, false, if◌then◌else◌, inl, inr, refl, sym, ap, ◌∙◌, arith}
use Rattle.std.specs.List.{filter, range_with_len}
use Rattle.std.specs.Option.{option_map, option_and_then, option_to_list}
use Rattle.std.proofs.lemmas.Bool.{cases_Bool, eq-eqb, ne_eqb}
use Rattle.std.proofs.lemmas.List.{at_drop_more, at_drop_all}
use Rattle.std.proofs.lemmas.List.Elements.{filter_agree}
use Rattle.sgb_binary.specs.Tree.{joined, heights, is_one, is_tree}
use Rattle.sgb_binary.specs.Rotation.{tree_fronts}
use Rattle.sgb_binary.specs.Private.Span.{span_from}
use Rattle.sgb_plan.proofs.Lists.{filter_none, filter-map}

-- the word is a row of so many trees, read from the left
is_row : ℕ → List ℕ → Bool
is_row zero [] = true
is_row zero (c ∷ w) = false
is_row (suc k) [] = false
is_row (suc k) (c ∷ w) = is_row (if c == 46 then suc (suc k) else k) w

are : ℕ → List ℕ → Bool
are zero [] = true
are zero (h ∷ hs) = false
are (suc k) [] = false
are (suc k) (h ∷ hs) = are k hs

abbrev has : ℕ → Option (List ℕ) → Bool
has k None = false
has k (Some hs) = are k hs

has_joined : (k : ℕ) (o : Option (List ℕ)) → has (suc (suc k)) o ≡ has (suc k) (option_and_then joined o)
unfolding are
has_joined k None = refl
has_joined k (Some []) = refl
has_joined k (Some (x ∷ [])) = refl
has_joined k (Some (x ∷ (y ∷ hs))) = refl

has_leaf : (k : ℕ) (o : Option (List ℕ)) → has k o ≡ has (suc k) (option_map (λ hs. 0 ∷ hs) o)
unfolding are
has_leaf k None = refl
has_leaf k (Some hs) = refl

has_none_joined : (o : Option (List ℕ)) → false ≡ has zero (option_and_then joined o)
unfolding are
has_none_joined None = refl
has_none_joined (Some []) = refl
has_none_joined (Some (x ∷ [])) = refl
has_none_joined (Some (x ∷ (y ∷ hs))) = refl

has_none_leaf : (o : Option (List ℕ)) → false ≡ has zero (option_map (λ hs. 0 ∷ hs) o)
unfolding are
has_none_leaf None = refl
has_none_leaf (Some hs) = refl

is_row_is : (w : List ℕ) (k : ℕ) → is_row k w ≡ has k (heights w)
unfolding is_row are heights
is_row_is [] zero = refl
is_row_is [] (suc k) = refl
is_row_is (c ∷ w) zero =
    elim (cases_Bool (c == 46)) [
      | inl dot ↦ rw dot (has_none_joined (heights w))
      | inr leaf ↦ rw leaf (has_none_leaf (heights w))
    ]
is_row_is (c ∷ w) (suc k) =
    elim (cases_Bool (c == 46)) [
      | inl dot ↦ rw (dot, is_row) (is_row_is w (suc (suc k)) ∙ has_joined k (heights w))
      | inr leaf ↦ rw (leaf, is_row) (is_row_is w k ∙ has_leaf k (heights w))
    ]

one_is : (o : Option (List ℕ)) → is_one o ≡ has 1 o
unfolding are
one_is None = refl
one_is (Some []) = refl
one_is (Some (h ∷ [])) = refl
one_is (Some (h ∷ (k ∷ hs))) = refl

tree_is : (w : List ℕ) → is_tree w ≡ is_row 1 w
unfolding is_tree
tree_is w = one_is (heights w) ∙ sym (is_row_is w 1)

-- ---- fronts
range_shift : (a n : ℕ) → range_with_len (a + 1) n ≡ map suc (range_with_len a n)
range_shift a zero = refl
range_shift a (suc n) =
    let same : a + 1 ≡ suc a = omega arith in
    ap (λ x. x ∷ range_with_len (a + 1 + 1) n) same ∙ ap (λ xs. suc a ∷ xs) (range_shift (a + 1) n)

range_front : (c : ℕ) (w : List ℕ) → range_with_len 0 (length (c ∷ w) + 1) ≡ 0 ∷ map suc (range_with_len 0 (length w + 1))
range_front c w =
    let more : length (c ∷ w) + 1 ≡ suc (length w + 1) = omega arith in
    ap (range_with_len 0) more ∙ ap (λ xs. 0 ∷ xs) (range_shift 0 (length w + 1))

map_behind : (i : ℕ) (ks : List ℕ) → map (λ k. i + k) (map suc ks) ≡ map (λ k. (i + 1) + k) ks
map_behind i [] = refl
map_behind i (k ∷ ks) =
    let same : i + suc k ≡ (i + 1) + k = omega arith in
    ap (λ x. x ∷ map (λ j. i + j) (map suc ks)) same ∙ ap (λ xs. ((i + 1) + k) ∷ xs) (map_behind i ks)

map_zero : (ks : List ℕ) → map (λ k. 0 + k) ks ≡ ks
map_zero [] = refl
map_zero (k ∷ ks) =
    let same : 0 + k ≡ k = omega arith in
    ap (λ x. x ∷ map (λ j. 0 + j) ks) same ∙ ap (λ xs. k ∷ xs) (map_zero ks)

row_fronts : ℕ → List ℕ → List ℕ
row_fronts m w = filter (λ k. is_row m (take k w)) (range_with_len 0 (length w + 1))

fronts_none : (c : ℕ) (w : List ℕ) → row_fronts zero (c ∷ w) ≡ 0 ∷ []
unfolding row_fronts is_row
fronts_none c w =
    let rest : List ℕ = range_with_len 0 (length w + 1) in
    ap (filter (λ k. is_row zero (take k (c ∷ w)))) (range_front c w)
    ∙ ap (λ xs. 0 ∷ xs)
    (filter-map (λ k. is_row zero (take k (c ∷ w))) suc rest
    ∙ ap (map suc) (filter_none (λ k. is_row zero (take (suc k) (c ∷ w))) rest (λ k d h. refl)))

fronts_more : (m c : ℕ) (w : List ℕ) → row_fronts (suc m) (c ∷ w) ≡ map suc (row_fronts (if c == 46 then suc (suc m) else m) w)
unfolding row_fronts is_row
fronts_more m c w =
    ap (filter (λ k. is_row (suc m) (take k (c ∷ w)))) (range_front c w)
    ∙ filter-map (λ k. is_row (suc m) (take k (c ∷ w))) suc (range_with_len 0 (length w + 1))

front_past : (i : ℕ) → map (λ k. i + k) (row_fronts zero []) ≡ i ∷ []
unfolding row_fronts is_row
front_past i = let same : i + 0 ≡ i = omega arith in ap (λ x. x ∷ []) same

front_short : (i m : ℕ) → map (λ k. i + k) (row_fronts (suc m) []) ≡ []
unfolding row_fronts is_row
front_short i m = refl

fronts_are : (w : List ℕ) (i m : ℕ) → map (λ k. i + k) (row_fronts m w) ≡ option_to_list (span_from i m w)
unfolding span_from
fronts_are [] i zero = front_past i
fronts_are [] i (suc m) = front_short i m
fronts_are (c ∷ w) i zero =
    let same : i + 0 ≡ i = omega arith in
    ap (map (λ k. i + k)) (fronts_none c w) ∙ ap (λ x. x ∷ []) same
fronts_are (c ∷ w) i (suc m) =
    ap (map (λ k. i + k)) (fronts_more m c w)
    ∙ (map_behind i (row_fronts (if c == 46 then suc (suc m) else m) w)
    ∙ fronts_are w (i + 1) (if c == 46 then suc (suc m) else m))

pub tree_fronts_are : (w : List ℕ) → tree_fronts w ≡ option_to_list (span_from 0 1 w)
unfolding tree_fronts row_fronts
tree_fronts_are w =
    filter_agree (λ k. is_tree (take k w)) (λ k. is_row 1 (take k w)) (λ k. tree_is (take k w)) (range_with_len 0 (length w + 1))
    ∙ (sym (map_zero (row_fronts 1 w)) ∙ fronts_are w 0 1)

-- ---- one letter after another
span_at : (c i k n : ℕ) (w : List ℕ) → 0 < k → n ≡ (if c == 46 then k + 1 else k - 1) → span_from i k (c ∷ w) ≡ span_from (i + 1) n w
unfolding span_from
span_at c i zero n w some is = absurd (omega arith)
span_at c i (suc k) n w some is =
    elim (cases_Bool (c == 46)) [
      | inl dot ↦
          let now : n ≡ suc k + 1 = rw dot at is in
          let same : suc (suc k) ≡ n = omega (arith, now) in
          rw (dot, span_from) (ap (λ m. span_from (i + 1) m w) same)
      | inr leaf ↦
          let now : n ≡ suc k - 1 = rw leaf at is in
          let same : k ≡ n = omega (arith, now) in
          rw (leaf, span_from) (ap (λ m. span_from (i + 1) m w) same)
    ]

pub span_dot : (xs : List ℕ) (i k n : ℕ) → i < length xs → get_or xs i 0 ≡ 46 → 0 < k → n ≡ k + 1 → span_from i k (drop i xs) ≡ span_from (i + 1) n (drop (i + 1) xs)
span_dot xs i k n h dot some is =
    at_drop_more (span_from i k) xs i 0 h
    ∙ span_at (get_or xs i 0) i k n (drop (i + 1) xs) some (rw (eq-eqb (get_or xs i 0) 46 dot) is)

pub span_leaf : (xs : List ℕ) (i k n : ℕ) → i < length xs → get_or xs i 0 ≢ 46 → 0 < k → n ≡ k - 1 → span_from i k (drop i xs) ≡ span_from (i + 1) n (drop (i + 1) xs)
span_leaf xs i k n h leaf some is =
    at_drop_more (span_from i k) xs i 0 h
    ∙ span_at (get_or xs i 0) i k n (drop (i + 1) xs) some (rw (ne_eqb (get_or xs i 0) 46 leaf) is)

pub span_past : (xs : List ℕ) (i k : ℕ) → length xs ≤ i → 0 < k → span_from i k (drop i xs) ≡ None
unfolding span_from
span_past xs i zero h some = absurd (omega arith)
span_past xs i (suc k) h some = at_drop_all (span_from i (suc k)) xs i h

pub span_found : (i k : ℕ) (w : List ℕ) → k ≡ 0 → span_from i k w ≡ Some i
unfolding span_from
span_found i k w none = ap (λ m. span_from i m w) none
