-- Lemmas on a rotation that is made in place and taken back, and on the number of a word.
use Rattle.std.proofs.Common.{◌≡◌, ◌≤◌, ◌+◌, ◌-◌, ◌==◌, ℕ, suc, pos, List, [], ◌∷◌, ◌++◌, length, map, take, drop, codes, Bool, true, false, inl, inr, refl, sym, ap, ap₂, ◌∙◌, arith, append_assoc}
use Rattle.std.specs.Prelude.{position}
use Rattle.std.specs.List.{starts_with}
use Rattle.std.proofs.lemmas.Bool.{cases_Bool, eqb-true}
use Rattle.std.proofs.lemmas.List.{append-nil, length-append, length-map, length-take-le, take-append-drop, take_at, drop_at, drop-drop}
use Rattle.sgb_graph.specs.Builder.{insertion}
use Rattle.sgb_plan.proofs.Distincts.{position_or_len-map}
use Rattle.sgb_binary.specs.Rotation.{tree_fronts, turned, turned_at, number_in, targets, rotations_at}
use borrow.Rule.Slice.PartMut.{put_mid, mid_of}

-- ---- two dots
pub two_dots : (xs : List ℕ) → starts_with ◌==◌ xs (codes "..") ≡ true → xs ≡ 46 ∷ (46 ∷ drop 2 xs)
two_dots [] is = absurd (let no : false ≡ true = is in cc)
two_dots (x ∷ []) is =
    elim (cases_Bool (46 == x)) [
      | inl first ↦ absurd (let no : false ≡ true = rw first at is in cc)
      | inr other ↦ absurd (let no : false ≡ true = rw other at is in cc)
    ]
two_dots (x ∷ (y ∷ xs)) is =
    elim (cases_Bool (46 == x)) [
      | inr other ↦ absurd (let no : false ≡ true = rw other at is in cc)
      | inl first ↦ elim (cases_Bool (46 == y)) [
        | inr other ↦ absurd (let no : false ≡ true = rw (first, other) at is in cc)
        | inl second ↦ ap₂ (λ a b. a ∷ (b ∷ xs)) (sym (eqb-true 46 x first)) (sym (eqb-true 46 y second))
      ]
    ]

pub behind_dot : (w : List ℕ) (i : ℕ) → starts_with ◌==◌ (drop i w) (codes "..") ≡ true → drop (i + 1) w ≡ 46 ∷ drop (i + 2) w
behind_dot w i is =
    sym (drop-drop 1 i w) ∙ (ap (drop 1) (two_dots (drop i w) is) ∙ ap (λ xs. 46 ∷ xs) (drop-drop 2 i w))

-- ---- a rotation in place
-- what the part holds once its first letter went to its end
pub turned_part : (w ys : List ℕ) (i len k : ℕ) → drop (i + 1) w ≡ 46 ∷ drop (i + 2) w → k ≡ suc len
    → ys ≡ drop 1 (mid_of (i + 1) k w) ++ take 1 (mid_of (i + 1) k w) → ys ≡ take len (drop (i + 2) w) ++ 46 ∷ []
turned_part w ys i len k dot long is =
    let part : mid_of (i + 1) k w ≡ 46 ∷ take len (drop (i + 2) w) = ap₂ (λ n xs. take n xs) long dot in
    is ∙ ap (λ p. drop 1 p ++ take 1 p) part

pub turned_is : (w ys : List ℕ) (i len k : ℕ) → drop (i + 1) w ≡ 46 ∷ drop (i + 2) w → k ≡ suc len
    → ys ≡ take len (drop (i + 2) w) ++ 46 ∷ [] → put_mid (i + 1) k w ys ≡ turned w i len
turned_is w ys i len k dot long is =
    let post : drop k (drop (i + 1) w) ≡ drop len (drop (i + 2) w) = ap₂ (λ n xs. drop n xs) long dot in
    ap (λ xs. take (i + 1) w ++ xs)
    (ap₂ (λ xs zs. xs ++ zs) is post ∙ append_assoc (take len (drop (i + 2) w)) (46 ∷ []) (drop len (drop (i + 2) w)))

-- the part of what was turned, and what is put back there
pub turned_back : (w v zs : List ℕ) (i len k : ℕ) → drop (i + 1) w ≡ 46 ∷ drop (i + 2) w → k ≡ suc len → i + 1 ≤ length w → len ≤ length (drop (i + 2) w)
    → v ≡ turned w i len → zs ≡ drop (length (mid_of (i + 1) k v) - 1) (mid_of (i + 1) k v) ++ take (length (mid_of (i + 1) k v) - 1) (mid_of (i + 1) k v)
    → put_mid (i + 1) k v zs ≡ w
turned_back w v zs i len k dot long within few turns is =
    let rest : List ℕ = drop (i + 2) w in
    let front : length (take (i + 1) w) ≡ i + 1 = length-take-le (i + 1) w within in
    let moved : length (take len rest) ≡ len = length-take-le len rest few in
    let behind : drop (i + 1) v ≡ take len rest ++ (46 ∷ drop len rest) = ap (drop (i + 1)) turns ∙ drop_at (take (i + 1) w) (take len rest ++ (46 ∷ drop len rest)) (i + 1) front in
    let before : take (i + 1) v ≡ take (i + 1) w = ap (take (i + 1)) turns ∙ take_at (take (i + 1) w) (take len rest ++ (46 ∷ drop len rest)) (i + 1) front in
    let split : take len rest ++ (46 ∷ drop len rest) ≡ (take len rest ++ 46 ∷ []) ++ drop len rest = sym (append_assoc (take len rest) (46 ∷ []) (drop len rest)) in
    let size : length (take len rest ++ 46 ∷ []) ≡ k = omega (arith, length-append (take len rest) (46 ∷ []), moved, long) in
    let part : mid_of (i + 1) k v ≡ take len rest ++ 46 ∷ [] = ap (take k) (behind ∙ split) ∙ take_at (take len rest ++ 46 ∷ []) (drop len rest) k size in
    let post : drop k (drop (i + 1) v) ≡ drop len rest = ap (drop k) (behind ∙ split) ∙ drop_at (take len rest ++ 46 ∷ []) (drop len rest) k size in
    let one : length (mid_of (i + 1) k v) - 1 ≡ len = omega (arith, ap length part, size, long) in
    let back : zs ≡ 46 ∷ take len rest =
    is
    ∙ (ap₂ (λ n p. drop n p ++ take n p) one part
    ∙ ap₂ (λ xs ys. xs ++ ys) (drop_at (take len rest) (46 ∷ []) len moved) (take_at (take len rest) (46 ∷ []) len moved)) in
    ap₂ (λ xs ys. xs ++ ys) before (ap₂ (λ xs ys. xs ++ ys) back post)
    ∙ (ap (λ xs. take (i + 1) w ++ (46 ∷ xs)) (take-append-drop len rest)
    ∙ (ap (λ xs. take (i + 1) w ++ xs) (sym dot) ∙ take-append-drop (i + 1) w))

-- ---- the numbers of what a word turns into
pub targets_none : (ws : List (List ℕ)) (w : List ℕ) (i : ℕ) → starts_with ◌==◌ (drop i w) (codes "..") ≡ false → targets ws w i ≡ []
unfolding turned_at
targets_none ws w i is = rw is refl

pub targets_no_tree : (ws : List (List ℕ)) (w : List ℕ) (i : ℕ) → starts_with ◌==◌ (drop i w) (codes "..") ≡ true → tree_fronts (drop (i + 2) w) ≡ [] → targets ws w i ≡ []
unfolding turned_at
targets_no_tree ws w i is none = rw (is, none) refl

pub targets_one : (ws : List (List ℕ)) (w : List ℕ) (i k : ℕ) → starts_with ◌==◌ (drop i w) (codes "..") ≡ true → tree_fronts (drop (i + 2) w) ≡ k ∷ [] → targets ws w i ≡ number_in ws (turned w i k)
unfolding turned_at
targets_one ws w i k is one = rw (is, one) (append-nil (number_in ws (turned w i k)))

pub position-map : {X Y : Type 0} (p : Y → Bool) (f : X → Y) (xs : List X) → position p (map f xs) ≡ position (λ x. p (f x)) xs
position-map p f xs = rw (position_or_len-map p f xs, length-map xs f) refl

-- ---- the insertions at a place
pub rotation_one : (ws : List (List ℕ)) (v : ℕ) (u w : List ℕ) (i k : ℕ) → u ≡ w → k ∷ [] ≡ targets ws u i → rotations_at ws v w i ≡ insertion v k (pos 1) ∷ []
rotation_one ws v u w i k same one = ap (map (λ j. insertion v j (pos 1))) (sym (ap (λ x. targets ws x i) same) ∙ sym one)

pub rotation_none : (ws : List (List ℕ)) (v : ℕ) (u w : List ℕ) (i : ℕ) → u ≡ w → [] ≡ targets ws u i → rotations_at ws v w i ≡ []
rotation_none ws v u w i same none = ap (map (λ j. insertion v j (pos 1))) (sym (ap (λ x. targets ws x i) same) ∙ sym none)
