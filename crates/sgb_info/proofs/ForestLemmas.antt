-- Lemmas on forests: where climbs end, and what keeps the roots.
use Rattle.std.proofs.Common.{◌≡◌, ◌≢◌, ◌≤◌, ◌<◌, ◌+◌, ◌-◌, ◌==◌, ℕ, zero, suc, List, [], ◌∷◌, ◌++◌, length, map, set, get_or, min, max, ◌⊎◌, inl, inr, refl, sym, ap, ap₂, subst, ◌∙◌, arith}
use Rattle.std.specs.List.{filter, range_with_len}
use Rattle.std.proofs.lemmas.Bool.{cases_eq, cases_lt, cases_Bool, eqb-true, eq-eqb}
use Rattle.std.proofs.lemmas.List.{get_or-set_same, get_or-set_other, ext_get_or, length-map, get_or-map, length-set, length_push, append-nil}
use Rattle.std.proofs.lemmas.List.FromFn.{length-map-range_with_len, get_or-map-range_with_len, length-range_with_len, get_or-range_with_len}
use Rattle.std.proofs.lemmas.List.Elements.{filter-append}
use Rattle.sgb_info.specs.Private.Forest.{IsForest, climbed, root_of, roots}
use Rattle.sgb_info.specs.Private.Classes.{IsClasses, lowered, united, least_below}
use Rattle.sgb_info.proofs.ClassLemmas.{lowered_same, lowered_else}

-- ---- climbs
climbed_most : (ps : List ℕ) → IsForest ps → (k v : ℕ) → v < length ps → climbed ps k v ≤ v
unfolding climbed
climbed_most ps forest zero v within = omega arith
climbed_most ps forest (suc k) v within =
    let less : get_or ps v 0 ≤ v = forest v within in
    let rest : climbed ps k (get_or ps v 0) ≤ get_or ps v 0 = climbed_most ps forest k (get_or ps v 0) (omega arith) in
    omega (arith, less, rest)

climbed_stays : (ps : List ℕ) (k v : ℕ) → get_or ps v 0 ≡ v → climbed ps k v ≡ v
unfolding climbed
climbed_stays ps zero v root = refl
climbed_stays ps (suc k) v root = ap (climbed ps k) root ∙ climbed_stays ps k v root

climbed_last : (ps : List ℕ) (k v : ℕ) → climbed ps (suc k) v ≡ get_or ps (climbed ps k v) 0
unfolding climbed
climbed_last ps zero v = refl
climbed_last ps (suc k) v = climbed_last ps k (get_or ps v 0)

climbed_ends : (ps : List ℕ) → IsForest ps → (k v : ℕ) → v < length ps → v ≤ k → get_or ps (climbed ps k v) 0 ≡ climbed ps k v
unfolding climbed
climbed_ends ps forest zero v within low = let less : get_or ps v 0 ≤ v = forest v within in omega (arith, less)
climbed_ends ps forest (suc k) v within low =
    let less : get_or ps v 0 ≤ v = forest v within in
    elim (cases_eq (get_or ps v 0) v) [
      | inl root ↦ subst (λ x. get_or ps x 0 ≡ x) (sym (climbed_stays ps (suc k) v root)) root
      | inr other ↦ climbed_ends ps forest k (get_or ps v 0) (omega (arith, less)) (omega (arith, less))
    ]

climbed_enough : (ps : List ℕ) → IsForest ps → (j v : ℕ) → v < length ps → climbed ps (v + j) v ≡ climbed ps v v
climbed_enough ps forest zero v within = let none : v + 0 ≡ v = omega arith in ap (λ k. climbed ps k v) none
climbed_enough ps forest (suc j) v within =
    let one : v + suc j ≡ suc (v + j) = omega arith in
    ap (λ k. climbed ps k v) one
    ∙ (climbed_last ps (v + j) v ∙ (climbed_ends ps forest (v + j) v within (omega arith) ∙ climbed_enough ps forest j v within))

-- ---- roots
pub root_most : (ps : List ℕ) → IsForest ps → (v : ℕ) → v < length ps → root_of ps v ≤ v
unfolding root_of
root_most ps forest v within = climbed_most ps forest v v within

pub root_itself : (ps : List ℕ) (v : ℕ) → get_or ps v 0 ≡ v → root_of ps v ≡ v
unfolding root_of
root_itself ps v root = climbed_stays ps v v root

pub root_ends : (ps : List ℕ) → IsForest ps → (v : ℕ) → v < length ps → get_or ps (root_of ps v) 0 ≡ root_of ps v
unfolding root_of
root_ends ps forest v within = climbed_ends ps forest v v within (omega arith)

-- a parent has the same root
pub root_step : (ps : List ℕ) → IsForest ps → (v : ℕ) → v < length ps → root_of ps (get_or ps v 0) ≡ root_of ps v
unfolding root_of climbed
root_step ps forest v within =
    let p = get_or ps v 0 in
    let less : p ≤ v = forest v within in
    let most : p + (v - p) ≡ v = omega (arith, less) in
    let one : v + 1 ≡ suc v = omega arith in
    sym (climbed_enough ps forest (v - p) p (omega (arith, less)))
    ∙ (ap (λ k. climbed ps k p) most
    ∙ (ap (λ k. climbed ps k v) (sym one) ∙ climbed_enough ps forest 1 v within))

pub length_roots : (ps : List ℕ) → length (roots ps) ≡ length ps
unfolding roots
length_roots ps = length-map-range_with_len (root_of ps) 0 (length ps)

pub roots_at : (ps : List ℕ) (v : ℕ) → v < length ps → get_or (roots ps) v 0 ≡ root_of ps v
unfolding roots
roots_at ps v within = get_or-map-range_with_len (root_of ps) 0 (length ps) v v 0 within (omega arith)

-- what each number shares with its parent, and a root has of itself, is its root
along : (ps : List ℕ) → IsForest ps → (f : ℕ → ℕ) → ((v : ℕ) → v < length ps → f (get_or ps v 0) ≡ f v) → (k v : ℕ) → v < length ps → f (climbed ps k v) ≡ f v
unfolding climbed
along ps forest f steps zero v within = refl
along ps forest f steps (suc k) v within =
    let less : get_or ps v 0 ≤ v = forest v within in
    along ps forest f steps k (get_or ps v 0) (omega (arith, less)) ∙ steps v within

pub roots_by : (ps : List ℕ) → IsForest ps → (rs : List ℕ) → length rs ≡ length ps
    → ((v : ℕ) → v < length ps → get_or rs (get_or ps v 0) 0 ≡ get_or rs v 0)
    → ((v : ℕ) → v < length ps → get_or ps v 0 ≡ v → get_or rs v 0 ≡ v)
    → roots ps ≡ rs
unfolding root_of
roots_by ps forest rs long steps ends =
    ext_get_or 0 (roots ps) rs (length_roots ps ∙ sym long) (λ v lt.
    let within : v < length ps = omega (arith, length_roots ps) in
    let root = root_of ps v in
    let most : root ≤ v = root_most ps forest v within in
    roots_at ps v within
    ∙ (sym (ends root (omega (arith, most)) (root_ends ps forest v within))
    ∙ along ps forest (λ x. get_or rs x 0) steps v v within))

-- ---- the classes that a forest shows
pub classes_of : (ps : List ℕ) → IsForest ps → IsClasses (roots ps)
classes_of ps forest = record {
  least = λ v lt. let within : v < length ps = omega (arith, length_roots ps) in subst (λ x. x ≤ v) (sym (roots_at ps v within)) (root_most ps forest v within);
  itself = λ v lt.
      let within : v < length ps = omega (arith, length_roots ps) in
      let most : root_of ps v ≤ v = root_most ps forest v within in
      ap (λ x. get_or (roots ps) x 0) (roots_at ps v within)
      ∙ (roots_at ps (root_of ps v) (omega (arith, most))
      ∙ (root_itself ps (root_of ps v) (root_ends ps forest v within) ∙ sym (roots_at ps v within)));
}

-- ---- a number gets the parent of its parent
parent_root : (ps : List ℕ) → IsForest ps → (v : ℕ) → v < length ps → get_or (roots ps) (get_or ps v 0) 0 ≡ get_or (roots ps) v 0
parent_root ps forest v within =
    let less : get_or ps v 0 ≤ v = forest v within in
    roots_at ps (get_or ps v 0) (omega (arith, less)) ∙ (root_step ps forest v within ∙ sym (roots_at ps v within))

pub grand_root : (ps : List ℕ) → IsForest ps → (v : ℕ) → v < length ps → get_or (roots ps) (get_or ps (get_or ps v 0) 0) 0 ≡ get_or (roots ps) v 0
grand_root ps forest v within =
    let less : get_or ps v 0 ≤ v = forest v within in
    parent_root ps forest (get_or ps v 0) (omega (arith, less)) ∙ parent_root ps forest v within

-- a number gets a smaller parent
pub forest_set : (ps : List ℕ) → IsForest ps → (v p : ℕ) → v < length ps → p ≤ v → IsForest (set ps v p)
forest_set ps forest v p within low w lt =
    let w_within : w < length ps = omega (arith, length-set ps v p) in
    elim (cases_eq w v) [
      | inl same ↦ subst (λ x. get_or (set ps v p) x 0 ≤ x) (sym same) (subst (λ x. x ≤ v) (sym (get_or-set_same ps v p 0 within)) low)
      | inr other ↦ subst (λ x. x ≤ w) (sym (get_or-set_other ps v w p 0 other)) (forest w w_within)
    ]

pub grand_most : (ps : List ℕ) → IsForest ps → (v : ℕ) → v < length ps → get_or ps (get_or ps v 0) 0 ≤ get_or ps v 0
grand_most ps forest v within =
    let less : get_or ps v 0 ≤ v = forest v within in
    forest (get_or ps v 0) (omega (arith, less))

pub roots_halved : (ps : List ℕ) → IsForest ps → (v : ℕ) → v < length ps → roots (set ps v (get_or ps (get_or ps v 0) 0)) ≡ roots ps
roots_halved ps forest v within =
    let g = get_or ps (get_or ps v 0) 0 in
    let less : get_or ps v 0 ≤ v = forest v within in
    let still : g ≤ get_or ps v 0 = grand_most ps forest v within in
    let long = length-set ps v g in
    roots_by (set ps v g) (forest_set ps forest v g within (omega (arith, less, still))) (roots ps) (length_roots ps ∙ sym long)
    (λ w lt. elim (cases_eq w v) [
      | inl same ↦ subst (λ x. get_or (roots ps) (get_or (set ps v g) x 0) 0 ≡ get_or (roots ps) x 0) (sym same)
          (ap (λ x. get_or (roots ps) x 0) (get_or-set_same ps v g 0 within) ∙ grand_root ps forest v within)
      | inr other ↦ ap (λ x. get_or (roots ps) x 0) (get_or-set_other ps v w g 0 other) ∙ parent_root ps forest w (omega (arith, long))
    ])
    (λ w lt itself. elim (cases_eq w v) [
      | inl same ↦
          let here : g ≡ v = sym (get_or-set_same ps v g 0 within) ∙ subst (λ x. get_or (set ps v g) x 0 ≡ x) same itself in
          let root : get_or ps v 0 ≡ v = omega (arith, less, still, here) in
          subst (λ x. get_or (roots ps) x 0 ≡ x) (sym same) (roots_at ps v within ∙ root_itself ps v root)
      | inr other ↦ roots_at ps w (omega (arith, long)) ∙ root_itself ps w (sym (get_or-set_other ps v w g 0 other) ∙ itself)
    ])

-- ---- the larger of two roots gets the smaller as its parent
pub roots_linked : (ps : List ℕ) → IsForest ps → (x y : ℕ) → x < length ps → y < length ps → get_or ps x 0 ≡ x → get_or ps y 0 ≡ y
    → roots (set ps (max x y) (min x y)) ≡ map (lowered x y) (roots ps)
roots_linked ps forest x y x_within y_within x_root y_root =
    let high = max x y in
    let low = min x y in
    let ms = map (lowered x y) (roots ps) in
    let within : high < length ps = omega arith in
    let low_within : low < length ps = omega arith in
    let high_root : root_of ps high ≡ high = root_itself ps high (picked x y high (larger x y) x_root y_root) in
    let low_root : root_of ps low ≡ low = root_itself ps low (picked x y low (smaller x y) x_root y_root) in
    let long = length-set ps high low in
    let shown : (w : ℕ) → w < length ps → get_or ms w 0 ≡ lowered x y (root_of ps w) = λ w lt. get_or-map (lowered x y) (roots ps) w 0 0 (omega (arith, length_roots ps)) ∙ ap (lowered x y) (roots_at ps w lt) in
    let at_low : get_or ms low 0 ≡ low = shown low low_within ∙ (ap (lowered x y) low_root ∙ lowest x y) in
    let at_high : get_or ms high 0 ≡ low = shown high within ∙ (ap (lowered x y) high_root ∙ lowered_same x y high refl) in
    roots_by (set ps high low) (forest_set ps forest high low within (omega arith)) ms (length-map (roots ps) (lowered x y) ∙ (length_roots ps ∙ sym long))
    (λ w lt. let w_within : w < length ps = omega (arith, long) in elim (cases_eq w high) [
      | inl same ↦ subst (λ v. get_or ms (get_or (set ps high low) v 0) 0 ≡ get_or ms v 0) (sym same)
          (ap (λ v. get_or ms v 0) (get_or-set_same ps high low 0 within) ∙ (at_low ∙ sym at_high))
      | inr other ↦
          let less : get_or ps w 0 ≤ w = forest w w_within in
          ap (λ v. get_or ms v 0) (get_or-set_other ps high w low 0 other)
          ∙ (shown (get_or ps w 0) (omega (arith, less)) ∙ (ap (lowered x y) (root_step ps forest w w_within) ∙ sym (shown w w_within)))
    ])
    (λ w lt itself. let w_within : w < length ps = omega (arith, long) in elim (cases_eq w high) [
      | inl same ↦
          let here : low ≡ high = sym (get_or-set_same ps high low 0 within) ∙ subst (λ v. get_or (set ps high low) v 0 ≡ v) same itself in
          subst (λ v. get_or ms v 0 ≡ v) (sym same) (at_high ∙ here)
      | inr other ↦ shown w w_within ∙ (ap (lowered x y) (root_itself ps w (sym (get_or-set_other ps high w low 0 other) ∙ itself)) ∙ lowered_else x y w other)
    ])
  where
    larger : (x y : ℕ) → (max x y ≡ x) ⊎ (max x y ≡ y)
    larger x y = elim (cases_lt x y) [ inl lt ↦ inr (omega arith) | inr le ↦ inl (omega arith) ]

    smaller : (x y : ℕ) → (min x y ≡ x) ⊎ (min x y ≡ y)
    smaller x y = elim (cases_lt x y) [ inl lt ↦ inl (omega arith) | inr le ↦ inr (omega arith) ]

    picked : (x y m : ℕ) → (m ≡ x) ⊎ (m ≡ y) → get_or ps x 0 ≡ x → get_or ps y 0 ≡ y → get_or ps m 0 ≡ m
    picked x y m (inl is) p q = subst (λ v. get_or ps v 0 ≡ v) (sym is) p
    picked x y m (inr is) p q = subst (λ v. get_or ps v 0 ≡ v) (sym is) q

    lowest : (x y : ℕ) → lowered x y (min x y) ≡ min x y
    lowest x y = elim (cases_eq (min x y) (max x y)) [
      | inl is ↦ lowered_same x y (min x y) is
      | inr other ↦ lowered_else x y (min x y) other
    ]

-- ---- what the calls on classes need
pub start_forest : (n : ℕ) → IsForest (range_with_len 0 n)
start_forest n v lt = let within : v < n = omega (arith, length-range_with_len 0 n) in omega (arith, get_or-range_with_len 0 n v 0 within)

pub start_roots : (n : ℕ) → roots (range_with_len 0 n) ≡ range_with_len 0 n
start_roots n = roots_by (range_with_len 0 n) (start_forest n) (range_with_len 0 n) refl
    (λ v lt. let within : v < n = omega (arith, length-range_with_len 0 n) in let is : get_or (range_with_len 0 n) v 0 ≡ v = omega (arith, get_or-range_with_len 0 n v 0 within) in ap (λ x. get_or (range_with_len 0 n) x 0) is)
    (λ v lt itself. itself)

-- the classes of two numbers are joined by their roots
module _ (ps ls : List ℕ) (forest : IsForest ps) (is : roots ps ≡ ls) (a b x y : ℕ) (a_within : a < length ls) (b_within : b < length ls) (x_is : x ≡ get_or ls a 0) (y_is : y ≡ get_or ls b 0) where
  root_at : (v r : ℕ) → v < length ls → r ≡ get_or ls v 0 → (r < length ps) × (get_or ps r 0 ≡ r)
  root_at v r within r_is =
      let long : length ls ≡ length ps = sym (ap length is) ∙ length_roots ps in
      let v_within : v < length ps = omega (arith, long) in
      let root : r ≡ root_of ps v = r_is ∙ (ap (λ l. get_or l v 0) (sym is) ∙ roots_at ps v v_within) in
      let most : root_of ps v ≤ v = root_most ps forest v v_within in
      (omega (arith, root, most), subst (λ q. get_or ps q 0 ≡ q) (sym root) (root_ends ps forest v v_within))

  pub high_within : max x y < length ps
  high_within = let p = (root_at a x a_within x_is).0 in let q = (root_at b y b_within y_is).0 in omega (arith, p, q)

  pub joined_forest : IsForest (set ps (max x y) (min x y))
  joined_forest = forest_set ps forest (max x y) (min x y) high_within (omega arith)

  pub joined_roots : roots (set ps (max x y) (min x y)) ≡ united a b ls
  unfolding united
  joined_roots =
      let p = root_at a x a_within x_is in
      let q = root_at b y b_within y_is in
      roots_linked ps forest x y p.0 q.0 p.1 q.1
      ∙ (ap (map (lowered x y)) is ∙ ap₂ (λ r s. map (lowered r s) ls) x_is y_is)

-- ---- counting
range_last : (a n : ℕ) → range_with_len a (suc n) ≡ range_with_len a n ++ (a + n) ∷ []
range_last a zero = let e : a ≡ a + 0 = omega arith in ap (λ k. k ∷ []) e
range_last a (suc n) = let e : a + 1 + n ≡ a + suc n = omega arith in ap (λ l. a ∷ l) (range_last (a + 1) n ∙ ap (λ k. range_with_len (a + 1) n ++ k ∷ []) e)

pub range_more : (n : ℕ) → range_with_len 0 (n + 1) ≡ range_with_len 0 n ++ n ∷ []
range_more n =
    let one : n + 1 ≡ suc n = omega arith in
    let zeroth : 0 + n ≡ n = omega arith in
    ap (range_with_len 0) one ∙ (range_last 0 n ∙ ap (λ j. range_with_len 0 n ++ j ∷ []) zeroth)

least_more : (ls : List ℕ) (k : ℕ) → least_below ls (k + 1) ≡ least_below ls k ++ filter (λ v. get_or ls v 0 == v) (k ∷ [])
least_more ls k =
    ap (filter (λ v. get_or ls v 0 == v)) (range_more k) ∙ filter-append (λ v. get_or ls v 0 == v) (range_with_len 0 k) (k ∷ [])

pub least_yes : (ps ls : List ℕ) (k : ℕ) → IsForest ps → roots ps ≡ ls → k < length ps → get_or ps k 0 ≡ k → length (least_below ls (k + 1)) ≡ length (least_below ls k) + 1
least_yes ps ls k forest is within root =
    let here : get_or ls k 0 ≡ k = ap (λ l. get_or l k 0) (sym is) ∙ (roots_at ps k within ∙ root_itself ps k root) in
    let one : filter (λ v. get_or ls v 0 == v) (k ∷ []) ≡ k ∷ [] = rw (eq-eqb (get_or ls k 0) k here) refl in
    ap length (least_more ls k) ∙ (ap (λ l. length (least_below ls k ++ l)) one ∙ length_push (least_below ls k) k)

pub least_no : (ps ls : List ℕ) (k : ℕ) → IsForest ps → roots ps ≡ ls → k < length ps → get_or ps k 0 ≢ k → length (least_below ls (k + 1)) ≡ length (least_below ls k)
least_no ps ls k forest is within other =
    let not_here : get_or ls k 0 ≢ k = λ here.
    let root : root_of ps k ≡ k = sym (roots_at ps k within) ∙ (ap (λ l. get_or l k 0) is ∙ here) in
    other (ap (λ v. get_or ps v 0) (sym root) ∙ (root_ends ps forest k within ∙ root)) in
    elim (cases_Bool (get_or ls k 0 == k)) [
      | inl yes_so ↦ absurd (not_here (eqb-true (get_or ls k 0) k yes_so))
      | inr not_so ↦
          let none : filter (λ v. get_or ls v 0 == v) (k ∷ []) ≡ [] = rw not_so refl in
          ap length (least_more ls k) ∙ (ap (λ l. length (least_below ls k ++ l)) none ∙ ap length (append-nil (least_below ls k)))
    ]
