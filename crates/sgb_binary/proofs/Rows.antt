-- Lemmas on rows of trees: heights that are read from the right, and budgets that are kept from the left.
use Rattle.std.proofs.Common.{◌≡◌, ◌<◌, ◌≤◌, ◌+◌, ◌-◌, ◌*◌, ◌^◌, ◌==◌, ◌&&◌, ℕ, zero, suc, List, [], ◌∷◌, ◌++◌, length, map, max, min, get_or, nat_le, nat_lt, Option, None, Some, Bool, true, false, All, if◌then◌else◌, ◌⊎◌, inl, inr, refl, sym, ap, ap₂, ◌∙◌, arith, pow_mono}
use Rattle.std.specs.List.{filter}
use Rattle.std.specs.Option.{option_map, option_and_then}
use Rattle.std.proofs.lemmas.Bool.{cases_Bool, lt-ltb, le-leb, ltb-true, ltb-false, leb-true, leb-false}
use Rattle.std.proofs.lemmas.List.Elements.{filter-append, filter_agree, All-nil, All-append, All-map, All-cons}
use Rattle.std.proofs.lemmas.List.Sums.{sum_by-cons}
use Rattle.std.proofs.lemmas.Nat.{pow_pos}
use Rattle.sgb_plan.proofs.Lists.{filter_none, filter-map}
use Rattle.sgb_binary.specs.Tree.{words, joined, heights, is_one_low, is_low_tree, trees}
use Rattle.sgb_binary.specs.Private.Listing.{fits, rows, dotted_rows, leaf_rows, room, rooms, letters_left}

-- ---- heights and budgets
-- as many heights as budgets, and none above its budget
abbrev are_low : List ℕ → List ℕ → Bool
are_low [] [] = true
are_low [] (h ∷ hs) = false
are_low (b ∷ bs) [] = false
are_low (b ∷ bs) (h ∷ hs) = nat_le h b && are_low bs hs

abbrev within : List ℕ → Option (List ℕ) → Bool
within bs None = false
within bs (Some hs) = are_low bs hs

and_false : (t : Bool) → (t && false) ≡ false
and_false true = refl
and_false false = refl

and_true : (t : Bool) → (t && true) ≡ t
and_true true = refl
and_true false = refl

both_low : (x y b : ℕ) (r : Bool) → (nat_lt 0 b && (nat_le x (b - 1) && (nat_le y (b - 1) && r))) ≡ (nat_le (1 + max x y) b && r)
both_low x y b r =
    elim (cases_Bool (nat_le (1 + max x y) b)) [
      | inl low ↦
          let below : 1 + max x y ≤ b = leb-true (1 + max x y) b low in
          rw (low, lt-ltb 0 b (omega arith), le-leb x (b - 1) (omega arith), le-leb y (b - 1) (omega arith)) refl
      | inr high ↦
          let above : b < 1 + max x y = leb-false (1 + max x y) b high in
          elim (cases_Bool (nat_lt 0 b)) [
            | inr none ↦ rw (high, none) refl
            | inl some ↦ elim (cases_Bool (nat_le x (b - 1))) [
              | inr first ↦ rw (high, some, first) refl
              | inl first ↦ elim (cases_Bool (nat_le y (b - 1))) [
                | inr second ↦ rw (high, some, first, second) refl
                | inl second ↦ absurd (omega (arith, ltb-true 0 b some, leb-true x (b - 1) first, leb-true y (b - 1) second))
              ]
            ]
          ]
    ]

joined_within : (b : ℕ) (bs : List ℕ) (o : Option (List ℕ)) → (nat_lt 0 b && within ((b - 1) ∷ ((b - 1) ∷ bs)) o) ≡ within (b ∷ bs) (option_and_then joined o)
joined_within b bs None = and_false (nat_lt 0 b)
joined_within b bs (Some []) = and_false (nat_lt 0 b)
joined_within b bs (Some (x ∷ [])) = ap (λ t. nat_lt 0 b && t) (and_false (nat_le x (b - 1))) ∙ and_false (nat_lt 0 b)
joined_within b bs (Some (x ∷ (y ∷ hs))) = both_low x y b (are_low bs hs)

leaf_within : (b : ℕ) (bs : List ℕ) (o : Option (List ℕ)) → within bs o ≡ within (b ∷ bs) (option_map (λ hs. 0 ∷ hs) o)
leaf_within b bs None = refl
leaf_within b bs (Some hs) = rw (le-leb 0 b (omega arith)) refl

joined_none : (o : Option (List ℕ)) → false ≡ within [] (option_and_then joined o)
joined_none None = refl
joined_none (Some []) = refl
joined_none (Some (x ∷ [])) = refl
joined_none (Some (x ∷ (y ∷ hs))) = refl

leaf_none : (o : Option (List ℕ)) → false ≡ within [] (option_map (λ hs. 0 ∷ hs) o)
leaf_none None = refl
leaf_none (Some hs) = refl

fits_is : (w bs : List ℕ) → fits bs w ≡ within bs (heights w)
unfolding fits heights
fits_is [] [] = refl
fits_is [] (b ∷ bs) = refl
fits_is (c ∷ w) [] =
    elim (cases_Bool (c == 46)) [
      | inl dot ↦ rw dot (joined_none (heights w))
      | inr leaf ↦ rw leaf (leaf_none (heights w))
    ]
fits_is (c ∷ w) (b ∷ bs) =
    elim (cases_Bool (c == 46)) [
      | inl dot ↦ rw dot (ap (λ t. nat_lt 0 b && t) (fits_is w ((b - 1) ∷ ((b - 1) ∷ bs))) ∙ joined_within b bs (heights w))
      | inr leaf ↦ rw leaf (fits_is w bs ∙ leaf_within b bs (heights w))
    ]

one_low : (most : ℕ) (o : Option (List ℕ)) → is_one_low most o ≡ within (most ∷ []) o
one_low most None = refl
one_low most (Some []) = refl
one_low most (Some (h ∷ [])) = sym (and_true (nat_le h most))
one_low most (Some (h ∷ (k ∷ hs))) = sym (and_false (nat_le h most))

pub trees_are : (n most : ℕ) → trees n most ≡ rows (2 * n + 1) (most ∷ [])
unfolding trees rows is_low_tree
trees_are n most = filter_agree (is_low_tree most) (fits (most ∷ [])) (λ w. one_low most (heights w) ∙ sym (fits_is w (most ∷ []))) (words (2 * n + 1))

-- ---- rows by their first letter
pub rows_end : rows 0 [] ≡ [] ∷ []
unfolding rows words fits
rows_end = refl

pub rows_more : (m b : ℕ) (bs : List ℕ) → rows (suc m) (b ∷ bs) ≡ dotted_rows m b bs ++ leaf_rows m bs
unfolding rows words fits dotted_rows
rows_more m b bs =
    let dots : filter (fits (b ∷ bs)) (map (λ w. 46 ∷ w) (words m)) ≡ dotted_rows m b bs =
    filter-map (fits (b ∷ bs)) (λ w. 46 ∷ w) (words m)
    ∙ elim (cases_Bool (nat_lt 0 b)) as (λ _. map (λ w. 46 ∷ w) (filter (λ w. nat_lt 0 b && fits ((b - 1) ∷ ((b - 1) ∷ bs)) w) (words m)) ≡ dotted_rows m b bs) [
      | inl some ↦ rw some refl
      | inr none ↦ rw none (ap (map (λ w. 46 ∷ w)) (filter_none (λ w. false) (words m) (λ k d h. refl)))
    ] in
    filter-append (fits (b ∷ bs)) (map (λ w. 46 ∷ w) (words m)) (map (λ w. 120 ∷ w) (words m))
    ∙ ap₂ (λ xs ys. xs ++ ys) dots (filter-map (fits (b ∷ bs)) (λ w. 120 ∷ w) (words m))

-- ---- letters and dots
pub words_length : (m : ℕ) → All (λ w. length w ≡ m) (words m)
unfolding words
words_length zero = All-cons (λ w. length w ≡ 0) [] [] refl (All-nil (λ w. length w ≡ 0))
words_length (suc m) =
    All-append (λ w. length w ≡ suc m) (map (λ w. 46 ∷ w) (words m)) (map (λ w. 120 ∷ w) (words m))
    (All-map (λ w. length w ≡ suc m) (λ w. 46 ∷ w) (words m) (λ k d h. ap suc (words_length m k d h)))
    (All-map (λ w. length w ≡ suc m) (λ w. 120 ∷ w) (words m) (λ k d h. ap suc (words_length m k d h)))

abbrev dots_in : List ℕ → ℕ
dots_in [] = 0
dots_in (c ∷ w) = if c == 46 then 1 + dots_in w else dots_in w

fits_length : (w bs : List ℕ) → fits bs w ≡ true → length w ≡ 2 * dots_in w + length bs
unfolding fits
fits_length [] [] fit = refl
fits_length [] (b ∷ bs) fit = absurd (let no : false ≡ true = fit in cc)
fits_length (c ∷ w) [] fit = absurd (let no : false ≡ true = fit in cc)
fits_length (c ∷ w) (b ∷ bs) fit =
    elim (cases_Bool (c == 46)) [
      | inl dot ↦
          let both = rw dot at fit in
          elim (cases_Bool (nat_lt 0 b)) [
            | inl some ↦ let rest = rw some at both in rw (dot, dots_in) (omega (arith, fits_length w ((b - 1) ∷ ((b - 1) ∷ bs)) rest))
            | inr none ↦ absurd (let no : false ≡ true = rw none at both in cc)
          ]
      | inr leaf ↦ let rest = rw leaf at fit in rw (leaf, dots_in) (omega (arith, fits_length w bs rest))
    ]

-- ---- room
pub room_more : (b : ℕ) → 0 < b → (room b ≡ 127) ⊎ (room b ≡ 2 * room (b - 1) + 1)
unfolding room
room_more zero h = absurd (omega arith)
room_more (suc b) h =
    elim (cases_Bool (nat_lt b 7)) [
      | inl low ↦
          let below : b < 7 = ltb-true b 7 low in
          let one : min (suc b) 7 ≡ suc b = omega arith in
          let other : min (suc b - 1) 7 ≡ b = omega arith in
          let some : 0 < 2 ^ b = pow_pos b in
          let double : 2 ^ suc b ≡ 2 * 2 ^ b = omega arith in
          inr (rw (one, other) (omega (arith, some, double)))
      | inr high ↦
          let above : 7 ≤ b = ltb-false b 7 high in
          let most : min (suc b) 7 ≡ 7 = omega arith in
          inl (rw most refl)
    ]

pub room_double : (b : ℕ) → 0 < b → room b ≤ 2 * room (b - 1) + 1
unfolding room
room_double zero h = absurd (omega arith)
room_double (suc b) h =
    let same : suc b - 1 ≡ b = omega arith in
    let next : min (suc b) 7 ≤ suc (min b 7) = omega arith in
    let more : 2 ^ min (suc b) 7 ≤ 2 ^ suc (min b 7) = pow_mono next in
    let double : 2 ^ suc (min b 7) ≡ 2 * 2 ^ min b 7 = omega arith in
    let some : 0 < 2 ^ min b 7 = pow_pos (min b 7) in
    rw same (omega (arith, more, double, some))

pub rooms-cons : (b : ℕ) (bs : List ℕ) → rooms (b ∷ bs) ≡ room b + rooms bs
unfolding rooms
rooms-cons b bs = sum_by-cons room b bs

pub rooms-nil : rooms [] ≡ 0
unfolding rooms
rooms-nil = refl

pub power_few : (b : ℕ) → 2 ^ min b 7 ≤ 128
power_few b =
    let less : min b 7 ≤ 7 = omega arith in
    pow_mono less

pub room_few : (b : ℕ) → room b ≤ 127
unfolding room
room_few b = omega (arith, power_few b)

pub rooms_few : (bs : List ℕ) → rooms bs ≤ 127 * length bs
rooms_few [] = omega (arith, rooms-nil)
rooms_few (b ∷ bs) = omega (arith, rooms-cons b bs, room_few b, rooms_few bs)

fits_rooms : (w bs : List ℕ) → fits bs w ≡ true → dots_in w ≤ 127 → dots_in w ≤ rooms bs
unfolding fits
fits_rooms [] [] fit few = omega arith
fits_rooms [] (b ∷ bs) fit few = omega arith
fits_rooms (c ∷ w) [] fit few = absurd (let no : false ≡ true = fit in cc)
fits_rooms (c ∷ w) (b ∷ bs) fit few =
    elim (cases_Bool (c == 46)) [
      | inl dot ↦
          let both = rw dot at fit in
          let fewer : 1 + dots_in w ≤ 127 = rw (dot, dots_in) at few in
          elim (cases_Bool (nat_lt 0 b)) [
            | inl some ↦
                let rest = rw some at both in
                let inside : dots_in w ≤ rooms ((b - 1) ∷ ((b - 1) ∷ bs)) = fits_rooms w ((b - 1) ∷ ((b - 1) ∷ bs)) rest (omega arith) in
                let all : rooms ((b - 1) ∷ ((b - 1) ∷ bs)) ≡ room (b - 1) + (room (b - 1) + rooms bs) =
                rooms-cons (b - 1) ((b - 1) ∷ bs) ∙ ap (λ k. room (b - 1) + k) (rooms-cons (b - 1) bs) in
                elim (room_more b (ltb-true 0 b some)) [
                  | inl most ↦ rw (dot, dots_in) (omega (arith, fewer, most, rooms-cons b bs))
                  | inr double ↦ rw (dot, dots_in) (omega (arith, inside, all, double, rooms-cons b bs))
                ]
            | inr none ↦ absurd (let no : false ≡ true = rw none at both in cc)
          ]
      | inr leaf ↦
          let rest = rw leaf at fit in
          let same : dots_in w ≤ 127 = rw (leaf, dots_in) at few in
          rw (leaf, dots_in) (omega (arith, fits_rooms w bs rest same, rooms-cons b bs))
    ]

-- ---- where there are none
none_fit : (m : ℕ) (bs : List ℕ) → ((w : List ℕ) → length w ≡ m → fits bs w ≡ true → ⊥) → rows m bs ≡ []
unfolding rows
none_fit m bs never =
    filter_none (fits bs) (words m)
    (λ k d h.
    elim (cases_Bool (fits bs (get_or (words m) k d))) [
      | inl fit ↦ absurd (never (get_or (words m) k d) (words_length m k d h) fit)
      | inr none ↦ none
    ])

pub rows_none : (d : ℕ) (bs : List ℕ) → rooms bs < d → d ≤ 127 → rows (letters_left d bs) bs ≡ []
rows_none d bs little few =
    none_fit (letters_left d bs) bs
    (λ w long fit.
    let dots : 2 * dots_in w + length bs ≡ 2 * d + length bs = sym (fits_length w bs fit) ∙ long in
    let same : dots_in w ≡ d = omega arith in
    let inside : dots_in w ≤ rooms bs = fits_rooms w bs fit (omega arith) in
    omega arith)

pub dotted_none : (b : ℕ) (bs : List ℕ) → dotted_rows (letters_left 0 bs) b bs ≡ []
unfolding dotted_rows
dotted_none b bs =
    let short : rows (letters_left 0 bs) ((b - 1) ∷ ((b - 1) ∷ bs)) ≡ [] =
    none_fit (letters_left 0 bs) ((b - 1) ∷ ((b - 1) ∷ bs))
    (λ w long fit. let all = fits_length w ((b - 1) ∷ ((b - 1) ∷ bs)) fit in omega (arith, all)) in
    elim (cases_Bool (nat_lt 0 b)) [
      | inl some ↦ rw (some, short) refl
      | inr none ↦ rw none refl
    ]

pub dotted_low : (m : ℕ) (bs : List ℕ) → dotted_rows m 0 bs ≡ []
unfolding dotted_rows
dotted_low m bs = refl

pub dotted_some : (m b : ℕ) (bs : List ℕ) → 0 < b → dotted_rows m b bs ≡ map (λ w. 46 ∷ w) (rows m ((b - 1) ∷ ((b - 1) ∷ bs)))
unfolding dotted_rows
dotted_some m b bs some = rw (lt-ltb 0 b some) refl
