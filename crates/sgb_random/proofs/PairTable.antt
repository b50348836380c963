-- Lemmas on the table of the pairs.
use Rattle.std.proofs.Common.{◌≡◌, ◌≢◌, ◌⊎◌, ◌<◌, ◌≤◌, ◌+◌, ◌==◌, ◌||◌, ℕ, zero, suc, List, [], ◌∷◌, ◌++◌, length, get_or, set, Bool, true, false, cond, inl, inr, refl, sym, ap, ap₂, subst, ◌∙◌, arith}
use Rattle.std.specs.List.{list_any, position_or_len}
use Rattle.std.proofs.lemmas.Bool.{cases_Bool, cases_lt, eq-eqb, ne_eqb}
use Rattle.std.proofs.lemmas.Bool.Decides.{eqb_tells}
use Rattle.std.proofs.lemmas.List.{get_or-set_same, get_or-set_other, get_or_default, get_or_past, set-get_or, length-set}
use Rattle.std.proofs.lemmas.List.Folds.{list_any-append, list_any_at, list_any_none, position_or_len_push}
use Rattle.sgb_random.specs.Private.Table.{first_place, holds, taken, HasRoom, IsFree, IsFull, IsBehind, IsPassed, IsTable, IsFirstOf, IsListed, IsNumbered, IsPlaceOf}

-- ---- what stands in a table
pub held_at : (key : ℕ) (slots : List ℕ) (q : ℕ) → q < length slots → get_or slots q 0 ≡ key + 1 → holds key slots ≡ true
held_at key slots q below is =
    list_any_at (λ slot. key + 1 == slot) slots q 0 below (eq-eqb (key + 1) (get_or slots q 0) (sym is))

pub not_held : (key : ℕ) (slots : List ℕ) → ((q : ℕ) → q < length slots → get_or slots q 0 ≢ key + 1) → holds key slots ≡ false
not_held key slots apart =
    list_any_none (λ slot. key + 1 == slot) slots
    (λ q d below. ne_eqb (key + 1) (get_or slots q d)
    (λ is. apart q below (get_or_default slots q 0 d below ∙ sym is)))

-- ---- the place of a number
absent_at_once : (slots : List ℕ) (key place : ℕ) → IsTable slots → IsFirstOf slots (key + 1) (first_place key (length slots)) place → get_or slots place 0 ≡ 0 → holds key slots ≡ false
absent_at_once slots key place table first free = not_held key slots (λ q below is.
    elim (table.reached key q below is) [
      | inl ahead ↦ elim (cases_lt q place) [
        | inl before ↦ (first.passed q ahead.0 before).1 is
        | inr later ↦ elim (cases_lt place q) [
          | inl beyond ↦ ahead.1 place first.behind beyond free
          | inr other ↦
              let same : q ≡ place = omega arith in
              let wrong : get_or slots place 0 ≡ key + 1 = ap (λ i. get_or slots i 0) (sym same) ∙ is in
              omega (arith, wrong, free)
        ]
      ]
      | inr around ↦ around.0 place first.behind first.below free
    ])

absent_around : (slots : List ℕ) (key place : ℕ) → IsTable slots → IsPassed slots (key + 1) (first_place key (length slots)) (length slots) → IsFirstOf slots (key + 1) 0 place → get_or slots place 0 ≡ 0 → holds key slots ≡ false
absent_around slots key place table passed first free = not_held key slots (λ q below is.
    elim (table.reached key q below is) [
      | inl ahead ↦ (passed q ahead.0 below).1 is
      | inr around ↦ elim (cases_lt q place) [
        | inl before ↦ (first.passed q (omega arith) before).1 is
        | inr later ↦ elim (cases_lt place q) [
          | inl beyond ↦ around.1 place (omega arith) beyond free
          | inr other ↦
              let same : q ≡ place = omega arith in
              let wrong : get_or slots place 0 ≡ key + 1 = ap (λ i. get_or slots i 0) (sym same) ∙ is in
              omega (arith, wrong, free)
        ]
      ]
    ])

pub place_at_once : (slots : List ℕ) (key from place : ℕ) → from ≡ first_place key (length slots) → IsTable slots → IsFirstOf slots (key + 1) from place → IsPlaceOf slots key place
place_at_once slots key from place is table found =
    let first : IsFirstOf slots (key + 1) (first_place key (length slots)) place = subst (λ i. IsFirstOf slots (key + 1) i place) is found in
    record {
      below = first.below;
      here = first.here;
      behind = inl (first.behind, λ i low high. (first.passed i low high).0);
      absent = absent_at_once slots key place table first;
    }

pub place_around : (slots : List ℕ) (key from place : ℕ) → from ≡ first_place key (length slots) → IsTable slots → IsPassed slots (key + 1) from (length slots) → IsFirstOf slots (key + 1) 0 place → IsPlaceOf slots key place
place_around slots key from place is table passed first =
    let all : IsPassed slots (key + 1) (first_place key (length slots)) (length slots) = subst (λ i. IsPassed slots (key + 1) i (length slots)) is passed in
    record {
      below = first.below;
      here = first.here;
      behind = inr ((λ i low high. (all i low high).0), λ i low high. (first.passed i low high).0);
      absent = absent_around slots key place table all first;
    }

-- ---- how many places are taken
pub taken_free : (slots : List ℕ) → IsFree slots → taken slots ≡ 0
unfolding taken
taken_free [] free = refl
taken_free (x ∷ xs) free = rw (eq-eqb x 0 (free 0)) (taken_free xs (λ place. free (suc place)))

taken_full : (slots : List ℕ) → IsFull slots 0 (length slots) → taken slots ≡ length slots
unfolding taken
taken_full [] full = refl
taken_full (x ∷ xs) full =
    rw (ne_eqb x 0 (full 0 (omega arith) (omega arith)))
    (omega (arith, taken_full xs (λ i low high. full (suc i) (omega arith) (omega arith))))

pub has_room : (slots : List ℕ) (slot : ℕ) → HasRoom slots → IsPassed slots slot 0 (length slots) → ⊥
has_room slots slot room passed = omega (arith, room, taken_full slots (λ i low high. (passed i low high).0))

pub taken_put : (slots : List ℕ) (place slot : ℕ) → place < length slots → get_or slots place 0 ≡ 0 → slot ≢ 0 → taken (set slots place slot) ≡ taken slots + 1
unfolding taken
taken_put [] place slot below free some = absurd (omega arith)
taken_put (x ∷ xs) zero slot below free some = rw (eq-eqb x 0 free, ne_eqb slot 0 some) (omega arith)
taken_put (x ∷ xs) (suc place) slot below free some = elim (cases_Bool (x == 0)) [
  | inl is ↦ rw is (taken_put xs place slot (omega arith) free some)
  | inr other ↦ rw other (omega (arith, taken_put xs place slot (omega arith) free some))
]

-- ---- a number that is put at its place
-- it is found there, and the others where they are
module _ (slots : List ℕ) (key place : ℕ) (below : place < length slots) where
  full_put : (from end : ℕ) → IsFull slots from end → IsFull (set slots place (key + 1)) from end
  full_put from end full i low high free = elim (eqb_tells i place) [
    | inl here ↦
        let wrong : key + 1 ≡ 0 = sym (get_or-set_same slots place (key + 1) 0 below) ∙ (ap (λ j. get_or (set slots place (key + 1)) j 0) (sym here.1) ∙ free) in
        omega arith
    | inr other ↦ full i low high (sym (get_or-set_other slots place i (key + 1) 0 other.1) ∙ free)
  ]

  behind_put : (first q : ℕ) → IsBehind slots first q → IsBehind (set slots place (key + 1)) first q
  behind_put first q (inl ahead) = inl (ahead.0, full_put first q ahead.1)
  behind_put first q (inr around) =
      inr (subst (IsFull (set slots place (key + 1)) first) (sym (length-set slots place (key + 1))) (full_put first (length slots) around.0), full_put 0 q around.1)

pub table_put : (slots : List ℕ) (key place : ℕ) → IsTable slots → IsPlaceOf slots key place → IsTable (set slots place (key + 1))
table_put slots key place table is =
    let count : length (set slots place (key + 1)) ≡ length slots = length-set slots place (key + 1) in
    record {
      few = omega (arith, count, table.few);
      reached = λ k q below held.
          subst (λ n. IsBehind (set slots place (key + 1)) (first_place k n) q) (sym count)
          (behind_put slots key place is.below (first_place k (length slots)) q
          (elim (eqb_tells q place) [
            | inl here ↦
                let same : k + 1 ≡ key + 1 = sym held ∙ (ap (λ j. get_or (set slots place (key + 1)) j 0) here.1 ∙ get_or-set_same slots place (key + 1) 0 is.below) in
                let one : k ≡ key = omega arith in
                subst (λ n. IsBehind slots (first_place n (length slots)) q) (sym one)
                (subst (IsBehind slots (first_place key (length slots))) (sym here.1) is.behind)
            | inr other ↦ table.reached k q (omega (arith, below, count)) (sym (get_or-set_other slots place q (key + 1) 0 other.1) ∙ held)
          ]));
    }

or_turned : (a b : Bool) → (a || b) ≡ (b || a)
or_turned true true = refl
or_turned true false = refl
or_turned false true = refl
or_turned false false = refl

or_false : (a : Bool) → (a || false) ≡ a
or_false true = refl
or_false false = refl

or_twice : (a b : Bool) → (a || b) ≡ ((a || b) || a)
or_twice true b = refl
or_twice false true = refl
or_twice false false = refl

or_over : (a b c : Bool) → (a || (b || c)) ≡ ((a || b) || c)
or_over true b c = refl
or_over false b c = refl

more_same : (k key : ℕ) → (k + 1 == key + 1) ≡ (k == key)
more_same k key = elim (eqb_tells k key) [
  | inl same ↦ eq-eqb (k + 1) (key + 1) (ap (λ i. i + 1) same.1) ∙ sym same.0
  | inr other ↦
      let ne : k ≢ key = other.1 in
      ne_eqb (k + 1) (key + 1) (λ same. ne (omega (arith, same))) ∙ sym other.0
]

-- then that number stands in the table too
pub holds_put : (k key : ℕ) (slots : List ℕ) (place : ℕ) → place < length slots → (get_or slots place 0 ≡ 0) ⊎ (get_or slots place 0 ≡ key + 1) → holds k (set slots place (key + 1)) ≡ (holds k slots || (k == key))
holds_put k key [] place below here = absurd (omega arith)
holds_put k key (x ∷ xs) zero below (inl free) =
    let none : (k + 1 == x) ≡ false = ne_eqb (k + 1) x (λ is. let wrong : k + 1 ≡ 0 = is ∙ free in omega arith) in
    or_turned (k + 1 == key + 1) (holds k xs) ∙ ap₂ (λ a b. (a || holds k xs) || b) (sym none) (more_same k key)
holds_put k key (x ∷ xs) zero below (inr old) =
    or_twice (k + 1 == key + 1) (holds k xs) ∙ ap₂ (λ a b. ((k + 1 == a) || holds k xs) || b) (sym old) (more_same k key)
holds_put k key (x ∷ xs) (suc place) below here =
    ap (λ b. (k + 1 == x) || b) (holds_put k key xs place (omega arith) here) ∙ or_over (k + 1 == x) (holds k xs) (k == key)

pub put_again : (key : ℕ) (slots : List ℕ) (place : ℕ) → get_or slots place 0 ≡ key + 1 → set slots place (key + 1) ≡ slots
put_again key slots place is = ap (set slots place) (sym is) ∙ set-get_or slots place 0

-- ---- free places
pub free_holds : (key : ℕ) (slots : List ℕ) → IsFree slots → holds key slots ≡ false
free_holds key slots free =
    not_held key slots (λ q below is. let wrong : 0 ≡ key + 1 = sym (free q) ∙ is in omega arith)

pub free_numbered : (slots numbers keys : List ℕ) → IsFree slots → length numbers ≡ length slots → IsNumbered slots numbers keys
free_numbered slots numbers keys free count = record {
  count = count;
  places = λ key q below is. absurd (let wrong : 0 ≡ key + 1 = sym (free q) ∙ is in omega arith);
}

-- ---- what stands beside a table
within_len : {X : Type 0} (p : X → Bool) (xs : List X) → list_any p xs ≡ true → position_or_len p xs < length xs
within_len p [] any = absurd (let wrong : false ≡ true = any in cc)
within_len p (x ∷ xs) any = elim (cases_Bool (p x)) [
  | inl is ↦ rw is (omega arith)
  | inr other ↦
      let later : list_any p xs ≡ true = sym (ap (λ b. b || list_any p xs) other) ∙ any in
      rw other (omega (arith, within_len p xs later))
]

held_more : {X : Type 0} (p : X → Bool) (xs : List X) (y : X) → list_any p xs ≡ true → position_or_len p (xs ++ y ∷ []) ≡ position_or_len p xs
held_more p xs y any =
    let less = within_len p xs any in
    position_or_len_push p xs y
    ∙ ap (λ b. cond b (length xs + cond (p y) 0 1) (position_or_len p xs)) (ne_eqb (position_or_len p xs) (length xs) (λ same. omega (arith, less, same)))

absent_more : (key : ℕ) (keys : List ℕ) → list_any (λ k. key == k) keys ≡ false → position_or_len (λ k. key == k) (keys ++ key ∷ []) ≡ length keys
absent_more key [] none = rw (eq-eqb key key refl) refl
absent_more key (x ∷ xs) none = elim (cases_Bool (key == x)) [
  | inl is ↦ absurd (let wrong : true ≡ false = sym (ap (λ b. b || list_any (λ k. key == k) xs) is) ∙ none in cc)
  | inr other ↦
      let later : list_any (λ k. key == k) xs ≡ false = sym (ap (λ b. b || list_any (λ k. key == k) xs) other) ∙ none in
      rw other (omega (arith, absent_more key xs later))
]

-- a new number with the place of its insertion, which is the last
pub numbered_put : (slots numbers keys : List ℕ) (key place : ℕ) → ((k : ℕ) → holds k slots ≡ list_any (λ i. k == i) keys) → IsNumbered slots numbers keys → place < length slots → holds key slots ≡ false → IsNumbered (set slots place (key + 1)) (set numbers place (length keys)) (keys ++ key ∷ [])
numbered_put slots numbers keys key place same numbered below absent = record {
  count = length-set numbers place (length keys) ∙ (numbered.count ∙ sym (length-set slots place (key + 1)));
  places = λ k q low is. elim (eqb_tells q place) [
    | inl here ↦
        let one : k + 1 ≡ key + 1 = sym is ∙ (ap (λ j. get_or (set slots place (key + 1)) j 0) here.1 ∙ get_or-set_same slots place (key + 1) 0 below) in
        let k_is : k ≡ key = omega arith in
        ap (λ j. get_or (set numbers place (length keys)) j 0) here.1
        ∙ (get_or-set_same numbers place (length keys) 0 (omega (arith, below, numbered.count))
        ∙ (sym (absent_more key keys (sym (same key) ∙ absent)) ∙ ap (λ n. position_or_len (λ i. n == i) (keys ++ key ∷ [])) (sym k_is)))
    | inr other ↦
        let old : get_or slots q 0 ≡ k + 1 = sym (get_or-set_other slots place q (key + 1) 0 other.1) ∙ is in
        let within : q < length slots = omega (arith, low, length-set slots place (key + 1)) in
        get_or-set_other numbers place q (length keys) 0 other.1
        ∙ (numbered.places k q within old ∙ sym (held_more (λ i. k == i) keys key (sym (same k) ∙ held_at k slots q within old)))
  ];
}

pub holds_more : (k key : ℕ) (slots keys : List ℕ) (place : ℕ) → holds k slots ≡ list_any (λ i. k == i) keys → place < length slots → get_or slots place 0 ≡ 0 → holds k (set slots place (key + 1)) ≡ list_any (λ i. k == i) (keys ++ key ∷ [])
holds_more k key slots keys place same below free =
    holds_put k key slots place below (inl free)
    ∙ (ap₂ (λ a b. a || b) same (sym (or_false (k == key))) ∙ sym (list_any-append (λ i. k == i) keys (key ∷ [])))

listed_at : (slots numbers keys : List ℕ) → ((k : ℕ) → holds k slots ≡ list_any (λ i. k == i) keys) → IsNumbered slots numbers keys → (q slot : ℕ) → slot ≢ 0 → q < length slots → get_or slots q 0 ≡ slot → get_or numbers q 0 < length keys
listed_at slots numbers keys same numbered q zero taken within is = absurd (taken refl)
listed_at slots numbers keys same numbered q (suc k) taken within is =
    let held : get_or slots q 0 ≡ k + 1 = omega (arith, is) in
    omega (arith, numbered.places k q within held, within_len (λ i. k == i) keys (sym (same k) ∙ held_at k slots q within held))

-- beside each number stands a place of the list
pub listed_by : (slots numbers keys : List ℕ) → ((k : ℕ) → holds k slots ≡ list_any (λ i. k == i) keys) → IsNumbered slots numbers keys → length keys ≤ 1000000 → IsListed slots numbers (length keys)
listed_by slots numbers keys same numbered few = record {
  count = numbered.count;
  few = few;
  below = λ q taken. elim (cases_lt q (length slots)) [
    | inr beyond ↦ absurd (taken (get_or_past slots q 0 beyond))
    | inl within ↦ listed_at slots numbers keys same numbered q (get_or slots q 0) taken within refl
  ];
}
