-- Lemmas on insertions of which each pair of ends keeps the first, with the least length.
use Rattle.std.proofs.Common.{◌≡◌, ◌≢◌, ◌==◌, ℤ, List, [], ◌∷◌, ◌++◌, map, fold, Bool, true, false, not, cond, ◌&&◌, int_lt, All, inl, inr, refl, sym, ap, ap₂, ◌∙◌}
use Rattle.std.specs.Int.{int_min}
use Rattle.std.specs.List.{filter, list_any}
use Rattle.std.proofs.lemmas.Bool.{cases_Bool, eqb-true, eq-eqb}
use Rattle.std.proofs.lemmas.List.Elements.{All-cons, All-filter, All-head, All-nil, All-tail}
use Rattle.std.proofs.lemmas.Map.Views.{any-filter_same}
use Rattle.sgb_graph.specs.Builder.{Insertion, insertion}
use Rattle.sgb_plan.specs.Distinct.{Distinct}
use Rattle.sgb_plan.proofs.Distincts.{Distinct-head, Distinct-tail}
use Rattle.sgb_induced.specs.Least.{add_or_lower, first_end, last_end, lowered, same_ends}

-- ---- ends
-- two insertions have the same ends
pub record Joined (d : Bool) (e f : Insertion) : Type 0 where
  pub first : first_end d e ≡ first_end d f
  pub last : last_end d e ≡ last_end d f

pub joined_from : (d : Bool) (e f : Insertion) → same_ends d e f ≡ true → Joined d e f
joined_from d e f is =
    elim (cases_Bool (first_end d e == first_end d f)) [
      | inl same ↦ (let rest : (last_end d e == last_end d f) ≡ true = rw same at is in record { first = eqb-true (first_end d e) (first_end d f) same; last = eqb-true (last_end d e) (last_end d f) rest })
      | inr other ↦ absurd (let wrong : false ≡ true = rw other at is in cc)
    ]

pub same_from : (d : Bool) (e f : Insertion) → Joined d e f → same_ends d e f ≡ true
same_from d e f j = rw (eq-eqb (first_end d e) (first_end d f) j.first, eq-eqb (last_end d e) (last_end d f) j.last) refl

-- the ends decide alike
pub same_left : (d : Bool) (e f h : Insertion) → same_ends d e f ≡ true → same_ends d e h ≡ same_ends d f h
same_left d e f h is =
    let j = joined_from d e f is in
    ap₂ (λ a b. (a == first_end d h) && (b == last_end d h)) j.first j.last

pub same_swap : (d : Bool) (e f : Insertion) → same_ends d e f ≡ true → same_ends d f e ≡ true
same_swap d e f is =
    let j = joined_from d e f is in
    same_from d f e (record { first = sym j.first; last = sym j.last })

-- ---- one insertion
pub add_past : (d : Bool) (xs ys : List Insertion) (e : Insertion) → All (λ x. same_ends d x e ≡ false) xs → add_or_lower d (xs ++ ys) e ≡ xs ++ add_or_lower d ys e
unfolding add_or_lower
add_past d [] ys e apart = refl
add_past d (x ∷ xs) ys e apart =
    let first : same_ends d x e ≡ false = All-head (λ x. same_ends d x e ≡ false) x xs apart in
    rw first (ap (λ zs. x ∷ zs) (add_past d xs ys e (All-tail (λ x. same_ends d x e ≡ false) x xs apart)))

-- ---- insertions that meet none of those before
pub fold_past : (d : Bool) (xs ys es : List Insertion) → All (λ e. All (λ x. same_ends d x e ≡ false) xs) es → fold (add_or_lower d) (xs ++ ys) es ≡ xs ++ fold (add_or_lower d) ys es
fold_past d xs ys [] apart = refl
fold_past d xs ys (e ∷ es) apart =
    let one = add_past d xs ys e (All-head (λ e. All (λ x. same_ends d x e ≡ false) xs) e es apart) in
    ap (λ zs. fold (add_or_lower d) zs es) one ∙ fold_past d xs (add_or_lower d ys e) es (All-tail (λ e. All (λ x. same_ends d x e ≡ false) xs) e es apart)

-- what becomes of the first element, and of the others
pub bucket : (d : Bool) (x : Insertion) (ys es : List Insertion) → fold (add_or_lower d) (x ∷ ys) es ≡ fold lowered x (filter (same_ends d x) es) ∷ fold (add_or_lower d) ys (filter (λ e. not (same_ends d x e)) es)
unfolding add_or_lower
bucket d x ys [] = refl
bucket d x ys (e ∷ es) =
    elim (cases_Bool (same_ends d x e)) [
      | inl same ↦ rw same (bucket d (lowered x e) ys es)
      | inr other ↦ rw other (bucket d x (add_or_lower d ys e) es)
    ]

-- ---- insertions that differ from one another stay as they are
all_apart : (d : Bool) (x : Insertion) (es : List Insertion) → All (λ e. same_ends d x e ≡ false) es → filter (same_ends d x) es ≡ []
all_apart d x [] apart = refl
all_apart d x (e ∷ es) apart =
    rw (All-head (λ e. same_ends d x e ≡ false) e es apart) (all_apart d x es (All-tail (λ e. same_ends d x e ≡ false) e es apart))

all_left : (d : Bool) (x : Insertion) (es : List Insertion) → All (λ e. same_ends d x e ≡ false) es → filter (λ e. not (same_ends d x e)) es ≡ es
all_left d x [] apart = refl
all_left d x (e ∷ es) apart =
    rw (All-head (λ e. same_ends d x e ≡ false) e es apart) (ap (λ zs. e ∷ zs) (all_left d x es (All-tail (λ e. same_ends d x e ≡ false) e es apart)))

others_apart_by : (d : Bool) (P : Insertion → Type 0) (e : Insertion) (es : List Insertion) → ((e f : Insertion) → P e → P f → same_ends d e f ≡ true → e ≡ f) → P e → All P es → All (λ f. e ≢ f) es → All (λ f. same_ends d e f ≡ false) es
others_apart_by d P e [] tell one kind other = All-nil (λ f. same_ends d e f ≡ false)
others_apart_by d P e (f ∷ fs) tell one kind other =
    All-cons (λ f. same_ends d e f ≡ false) f fs
    (elim (cases_Bool (same_ends d e f)) [
      | inl same ↦ absurd (All-head (λ f. e ≢ f) f fs other (tell e f one (All-head P f fs kind) same))
      | inr apart ↦ apart
    ])
    (others_apart_by d P e fs tell one (All-tail P f fs kind) (All-tail (λ f. e ≢ f) f fs other))

pub others_apart : (d : Bool) (P : Insertion → Type 0) (e : Insertion) (es : List Insertion) → ((e f : Insertion) → P e → P f → same_ends d e f ≡ true → e ≡ f) → All P (e ∷ es) → Distinct (e ∷ es) → All (λ f. same_ends d e f ≡ false) es
others_apart d P e es tell kind distinct = others_apart_by d P e es tell (All-head P e es kind) (All-tail P e es kind) (Distinct-head e es distinct)

-- distinct insertions of a kind that the ends tell apart
pub fold_fresh : (d : Bool) (P : Insertion → Type 0) (es : List Insertion) → ((e f : Insertion) → P e → P f → same_ends d e f ≡ true → e ≡ f) → All P es → Distinct es → fold (add_or_lower d) [] es ≡ es
unfolding add_or_lower
fold_fresh d P [] tell kind distinct = refl
fold_fresh d P (e ∷ es) tell kind distinct =
    let apart = others_apart d P e es tell kind distinct in
    bucket d e [] es ∙ ap₂ (λ ms zs. fold lowered e ms ∷ fold (add_or_lower d) [] zs) (all_apart d e es apart) (all_left d e es apart)
    ∙ ap (λ zs. e ∷ zs) (fold_fresh d P es tell (All-tail P e es kind) (Distinct-tail e es distinct))

-- ---- insertions that meet all of those before
pub min_self : (b : ℤ) (r : Bool) → cond r b b ≡ b
min_self b true = refl
min_self b false = refl

min_twice : (a b : ℤ) → int_min (int_min a b) b ≡ int_min a b
min_twice a b =
    elim (cases_Bool (int_lt b a)) [
      | inl below ↦ (let first : int_min a b ≡ b = ap (λ r. cond r b a) below in
          ap (λ m. int_min m b) first ∙ (min_self b (int_lt b b) ∙ sym first))
      | inr above ↦ (let first : int_min a b ≡ a = ap (λ r. cond r b a) above in
          ap (λ m. int_min m b) first)
    ]

abbrev pub with_least : ℤ → Insertion → Insertion
with_least l x = insertion x.from x.to (int_min x.len l)

lower_more : (l : ℤ) (x : Insertion) (ms : List Insertion) → All (λ m. m.len ≡ l) ms → fold lowered (with_least l x) ms ≡ with_least l x
lower_more l x [] same = refl
lower_more l x (m ∷ ms) same =
    let once : lowered (with_least l x) m ≡ with_least l x = ap (λ k. insertion x.from x.to (int_min (int_min x.len l) k)) (All-head (λ m. m.len ≡ l) m ms same) ∙ ap (insertion x.from x.to) (min_twice x.len l) in
    ap (λ y. fold lowered y ms) once ∙ lower_more l x ms (All-tail (λ m. m.len ≡ l) m ms same)

lower_all : (d : Bool) (l : ℤ) (x : Insertion) (es : List Insertion) → All (λ m. m.len ≡ l) es → list_any (same_ends d x) es ≡ true → fold lowered x (filter (same_ends d x) es) ≡ with_least l x
lower_all d l x [] same met = absurd (let wrong : false ≡ true = met in cc)
lower_all d l x (e ∷ es) same met =
    elim (cases_Bool (same_ends d x e)) [
      | inl here ↦ (let once : lowered x e ≡ with_least l x = ap (λ k. insertion x.from x.to (int_min x.len k)) (All-head (λ m. m.len ≡ l) e es same) in
          rw here (ap (λ y. fold lowered y (filter (same_ends d x) es)) once ∙ lower_more l x (filter (same_ends d x) es) (All-filter (same_ends d x) (λ m. m.len ≡ l) es (All-tail (λ m. m.len ≡ l) e es same))))
      | inr there ↦ (let rest : list_any (same_ends d x) es ≡ true = rw there at met in
          rw there (lower_all d l x es (All-tail (λ m. m.len ≡ l) e es same) rest))
    ]

-- those that meet another element
meet_rest : (d : Bool) (x : Insertion) (xs es : List Insertion) → All (λ e. list_any (λ y. same_ends d y e) (x ∷ xs) ≡ true) es → All (λ e. list_any (λ y. same_ends d y e) xs ≡ true) (filter (λ e. not (same_ends d x e)) es)
meet_rest d x xs [] met = All-nil (λ e. list_any (λ y. same_ends d y e) xs ≡ true)
meet_rest d x xs (e ∷ es) met =
    let rest = meet_rest d x xs es (All-tail (λ e. list_any (λ y. same_ends d y e) (x ∷ xs) ≡ true) e es met) in
    let first : list_any (λ y. same_ends d y e) (x ∷ xs) ≡ true = All-head (λ e. list_any (λ y. same_ends d y e) (x ∷ xs) ≡ true) e es met in
    elim (cases_Bool (same_ends d x e)) [
      | inl here ↦ rw here rest
      | inr there ↦ (let other : list_any (λ y. same_ends d y e) xs ≡ true = rw there at first in
          rw there (All-cons (λ e. list_any (λ y. same_ends d y e) xs ≡ true) e (filter (λ e. not (same_ends d x e)) es) other rest))
    ]

still_met : (d : Bool) (x : Insertion) (es ys : List Insertion) → All (λ y. same_ends d x y ≡ false) ys → All (λ y. list_any (same_ends d y) es ≡ true) ys → All (λ y. list_any (same_ends d y) (filter (λ e. not (same_ends d x e)) es) ≡ true) ys
still_met d x es [] apart met = All-nil (λ y. list_any (same_ends d y) (filter (λ e. not (same_ends d x e)) es) ≡ true)
still_met d x es (y ∷ ys) apart met =
    let other : same_ends d x y ≡ false = All-head (λ y. same_ends d x y ≡ false) y ys apart in
    let tells : (e : Insertion) → same_ends d y e ≡ true → not (same_ends d x e) ≡ true =
    λ e same. elim (cases_Bool (same_ends d x e)) [
      | inl both ↦ absurd (let swapped : same_ends d e y ≡ true = same_swap d y e same in let wrong : same_ends d x y ≡ true = same_left d x e y both ∙ swapped in let no : false ≡ true = sym other ∙ wrong in cc)
      | inr apart ↦ rw apart refl
    ] in
    All-cons (λ y. list_any (same_ends d y) (filter (λ e. not (same_ends d x e)) es) ≡ true) y ys
    (any-filter_same (same_ends d y) (λ e. not (same_ends d x e)) true tells es ∙ All-head (λ y. list_any (same_ends d y) es ≡ true) y ys met)
    (still_met d x es ys (All-tail (λ y. same_ends d x y ≡ false) y ys apart) (All-tail (λ y. list_any (same_ends d y) es ≡ true) y ys met))

none_meets : (d : Bool) (es : List Insertion) → All (λ e. list_any (λ y. same_ends d y e) [] ≡ true) es → es ≡ []
none_meets d [] met = refl
none_meets d (e ∷ es) met = absurd (let wrong : false ≡ true = All-head (λ e. list_any (λ y. same_ends d y e) [] ≡ true) e es met in cc)

pub fold_met : (d : Bool) (P : Insertion → Type 0) (l : ℤ) (xs ys es : List Insertion) → ((e f : Insertion) → P e → P f → same_ends d e f ≡ true → e ≡ f) → All P xs → Distinct xs
    → All (λ m. m.len ≡ l) es → All (λ e. list_any (λ y. same_ends d y e) xs ≡ true) es → All (λ x. list_any (same_ends d x) es ≡ true) xs → fold (add_or_lower d) (xs ++ ys) es ≡ map (with_least l) xs ++ ys
fold_met d P l [] ys es tell kind distinct same meets met = ap (fold (add_or_lower d) ys) (none_meets d es meets)
fold_met d P l (x ∷ xs) ys es tell kind distinct same meets met =
    let apart = others_apart d P x xs tell kind distinct in
    let rest = filter (λ e. not (same_ends d x e)) es in
    bucket d x (xs ++ ys) es
    ∙ ap₂ (λ y zs. y ∷ zs) (lower_all d l x es same (All-head (λ x. list_any (same_ends d x) es ≡ true) x xs met))
    (fold_met d P l xs ys rest tell (All-tail P x xs kind) (Distinct-tail x xs distinct) (All-filter (λ e. not (same_ends d x e)) (λ m. m.len ≡ l) es same) (meet_rest d x xs es meets) (still_met d x es xs apart (All-tail (λ x. list_any (same_ends d x) es ≡ true) x xs met)))
