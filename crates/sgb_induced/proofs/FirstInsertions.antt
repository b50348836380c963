-- Lemmas on what `least` gives: the first insertions of their ends, with the least lengths.
use Rattle.std.proofs.Common.{◌≡◌, ◌≤◌, ℕ, zero, suc, List, [], ◌∷◌, length, map, fold, Bool, true, false, not, ◌&&◌, ◌==◌, int_lt, inl, inr, refl, sym, ap, ap₂, ◌∙◌, arith}
use Rattle.std.specs.Int.{int_min}
use Rattle.std.specs.List.{filter}
use Rattle.std.proofs.lemmas.Bool.{cases_Bool}
use Rattle.sgb_graph.specs.Builder.{Insertion, insertion}
use Rattle.sgb_induced.specs.Least.{add_or_lower, first_end, firsts, last_end, least, LeastLaw, lengths_at, lowered, same_ends, shortest}
use Rattle.sgb_induced.proofs.LeastLengths.{bucket, joined_from, min_self, same_from, same_left}

-- those with other ends than e
abbrev others : Bool → Insertion → List Insertion → List Insertion
others d e = filter (λ f. not (same_ends d e f))

same_right : (d : Bool) (e x f : Insertion) → same_ends d x f ≡ true → same_ends d e x ≡ same_ends d e f
same_right d e x f is =
    let j = joined_from d x f is in
    ap₂ (λ a b. (first_end d e == a) && (last_end d e == b)) j.first j.last

same_own : (d : Bool) (e : Insertion) → same_ends d e e ≡ true
same_own d e = same_from d e e (record { first = refl; last = refl })

apart_from : (d : Bool) (e x f : Insertion) → same_ends d e x ≡ false → same_ends d e f ≡ true → same_ends d x f ≡ false
apart_from d e x f apart here =
    elim (cases_Bool (same_ends d x f)) [
      | inl met ↦ absurd (let wrong : false ≡ true = sym apart ∙ (same_right d e x f met ∙ here) in cc)
      | inr free ↦ free
    ]

apart_back : (d : Bool) (e x : Insertion) → same_ends d e x ≡ false → same_ends d x e ≡ false
apart_back d e x apart = apart_from d e x e apart (same_own d e)

-- ---- what the others are
others_le : (d : Bool) (e : Insertion) (es : List Insertion) → length (others d e es) ≤ length es
others_le d e [] = omega arith
others_le d e (f ∷ fs) =
    let rest = others_le d e fs in
    elim (cases_Bool (same_ends d e f)) [
      | inl here ↦ rw here (omega (arith, rest))
      | inr there ↦ rw there (omega (arith, rest))
    ]

filter_twice : (d : Bool) (e x : Insertion) (es : List Insertion) → same_ends d e x ≡ false → filter (same_ends d x) (others d e es) ≡ filter (same_ends d x) es
filter_twice d e x [] apart = refl
filter_twice d e x (f ∷ fs) apart =
    let rest = filter_twice d e x fs apart in
    elim (cases_Bool (same_ends d e f)) [
      | inl here ↦ (let no : same_ends d x f ≡ false = apart_from d e x f apart here in rw (here, no) rest)
      | inr there ↦ (elim (cases_Bool (same_ends d x f)) [
        | inl met ↦ rw (there, met) (ap (λ zs. f ∷ zs) rest)
        | inr free ↦ rw (there, free) rest
      ])
    ]

others_swap : (d : Bool) (e f : Insertion) (es : List Insertion) → others d e (others d f es) ≡ others d f (others d e es)
others_swap d e f [] = refl
others_swap d e f (h ∷ hs) =
    let rest = others_swap d e f hs in
    elim (cases_Bool (same_ends d e h)) [
      | inl a ↦ (elim (cases_Bool (same_ends d f h)) [
        | inl b ↦ rw (a, b) rest
        | inr b ↦ rw (a, b, a) rest
      ])
      | inr a ↦ (elim (cases_Bool (same_ends d f h)) [
        | inl b ↦ rw (a, b) rest
        | inr b ↦ rw (a, b, a) (ap (λ zs. h ∷ zs) rest)
      ])
    ]

others_same : (d : Bool) (e f : Insertion) (es : List Insertion) → same_ends d e f ≡ true → others d e (others d f es) ≡ others d e es
others_same d e f [] same = refl
others_same d e f (h ∷ hs) same =
    let rest = others_same d e f hs same in
    elim (cases_Bool (same_ends d f h)) [
      | inl b ↦ (let a : same_ends d e h ≡ true = same_left d e f h same ∙ b in rw (b, a) rest)
      | inr b ↦ (let a : same_ends d e h ≡ false = same_left d e f h same ∙ b in rw (b, a) (ap (λ zs. h ∷ zs) rest))
    ]

firsts_others : (d : Bool) (e : Insertion) (es : List Insertion) → firsts d (others d e es) ≡ others d e (firsts d es)
unfolding firsts
firsts_others d e [] = refl
firsts_others d e (f ∷ fs) =
    let rest = firsts_others d e fs in
    elim (cases_Bool (same_ends d e f)) [
      | inl here ↦ rw here (rest ∙ sym (others_same d e f (firsts d fs) here))
      | inr there ↦ rw there (ap (λ zs. f ∷ zs) (ap (others d f) rest ∙ others_swap d f e (firsts d fs)))
    ]

map_others : (d : Bool) (e : Insertion) (f h : Insertion → Insertion) (xs : List Insertion) → ((x : Insertion) → same_ends d e x ≡ false → f x ≡ h x) → map f (others d e xs) ≡ map h (others d e xs)
map_others d e f h [] same = refl
map_others d e f h (x ∷ xs) same =
    let rest = map_others d e f h xs same in
    elim (cases_Bool (same_ends d e x)) [
      | inl here ↦ rw here rest
      | inr there ↦ rw there (ap₂ (λ y ys. y ∷ ys) (same x there) rest)
    ]

-- ---- the law
lowered_by : (e : Insertion) (ms : List Insertion) → fold lowered e ms ≡ insertion e.from e.to (fold int_min e.len (map (λ m. m.len) ms))
lowered_by e [] = refl
lowered_by e (m ∷ ms) = lowered_by (lowered e m) ms

shortest_own : (d : Bool) (e : Insertion) (es : List Insertion) → fold lowered e (filter (same_ends d e) es) ≡ shortest d (e ∷ es) e
shortest_own d e es =
    let own : lengths_at d (e ∷ es) e ≡ e.len ∷ lengths_at d es e = rw (same_own d e) refl in
    lowered_by e (filter (same_ends d e) es)
    ∙ ap (insertion e.from e.to) (ap (λ l. fold int_min l (lengths_at d es e)) (sym (min_self e.len (int_lt e.len e.len))) ∙ sym (ap (fold int_min e.len) own))

shortest_other : (d : Bool) (e : Insertion) (es : List Insertion) (x : Insertion) → same_ends d e x ≡ false → shortest d (others d e es) x ≡ shortest d (e ∷ es) x
shortest_other d e es x apart =
    let back = apart_back d e x apart in
    let same : lengths_at d (others d e es) x ≡ lengths_at d (e ∷ es) x = rw back (ap (map (λ f. f.len)) (filter_twice d e x es apart)) in
    ap (λ ls. insertion x.from x.to (fold int_min x.len ls)) same

least_is_by : (d : Bool) (n : ℕ) (es : List Insertion) → length es ≤ n → least d es ≡ map (shortest d es) (firsts d es)
unfolding add_or_lower firsts
least_is_by d n [] h = refl
least_is_by d zero (e ∷ es) h = absurd (omega (arith, h))
least_is_by d (suc n) (e ∷ es) h =
    bucket d e [] es
    ∙ ap₂ (λ x xs. x ∷ xs) (shortest_own d e es)
    (least_is_by d n (others d e es) (omega (arith, h, others_le d e es))
    ∙ (ap (map (shortest d (others d e es))) (firsts_others d e es)
    ∙ map_others d e (shortest d (others d e es)) (shortest d (e ∷ es)) (firsts d es) (shortest_other d e es)))

pub least_is : (d : Bool) → LeastLaw d
least_is d = λ es. least_is_by d (length es) es (omega arith)
