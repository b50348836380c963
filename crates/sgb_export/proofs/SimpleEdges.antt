-- Lemmas on loops and repeated edges, as a loop passes over lists.
use Rattle.std.proofs.Common.{◌≡◌, ◌≢◌, ◌≤◌, ◌<◌, ◌+◌, ◌==◌, ℕ, suc, List, [], ◌∷◌, ◌++◌, length, get_or, set, drop, replicate, All, Bool, true, false, ◌&&◌, ◌||◌, not, nat_lt, inl, inr, refl, sym, ap, ap₂, ◌∙◌, arith}
use Rattle.std.specs.List.{flat_map, list_all, list_any, range_with_len}
use Rattle.std.proofs.lemmas.Bool.{cases_Bool, cases_eq, cases_lt, eq-eqb, ne_eqb, eqb-true, lt-ltb, ltb-true, and_parts, and_from, and_right}
use Rattle.std.proofs.lemmas.List.{get_or-set_same, get_or-set_other, get_or_past, get_or-drop, get_or-replicate, length-drop, length-replicate}
use Rattle.std.proofs.lemmas.List.FromFn.{get_or-range_with_len, length-range_with_len}
use Rattle.std.proofs.lemmas.List.Folds.{list_all-append, list_any-append}
use Rattle.sgb_graph.specs.Graph.{GraphOf, n_of}
use Rattle.sgb_graph.specs.Paired.{walk}
use Rattle.sgb_export.specs.declared.link.Link.{Link}
use Rattle.sgb_export.specs.Links.{link, is_written, links_at}
use Rattle.sgb_export.specs.Simple.{is_loop, have_same_ends, are_single, are_simple}
use Rattle.sgb_print.proofs.TextPieces.{number_and_rest, or-false}
use Rattle.sgb_export.proofs.ExportedArcs.{written}

and_pair : (a b c d : Bool) → ((a && b) && (c && d)) ≡ ((a && c) && (b && d))
and_pair true b true d = refl
and_pair true true false d = refl
and_pair true false false d = refl
and_pair false b c d = refl

and_three : (a b c : Bool) → (a && (b && c)) ≡ ((a && b) && c)
and_three true b c = refl
and_three false b c = refl

nor : (a b : Bool) → not (a || b) ≡ (not a && not b)
nor true b = refl
nor false b = refl

and_true : (a : Bool) → (a && true) ≡ a
and_true true = refl
and_true false = refl

-- ---- edges of one vertex, where marks say which vertices it reached
abbrev pub is_from : ℕ → Link → Bool
is_from v l = l.from == v

-- no loop, and to a vertex that has another mark
abbrev pub is_fresh : List ℕ → ℕ → Link → Bool
is_fresh marks m l = not (is_loop l) && not (get_or marks l.to 0 == m)

abbrev pub are_fresh : List ℕ → ℕ → List Link → Bool
are_fresh marks m ls = list_all (is_fresh marks m) ls && are_single ls

-- all marks are lower
pub low_at : (v : ℕ) (marks : List ℕ) → All (λ m. m ≤ v) marks → (w : ℕ) → get_or marks w 0 ≤ v
low_at v marks low w =
    elim (cases_lt w (length marks)) [
      | inl within ↦ low w 0 within
      | inr past ↦ omega (arith, get_or_past marks w 0 past)
    ]

fresh_all : (v : ℕ) (marks : List ℕ) → All (λ m. m ≤ v) marks → (ls : List Link) → list_all (is_fresh marks (v + 1)) ls ≡ list_all (λ l. not (is_loop l)) ls
fresh_all v marks low [] = refl
fresh_all v marks low (l ∷ ls) =
    let at = low_at v marks low l.to in
    let other : (get_or marks l.to 0 == (v + 1)) ≡ false = ne_eqb (get_or marks l.to 0) (v + 1) (omega (arith, at)) in
    let here : is_fresh marks (v + 1) l ≡ not (is_loop l) = ap (λ b. not (is_loop l) && not b) other ∙ and_true (not (is_loop l)) in
    ap₂ (λ a b. a && b) here (fresh_all v marks low ls)

pub fresh_start : (v : ℕ) (marks : List ℕ) (ls all : List Link) → All (λ m. m ≤ v) marks → all ≡ ls → are_simple all ≡ are_fresh marks (v + 1) ls
fresh_start v marks ls all low is = ap are_simple is ∙ ap (λ b. b && are_single ls) (sym (fresh_all v marks low ls))

pub fresh_so : (marks : List ℕ) (m : ℕ) (l : Link) → l.from ≢ l.to → get_or marks l.to 0 ≢ m → is_fresh marks m l ≡ true
fresh_so marks m l no_loop other = and_from (not (is_loop l)) (not (get_or marks l.to 0 == m)) (ap not (ne_eqb l.from l.to no_loop)) (ap not (ne_eqb (get_or marks l.to 0) m other))

pub loop_not : (marks : List ℕ) (m : ℕ) (l : Link) → l.from ≡ l.to → is_fresh marks m l ≡ false
loop_not marks m l loop = ap (λ b. not b && not (get_or marks l.to 0 == m)) (eq-eqb l.from l.to loop)

pub marked_not : (marks : List ℕ) (m : ℕ) (l : Link) → get_or marks l.to 0 ≡ m → is_fresh marks m l ≡ false
marked_not marks m l marked = and_right (not (is_loop l)) (not (get_or marks l.to 0 == m)) (ap not (eq-eqb (get_or marks l.to 0) m marked))

-- an edge that is not fresh
pub fresh_not : (marks : List ℕ) (m : ℕ) (l : Link) (ls : List Link) → is_fresh marks m l ≡ false → are_fresh marks m (l ∷ ls) ≡ false
unfolding are_single
fresh_not marks m l ls not_so = ap (λ b. (b && list_all (is_fresh marks m) ls) && are_single (l ∷ ls)) not_so

-- one that is gets its mark
fresh_then : (marks : List ℕ) (m : ℕ) (l x : Link) → x.from ≡ l.from → l.to < length marks → (is_fresh marks m x && not (have_same_ends l x)) ≡ is_fresh (set marks l.to m) m x
fresh_then marks m l x from within =
    let start : (l.from == x.from) ≡ true = eq-eqb l.from x.from (sym from) in
    elim (cases_eq x.to l.to) [
      | inl same ↦
          let ends : have_same_ends l x ≡ true = and_from (l.from == x.from) (l.to == x.to) start (eq-eqb l.to x.to (sym same)) in
          let marked : (get_or (set marks l.to m) x.to 0 == m) ≡ true =
          eq-eqb (get_or (set marks l.to m) x.to 0) m (ap (λ w. get_or (set marks l.to m) w 0) same ∙ get_or-set_same marks l.to m 0 within) in
          ap (λ b. is_fresh marks m x && not b) ends
          ∙ (and_right (is_fresh marks m x) false refl
          ∙ sym (ap (λ b. not (is_loop x) && not b) marked ∙ and_right (not (is_loop x)) false refl))
      | inr other ↦
          let ne : x.to ≢ l.to = other in
          let ends : have_same_ends l x ≡ false = and_right (l.from == x.from) (l.to == x.to) (ne_eqb l.to x.to (omega arith)) in
          let kept : get_or (set marks l.to m) x.to 0 ≡ get_or marks x.to 0 = get_or-set_other marks l.to x.to m 0 ne in
          ap (λ b. is_fresh marks m x && not b) ends
          ∙ (and_true (is_fresh marks m x) ∙ ap (λ n. not (is_loop x) && not (n == m)) (sym kept))
    ]

fresh_rest : (marks : List ℕ) (m v : ℕ) (l : Link) (ls : List Link) → l.from ≡ v → list_all (is_from v) ls ≡ true → l.to < length marks
    → (list_all (is_fresh marks m) ls && not (list_any (have_same_ends l) ls)) ≡ list_all (is_fresh (set marks l.to m) m) ls
fresh_rest marks m v l [] from all within = refl
fresh_rest marks m v l (x ∷ xs) from all within =
    let both = and_parts (is_from v x) (list_all (is_from v) xs) all in
    let F = is_fresh marks m in
    let S = have_same_ends l in
    ap (λ b. (F x && list_all F xs) && b) (nor (S x) (list_any S xs))
    ∙ (and_pair (F x) (list_all F xs) (not (S x)) (not (list_any S xs))
    ∙ ap₂ (λ a b. a && b) (fresh_then marks m l x (eqb-true x.from v both.0 ∙ sym from) within) (fresh_rest marks m v l xs from both.1 within))

pub fresh_one : (marks : List ℕ) (m v : ℕ) (l : Link) (ls : List Link) → l.from ≡ v → list_all (is_from v) ls ≡ true → l.to < length marks → is_fresh marks m l ≡ true
    → are_fresh marks m (l ∷ ls) ≡ are_fresh (set marks l.to m) m ls
unfolding are_single
fresh_one marks m v l ls from all within so =
    let F = is_fresh marks m in
    ap (λ b. (b && list_all F ls) && (not (list_any (have_same_ends l) ls) && are_single ls)) so
    ∙ (and_three (list_all F ls) (not (list_any (have_same_ends l) ls)) (are_single ls)
    ∙ ap (λ b. b && are_single ls) (fresh_rest marks m v l ls from all within))

pub fresh_none : (marks : List ℕ) (m : ℕ) (ls : List Link) → ls ≡ [] → are_fresh marks m ls ≡ true
unfolding are_single
fresh_none marks m ls none = ap (are_fresh marks m) none

-- what is written of a vertex begins there
pub written_from : (g : GraphOf) (v : ℕ) (ks : List ℕ) → list_all (is_from v) (written false g v ks) ≡ true
written_from g v [] = refl
written_from g v (k ∷ ks) =
    elim (cases_Bool (is_written false (link g v k))) [
      | inl so ↦ rw so (and_from (v == v) (list_all (is_from v) (written false g v ks)) (eq-eqb v v refl) (written_from g v ks))
      | inr not_so ↦ rw not_so (written_from g v ks)
    ]

-- ---- edges of all vertices
abbrev is_past : ℕ → Link → Bool
is_past v l = nat_lt v l.from

apart : (v : ℕ) (l : Link) (ys : List Link) → l.from ≡ v → list_all (is_past v) ys ≡ true → list_any (have_same_ends l) ys ≡ false
apart v l [] from past = refl
apart v l (y ∷ ys) from past =
    let both = and_parts (is_past v y) (list_all (is_past v) ys) past in
    let high = ltb-true v y.from both.0 in
    let other : (l.from == y.from) ≡ false = ne_eqb l.from y.from (omega (arith, high, from)) in
    ap (λ b. (b && (l.to == y.to)) || list_any (have_same_ends l) ys) other ∙ apart v l ys from both.1

single_append : (v : ℕ) (xs ys : List Link) → list_all (is_from v) xs ≡ true → list_all (is_past v) ys ≡ true → are_single (xs ++ ys) ≡ (are_single xs && are_single ys)
unfolding are_single
single_append v [] ys here past = refl
single_append v (x ∷ xs) ys here past =
    let both = and_parts (is_from v x) (list_all (is_from v) xs) here in
    let S = have_same_ends x in
    let none : list_any S (xs ++ ys) ≡ list_any S xs =
    list_any-append S xs ys ∙ (ap (λ b. list_any S xs || b) (apart v x ys (eqb-true x.from v both.0) past) ∙ or-false (list_any S xs)) in
    ap₂ (λ a b. not a && b) none (single_append v xs ys both.1 past) ∙ and_three (not (list_any S xs)) (are_single xs) (are_single ys)

simple_append : (v : ℕ) (xs ys : List Link) → list_all (is_from v) xs ≡ true → list_all (is_past v) ys ≡ true → are_simple (xs ++ ys) ≡ (are_simple xs && are_simple ys)
simple_append v xs ys here past =
    let N : Link → Bool = λ l. not (is_loop l) in
    ap₂ (λ a b. a && b) (list_all-append N xs ys) (single_append v xs ys here past)
    ∙ and_pair (list_all N xs) (list_all N ys) (are_single xs) (are_single ys)

links_from : (g : GraphOf) (v : ℕ) → list_all (is_from v) (links_at false g v) ≡ true
unfolding links_at
links_from g v = written_from g v (walk false g v)

past_one : (v w : ℕ) (ls : List Link) → v < w → list_all (is_from w) ls ≡ true → list_all (is_past v) ls ≡ true
past_one v w [] high from = refl
past_one v w (l ∷ ls) high from =
    let both = and_parts (is_from w l) (list_all (is_from w) ls) from in
    and_from (is_past v l) (list_all (is_past v) ls) (lt-ltb v l.from (omega (arith, high, eqb-true l.from w both.0))) (past_one v w ls high both.1)

past_all : (g : GraphOf) (v : ℕ) (ws : List ℕ) → All (λ w. v < w) ws → list_all (is_past v) (flat_map (links_at false g) ws) ≡ true
past_all g v [] high = refl
past_all g v (w ∷ ws) high =
    list_all-append (is_past v) (links_at false g w) (flat_map (links_at false g) ws)
    ∙ and_from (list_all (is_past v) (links_at false g w)) (list_all (is_past v) (flat_map (links_at false g) ws))
    (past_one v w (links_at false g w) (high 0 w (omega arith)) (links_from g w))
    (past_all g v ws (λ k d l. high (suc k) d (omega (arith, l))))

numbers_past : (v n : ℕ) → All (λ w. v < w) (drop (v + 1) (range_with_len 0 n))
numbers_past v n k d h =
    let within : v + 1 + k < n = omega (arith, h, length-drop (v + 1) (range_with_len 0 n), length-range_with_len 0 n) in
    let is = get_or-drop (v + 1) (range_with_len 0 n) k d ∙ get_or-range_with_len 0 n (v + 1 + k) d within in
    omega (arith, is)

-- the edges of a vertex and of those behind it
pub simple_more : (g : GraphOf) (v : ℕ) → v < n_of g
    → are_simple (flat_map (links_at false g) (drop v (range_with_len 0 (n_of g))))
    ≡ (are_simple (links_at false g v) && are_simple (flat_map (links_at false g) (drop (v + 1) (range_with_len 0 (n_of g)))))
simple_more g v within =
    let rest : List Link = flat_map (links_at false g) (drop (v + 1) (range_with_len 0 (n_of g))) in
    ap are_simple (number_and_rest (links_at false g) (n_of g) v within)
    ∙ simple_append v (links_at false g v) rest (links_from g v) (past_all g v (drop (v + 1) (range_with_len 0 (n_of g))) (numbers_past v (n_of g)))

pub simple_none : (ls : List Link) → ls ≡ [] → are_simple ls ≡ true
unfolding are_single
simple_none ls none = ap are_simple none

-- ---- marks before any vertex
pub zeros_count : (n : ℕ) (marks : List ℕ) → marks ≡ replicate n 0 → length marks ≡ n
zeros_count n marks is = ap length is ∙ length-replicate n 0

pub zeros_all : (n : ℕ) (marks : List ℕ) → marks ≡ replicate n 0 → All (λ m. m ≡ 0) marks
zeros_all n marks is k d h =
    let count = zeros_count n marks is in
    ap (λ ms. get_or ms k d) is ∙ get_or-replicate n k 0 d (omega (arith, h, count))

pub zeros_low : (n : ℕ) (marks : List ℕ) → marks ≡ replicate n 0 → All (λ m. m ≤ 0) marks
zeros_low n marks is k d h = let zero' = zeros_all n marks is k d h in omega (arith, zero')
