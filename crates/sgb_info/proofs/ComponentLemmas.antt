-- Lemmas on components and colours: what the classes of a graph's vertices say.
use Rattle.std.proofs.Common.{◌≡◌, ◌≢◌, ◌≤◌, ◌<◌, ◌+◌, ◌-◌, ◌==◌, ℕ, zero, suc, List, [], ◌∷◌, length, get_or, Option, Some, None, IfSome, Bool, true, false, cond, not, ltb, inl, inr, All, refl, sym, ap, ap₂, subst, ◌∙◌, arith}
use Rattle.std.specs.List.{Any, AllPairs, filter, range_with_len, remove}
use Rattle.std.proofs.lemmas.Bool.{cases_lt, cases_Bool, eqb-true, eq-eqb, lt-ltb, le-ltb}
use Rattle.std.proofs.lemmas.Bool.Decides.{nat_tests}
use Rattle.std.proofs.lemmas.List.{get_or_past, get_or_default}
use Rattle.std.proofs.lemmas.List.Edits.{get_or-remove_below, get_or-remove_above, length-remove}
use Rattle.std.proofs.lemmas.List.Elements.{All-filter, filter_passes}
use Rattle.std.proofs.lemmas.List.FromFn.{length-range_with_len, get_or-range_with_len}
use Rattle.std.proofs.lemmas.List.Kept.{AllPairs-filter}
use Rattle.sgb_graph.specs.declared.field.Tip.TheVariants.{To}
use Rattle.sgb_graph.specs.Graph.{GraphOf, VertexOf, ArcOf, IsGraph, IsArc, IsTip, n_of, no_vertex, arcs_of, arc_at}
use Rattle.sgb_graph.specs.Edit.{arc_or, no_arc}
use Rattle.sgb_graph.specs.Operand.{tip_number}
use Rattle.sgb_info.specs.Components.{IsJoined, Closure, joined, same, back, through, Connected, IsOneOfEach, HasComponents, IsBipartite}
use Rattle.sgb_info.specs.Private.Classes.{IsClasses, IsCrossed, forth, over, AreWithin, IsPut, AreApart, least_of_each}

-- ---- the smallest equivalence
-- what R keeps, it keeps
pub closure_keeps : {X : Type 0} (R : ℕ → ℕ → Type 0) (f : ℕ → X) → ((a b : ℕ) → R a b → f a ≡ f b) → (a b : ℕ) → Closure R a b → f a ≡ f b
closure_keeps R f keeps a b (joined c d r) = keeps c d r
closure_keeps R f keeps a b (same c) = refl
closure_keeps R f keeps a b (back c d near) = sym (closure_keeps R f keeps c d near)
closure_keeps R f keeps a b (through c m d near far) = closure_keeps R f keeps c m near ∙ closure_keeps R f keeps m d far

-- it is within each equivalence that contains R
closure_into : (R S : ℕ → ℕ → Type 0) → ((a b : ℕ) → R a b → Closure S a b) → (a b : ℕ) → Closure R a b → Closure S a b
closure_into R S into a b (joined c d r) = into c d r
closure_into R S into a b (same c) = same c
closure_into R S into a b (back c d near) = back c d (closure_into R S into c d near)
closure_into R S into a b (through c m d near far) = through c m d (closure_into R S into c m near) (closure_into R S into m d far)

-- ---- ends of arcs are vertices
pub joined_from : (g : GraphOf) (u v : ℕ) → IsJoined g u v → u < n_of g
joined_from g u v arc = elim (cases_lt u (n_of g)) [
  | inl lt ↦ lt
  | inr past ↦ absurd (
      let none : length (arcs_of g u) ≡ 0 = ap (λ (x : VertexOf). length x.arcs) (get_or_past g.vertices u no_vertex past) in
      let some = arc.2 in
      omega (arith, none, some))
]

tip_within : (n : ℕ) (es : List (Option ArcOf)) (o : Option ArcOf) (v : ℕ) → 0 < n → IfSome o (IsArc n es) → (arc_or no_arc o).tip ≡ To (record { 0 = v }) → v < n
tip_within n es None v some arc leads = let zeroth : 0 ≡ v = ap tip_number leads in omega arith
tip_within n es (Some e) v some arc leads = subst (IsTip n) leads arc.tip

pub joined_to : (g : GraphOf) (u v : ℕ) → IsGraph g → IsJoined g u v → v < n_of g
joined_to g u v sound arc =
    let from = joined_from g u v arc in
    let k = arc.1 in
    elim (cases_lt k (length g.entries)) [
      | inl lt ↦ tip_within (n_of g) g.entries (arc_at g k) v (omega arith) (sound.arcs k None lt) arc.4
      | inr past ↦ tip_within (n_of g) g.entries None v (omega arith) tt (ap (λ o. (arc_or no_arc o).tip) (sym (get_or_past g.entries k None past)) ∙ arc.4)
    ]

-- ---- the number of components
-- a list of which no two are connected, each of them to one of another list, is no longer than that
fewer : (g : GraphOf) (vs ws : List ℕ) → AllPairs (λ v w. Connected g v w → ⊥) vs → All (λ v. Any (Connected g v) ws) vs → length vs ≤ length ws
fewer g [] ws apart every = omega arith
fewer g (v ∷ vs) ws apart every =
    let here = every 0 v (omega arith) in
    let at = here.0 in
    let at_within : at < length ws = here.2 in
    let long = length-remove ws at at_within in
    let rest = fewer g vs (remove ws at)
    (λ i j d lt within. apart (suc i) (suc j) d (omega arith) (omega arith))
    (λ i d within.
    let x = get_or vs i d in
    let there = every (suc i) d (omega arith) in
    let j = there.0 in
    let other : j ≢ at = λ is.
    let y_is : there.1 ≡ here.1 = sym there.3 ∙ (get_or_default ws j there.1 here.1 there.2 ∙ (ap (λ k. get_or ws k here.1) is ∙ here.3)) in
    apart 0 (suc i) d (omega arith) (omega arith) (through v here.1 x here.4 (back x here.1 (subst (Connected g x) y_is there.4))) in
    left ws at j x there.1 at_within there.2 other there.3 there.4) in
    omega (arith, long, rest)
  where
    left : (ws : List ℕ) (at j x y : ℕ) → at < length ws → j < length ws → j ≢ at → get_or ws j y ≡ y → Connected g x y → Any (Connected g x) (remove ws at)
    left ws at j x y at_within within other is near =
        let long = length-remove ws at at_within in
        elim (cases_lt j at) [
          | inl below ↦ (j, y, omega (arith, long), get_or-remove_below ws at y j below at_within ∙ is, near)
          | inr above ↦
              let next : j - 1 + 1 ≡ j = omega arith in
              (j - 1, y, omega (arith, long), get_or-remove_above ws at y (j - 1) (omega arith) at_within ∙ (ap (λ k. get_or ws k y) next ∙ is), near)
        ]

no_more : (g : GraphOf) (vs ws : List ℕ) → IsOneOfEach g vs → IsOneOfEach g ws → length vs ≤ length ws
no_more g vs ws p q = fewer g vs ws p.apart (λ k d within. q.every (get_or vs k d) (p.within k d within))

pub one_count : (g : GraphOf) (b c : ℕ) → HasComponents g b → HasComponents g c → b ≡ c
one_count g b c p q =
    let low = no_more g p.0 q.0 p.1 q.1 in
    let high = no_more g q.0 p.0 q.1 p.1 in
    omega (arith, low, high, p.2, q.2)

-- ---- classes that are the components
kept : (p : ℕ → Bool) (P : ℕ → Type 0) (xs : List ℕ) (i : ℕ) → i < length xs → p (get_or xs i 0) ≡ true → P (get_or xs i 0) → Any P (filter p xs)
kept p P [] i lt yes_so holds = absurd (omega arith)
kept p P (x ∷ xs) zero lt yes_so holds = rw yes_so (0, x, omega arith, refl, holds)
kept p P (x ∷ xs) (suc i) lt yes_so holds =
    let rest = kept p P xs i (omega arith) yes_so holds in
    elim (cases_Bool (p x)) [
      | inl so ↦ rw so (suc rest.0, rest.1, omega (arith, rest.2), rest.3, rest.4)
      | inr not_so ↦ rw not_so rest
    ]

module _ (g : GraphOf) (ls : List ℕ) (classes : IsClasses ls) (long : length ls ≡ n_of g) (within : AreWithin (IsCrossed g 0) ls) (put : (u : ℕ) → u < n_of g → All (IsPut g 0 u ls) (arcs_of g u)) where
  uncrossed : (a b : ℕ) → IsCrossed g 0 a b → Connected g a b
  uncrossed a b (forth u v arc) = let none : v ≡ v + 0 = omega arith in subst (Connected g u) none (joined u v arc)
  uncrossed a b (over u v arc) = let none : u ≡ u + 0 = omega arith in subst (λ x. Connected g x v) none (joined u v arc)

  arc_together : (u v : ℕ) → IsJoined g u v → get_or ls u 0 ≡ get_or ls v 0
  arc_together u v arc =
      let none : v + 0 ≡ v = omega arith in
      let leads = arc.4 in
      let here = put u (joined_from g u v arc) arc.0 arc.1 arc.2 in
      (subst (IsPut g 0 u ls) arc.3 here v leads).0 ∙ ap (λ x. get_or ls x 0) none

  together : (u v : ℕ) → Connected g u v → get_or ls u 0 ≡ get_or ls v 0
  together = closure_keeps (IsJoined g) (λ x. get_or ls x 0) arc_together

  pub one_of_each : IsOneOfEach g (least_of_each ls)
  unfolding least_of_each
  one_of_each =
      let p : ℕ → Bool = λ v. get_or ls v 0 == v in
      let numbers = range_with_len 0 (length ls) in record {
        within = All-filter p (λ v. v < n_of g) numbers (λ k d lt.
            let in_range : k < length ls = omega (arith, length-range_with_len 0 (length ls)) in
            omega (arith, get_or-range_with_len 0 (length ls) k d in_range));
        apart = λ i j d lt in_list near.
            let rising = AllPairs-filter (λ v w. v < w) p numbers (λ a b e below inside.
            let in_range : b < length ls = omega (arith, length-range_with_len 0 (length ls)) in
            omega (arith, get_or-range_with_len 0 (length ls) a e (omega arith), get_or-range_with_len 0 (length ls) b e in_range)) i j d lt in_list in
            let passes = filter_passes p numbers in
            let v = get_or (least_of_each ls) i d in
            let w = get_or (least_of_each ls) j d in
            let v_is : get_or ls v 0 ≡ v = eqb-true (get_or ls v 0) v (passes i d (omega arith)) in
            let w_is : get_or ls w 0 ≡ w = eqb-true (get_or ls w 0) w (passes j d in_list) in
            omega (arith, rising, v_is, w_is, together v w near);
        every = λ v lt.
            let v_within : v < length ls = omega arith in
            let l = get_or ls v 0 in
            let low : l ≤ v = classes.least v v_within in
            let l_within : l < length ls = omega arith in
            let here : get_or numbers l 0 ≡ l = omega (arith, get_or-range_with_len 0 (length ls) l 0 l_within) in
            let near : Connected g v l = closure_into (IsCrossed g 0) (IsJoined g) uncrossed v l (within v v_within) in
            kept p (Connected g v) numbers l (omega (arith, length-range_with_len 0 (length ls)))
            (subst (λ x. p x ≡ true) (sym here) (eq-eqb (get_or ls l 0) l (classes.itself v v_within)))
            (subst (Connected g v) (sym here) near);
      }

-- ---- colours
not_other : (a b : Bool) → a ≢ b → a ≡ not b
not_other true true other = absurd (other refl)
not_other true false other = refl
not_other false true other = refl
not_other false false other = absurd (other refl)

not_itself : (a : Bool) → a ≢ not a
not_itself true is = cc
not_itself false is = cc

ltb_turned : (x y : ℕ) → x ≢ y → ltb x y ≢ ltb y x
ltb_turned x y other is = grind (arith, nat_tests)

-- the classes of a vertex and its copy differ, and show a colour
pub colours : (g : GraphOf) (ls : List ℕ) → ((u : ℕ) → u < n_of g → All (IsPut g (n_of g) u ls) (arcs_of g u)) → AreApart (n_of g) ls → IsBipartite g
colours g ls put apart =
    let n = n_of g in (
      λ v. ltb (get_or ls v 0) (get_or ls (v + n) 0),
      λ u v arc is.
          let from = joined_from g u v arc in
          let here = (subst (IsPut g n u ls) arc.3 (put u from arc.0 arc.1 arc.2)) v arc.4 in
          ltb_turned (get_or ls u 0) (get_or ls (u + n) 0) (apart u from)
          (is ∙ ap₂ ltb (sym here.1) (sym here.0)),
    )

-- a colour for each vertex, and the other for its copy
shade : (ℕ → Bool) → ℕ → ℕ → Bool
shade colour n x = cond (ltb x n) (colour x) (not (colour (x - n)))

shade_low : (colour : ℕ → Bool) (n x : ℕ) → x < n → shade colour n x ≡ colour x
unfolding shade
shade_low colour n x lt = rw (lt-ltb x n lt) refl

shade_high : (colour : ℕ → Bool) (n x : ℕ) → shade colour n (x + n) ≡ not (colour x)
unfolding shade
shade_high colour n x =
    let past : n ≤ x + n = omega arith in
    let back_to : x + n - n ≡ x = omega arith in
    rw (le-ltb (x + n) n past) (ap (λ v. not (colour v)) back_to)

pub apart : (g : GraphOf) (ls : List ℕ) → IsGraph g → length ls ≡ n_of g + n_of g → AreWithin (IsCrossed g (n_of g)) ls → IsBipartite g → AreApart (n_of g) ls
apart g ls sound long within (colour, differ) v lt is =
    let n = n_of g in
    let e = shade colour n in
    let of_class : (x : ℕ) → x < length ls → e x ≡ e (get_or ls x 0) = λ x x_within. closure_keeps (IsCrossed g n) e crossed x (get_or ls x 0) (within x x_within) in
    not_itself (colour v)
    (sym (shade_low colour n v lt) ∙ (of_class v (omega arith) ∙ (ap e is ∙ (sym (of_class (v + n) (omega arith)) ∙ shade_high colour n v))))
  where
    crossed : (a b : ℕ) → IsCrossed g (n_of g) a b → shade colour (n_of g) a ≡ shade colour (n_of g) b
    crossed a b (forth u w arc) =
        shade_low colour (n_of g) u (joined_from g u w arc) ∙ (not_other (colour u) (colour w) (differ u w arc) ∙ sym (shade_high colour (n_of g) w))
    crossed a b (over u w arc) =
        shade_high colour (n_of g) u
        ∙ (sym (not_other (colour w) (colour u) (λ turned. differ u w arc (sym turned))) ∙ sym (shade_low colour (n_of g) w (joined_to g u w sound arc)))
