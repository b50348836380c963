-- Lemmas on classes: what one join does, and what the joins of an arc, of a vertex and of a graph do.
use Rattle.std.proofs.Common.{◌≡◌, ◌≢◌, ◌<◌, ◌+◌, ◌==◌, ℕ, zero, suc, List, [], ◌∷◌, length, map, get_or, min, max, ◌⊎◌, inl, inr, All, refl, sym, ap, subst, ◌∙◌, arith}
use Rattle.std.specs.List.{Contains, range_with_len}
use Rattle.std.proofs.lemmas.Bool.{cases_eq, cases_lt, cases_Bool, eqb-true, eq-eqb}
use Rattle.std.proofs.lemmas.List.{length-map}
use Rattle.std.proofs.lemmas.List.FromFn.{length-range_with_len, get_or-range_with_len}
use Rattle.std.proofs.lemmas.List.Elements.{Contains-get_or}
use Rattle.std.proofs.Math.ListN.{get_or-map}
use Rattle.sgb_graph.specs.declared.field.Tip.TheVariants.{To}
use Rattle.sgb_graph.specs.Graph.{GraphOf, arcs_of}
use Rattle.sgb_graph.specs.Edit.{entry_at}
use Rattle.sgb_graph.specs.Operand.{tip_number}
use Rattle.sgb_info.specs.Components.{IsJoined, Closure, joined, same, back, through}
use Rattle.sgb_info.specs.Private.Classes.{lowered, united, IsCrossed, forth, over, AreWithin, IsPut, Joins}

-- ---- one join
pub lowered_same : (x y l : ℕ) → l ≡ max x y → lowered x y l ≡ min x y
lowered_same x y l is = rw (eq-eqb l (max x y) is) refl

pub lowered_else : (x y l : ℕ) → l ≢ max x y → lowered x y l ≡ l
lowered_else x y l other = elim (cases_Bool (l == max x y)) [
  | inl is ↦ absurd (other (eqb-true l (max x y) is))
  | inr not_so ↦ rw not_so refl
]

lowered_zero : (x y : ℕ) → lowered x y 0 ≡ 0
lowered_zero x y = elim (cases_eq 0 (max x y)) [
  | inl is ↦ lowered_same x y 0 is ∙ omega arith
  | inr other ↦ lowered_else x y 0 other
]

lowered_first : (x y : ℕ) → lowered x y x ≡ min x y
lowered_first x y = elim (cases_eq x (max x y)) [
  | inl is ↦ lowered_same x y x is
  | inr other ↦ lowered_else x y x other ∙ omega arith
]

lowered_second : (x y : ℕ) → lowered x y y ≡ min x y
lowered_second x y = elim (cases_eq y (max x y)) [
  | inl is ↦ lowered_same x y y is
  | inr other ↦ lowered_else x y y other ∙ omega arith
]

pub length_united : (a b : ℕ) (ls : List ℕ) → length (united a b ls) ≡ length ls
unfolding united
length_united a b ls = length-map ls (lowered (get_or ls a 0) (get_or ls b 0))

united_at : (a b : ℕ) (ls : List ℕ) (v : ℕ) → get_or (united a b ls) v 0 ≡ lowered (get_or ls a 0) (get_or ls b 0) (get_or ls v 0)
unfolding united
united_at a b ls v =
    let f : ℕ → ℕ = lowered (get_or ls a 0) (get_or ls b 0) in
    subst (λ d. get_or (map f ls) v d ≡ f (get_or ls v 0)) (lowered_zero (get_or ls a 0) (get_or ls b 0)) (get_or-map f ls v 0)

united_both : (a b : ℕ) (ls : List ℕ) → get_or (united a b ls) a 0 ≡ get_or (united a b ls) b 0
united_both a b ls =
    let x = get_or ls a 0 in
    let y = get_or ls b 0 in
    united_at a b ls a ∙ (lowered_first x y ∙ (sym (lowered_second x y) ∙ sym (united_at a b ls b)))

united_together : (a b : ℕ) (ls : List ℕ) (v w : ℕ) → get_or ls v 0 ≡ get_or ls w 0 → get_or (united a b ls) v 0 ≡ get_or (united a b ls) w 0
united_together a b ls v w is = united_at a b ls v ∙ (ap (lowered (get_or ls a 0) (get_or ls b 0)) is ∙ sym (united_at a b ls w))

united_within : (R : ℕ → ℕ → Type 0) (a b : ℕ) (ls : List ℕ) → a < length ls → b < length ls → R a b → AreWithin R ls → AreWithin R (united a b ls)
united_within R a b ls a_within b_within r within v lt =
    let x = get_or ls a 0 in
    let y = get_or ls b 0 in
    let v_within : v < length ls = omega (arith, length_united a b ls) in
    let one : Closure R x y = through x a y (back a x (within a a_within)) (through a b y (joined a b r) (within b b_within)) in
    elim (cases_eq (get_or ls v 0) (max x y)) [
      | inl is ↦
          subst (Closure R v) (sym (united_at a b ls v ∙ lowered_same x y (get_or ls v 0) is))
          (through v (max x y) (min x y) (subst (Closure R v) is (within v v_within)) (down x y one))
      | inr other ↦ subst (Closure R v) (sym (united_at a b ls v ∙ lowered_else x y (get_or ls v 0) other)) (within v v_within)
    ]
  where
    down : (x y : ℕ) → Closure R x y → Closure R (max x y) (min x y)
    down x y one = elim (cases_lt x y) [
      | inl lt ↦
          let high : y ≡ max x y = omega arith in
          let low : x ≡ min x y = omega arith in
          subst (λ h. Closure R h (min x y)) high (subst (Closure R y) low (back x y one))
      | inr le ↦
          let high : x ≡ max x y = omega arith in
          let low : y ≡ min x y = omega arith in
          subst (λ h. Closure R h (min x y)) high (subst (Closure R x) low one)
    ]

-- each number alone
pub alone_within : (R : ℕ → ℕ → Type 0) (n : ℕ) → AreWithin R (range_with_len 0 n)
alone_within R n v lt =
    let within : v < n = omega (arith, length-range_with_len 0 n) in
    let is : v ≡ get_or (range_with_len 0 n) v 0 = omega (arith, get_or-range_with_len 0 n v 0 within) in
    subst (Closure R v) is (same v)

-- ---- joins in turn
pub joins_none : (g : GraphOf) (gap : ℕ) (ls : List ℕ) → Joins g gap ls ls
joins_none g gap ls = record { len = refl; together = λ v w is. is; within = λ within. within }

pub joins_then : (g : GraphOf) (gap : ℕ) (ls ms ns : List ℕ) → Joins g gap ls ms → Joins g gap ms ns → Joins g gap ls ns
joins_then g gap ls ms ns p q = record {
  len = q.len ∙ p.len;
  together = λ v w is. q.together v w (p.together v w is);
  within = λ within. q.within (p.within within);
}

joins_one : (g : GraphOf) (gap a b : ℕ) (ls : List ℕ) → a < length ls → b < length ls → IsCrossed g gap a b → Joins g gap ls (united a b ls)
joins_one g gap a b ls a_within b_within r = record {
  len = length_united a b ls;
  together = united_together a b ls;
  within = united_within (IsCrossed g gap) a b ls a_within b_within r;
}

pub put_kept : (g : GraphOf) (gap u : ℕ) (ls ms : List ℕ) → Joins g gap ls ms → (k : ℕ) → IsPut g gap u ls k → IsPut g gap u ms k
put_kept g gap u ls ms joins k put v leads =
    let before = put v leads in (joins.together u (v + gap) before.0, joins.together (u + gap) v before.1)

-- ---- an arc
pub joined_by : (g : GraphOf) (u v k : ℕ) → Contains (arcs_of g u) k → (entry_at g k).tip ≡ To (record { 0 = v }) → IsJoined g u v
joined_by g u v k listed leads = (listed.0, k, listed.1, listed.2, leads)

module _ (g : GraphOf) (gap u v k : ℕ) (ls ms ns : List ℕ) (leads : (entry_at g k).tip ≡ To (record { 0 = v })) (first : ms ≡ united u (v + gap) ls) (second : ns ≡ united (u + gap) v ms) where
  pub arc_joins : Contains (arcs_of g u) k → u + gap < length ls → v + gap < length ls → Joins g gap ls ns
  arc_joins listed u_within v_within =
      let arc = joined_by g u v k listed leads in
      let long : length ms ≡ length ls = ap length first ∙ length_united u (v + gap) ls in
      let one : Joins g gap ls ms = subst (Joins g gap ls) (sym first) (joins_one g gap u (v + gap) ls (omega arith) v_within (forth u v arc)) in
      let two : Joins g gap ms ns = subst (Joins g gap ms) (sym second) (joins_one g gap (u + gap) v ms (omega (arith, long)) (omega (arith, long)) (over u v arc)) in
      joins_then g gap ls ms ns one two

  pub arc_put : IsPut g gap u ns k
  arc_put w leads_to_w =
      let is : v ≡ w = ap tip_number (sym leads ∙ leads_to_w) in
      let one : get_or ms u 0 ≡ get_or ms (v + gap) 0 = subst (λ l. get_or l u 0 ≡ get_or l (v + gap) 0) (sym first) (united_both u (v + gap) ls) in
      let kept : get_or ns u 0 ≡ get_or ns (v + gap) 0 = subst (λ l. get_or l u 0 ≡ get_or l (v + gap) 0) (sym second) (united_together (u + gap) v ms u (v + gap) one) in
      let two : get_or ns (u + gap) 0 ≡ get_or ns v 0 = subst (λ l. get_or l (u + gap) 0 ≡ get_or l v 0) (sym second) (united_both (u + gap) v ms) in
      (kept ∙ ap (λ x. get_or ns (x + gap) 0) is, two ∙ ap (λ x. get_or ns x 0) is)

-- ---- the arcs of a vertex: each is put, but for those that are left
abbrev pub ArePutBut : GraphOf → ℕ → ℕ → List ℕ → List ℕ → Type 0
ArePutBut g gap u ls ks = (k : ℕ) → Contains (arcs_of g u) k → Contains ks k ⊎ IsPut g gap u ls k

contains_cases : (x k : ℕ) (xs : List ℕ) → Contains (x ∷ xs) k → (x ≡ k) ⊎ Contains xs k
contains_cases x k xs (zero, lt, is) = inl is
contains_cases x k xs (suc i, lt, is) = inr (i, omega arith, is)

module _ (g : GraphOf) (gap u : ℕ) (ls : List ℕ) where
  pub none_put : (ks : List ℕ) → ks ≡ arcs_of g u → ArePutBut g gap u ls ks
  none_put ks all k listed = inl (subst (λ js. Contains js k) (sym all) listed)

  pub one_put : (ms : List ℕ) (x : ℕ) (xs ks : List ℕ) → ArePutBut g gap u ls ks → ks ≡ x ∷ xs → Joins g gap ls ms → IsPut g gap u ms x → ArePutBut g gap u ms xs
  one_put ms x xs ks before steps joins put k listed = elim (before k listed) [
    | inl left ↦ elim (contains_cases x k xs (subst (λ js. Contains js k) steps left)) [
      | inl is ↦ inr (subst (IsPut g gap u ms) is put)
      | inr later ↦ inl later
    ]
    | inr done ↦ inr (put_kept g gap u ls ms joins k done)
  ]

  pub all_put : (ks : List ℕ) → ArePutBut g gap u ls ks → ks ≡ [] → All (IsPut g gap u ls) (arcs_of g u)
  all_put ks before none i d lt = elim (before (get_or (arcs_of g u) i d) (Contains-get_or (arcs_of g u) i d lt)) [
    | inl left ↦ absurd (let within = (subst (λ js. Contains js (get_or (arcs_of g u) i d)) none left).1 in omega arith)
    | inr done ↦ done
  ]
