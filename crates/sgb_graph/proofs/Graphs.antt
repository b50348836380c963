-- Lemmas on graphs alone.
use Rattle.std.proofs.Common.{◌≡◌, ◌<◌, ◌≤◌, ℕ, [], length, get_or, None, is_some, All, true, false, ap, ◌∙◌, arith, cond, ◌==◌, inl, inr}
use Rattle.std.specs.List.{list_any}
use Rattle.std.proofs.lemmas.Bool.{cases_Bool, cases_order, cases_lt}
use Rattle.std.proofs.lemmas.List.{get_or_past}
use Rattle.std.proofs.lemmas.List.Sums.{get_or-le-sum_by, position_or_len_is}
use Rattle.sgb_graph.specs.Graph.{GraphOf, IsGraph, n_of, made_of, no_vertex, arcs_of, arc_at, has_arc, occurrences, listings}
use Rattle.sgb_graph.specs.Edit.{owner_of}
use Rattle.sgb_graph.proofs.Counts.{any_none, any_some, sum_two, few_numbers, occurs_at}

-- a vertex lists the number: the vertex and the number are there, the arc lives, and the number stands there once
pub record Listed (g : GraphOf) (k v : ℕ) : Type 0 where
  pub vertex : v < n_of g
  pub made : k < made_of g
  pub live : has_arc g k ≡ true
  pub once : occurrences k (arcs_of g v) ≡ 1

pub no_arcs_past : (g : GraphOf) (v : ℕ) → n_of g ≤ v → arcs_of g v ≡ []
no_arcs_past g v h = ap (λ x. x.arcs) (get_or_past g.vertices v no_vertex h)

pub no_arc_past : (g : GraphOf) (k : ℕ) → made_of g ≤ k → arc_at g k ≡ None
no_arc_past g k h = get_or_past g.entries k None h

pub made_of_live : (g : GraphOf) (k : ℕ) → has_arc g k ≡ true → k < made_of g
made_of_live g k live =
    elim (cases_lt k (made_of g)) [
      | inl h ↦ h
      | inr h ↦ absurd (let none : is_some (arc_at g k) ≡ false = ap is_some (no_arc_past g k h) in cc)
    ]

pub vertex_of_listed : (g : GraphOf) (k v : ℕ) → 0 < occurrences k (arcs_of g v) → v < n_of g
vertex_of_listed g k v h =
    elim (cases_lt v (n_of g)) [
      | inl l ↦ l
      | inr l ↦ absurd (let none : occurrences k (arcs_of g v) ≡ 0 = ap (occurrences k) (no_arcs_past g v l) in omega arith)
    ]

pub listed_live : (g : GraphOf) (k v : ℕ) → IsGraph g → 0 < occurrences k (arcs_of g v) → Listed g k v
listed_live g k v sound h =
    let vertex : v < n_of g = vertex_of_listed g k v h in
    let within : occurrences k (arcs_of g v) ≤ listings k g.vertices =
    get_or-le-sum_by (λ x. occurrences k x.arcs) g.vertices v no_vertex vertex in
    let all : listings k g.vertices ≡ cond (has_arc g k) 1 0 = sound.listed k in
    elim (cases_Bool (has_arc g k)) [
      | inl live ↦
          let one : listings k g.vertices ≡ 1 = all ∙ ap (λ b. cond b 1 0) live in
          record { vertex = vertex; made = made_of_live g k live; live = live; once = omega arith }
      | inr hole ↦
          let none : listings k g.vertices ≡ 0 = all ∙ ap (λ b. cond b 1 0) hole in
          absurd (omega arith)
    ]

pub hole_unlisted : (g : GraphOf) (k v : ℕ) → IsGraph g → has_arc g k ≡ false → occurrences k (arcs_of g v) ≡ 0
hole_unlisted g k v sound hole =
    elim (cases_lt 0 (occurrences k (arcs_of g v))) [
      | inl h ↦ absurd (let live : has_arc g k ≡ true = (listed_live g k v sound h).live in cc)
      | inr h ↦ omega arith
    ]

-- a number has one owner
pub one_owner : (g : GraphOf) (k v w : ℕ) → IsGraph g → 0 < occurrences k (arcs_of g v) → 0 < occurrences k (arcs_of g w) → v ≡ w
one_owner g k v w sound a b =
    let x = listed_live g k v sound a in
    let y = listed_live g k w sound b in
    let one : listings k g.vertices ≡ 1 = sound.listed k ∙ ap (λ b. cond b 1 0) x.live in
    elim (cases_order v w) [
      | inl same ↦ same
      | inr (inl low) ↦ absurd (omega (arith, sum_two (λ z. occurrences k z.arcs) g.vertices v w no_vertex low y.vertex))
      | inr (inr low) ↦ absurd (omega (arith, sum_two (λ z. occurrences k z.arcs) g.vertices w v no_vertex low x.vertex))
    ]

pub owner_is : (g : GraphOf) (k v : ℕ) → IsGraph g → 0 < occurrences k (arcs_of g v) → owner_of g k ≡ v
owner_is g k v sound h =
    let x = listed_live g k v sound h in
    position_or_len_is (λ y. list_any (λ j. j == k) y.arcs) g.vertices v no_vertex (omega (arith, x.vertex))
    (λ w low. any_none k (arcs_of g w) (
    elim (cases_lt 0 (occurrences k (arcs_of g w))) [
      | inl other ↦ absurd (omega (arith, one_owner g k v w sound h other))
      | inr none ↦ omega arith
    ]))
    (λ _. any_some k (arcs_of g v) h)

-- each number of a vertex's list is live
pub arcs_live : (g : GraphOf) (v : ℕ) → IsGraph g → All (λ k. Listed g k v) (arcs_of g v)
arcs_live g v sound i d h =
    listed_live g (get_or (arcs_of g v) i d) v sound (occurs_at (arcs_of g v) i d h)

-- a list has no more numbers than were given out
pub few_arcs_of : (g : GraphOf) (v : ℕ) → IsGraph g → length (arcs_of g v) ≤ made_of g
few_arcs_of g v sound =
    few_numbers (made_of g) (arcs_of g v)
    (λ k. elim (cases_lt 0 (occurrences k (arcs_of g v))) [
      | inl h ↦ omega (arith, (listed_live g k v sound h).once)
      | inr h ↦ omega arith
    ])
    (λ k past. elim (cases_lt 0 (occurrences k (arcs_of g v))) [
      | inl h ↦ absurd (omega (arith, (listed_live g k v sound h).made))
      | inr h ↦ omega arith
    ])
