-- Which arc follows which.
use Rattle.std.proofs.Common.{◌≡◌, ℕ, suc, ◌+◌, ◌<◌, ◌==◌, true, false, cond, List, [], ◌∷◌, ◌++◌, slice_index_or, Option, refl, sym, ap, ◌∙◌, inl, inr, arith}
use Rattle.std.specs.List.{list_any, position_or_len}
use Rattle.std.proofs.lemmas.Bool.{cases_Bool, cases_lt, eqb-true, eqb-false, eq-eqb}
use Rattle.std.proofs.lemmas.List.Sums.{sum_by-cons, sum_by-append}
use Rattle.sgb_graph.specs.declared.field.ArcNo.{ArcNo}
use Rattle.sgb_graph.specs.Graph.{GraphOf, VertexOf, IsGraph, no_vertex, arcs_of, has_arc, occurrences, listings}
use Rattle.sgb_graph.specs.Edit.{owner_of}
use Rattle.sgb_graph.specs.Read.{first_of, IsNextOf}
use Rattle.sgb_graph.proofs.Counts.{occurs_yes, occurs_no, any_none, any_some}
use Rattle.sgb_graph.proofs.Graphs.{vertex_of_listed, listed_live, owner_is}
use Rattle.sgb_text.specs.Save.{following, next_link}

-- a number of the list, with what stands before it and what follows
pub record Split (k : ℕ) (ks : List ℕ) : Type 0 where
  pub before : List ℕ
  pub after : List ℕ
  pub whole : ks ≡ before ++ (k ∷ after)
  pub follows : following k ks ≡ first_of after

follows_past : (k j : ℕ) (js : List ℕ) → (j == k) ≡ false → following k (j ∷ js) ≡ following k js
unfolding following
follows_past k j js other = rw other refl

occurs_split : (k : ℕ) (ks : List ℕ) → 0 < occurrences k ks → Split k ks
unfolding following
occurs_split k [] h = absurd (omega arith)
occurs_split k (j ∷ ks) h = elim (cases_Bool (j == k)) [
  | inl e ↦ record { before = []; after = ks; whole = ap (λ i. i ∷ ks) (eqb-true j k e); follows = rw e refl }
  | inr e ↦
      let s = occurs_split k ks (omega (arith, occurs_no k j ks (eqb-false j k e))) in
      record { before = j ∷ s.before; after = s.after; whole = ap (λ l. j ∷ l) s.whole; follows = follows_past k j ks e ∙ s.follows }
]

-- the owner has the number
owner_lists : (k : ℕ) (vs : List VertexOf) → 0 < listings k vs
    → 0 < occurrences k (slice_index_or vs (position_or_len (λ v. list_any (λ j. j == k) v.arcs) vs) no_vertex).arcs
owner_lists k [] h = absurd (omega arith)
owner_lists k (v ∷ vs) h = elim (cases_lt 0 (occurrences k v.arcs)) [
  | inl some ↦ rw (any_some k v.arcs some) some
  | inr none ↦
      let all : listings k (v ∷ vs) ≡ occurrences k v.arcs + listings k vs = sum_by-cons (λ (x : VertexOf). occurrences k x.arcs) v vs in
      let more : 1 + position_or_len (λ v. list_any (λ j. j == k) v.arcs) vs ≡ suc (position_or_len (λ v. list_any (λ j. j == k) v.arcs) vs) = omega arith in
      rw (any_none k v.arcs (omega arith), more) (owner_lists k vs (omega (arith, h, all)))
]

owner_has : (g : GraphOf) (k : ℕ) → IsGraph g → has_arc g k ≡ true → 0 < occurrences k (arcs_of g (owner_of g k))
owner_has g k sound live =
    let one : listings k g.vertices ≡ 1 = sound.listed k ∙ ap (λ b. cond b 1 0) live in
    owner_lists k g.vertices (omega (arith, one))

-- what a graph answers as next is what follows
pub next_is : (g : GraphOf) (k : ℕ) (link : Option ArcNo) → IsGraph g → has_arc g k ≡ true → IsNextOf g k link → link ≡ next_link g k
next_is g k link sound live next =
    let listed = owner_has g k sound live in
    let s = occurs_split k (arcs_of g (owner_of g k)) listed in
    next (owner_of g k) (vertex_of_listed g k (owner_of g k) listed) s.before s.after s.whole ∙ sym s.follows

-- ---- along a vertex's list
follows_there : (k : ℕ) (before after : List ℕ) → occurrences k before ≡ 0 → following k (before ++ (k ∷ after)) ≡ first_of after
unfolding following
follows_there k [] after h = rw (eq-eqb k k refl) refl
follows_there k (j ∷ before) after h = elim (cases_Bool (j == k)) [
  | inl e ↦ absurd (omega (arith, occurs_yes k j before (eqb-true j k e)))
  | inr e ↦ follows_past k j (before ++ (k ∷ after)) e ∙ follows_there k before after (omega (arith, occurs_no k j before (eqb-false j k e)))
]

pub next_along : (g : GraphOf) (v k : ℕ) (before after : List ℕ) → IsGraph g → arcs_of g v ≡ before ++ (k ∷ after) → next_link g k ≡ first_of after
next_along g v k before after sound whole =
    let parts : occurrences k (arcs_of g v) ≡ occurrences k before + occurrences k (k ∷ after) =
    ap (occurrences k) whole ∙ sum_by-append (λ j. cond (j == k) 1 0) before (k ∷ after) in
    let here = occurs_yes k k after refl in
    let listed : 0 < occurrences k (arcs_of g v) = omega (arith, parts, here) in
    let once = (listed_live g k v sound listed).once in
    ap (λ w. following k (arcs_of g w)) (owner_is g k v sound listed)
    ∙ ap (following k) whole
    ∙ follows_there k before after (omega (arith, parts, here, once))

pub occurs_along : (g : GraphOf) (v k : ℕ) (before after : List ℕ) → arcs_of g v ≡ before ++ (k ∷ after) → 0 < occurrences k (arcs_of g v)
occurs_along g v k before after whole =
    let parts : occurrences k (arcs_of g v) ≡ occurrences k before + occurrences k (k ∷ after) =
    ap (occurrences k) whole ∙ sum_by-append (λ j. cond (j == k) 1 0) before (k ∷ after) in
    omega (arith, parts, occurs_yes k k after refl)
