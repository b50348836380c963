-- Lemmas on spokes that are read as the arcs of a vertex are walked.
use Rattle.std.proofs.Common.{◌≡◌, ◌<◌, ◌≤◌, ◌&&◌, ℕ, List, [], ◌∷◌, ◌++◌, map, cond, Bool, true, false, nat_lt, All, inl, inr, refl, sym, ap, ap₂, ◌∙◌}
use Rattle.std.specs.List.{filter}
use Rattle.std.proofs.lemmas.Bool.{cases_Bool, lt-ltb, ltb-true, ltb-false}
use Rattle.std.proofs.lemmas.List.{append_assoc, append-nil}
use Rattle.std.proofs.lemmas.List.Elements.{All-head, All-tail, filter-append}
use Rattle.sgb_graph.specs.Graph.{GraphOf, IsGraph, n_of}
use Rattle.sgb_graph.specs.Edit.{entry_at}
use Rattle.sgb_graph.specs.Paired.{walk}
use Rattle.sgb_graph.specs.declared.spoke.Spoke.{Spoke}
use Rattle.sgb_graph.specs.Operand.{spoke_of, spokes, IsWithin}
use Rattle.sgb_graph.proofs.Spokes.{spokes_within}
use Rattle.sgb_combine.specs.Combined.{is_upward}
use Rattle.sgb_combine.specs.Gunion.{candidates, is_candidate}
use Rattle.sgb_combine.specs.Private.Both.{passing}
use Rattle.sgb_combine.proofs.SpokeBounds.{spokes_past}

-- ---- the spoke of one arc
pub held_none : (g : GraphOf) (p : Spoke → Bool) (xs : List Spoke) (k : ℕ) (s : Spoke) → s ≡ spoke_of (entry_at g k) → p s ≡ false → xs ≡ xs ++ passing g p (k ∷ [])
held_none g p xs k s is fails =
    sym (append-nil xs)
    ∙ ap (λ ts. xs ++ ts) (sym (ap (λ r. cond (p r) (r ∷ []) []) (sym is) ∙ ap (λ b. cond b (s ∷ []) []) fails))

pub held_one : (g : GraphOf) (p : Spoke → Bool) (xs : List Spoke) (k : ℕ) (s : Spoke) → s ≡ spoke_of (entry_at g k) → p s ≡ true → xs ++ s ∷ [] ≡ xs ++ passing g p (k ∷ [])
held_one g p xs k s is passes =
    ap (λ ts. xs ++ ts) (sym (ap (λ r. cond (p r) (r ∷ []) []) (sym is) ∙ ap (λ b. cond b (s ∷ []) []) passes))

-- ---- those of a list
-- the spokes that were held, and those of the numbers that are left, are all
pub record Holds (g : GraphOf) (p : Spoke → Bool) (all now : List Spoke) (rest : List ℕ) : Type 0 where
  pub same : now ++ passing g p rest ≡ all

pub passing_walk : (halves : Bool) (g : GraphOf) (v : ℕ) (p : Spoke → Bool) (ks : List ℕ) → ks ≡ walk halves g v → passing g p ks ≡ filter p (spokes halves g v)
unfolding spokes
passing_walk halves g v p ks is = ap (passing g p) is

pub holds_from : (halves : Bool) (g : GraphOf) (v : ℕ) (p : Spoke → Bool) (start : List Spoke) (rest : List ℕ) → start ≡ [] → rest ≡ walk halves g v → Holds g p (filter p (spokes halves g v)) start rest
holds_from halves g v p start rest none is =
    record { same = ap₂ (λ (fs ss : List Spoke). fs ++ ss) none (passing_walk halves g v p rest is) }

pub holds_start : (g : GraphOf) (p : Spoke → Bool) (start : List Spoke) (ks rest : List ℕ) → rest ≡ ks → Holds g p (start ++ passing g p ks) start rest
holds_start g p start ks rest is = record { same = ap (λ js. start ++ passing g p js) is }

pub next_passing : (g : GraphOf) (p : Spoke → Bool) (now new : List Spoke) (rest after : List ℕ) (k : ℕ) → rest ≡ k ∷ after → new ≡ now ++ passing g p (k ∷ []) → new ++ passing g p after ≡ now ++ passing g p rest
next_passing g p now new rest after k steps more =
    let ts = map (λ j. spoke_of (entry_at g j)) after in
    ap (λ xs. xs ++ passing g p after) more
    ∙ (append_assoc now (passing g p (k ∷ [])) (passing g p after)
    ∙ ap (λ xs. now ++ xs) (sym (filter-append p (spoke_of (entry_at g k) ∷ []) ts) ∙ ap (passing g p) (sym steps)))

pub holds_one : {g : GraphOf} {p : Spoke → Bool} {all now new : List Spoke} {rest after : List ℕ} {k : ℕ} → rest ≡ k ∷ after → new ≡ now ++ passing g p (k ∷ []) → Holds g p all now rest → Holds g p all new after
holds_one {g} {p} {all} {now} {new} {rest} {after} {k} steps more holds =
    record { same = next_passing g p now new rest after k steps more ∙ holds.same }

pub holds_next : {g : GraphOf} {p : Spoke → Bool} {all now new : List Spoke} {rest after : List ℕ} → new ++ passing g p after ≡ now ++ passing g p rest → Holds g p all now rest → Holds g p all new after
holds_next same holds = record { same = same ∙ holds.same }

pub holds_end : {g : GraphOf} {p : Spoke → Bool} {all now : List Spoke} {rest : List ℕ} → rest ≡ [] → Holds g p all now rest → now ≡ all
holds_end {g} {p} {all} {now} {rest} none holds =
    sym (append-nil now) ∙ (ap (λ ks. now ++ passing g p ks) (sym none) ∙ holds.same)

pub from_nothing : {xs ys ts us : List Spoke} → xs ≡ ys ++ ts → ys ≡ [] → ts ≡ us → xs ≡ us
from_nothing is none same = is ∙ ap₂ (λ (fs ss : List Spoke). fs ++ ss) none same

-- a vertex that the graph lacks
pub passing_past : (halves : Bool) (g : GraphOf) (v : ℕ) (p : Spoke → Bool) → n_of g ≤ v → [] ≡ filter p (spokes halves g v)
passing_past halves g v p past = ap (filter p) (sym (spokes_past halves g v past))

-- ---- those of both graphs
pub both_candidates : (directed : Bool) (g h : GraphOf) (v n : ℕ) (rs ss ts : List Spoke) → n ≡ n_of g → rs ≡ filter (is_candidate directed n v) (spokes directed g v) → ss ≡ filter (is_candidate directed n v) (spokes directed h v) → ts ≡ rs ++ ss → ts ≡ candidates directed g h v
unfolding candidates
both_candidates directed g h v n rs ss ts is mine theirs joined =
    let gs = spokes directed g v in
    let hs = spokes directed h v in
    joined
    ∙ (ap₂ (λ (xs ys : List Spoke). xs ++ ys) mine theirs
    ∙ (sym (filter-append (is_candidate directed n v) gs hs)
    ∙ ap (λ m. filter (is_candidate directed m v) (gs ++ hs)) is))

-- ---- one graph, whose spokes all lead to one of n vertices
pub own_candidate : (directed : Bool) (n v : ℕ) (s : Spoke) → s.to < n → is_candidate directed n v s ≡ is_upward directed v s
own_candidate directed n v s low = ap (λ b. b && is_upward directed v s) (lt-ltb s.to n low)

within_upward : (directed : Bool) (n v : ℕ) (ss : List Spoke) → All (IsWithin n) ss → filter (is_candidate directed n v) ss ≡ filter (is_upward directed v) ss
within_upward directed n v [] all = refl
within_upward directed n v (s ∷ ss) all =
    let here : is_candidate directed n v s ≡ is_upward directed v s = own_candidate directed n v s (All-head (IsWithin n) s ss all) in
    ap₂ (λ b ts. cond b (s ∷ ts) ts) here (within_upward directed n v ss (All-tail (IsWithin n) s ss all))

pub upward_candidates : (directed : Bool) (g : GraphOf) (v n : ℕ) → IsGraph g → n ≡ n_of g → filter (is_candidate directed n v) (spokes true g v) ≡ filter (is_upward directed v) (spokes true g v)
upward_candidates directed g v n sound is =
    let ss = spokes true g v in
    elim (cases_Bool (nat_lt v (n_of g))) [
      | inl low ↦
          ap (λ m. filter (is_candidate directed m v) ss) is
          ∙ within_upward directed (n_of g) v ss (spokes_within true g v sound (ltb-true v (n_of g) low))
      | inr high ↦
          let none : ss ≡ [] = spokes_past true g v (ltb-false v (n_of g) high) in
          ap (filter (is_candidate directed n v)) none ∙ sym (ap (filter (is_upward directed v)) none)
    ]
