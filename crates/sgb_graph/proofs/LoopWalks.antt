-- Lemmas on walks past the second halves of loops.
use Rattle.std.proofs.Common.{◌≡◌, ◌<◌, ◌≤◌, ◌+◌, ℕ, suc, List, [], ◌∷◌, length, Option, Some, None, IsSome, Bool, true, false, ◌&&◌, ◌==◌, All, cond, inl, inr, refl, sym, ap, subst, ◌∙◌, arith}
use Rattle.std.proofs.lemmas.Bool.{cases_Bool, eq-eqb}
use Rattle.std.proofs.lemmas.List.Elements.{All-cons}
use Rattle.sgb_graph.specs.declared.field.ArcNo.{ArcNo}
use Rattle.sgb_graph.specs.declared.graph.Vertex.{Vertex}
use Rattle.sgb_graph.specs.declared.graph.arena.Slot.{Slot}
use Rattle.sgb_graph.specs.declared.graph.Graph.TheInside.{Inside}
use Rattle.sgb_graph.specs.Graph.{GraphOf, IsGraph, n_of, arcs_of, occurrences}
use Rattle.sgb_graph.specs.Edit.{owner_of}
use Rattle.sgb_graph.specs.Read.{entry_view}
use Rattle.sgb_graph.specs.Paired.{goes, is_vertex, leads_from, is_loop, is_loop_pair, without_halves, walk}
use Rattle.sgb_graph.specs.Private.Arena.{Slots, Shows, IsArena, IsLinked, slot_at, next_at, entry_of, numbers, graph_of}
use Rattle.sgb_graph.specs.Private.Link.{vertex_in}
use Rattle.sgb_graph.specs.Private.Walk.{is_loop_in, is_pair_in, without_pairs, walked, past}
use Rattle.sgb_graph.proofs.Counts.{occurs_yes, occurs_more}
use Rattle.sgb_graph.proofs.Graphs.{owner_is}
use Rattle.sgb_graph.proofs.Cells.{live_low}
use Rattle.sgb_graph.proofs.Chains.{chain-none, linked_step}
use Rattle.sgb_graph.proofs.Shows.{opened, shows_arc}
use Rattle.sgb_graph.proofs.Readers.{arcs_are}

-- the loops of a list, told from the slots
loop_at : (vs : List Vertex) (ss : Slots) (g : GraphOf) (v k : ℕ) (o : Option Slot) → Shows vs ss g → IsGraph g → slot_at ss k ≡ o → 0 < occurrences k (arcs_of g v) → is_loop g v k ≡ is_loop_in o
unfolding leads_from
loop_at vs ss g v k None shows sound is listed =
    ap (λ x. goes v v (entry_view (owner_of g k) x)) (sym (shows.entries k) ∙ ap entry_of is)
loop_at vs ss g v k (Some s) shows sound is listed =
    let y = shows_arc vs ss g k s shows sound is in
    let own : owner_of g k ≡ v = owner_is g k v sound listed in
    ap (λ x. goes v v (entry_view (owner_of g k) x)) y.entry
    ∙ (ap (λ b. b && is_vertex v s.tip) (eq-eqb (owner_of g k) v own) ∙ ap (λ w. is_vertex w s.tip) (sym own ∙ y.owner))

same_walk : (g : GraphOf) (v : ℕ) (ss : Slots) (ks : List ℕ) → ((k : ℕ) → 0 < occurrences k ks → is_loop g v k ≡ is_loop_in (slot_at ss k)) → without_halves g v ks ≡ without_pairs ss ks
unfolding without_halves without_pairs
same_walk g v ss [] same = refl
same_walk g v ss (j ∷ []) same = refl
same_walk g v ss (j ∷ (k ∷ ks)) same =
    let pair : is_loop_pair g v j k ≡ is_pair_in ss j k =
    ap (λ b. b && is_loop g v k && (j + 1 == k)) (same j (omega (arith, occurs_yes j j (k ∷ ks) refl)))
    ∙ ap (λ b. is_loop_in (slot_at ss j) && b && (j + 1 == k)) (same k (omega (arith, occurs_more k j (k ∷ ks), occurs_yes k k ks refl))) in
    ap (λ b. cond b (j ∷ without_halves g v ks) (j ∷ without_halves g v (k ∷ ks))) pair
    ∙ (ap (λ l. cond (is_pair_in ss j k) (j ∷ l) (j ∷ without_halves g v (k ∷ ks)))
    (same_walk g v ss ks (λ i h. same i (omega (arith, occurs_more i k ks, occurs_more i j (k ∷ ks), h))))
    ∙ ap (λ l. cond (is_pair_in ss j k) (j ∷ without_pairs ss ks) (j ∷ l))
    (same_walk g v ss (k ∷ ks) (λ i h. same i (omega (arith, occurs_more i j (k ∷ ks), h)))))

-- what `walk` walks along
pub walk_is : (a : Inside) (g : GraphOf) (v : ℕ) (d : Bool) (link : Option ArcNo) (ss : Slots) (ks : List ℕ) → graph_of a ≡ g → IsArena a → v < n_of g → link ≡ (vertex_in a.vertices v).first → ss ≡ a.slots → ks ≡ walked d ss (numbers ss link) → ks ≡ walk d g v
walk_is a g v true link ss ks same arena low read is are = arcs_are a g v link ss ks same arena low read is are
walk_is a g v false link ss ks same arena low read is are =
    let o = opened a g same arena in
    let list : numbers ss link ≡ arcs_of g v = arcs_are a g v link ss (numbers ss link) same arena low read is refl in
    are
    ∙ (ap (without_pairs ss) list
    ∙ (ap (λ (s : Slots). without_pairs s (arcs_of g v)) is
    ∙ sym (same_walk g v a.slots (arcs_of g v) (λ k h. loop_at a.vertices a.slots g v k (slot_at a.slots k) o.shows o.graph refl h))))

-- what holds of each number of a list holds of each one of a walk
All-walk : (P : ℕ → Type 0) (g : GraphOf) (v : ℕ) (ks : List ℕ) → All P ks → All P (without_halves g v ks)
unfolding without_halves
All-walk P g v [] all = all
All-walk P g v (j ∷ []) all = all
All-walk P g v (j ∷ (k ∷ ks)) all =
    let first : P j = all 0 j (omega arith) in
    let skip : All P (j ∷ without_halves g v ks) = All-cons P j (without_halves g v ks) first (All-walk P g v ks (λ i d h. all (suc (suc i)) d (omega arith))) in
    let stay : All P (j ∷ without_halves g v (k ∷ ks)) = All-cons P j (without_halves g v (k ∷ ks)) first (All-walk P g v (k ∷ ks) (λ i d h. all (suc i) d (omega arith))) in
    elim (is_loop_pair g v j k) as (λ b. All P (cond b (j ∷ without_halves g v ks) (j ∷ without_halves g v (k ∷ ks)))) [
      | true ↦ skip
      | false ↦ stay
    ]

length-walk : (g : GraphOf) (v : ℕ) (ks : List ℕ) → length (without_halves g v ks) ≤ length ks
unfolding without_halves
length-walk g v [] = omega arith
length-walk g v (j ∷ []) = omega arith
length-walk g v (j ∷ (k ∷ ks)) =
    let skip : length (j ∷ without_halves g v ks) ≤ length (j ∷ (k ∷ ks)) = omega (arith, length-walk g v ks) in
    let stay : length (j ∷ without_halves g v (k ∷ ks)) ≤ length (j ∷ (k ∷ ks)) = omega (arith, length-walk g v (k ∷ ks)) in
    elim (is_loop_pair g v j k) as (λ b. length (cond b (j ∷ without_halves g v ks) (j ∷ without_halves g v (k ∷ ks))) ≤ length (j ∷ (k ∷ ks))) [
      | true ↦ skip
      | false ↦ stay
    ]

pub All-walked : (P : ℕ → Type 0) (d : Bool) (g : GraphOf) (v : ℕ) (ks : List ℕ) → ks ≡ walk d g v → All P (arcs_of g v) → All P ks
All-walked P true g v ks is all = subst (λ l. All P l) (sym is) all
All-walked P false g v ks is all = subst (λ l. All P l) (sym is) (All-walk P g v (arcs_of g v) all)

pub length-walked : (d : Bool) (g : GraphOf) (v : ℕ) (ks : List ℕ) → ks ≡ walk d g v → length ks ≤ length (arcs_of g v)
length-walked true g v ks is = omega (arith, ap length is)
length-walked false g v ks is = omega (arith, ap length is, length-walk g v (arcs_of g v))

-- one step of a walk
past_steps : (ss : Slots) (d : Bool) (k : ℕ) (next : Option ArcNo) → IsLinked ss next → walked d ss (k ∷ numbers ss next) ≡ k ∷ walked d ss (numbers ss (past d ss k next))
unfolding without_pairs
past_steps ss true k None l = refl
past_steps ss true k (Some j) l = refl
past_steps ss false k None l =
    let none : numbers ss None ≡ [] = chain-none (next_at ss) (length ss) in
    ap (λ ks. without_pairs ss (k ∷ ks)) none ∙ ap (λ ks. k ∷ without_pairs ss ks) (sym none)
past_steps ss false k (Some j) l =
    let t = linked_step ss j l in
    let rest : List ℕ = numbers ss (next_at ss j.0) in
    let split : Bool → List ℕ = λ b. cond b (k ∷ without_pairs ss rest) (k ∷ without_pairs ss (j.0 ∷ rest)) in
    elim (cases_Bool (is_pair_in ss k j.0)) [
      | inl pair ↦
          let on : past false ss k (Some j) ≡ next_at ss j.0 = ap (λ b. cond b (next_at ss j.0) (Some j)) pair in
          ap (λ ks. without_pairs ss (k ∷ ks)) t.numbers ∙ (ap split pair ∙ ap (λ x. k ∷ without_pairs ss (numbers ss x)) (sym on))
      | inr single ↦
          let on : past false ss k (Some j) ≡ Some j = ap (λ b. cond b (next_at ss j.0) (Some j)) single in
          ap (λ ks. without_pairs ss (k ∷ ks)) t.numbers
          ∙ (ap split single
          ∙ (ap (λ ks. k ∷ without_pairs ss ks) (sym t.numbers) ∙ ap (λ x. k ∷ without_pairs ss (numbers ss x)) (sym on)))
    ]

past_linked : (ss : Slots) (d : Bool) (k : ℕ) (next : Option ArcNo) → IsLinked ss next → IsLinked ss (past d ss k next)
past_linked ss true k None l = l
past_linked ss true k (Some j) l = l
past_linked ss false k None l = l
past_linked ss false k (Some j) l =
    elim (is_pair_in ss k j.0) as (λ b. IsLinked ss (cond b (next_at ss j.0) (Some j))) [
      | true ↦ (linked_step ss j l).linked
      | false ↦ l
    ]

pub record WalksTo (ss : Slots) (d : Bool) (follows after : Option ArcNo) (now : List ℕ) (k : ArcNo) : Type 0 where
  pub steps : now ≡ k.0 ∷ walked d ss (numbers ss after)
  pub next : IsLinked ss follows
  pub linked : IsLinked ss after
  pub live : IsSome (slot_at ss k.0)
  pub shorter : length (walked d ss (numbers ss after)) < length now

pub walks_next : (ss : Slots) (d : Bool) (link : Option ArcNo) (now : List ℕ) (k : ArcNo) (next after : Option ArcNo) → IsLinked ss link → link ≡ Some k → walked d ss (numbers ss link) ≡ now → next ≡ next_at ss k.0 → after ≡ past d ss k.0 next → WalksTo ss d next after now k
walks_next ss d link now k next after linked is same follows goes =
    let s = linked_step ss k (subst (IsLinked ss) is linked) in
    let here : IsLinked ss next = subst (IsLinked ss) (sym follows) s.linked in
    let steps : now ≡ k.0 ∷ walked d ss (numbers ss after) =
    sym same
    ∙ (ap (λ x. walked d ss (numbers ss x)) is
    ∙ (ap (walked d ss) (s.numbers ∙ ap (λ x. k.0 ∷ numbers ss x) (sym follows))
    ∙ (past_steps ss d k.0 next here ∙ ap (λ x. k.0 ∷ walked d ss (numbers ss x)) (sym goes)))) in
    record {
      steps = steps;
      next = here;
      linked = subst (IsLinked ss) (sym goes) (past_linked ss d k.0 next here);
      live = s.live;
      shorter = rw steps (omega arith);
    }

walked_none : (ss : Slots) (d : Bool) → walked d ss [] ≡ []
unfolding without_pairs
walked_none ss true = refl
walked_none ss false = refl

pub walks_none : (ss : Slots) (d : Bool) (link : Option ArcNo) (now : List ℕ) → link ≡ None → walked d ss (numbers ss link) ≡ now → now ≡ []
walks_none ss d link now is same =
    sym same ∙ (ap (λ x. walked d ss (numbers ss x)) is ∙ (ap (walked d ss) (chain-none (next_at ss) (length ss)) ∙ walked_none ss d))

pub live_linked : (ss : Slots) (link : Option ArcNo) (k : ArcNo) → IsLinked ss link → link ≡ Some k → IsSome (slot_at ss k.0)
live_linked ss link k l is = (linked_step ss k (subst (IsLinked ss) is l)).live

pub within_linked : (ss : Slots) (link : Option ArcNo) (k : ArcNo) → IsLinked ss link → link ≡ Some k → k.0 < length ss
within_linked ss link k l is = live_low ss k.0 (live_linked ss link k l is)
