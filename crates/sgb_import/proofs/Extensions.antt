-- Lemmas on a graph whose lists gained numbers in front: what is read of the numbers that were there is the same.
use Rattle.std.proofs.Common.{◌≡◌, ◌<◌, ◌≤◌, ◌+◌, ◌-◌, ℕ, List, [], ◌∷◌, Option, Some, None, is_some, Bool, true, false, ◌&&◌, not, ◌==◌, nat_lt, nat_le, cond, inl, inr, All, refl, sym, ap, ◌∙◌, arith}
use Rattle.std.proofs.lemmas.Bool.{cases_Bool, and_parts, and_from, eq-eqb}
use Rattle.std.proofs.lemmas.List.Elements.{All-head, All-tail}
use Rattle.sgb_graph.specs.declared.field.Tip.{Tip}
use Rattle.sgb_graph.specs.declared.field.Tip.TheVariants.{Zero, One, To}
use Rattle.sgb_graph.specs.Graph.{GraphOf, ArcOf, IsGraph, made_of, arcs_of, arc_at, has_arc, occurrences}
use Rattle.sgb_graph.specs.Edit.{owner_of, entry_at, arc_or, no_arc}
use Rattle.sgb_graph.specs.Read.{entry_view}
use Rattle.sgb_graph.specs.Paired.{goes, is_vertex, leads_from, is_loop, is_loop_pair, without_halves, are_loops_paired, is_tip_matched, is_view_matched, is_matched, GoesTo}
use Rattle.sgb_graph.proofs.Counts.{occurs_at}
use Rattle.sgb_graph.proofs.Graphs.{owner_is, listed_live}
use Rattle.sgb_graph.proofs.Halves.{leads_goes}
use Rattle.sgb_graph.proofs.TakeOut.{some_entry, found_live}

-- h has the arcs of g, and lists each where g does
pub record Extends (g h : GraphOf) : Type 0 where
  pub before : IsGraph g
  pub after : IsGraph h
  pub arcs : (k : ℕ) → k < made_of g → arc_at h k ≡ arc_at g k
  pub lists : (k v : ℕ) → occurrences k (arcs_of g v) ≤ occurrences k (arcs_of h v)

abbrev pub IsListed : GraphOf → ℕ → ℕ → Type 0
IsListed g v k = 0 < occurrences k (arcs_of g v)

pub all_listed : (g : GraphOf) (v : ℕ) → All (IsListed g v) (arcs_of g v)
all_listed g v i d h = occurs_at (arcs_of g v) i d h

same_arc : (g h : GraphOf) → Extends g h → (v k : ℕ) → IsListed g v k → arc_at h k ≡ arc_at g k
same_arc g h x v k listed = x.arcs k (listed_live g k v x.before listed).made

pub same_entry : (g h : GraphOf) → Extends g h → (v k : ℕ) → IsListed g v k → entry_at h k ≡ entry_at g k
same_entry g h x v k listed = ap (arc_or no_arc) (same_arc g h x v k listed)

pub same_owner : (g h : GraphOf) → Extends g h → (v k : ℕ) → IsListed g v k → owner_of h k ≡ owner_of g k
same_owner g h x v k listed =
    let more : occurrences k (arcs_of g v) ≤ occurrences k (arcs_of h v) = x.lists k v in
    owner_is h k v x.after (omega arith) ∙ sym (owner_is g k v x.before listed)

-- ---- loops
same_loop : (g h : GraphOf) → Extends g h → (v k : ℕ) → IsListed g v k → is_loop h v k ≡ is_loop g v k
unfolding leads_from
same_loop g h x v k listed =
    ap (λ w. goes v v (entry_view w (arc_at h k))) (same_owner g h x v k listed)
    ∙ ap (λ o. goes v v (entry_view (owner_of g k) o)) (same_arc g h x v k listed)

same_pair : (g h : GraphOf) → Extends g h → (v j k : ℕ) → IsListed g v j → IsListed g v k → is_loop_pair h v j k ≡ is_loop_pair g v j k
same_pair g h x v j k first second =
    ap (λ b. b && is_loop h v k && (j + 1 == k)) (same_loop g h x v j first)
    ∙ ap (λ b. is_loop g v j && b && (j + 1 == k)) (same_loop g h x v k second)

pub same_halves : (g h : GraphOf) → Extends g h → (v : ℕ) (ks : List ℕ) → All (IsListed g v) ks → without_halves h v ks ≡ without_halves g v ks
unfolding without_halves
same_halves g h x v [] all = refl
same_halves g h x v (j ∷ []) all = refl
same_halves g h x v (j ∷ (k ∷ ks)) all =
    let tail : All (IsListed g v) (k ∷ ks) = All-tail (IsListed g v) j (k ∷ ks) all in
    let pair = same_pair g h x v j k (All-head (IsListed g v) j (k ∷ ks) all) (All-head (IsListed g v) k ks tail) in
    ap (λ b. cond b (j ∷ without_halves h v ks) (j ∷ without_halves h v (k ∷ ks))) pair
    ∙ (ap (λ l. cond (is_loop_pair g v j k) (j ∷ l) (j ∷ without_halves h v (k ∷ ks))) (same_halves g h x v ks (All-tail (IsListed g v) k ks tail))
    ∙ ap (λ l. cond (is_loop_pair g v j k) (j ∷ without_halves g v ks) (j ∷ l)) (same_halves g h x v (k ∷ ks) tail))

pub same_loops : (g h : GraphOf) → Extends g h → (v : ℕ) (ks : List ℕ) → All (IsListed g v) ks → are_loops_paired h v ks ≡ are_loops_paired g v ks
unfolding are_loops_paired
same_loops g h x v [] all = refl
same_loops g h x v (j ∷ []) all = ap not (same_loop g h x v j (All-head (IsListed g v) j [] all))
same_loops g h x v (j ∷ (k ∷ ks)) all =
    let first = All-head (IsListed g v) j (k ∷ ks) all in
    let tail : All (IsListed g v) (k ∷ ks) = All-tail (IsListed g v) j (k ∷ ks) all in
    let pair = same_pair g h x v j k first (All-head (IsListed g v) k ks tail) in
    ap (λ b. cond b (are_loops_paired h v ks) (not (is_loop h v j) && are_loops_paired h v (k ∷ ks))) pair
    ∙ (ap (λ b. cond (is_loop_pair g v j k) b (not (is_loop h v j) && are_loops_paired h v (k ∷ ks))) (same_loops g h x v ks (All-tail (IsListed g v) k ks tail))
    ∙ (ap (λ b. cond (is_loop_pair g v j k) (are_loops_paired g v ks) (not b && are_loops_paired h v (k ∷ ks))) (same_loop g h x v j first)
    ∙ ap (λ b. cond (is_loop_pair g v j k) (are_loops_paired g v ks) (not (is_loop g v j) && b)) (same_loops g h x v (k ∷ ks) tail)))

-- ---- the other half of an arc
pub goes_leads : (g : GraphOf) (k u v : ℕ) → GoesTo g k u v → leads_from g k u v ≡ true
unfolding leads_from
goes_leads g k u v x =
    ap (λ o. goes u v (entry_view (owner_of g k) o)) (some_entry (arc_at g k) x.live)
    ∙ (ap (λ b. b && is_vertex v (entry_at g k).tip) (eq-eqb (owner_of g k) u x.owner)
    ∙ (ap (is_vertex v) x.tip ∙ eq-eqb v v refl))

-- a live arc is listed by its owner
pub live_listed : (g : GraphOf) (k : ℕ) → IsGraph g → has_arc g k ≡ true → IsListed g (owner_of g k) k
live_listed g k sound live = let once = (found_live g k sound live).once in omega arith

still_leads : (g h : GraphOf) → Extends g h → (k u v : ℕ) → leads_from g k u v ≡ true → leads_from h k u v ≡ true
still_leads g h x k u v leads =
    let at = leads_goes g k u v leads in
    let listed = live_listed g k x.before at.live in
    goes_leads h k u v (record {
      live = ap is_some (same_arc g h x (owner_of g k) k listed) ∙ at.live;
      owner = same_owner g h x (owner_of g k) k listed ∙ at.owner;
      tip = ap (λ (e : ArcOf). e.tip) (same_entry g h x (owner_of g k) k listed) ∙ at.tip;
    })

choose : Bool → Bool → Bool → Bool → Bool
choose own low below above = cond own true (cond low below above)

still_chosen : (own low b a c d : Bool) → (b ≡ true → c ≡ true) → (a ≡ true → d ≡ true) → choose own low b a ≡ true → choose own low c d ≡ true
unfolding choose
still_chosen true low b a c d below above is = refl
still_chosen false true b a c d below above is = below is
still_chosen false false b a c d below above is = above is

still_tip : (g h : GraphOf) → Extends g h → (k u : ℕ) (t : Tip) → is_tip_matched g k u t ≡ true → is_tip_matched h k u t ≡ true
unfolding choose
still_tip g h x k u Zero is = absurd cc
still_tip g h x k u One is = absurd cc
still_tip g h x k u (To w) is =
    let v = w.0 in
    still_chosen (v == u) (nat_lt v u) (nat_le 1 k && leads_from g (k - 1) v u) (leads_from g (k + 1) v u) (nat_le 1 k && leads_from h (k - 1) v u) (leads_from h (k + 1) v u)
    (λ b. let p = and_parts (nat_le 1 k) (leads_from g (k - 1) v u) b in and_from (nat_le 1 k) (leads_from h (k - 1) v u) p.0 (still_leads g h x (k - 1) v u p.1))
    (still_leads g h x (k + 1) v u) is

-- a live arc is matched if its tip is, and a hole is
pub matched_live : (g : GraphOf) (k : ℕ) → has_arc g k ≡ true → is_matched g k ≡ is_tip_matched g k (owner_of g k) (entry_at g k).tip
unfolding is_matched
matched_live g k live = ap (λ o. is_view_matched g k (entry_view (owner_of g k) o)) (some_entry (arc_at g k) live)

view_hole : (g : GraphOf) (k u : ℕ) (o : Option ArcOf) → is_some o ≡ false → is_view_matched g k (entry_view u o) ≡ true
view_hole g k u None hole = refl
view_hole g k u (Some e) hole = absurd cc

pub matched_hole : (g : GraphOf) (k : ℕ) → has_arc g k ≡ false → is_matched g k ≡ true
unfolding is_matched
matched_hole g k hole = view_hole g k (owner_of g k) (arc_at g k) hole

pub still_matched : (g h : GraphOf) → Extends g h → (k : ℕ) → k < made_of g → is_matched g k ≡ true → is_matched h k ≡ true
still_matched g h x k made is =
    let same = x.arcs k made in
    elim (cases_Bool (has_arc g k)) [
      | inl live ↦
          let listed = live_listed g k x.before live in
          let u = owner_of g k in
          matched_live h k (ap is_some same ∙ live)
          ∙ (ap (λ w. is_tip_matched h k w (entry_at h k).tip) (same_owner g h x u k listed)
          ∙ (ap (λ (e : ArcOf). is_tip_matched h k u e.tip) (same_entry g h x u k listed)
          ∙ still_tip g h x k u (entry_at g k).tip (sym (matched_live g k live) ∙ is)))
      | inr hole ↦ matched_hole h k (ap is_some same ∙ hole)
    ]
