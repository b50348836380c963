-- Lemmas on slots out of which an arc is taken.
use Rattle.std.proofs.Common.{◌≡◌, ◌≢◌, ◌<◌, ◌≤◌, ◌+◌, ◌^◌, ℕ, suc, List, length, get_or, set, Option, Some, None, is_some, IsSome, IfSome, true, false, refl, sym, ap, subst, ◌∙◌, arith, cond, ◌==◌, ◌⊎◌, inl, inr, to_z, of_z, ℤ}
use Rattle.std.specs.Int.{w64}
use Rattle.std.specs.List.{remove, position_or_len}
use Rattle.std.proofs.lemmas.Int.{to_z-of_z}
use Rattle.std.proofs.lemmas.Bool.{eq-eqb, ne_eqb, cases_eq, cases_lt}
use Rattle.std.proofs.lemmas.List.{get_or_past, get_or-set_same, get_or-set_other, length-set}
use Rattle.sgb_graph.specs.declared.field.VertexNo.{VertexNo}
use Rattle.sgb_graph.specs.declared.field.ArcNo.{ArcNo}
use Rattle.sgb_graph.specs.declared.field.Util.{Util}
use Rattle.sgb_graph.specs.declared.field.Util.TheVariants as utils
use Rattle.sgb_graph.specs.declared.graph.Vertex.{Vertex}
use Rattle.sgb_graph.specs.declared.graph.arena.Slot.{Slot}
use Rattle.sgb_graph.specs.declared.delta.CutArc.{CutArc}
use Rattle.sgb_graph.specs.Graph.{GraphOf, VertexOf, ArcOf, IsGraph, IsArc, IsValue, n_of, made_of, vertex_at, arcs_of, arc_at, occurrences, names_of}
use Rattle.sgb_graph.specs.Edit.{without_arc, owner_of, place_of, entry_at, arc_or, no_arc}
use Rattle.sgb_graph.specs.Delta.{cut_arc}
use Rattle.sgb_graph.specs.Chain.{Leads}
use Rattle.sgb_graph.specs.Private.Arena.{Slots, Shows, ShowsVertex, IsLinked, slot_at, next_of, next_at, entry_of, owner_in, names_counted, numbers}
use Rattle.sgb_graph.specs.Field.{arc_no}
use Rattle.sgb_graph.specs.Private.Link.{any_vertex, vertex_in, IsCounted, value_at, number_before, with_next, vertices_relinked, slots_relinked, slots_losing, slots_losing_both}
use Rattle.sgb_graph.proofs.Counts.{occurs_at, two_places}
use Rattle.sgb_graph.proofs.Graphs.{listed_live, one_owner, owner_is}
use Rattle.sgb_graph.proofs.Chains.{Leads-agree, Leads-rest, Leads-without}
use Rattle.sgb_graph.proofs.Slots.{one_name, slot_same, slot_other, relinked_unseen, next_blind_entry, next_blind_owner, next_blind_names, length-relinked, length-losing, counted_less}
use Rattle.sgb_graph.proofs.Sound.{names_in_two, few_names}
use Rattle.sgb_graph.proofs.Shows.{ShowsBut, but_of, numbers_are, linked_first, shows_arc}
use Rattle.sgb_graph.proofs.ShowsPut.{losing_but, IsBehind, before_cases, next_of_live, length-vertices_relinked, before_within}
use Rattle.sgb_graph.proofs.TakeOut.{Found, found, owner_without, take_n, take_made, take_vertex_same, take_vertex_other, take_entry_same, take_entry_other, take_occurrences, take_names}

-- the slots without the arc, and with its link passed on
abbrev pub take_slots : Slots → ℕ → Option ArcNo → Option ArcNo → Slots
take_slots ss k before link = slots_relinked (set ss k None) before link

module _ (vs : List Vertex) (ss : Slots) (g : GraphOf) (k : ℕ) (x : ShowsBut vs ss g) (sound : IsGraph g) (f : Found g k) where
  pub take_at : {Y : Type 0} (p : Option Slot → Y) → ((link : Option ArcNo) (o : Option Slot) → p (with_next link o) ≡ p o) → (before link : Option ArcNo) → p (slot_at (take_slots ss k before link) k) ≡ p None
  take_at p blind before link = relinked_unseen p blind (set ss k None) before link k ∙ ap p (slot_same ss k None (omega (arith, x.made, f.made)))

  pub take_other : {Y : Type 0} (p : Option Slot → Y) → ((link : Option ArcNo) (o : Option Slot) → p (with_next link o) ≡ p o) → (before link : Option ArcNo) (j : ℕ) → j ≢ k → p (slot_at (take_slots ss k before link) j) ≡ p (slot_at ss j)
  take_other p blind before link j ne = relinked_unseen p blind (set ss k None) before link j ∙ ap p (slot_other ss k j None ne)

  once : (v j : ℕ) → occurrences j (arcs_of g v) ≤ 1
  once v j = elim (cases_lt 0 (occurrences j (arcs_of g v))) [
    | inl o ↦ omega (arith, (listed_live g j v sound o).once)
    | inr o ↦ omega arith
  ]

  -- the arc is in no list but its owner's
  elsewhere : (v j : ℕ) → v ≢ owner_of g k → 0 < occurrences j (arcs_of g v) → j ≢ k
  elsewhere v j ne o e =
      ne (one_owner g k v (owner_of g k) sound (subst (λ i. 0 < occurrences i (arcs_of g v)) e o) (omega (arith, f.once)))

  -- the arc stood first
  front_next : (link : Option ArcNo) (j : ℕ) → j ≢ k → next_at (take_slots ss k None link) j ≡ next_at ss j
  front_next link j ne = ap next_of (slot_other ss k j None ne)

  front_owner : (d : Vertex) → place_of g k ≡ 0
      → ShowsVertex (take_slots ss k None (next_at ss k)) (get_or (vertices_relinked vs (owner_of g k) None (next_at ss k)) (owner_of g k) d) (owner_without g k)
  front_owner d first =
      let v = owner_of g k in
      let y = x.vertices v any_vertex f.owner in
      let link = next_at ss k in
      let qs = take_slots ss k None link in
      let at : get_or (arcs_of g v) 0 0 ≡ k = subst (λ n. get_or (arcs_of g v) n 0 ≡ k) first f.at in
      subst (λ z. ShowsVertex qs z (owner_without g k))
      (sym (get_or-set_same vs v (record (vertex_in vs v) { first = link }) d (omega (arith, x.n, f.owner))))
      (record {
        label = y.label;
        fields = y.fields;
        arcs = subst (λ n. Leads (next_at qs) link (remove (arcs_of g v) n) None) (sym first)
            (Leads-rest (next_at ss) (next_at qs) (vertex_in vs v).first (arcs_of g v) k (omega (arith, f.within)) at (λ j _ ne. front_next link j ne) (once v) y.arcs);
      })

  front_others : (v : ℕ) (d : Vertex) → v < n_of g → v ≢ owner_of g k
      → ShowsVertex (take_slots ss k None (next_at ss k)) (get_or (vertices_relinked vs (owner_of g k) None (next_at ss k)) v d) (vertex_at g v)
  front_others v d h ne =
      let y = x.vertices v d h in
      let link = next_at ss k in
      let qs = take_slots ss k None link in
      subst (λ z. ShowsVertex qs z (vertex_at g v))
      (sym (get_or-set_other vs (owner_of g k) v (record (vertex_in vs (owner_of g k)) { first = link }) d ne))
      (record {
        label = y.label;
        fields = y.fields;
        arcs = Leads-agree (next_at ss) (next_at qs) (get_or vs v d).first (arcs_of g v) None (λ j o. front_next link j (elsewhere v j ne o)) y.arcs;
      })

  -- the arc stood behind another
  behind_next : (p : ℕ) (link : Option ArcNo) (j : ℕ) → j ≢ k → j ≢ p → next_at (take_slots ss k (Some (arc_no p)) link) j ≡ next_at ss j
  behind_next p link j ne other =
      ap next_of (slot_other (set ss k None) p j (with_next link (slot_at (set ss k None) p)) other)
      ∙ ap next_of (slot_other ss k j None ne)

  behind_link : (p : ℕ) (link : Option ArcNo) → p ≢ k → 0 < occurrences p (arcs_of g (owner_of g k)) → next_at (take_slots ss k (Some (arc_no p)) link) p ≡ link
  behind_link p link ne o =
      let it = listed_live g p (owner_of g k) sound o in
      let live : is_some (entry_of (slot_at (set ss k None) p)) ≡ true = ap (λ s. is_some (entry_of s)) (slot_other ss k p None ne) ∙ (ap is_some (x.entries p) ∙ it.live) in
      ap next_of (slot_same (set ss k None) p (with_next link (slot_at (set ss k None) p)) (omega (arith, length-set ss k None, it.made, x.made)))
      ∙ next_of_live link (slot_at (set ss k None) p) live

  not_before : (i p : ℕ) → place_of g k ≡ suc i → get_or (arcs_of g (owner_of g k)) i 0 ≡ p → p ≢ k
  not_before i p place at e =
      let ks = arcs_of g (owner_of g k) in
      let here : get_or ks (suc i) 0 ≡ k = subst (λ n. get_or ks n 0 ≡ k) place f.at in
      let long : suc i < length ks = omega (arith, place, f.within) in
      two_places ks i (suc i) (omega arith) long (at ∙ (e ∙ sym here)) (once (owner_of g k) (get_or ks i 0))

  behind_owner : (d : Vertex) (i p : ℕ) → place_of g k ≡ suc i → get_or (arcs_of g (owner_of g k)) i 0 ≡ p → i < length (arcs_of g (owner_of g k))
      → ShowsVertex (take_slots ss k (Some (arc_no p)) (next_at ss k)) (get_or vs (owner_of g k) d) (owner_without g k)
  behind_owner d i p place at within =
      let v = owner_of g k in
      let y = x.vertices v d f.owner in
      let link = next_at ss k in
      let qs = take_slots ss k (Some (arc_no p)) link in
      let o : 0 < occurrences p (arcs_of g v) = subst (λ j. 0 < occurrences j (arcs_of g v)) at (occurs_at (arcs_of g v) i 0 within) in
      record {
        label = y.label;
        fields = y.fields;
        arcs = subst (λ n. Leads (next_at qs) (get_or vs v d).first (remove (arcs_of g v) n) None) (sym place)
            (Leads-without (next_at ss) (next_at qs) (get_or vs v d).first (arcs_of g v) i k p (omega (arith, place, f.within)) at (subst (λ n. get_or (arcs_of g v) n 0 ≡ k) place f.at) (once v)
            (behind_link p link (not_before i p place at) o) (behind_next p link) y.arcs);
      }

  behind_others : (v : ℕ) (d : Vertex) (i p : ℕ) → v < n_of g → v ≢ owner_of g k → get_or (arcs_of g (owner_of g k)) i 0 ≡ p → i < length (arcs_of g (owner_of g k))
      → ShowsVertex (take_slots ss k (Some (arc_no p)) (next_at ss k)) (get_or vs v d) (vertex_at g v)
  behind_others v d i p h ne at within =
      let y = x.vertices v d h in
      let link = next_at ss k in
      let qs = take_slots ss k (Some (arc_no p)) link in
      let o : 0 < occurrences p (arcs_of g (owner_of g k)) = subst (λ j. 0 < occurrences j (arcs_of g (owner_of g k))) at (occurs_at (arcs_of g (owner_of g k)) i 0 within) in
      record {
        label = y.label;
        fields = y.fields;
        arcs = Leads-agree (next_at ss) (next_at qs) (get_or vs v d).first (arcs_of g v) None
            (λ j here. behind_next p link j (elsewhere v j ne here)
            (λ e. ne (one_owner g p v (owner_of g k) sound (subst (λ q. 0 < occurrences q (arcs_of g v)) e here) o)))
            y.arcs;
      }

  pub take_vertices_shown : (before : Option ArcNo) (v : ℕ) (d : Vertex) → before ≡ number_before (arcs_of g (owner_of g k)) (place_of g k) → v < n_of (without_arc g k)
      → ShowsVertex (take_slots ss k before (next_at ss k)) (get_or (vertices_relinked vs (owner_of g k) before (next_at ss k)) v d) (vertex_at (without_arc g k) v)
  take_vertices_shown before v d is h =
      let low : v < n_of g = omega (arith, h, take_n g k) in
      let P : Option ArcNo → ℕ → VertexOf → Type 0 =
      λ b w z. ShowsVertex (take_slots ss k b (next_at ss k)) (get_or (vertices_relinked vs (owner_of g k) b (next_at ss k)) w d) z in
      let way : ((before ≡ None) × (place_of g k ≡ 0)) ⊎ IsBehind (arcs_of g (owner_of g k)) before (place_of g k) =
      before_cases (arcs_of g (owner_of g k)) (place_of g k) before is (omega (arith, f.within)) in
      elim (cases_eq v (owner_of g k)) [
        | inl same ↦
            let here : vertex_at (without_arc g k) v ≡ owner_without g k = ap (vertex_at (without_arc g k)) same ∙ take_vertex_same g k f in
            let at_owner : P before (owner_of g k) (owner_without g k) =
            elim way [
              | inl a ↦ subst (λ b. P b (owner_of g k) (owner_without g k)) (sym a.0) (front_owner d a.1)
              | inr b ↦ subst (λ q. P q (owner_of g k) (owner_without g k)) (sym b.before_is) (behind_owner d b.i b.p b.place_is b.at b.within)
            ] in
            subst (P before v) (sym here) (subst (λ w. P before w (owner_without g k)) (sym same) at_owner)
        | inr ne ↦
            subst (P before v) (sym (take_vertex_other g k v ne))
            (elim way [
              | inl a ↦ subst (λ b. P b v (vertex_at g v)) (sym a.0) (front_others v d low ne)
              | inr b ↦ subst (λ q. P q v (vertex_at g v)) (sym b.before_is) (behind_others v d b.i b.p low ne b.at b.within)
            ])
      ]

  pub take_entries_shown : (before link : Option ArcNo) (j : ℕ) → entry_of (slot_at (take_slots ss k before link) j) ≡ arc_at (without_arc g k) j
  take_entries_shown before link j =
      elim (cases_eq j k) [
        | inl same ↦
            ap (λ i. entry_of (slot_at (take_slots ss k before link) i)) same
            ∙ (take_at entry_of next_blind_entry before link ∙ (sym (take_entry_same g k f) ∙ ap (arc_at (without_arc g k)) (sym same)))
        | inr ne ↦ take_other entry_of next_blind_entry before link j ne ∙ (x.entries j ∙ sym (take_entry_other g k j ne))
      ]

  take_occurs : (j v : ℕ) → j ≢ k → occurrences j (arcs_of (without_arc g k) v) ≡ occurrences j (arcs_of g v)
  take_occurs j v ne =
      elim (cases_eq v (owner_of g k)) [
        | inl same ↦
            let miss : (let m : ℕ = cond (k == j) 1 0 in m) ≡ 0 = ap (λ b. cond b 1 0) (ne_eqb k j (λ e. ne (sym e))) in
            let there : occurrences j (remove (arcs_of g (owner_of g k)) (place_of g k)) ≡ occurrences j (arcs_of g (owner_of g k)) = omega (arith, take_occurrences g k j f, miss) in
            ap (λ w. occurrences j (arcs_of (without_arc g k) w)) same
            ∙ (ap (λ z. occurrences j z.arcs) (take_vertex_same g k f)
            ∙ (there ∙ ap (λ w. occurrences j (arcs_of g w)) (sym same)))
        | inr other ↦ ap (λ z. occurrences j z.arcs) (take_vertex_other g k v other)
      ]

  owned : (j : ℕ) (o : Option VertexNo) → j ≢ k → IfSome o (λ v. occurrences j (arcs_of g v.0) ≡ 1) → IfSome o (λ v. occurrences j (arcs_of (without_arc g k) v.0) ≡ 1)
  owned j None ne h = tt
  owned j (Some v) ne h = take_occurs j v.0 ne ∙ h

  pub take_owners_shown : (before link : Option ArcNo) (j : ℕ) → IfSome (owner_in (slot_at (take_slots ss k before link) j)) (λ v. occurrences j (arcs_of (without_arc g k) v.0) ≡ 1)
  take_owners_shown before link j =
      let P : ℕ → Option VertexNo → Type 0 = λ i o. IfSome o (λ v. occurrences i (arcs_of (without_arc g k) v.0) ≡ 1) in
      elim (cases_eq j k) [
        | inl same ↦
            subst (λ i. P i (owner_in (slot_at (take_slots ss k before link) i))) (sym same)
            (subst (P k) (sym (take_at owner_in next_blind_owner before link)) tt)
        | inr ne ↦
            subst (P j) (sym (take_other owner_in next_blind_owner before link j ne)) (owned j (owner_in (slot_at ss j)) ne (x.owners j))
      ]

  pub take_but : (before : Option ArcNo) → before ≡ number_before (arcs_of g (owner_of g k)) (place_of g k)
      → ShowsBut (vertices_relinked vs (owner_of g k) before (next_at ss k)) (take_slots ss k before (next_at ss k)) (without_arc g k)
  take_but before is =
      record {
        n = omega (arith, length-vertices_relinked vs (owner_of g k) before (next_at ss k), x.n, take_n g k);
        vertices = λ v d h. take_vertices_shown before v d is h;
        made = omega (arith, length-relinked (set ss k None) before (next_at ss k), length-set ss k None, x.made, take_made g k);
        entries = take_entries_shown before (next_at ss k);
        owners = take_owners_shown before (next_at ss k);
      }

-- the counts that the slots have then, before the arc's fields lose their names
pub take_known : (vs : List Vertex) (ss : Slots) (g : GraphOf) (k : ℕ) (before : Option ArcNo) → Shows vs ss g → IsGraph g → Found g k → length (entry_at g k).fields ≡ 2 → (j : ℕ)
    → IfSome (names_counted (slot_at (take_slots ss k before (next_at ss k)) j)) (λ m. m ≡ names_of (without_arc g k) j + one_name j (value_at (entry_at g k).fields 1) + one_name j (value_at (entry_at g k).fields 0))
take_known vs ss g k before shows sound f two j =
    let us = (entry_at g k).fields in
    let x = but_of vs ss g shows in
    let h = without_arc g k in
    let sum : names_of g j ≡ names_of h j + one_name j (value_at us 1) + one_name j (value_at us 0) = omega (arith, take_names g k j f, names_in_two j us two) in
    let P : Option ℕ → Type 0 = λ o. IfSome o (λ m. m ≡ names_of h j + one_name j (value_at us 1) + one_name j (value_at us 0)) in
    elim (cases_eq j k) [
      | inl same ↦
          subst P (sym (ap (λ i. names_counted (slot_at (take_slots ss k before (next_at ss k)) i)) same ∙ take_at vs ss g k x sound f names_counted next_blind_names before (next_at ss k))) tt
      | inr ne ↦
          subst P (sym (take_other vs ss g k x sound f names_counted next_blind_names before (next_at ss k) j ne))
          (subst (λ z. IfSome (names_counted (slot_at ss j)) (λ m. m ≡ z)) sum (shows.names j))
    ]

pub take_shows : (vs : List Vertex) (ss : Slots) (g : GraphOf) (k : ℕ) (before : Option ArcNo) → Shows vs ss g → IsGraph g → Found g k → length (entry_at g k).fields ≡ 2
    → before ≡ number_before (arcs_of g (owner_of g k)) (place_of g k)
    → Shows (vertices_relinked vs (owner_of g k) before (next_at ss k)) (slots_losing_both (take_slots ss k before (next_at ss k)) (entry_at g k).fields) (without_arc g k)
take_shows vs ss g k before shows sound f two is =
    let us = (entry_at g k).fields in
    let ws = vertices_relinked vs (owner_of g k) before (next_at ss k) in
    let ts = take_slots ss k before (next_at ss k) in
    let h = without_arc g k in
    let x = take_but vs ss g k (but_of vs ss g shows) sound f before is in
    let y : ShowsBut ws (slots_losing_both ts us) h = losing_but ws (slots_losing ts (value_at us 0)) h (value_at us 1) (losing_but ws ts h (value_at us 0) x) in
    record {
      n = y.n;
      vertices = y.vertices;
      made = y.made;
      entries = y.entries;
      owners = y.owners;
      names = λ j.
          counted_less (slots_losing ts (value_at us 0)) (value_at us 1) j (names_of h j)
          (counted_less ts (value_at us 0) j (names_of h j + one_name j (value_at us 1)) (take_known vs ss g k before shows sound f two j));
    }

-- the counts are large enough
within_entries : (es : List (Option ArcOf)) (k : ℕ) → IsSome (get_or es k None) → k < length es
within_entries es k live =
    elim (cases_lt k (length es)) [
      | inl h ↦ h
      | inr h ↦ absurd (let none : is_some (get_or es k None) ≡ false = ap is_some (get_or_past es k None h) in cc)
    ]

counted_above : (o : Option ℕ) (n high : ℕ) → 1 ≤ n → n < high → IfSome o (λ m. m ≡ n) → IfSome o (λ m. (1 ≤ m) × (m < high))
counted_above None n high l h known = tt
counted_above (Some m) n high l h known = (omega (arith, known), omega (arith, known))

pub counted_enough : (ss : Slots) (es : List (Option ArcOf)) (n : ℕ) (u : Util) (p : ℕ → ℕ) → length ss ≡ length es → IsValue n es u → ((k : ℕ) → IfSome (names_counted (slot_at ss k)) (λ m. m ≡ p k + one_name k u)) → ((k : ℕ) → p k + one_name k u < 2 ^ 32) → IsCounted ss 1 (2 ^ 32) u
counted_enough ss es n utils.Zero p made v known below = tt
counted_enough ss es n (utils.Int z) p made v known below = tt
counted_enough ss es n (utils.Vertex w) p made v known below = tt
counted_enough ss es n (utils.Arc a) p made v known below =
    let one : one_name a.0 (utils.Arc a) ≡ 1 = ap (λ b. cond b 1 0) (eq-eqb a.0 a.0 refl) in
    (omega (arith, made, within_entries es a.0 v), counted_above (names_counted (slot_at ss a.0)) (p a.0 + one_name a.0 (utils.Arc a)) (2 ^ 32) (omega (arith, one)) (below a.0) (known a.0))
counted_enough ss es n (utils.Text t) p made v known below = tt

-- what is known once the owner is read
pub record TakeFacts (vs : List Vertex) (ss : Slots) (g : GraphOf) (k : ℕ) (v : VertexNo) (d : Vertex) : Type 0 where
  pub found : Found g k
  pub owner : owner_of g k ≡ v.0
  pub vertex : v.0 < n_of g
  pub linked : IsLinked ss (get_or vs v.0 d).first
  pub numbers : numbers ss (get_or vs v.0 d).first ≡ arcs_of g (owner_of g k)
  pub arc : IsArc (n_of g) g.entries (entry_at g k)

pub take_facts : (vs : List Vertex) (ss : Slots) (g : GraphOf) (k : ℕ) (v : VertexNo) (d : Vertex) → Shows vs ss g → IsGraph g → owner_in (slot_at ss k) ≡ Some v → TakeFacts vs ss g k v d
take_facts vs ss g k v d shows sound is =
    let x = but_of vs ss g shows in
    let once : occurrences k (arcs_of g v.0) ≡ 1 = subst (λ o. IfSome o (λ w. occurrences k (arcs_of g w.0) ≡ 1)) is (shows.owners k) in
    let it = listed_live g k v.0 sound (omega arith) in
    let f = found g k v.0 sound (omega arith) in
    let owner : owner_of g k ≡ v.0 = owner_is g k v.0 sound (omega arith) in
    record {
      found = f;
      owner = owner;
      vertex = it.vertex;
      linked = linked_first vs ss g v.0 d x sound it.vertex;
      numbers = numbers_are vs ss g v.0 d x sound it.vertex ∙ ap (arcs_of g) (sym owner);
      arc = subst (λ o. IfSome o (IsArc (n_of g) g.entries)) f.entry (sound.arcs k None f.made);
    }

-- the slot that was removed shows the arc
pub record SlotFacts (ss : Slots) (g : GraphOf) (k : ℕ) (s : Slot) : Type 0 where
  pub entry : entry_at g k ≡ record { tip = s.tip; len = s.len; fields = s.fields }
  pub owner : owner_of g k ≡ s.owner.0
  pub next : s.next ≡ next_at ss k
  pub len : to_z w64 (of_z w64 s.len) ≡ s.len

pub slot_facts : (vs : List Vertex) (ss : Slots) (g : GraphOf) (k : ℕ) (s : Slot) → Shows vs ss g → IsGraph g → slot_at ss k ≡ Some s → SlotFacts ss g k s
slot_facts vs ss g k s shows sound is =
    let y = shows_arc vs ss g k s shows sound is in
    record {
      entry = ap (arc_or no_arc) y.entry;
      owner = y.owner;
      next = sym (ap next_of is);
      len = to_z-of_z w64 s.len y.len;
    }

abbrev cut_of : ArcNo → ℕ → ℕ → ArcOf → CutArc
cut_of number v place e = record { number = number; owner = record { 0 = v }; place = place; tip = e.tip; len = e.len; fields = e.fields }

abbrev arc_with : Slot → ℤ → ArcOf
arc_with s z = record { tip = s.tip; len = z; fields = s.fields }

abbrev pub cut_from : ArcNo → ℕ → Slot → CutArc
cut_from number place s = record { number = number; owner = s.owner; place = place; tip = s.tip; len = to_z w64 (of_z w64 s.len); fields = s.fields }

pub record CutDone (ws : List Vertex) (qs : Slots) (g : GraphOf) (number : ArcNo) (place : ℕ) (s : Slot) : Type 0 where
  pub cut : cut_from number place s ≡ cut_arc g number.0
  pub shows : Shows ws qs (without_arc g number.0)

-- what the steps of `take_out` leave
pub take_out_done : (vs ws : List Vertex) (ss rs ts qs : Slots) (g : GraphOf) (number : ArcNo) (v : VertexNo) (d : Vertex) (place : ℕ) (before : Option ArcNo) (s : Slot)
    → Shows vs ss g → IsGraph g → owner_in (slot_at ss number.0) ≡ Some v → slot_at ss number.0 ≡ Some s
    → place ≡ position_or_len (λ j. j == number.0) (numbers ss (get_or vs v.0 d).first)
    → before ≡ number_before (numbers ss (get_or vs v.0 d).first) place
    → rs ≡ set ss number.0 None → ws ≡ vertices_relinked vs v.0 before s.next → ts ≡ slots_relinked rs before s.next → qs ≡ slots_losing_both ts s.fields
    → CutDone ws qs g number place s
take_out_done vs ws ss rs ts qs g number v d place before s shows sound owner slot place_is before_is rs_is ws_is ts_is qs_is =
    let k = number.0 in
    let t = take_facts vs ss g k v d shows sound owner in
    let y = slot_facts vs ss g k s shows sound slot in
    let here : place ≡ place_of g k = place_is ∙ ap (position_or_len (λ j. j == k)) t.numbers in
    let is : before ≡ number_before (arcs_of g (owner_of g k)) (place_of g k) = before_is ∙ (ap (λ ks. number_before ks place) t.numbers ∙ ap (number_before (arcs_of g (owner_of g k))) here) in
    let fields : s.fields ≡ (entry_at g k).fields = sym (ap (λ e. e.fields) y.entry) in
    let ws' : ws ≡ vertices_relinked vs (owner_of g k) before (next_at ss k) = ws_is ∙ (ap (λ w. vertices_relinked vs w before s.next) (sym t.owner) ∙ ap (vertices_relinked vs (owner_of g k) before) y.next) in
    let ts' : ts ≡ take_slots ss k before (next_at ss k) = ts_is ∙ (ap (λ r. slots_relinked r before s.next) rs_is ∙ ap (take_slots ss k before) y.next) in
    let qs' : qs ≡ slots_losing_both (take_slots ss k before (next_at ss k)) (entry_at g k).fields = qs_is ∙ (ap (λ r. slots_losing_both r s.fields) ts' ∙ ap (slots_losing_both (take_slots ss k before (next_at ss k))) fields) in
    record {
      cut =
          ap (λ n. cut_from number n s) here
          ∙ (ap (λ z. cut_of number s.owner.0 (place_of g k) (arc_with s z)) y.len
          ∙ (ap (λ w. cut_of number w (place_of g k) (arc_with s s.len)) (sym y.owner)
          ∙ ap (λ e. cut_of number (owner_of g k) (place_of g k) e) (sym y.entry)));
      shows = rw (ws', qs') (take_shows vs ss g k before shows sound t.found t.arc.two is);
    }

-- what losing the names requires
pub record LoseRoom (ts : Slots) (us : List Util) : Type 0 where
  pub first : IsCounted ts 1 (2 ^ 32) (value_at us 0)
  pub second : IsCounted (slots_losing ts (value_at us 0)) 1 (2 ^ 32) (value_at us 1)

lose_room : (vs : List Vertex) (ss : Slots) (g : GraphOf) (k : ℕ) (before : Option ArcNo) → Shows vs ss g → IsGraph g → Found g k → IsArc (n_of g) g.entries (entry_at g k)
    → LoseRoom (take_slots ss k before (next_at ss k)) (entry_at g k).fields
lose_room vs ss g k before shows sound f arc =
    let us = (entry_at g k).fields in
    let a = value_at us 0 in
    let b = value_at us 1 in
    let h = without_arc g k in
    let ts = take_slots ss k before (next_at ss k) in
    let known = take_known vs ss g k before shows sound f arc.two in
    let size : length ts ≡ length g.entries = length-relinked (set ss k None) before (next_at ss k) ∙ (length-set ss k None ∙ shows.made) in
    let sum : (j : ℕ) → names_of h j + one_name j b + one_name j a ≡ names_of g j = λ j. omega (arith, take_names g k j f, names_in_two j us arc.two) in
    record {
      first = counted_enough ts g.entries (n_of g) a (λ j. names_of h j + one_name j b) size (arc.values 0 utils.Zero (omega (arith, arc.two))) known
          (λ j. omega (arith, sum j, few_names g j sound));
      second = counted_enough (slots_losing ts a) g.entries (n_of g) b (names_of h) (length-losing ts a ∙ size) (arc.values 1 utils.Zero (omega (arith, arc.two)))
          (λ j. counted_less ts a j (names_of h j + one_name j b) (known j))
          (λ j. omega (arith, sum j, few_names g j sound));
    }

pub lose_room_at : (vs : List Vertex) (ss rs ts : Slots) (g : GraphOf) (number : ArcNo) (v : VertexNo) (d : Vertex) (before : Option ArcNo) (s : Slot)
    → Shows vs ss g → IsGraph g → owner_in (slot_at ss number.0) ≡ Some v → slot_at ss number.0 ≡ Some s
    → rs ≡ set ss number.0 None → ts ≡ slots_relinked rs before s.next → LoseRoom ts s.fields
lose_room_at vs ss rs ts g number v d before s shows sound owner slot rs_is ts_is =
    let k = number.0 in
    let t = take_facts vs ss g k v d shows sound owner in
    let y = slot_facts vs ss g k s shows sound slot in
    let fields : (entry_at g k).fields ≡ s.fields = ap (λ e. e.fields) y.entry in
    let ts' : take_slots ss k before (next_at ss k) ≡ ts = sym (ts_is ∙ (ap (λ r. slots_relinked r before s.next) rs_is ∙ ap (take_slots ss k before) y.next)) in
    subst (LoseRoom ts) fields (subst (λ r. LoseRoom r (entry_at g k).fields) ts' (lose_room vs ss g k before shows sound t.found t.arc))

-- the arc before is within the slots
pub before_in : (vs : List Vertex) (ss rs : Slots) (g : GraphOf) (number : ArcNo) (v : VertexNo) (d : Vertex) (place : ℕ) (before : Option ArcNo)
    → Shows vs ss g → IsGraph g → owner_in (slot_at ss number.0) ≡ Some v
    → place ≡ position_or_len (λ j. j == number.0) (numbers ss (get_or vs v.0 d).first)
    → before ≡ number_before (numbers ss (get_or vs v.0 d).first) place
    → rs ≡ set ss number.0 None → (p : ArcNo) → before ≡ Some p → p.0 < length rs
before_in vs ss rs g number v d place before shows sound owner place_is before_is rs_is p e =
    let k = number.0 in
    let t = take_facts vs ss g k v d shows sound owner in
    let here : place ≡ place_of g k = place_is ∙ ap (position_or_len (λ j. j == k)) t.numbers in
    let is : before ≡ number_before (arcs_of g (owner_of g k)) (place_of g k) = before_is ∙ (ap (λ ks. number_before ks place) t.numbers ∙ ap (number_before (arcs_of g (owner_of g k))) here) in
    let low : p.0 < made_of g = before_within g (owner_of g k) (place_of g k) before sound is (omega (arith, t.found.within)) p e in
    omega (arith, low, shows.made, ap length rs_is, length-set ss k None)
