-- Lemmas on slots into which an arc is linked.
use Rattle.std.proofs.Common.{◌≡◌, ◌≢◌, ◌+◌, ℕ, get_or, set, Option, Some, None, is_some, IfSome, true, refl, sym, ap, ◌∙◌, arith, cond, ◌==◌, inl, inr, ◌<◌, ◌≤◌, ◌-◌, ◌^◌, zero, suc, List, [], ◌∷◌, length, subst, ◌⊎◌, option_map, slice_get, to_z, of_z}
use Rattle.std.specs.List.{insert}
use Rattle.std.proofs.lemmas.Bool.{eq-eqb, ne_eqb, cases_eq, cases_Bool, cases_lt}
use Rattle.std.proofs.lemmas.List.{get_or-set_same, get_or-set_other, length-set}
use Rattle.std.proofs.lemmas.List.Sums.{sum_by-set, sum_by-insert}
use Rattle.sgb_graph.specs.declared.field.VertexNo.{VertexNo}
use Rattle.sgb_graph.specs.declared.delta.CutArc.{CutArc}
use Rattle.sgb_graph.specs.Graph.{GraphOf, VertexOf, ArcOf, IsGraph, IsVertex, IsArc, n_of, made_of, m_of, vertex_at, no_vertex, arcs_of, arc_at, has_arc, occurrences, listings, names_in, names_in_entry, names_of, IsValue, IsTip, is_name}
use Rattle.sgb_graph.specs.Edit.{with_listed, with_cut_arc, arc_of}
use Rattle.sgb_graph.specs.Private.Link.{CanPutBack, any_vertex, vertex_in, value_at, number_before, link_after, with_next, vertices_relinked, slots_relinked, slots_gaining, slots_losing, slots_gaining_both, IsCounted}
use Rattle.sgb_graph.proofs.Graphs.{hole_unlisted, listed_live, one_owner, made_of_live}
use Rattle.sgb_graph.proofs.Sound.{Keeps, IsValue-keeps, IsVertex-keeps, IsArc-keeps, IsEntry-keeps, All-set, entry_same, entry_other, names_in_two, hole_unnamed, names_none, few_names}
use Rattle.sgb_graph.specs.declared.field.ArcNo.{ArcNo}
use Rattle.sgb_graph.specs.declared.field.Util.{Util}
use Rattle.sgb_graph.specs.declared.graph.Vertex.{Vertex}
use Rattle.sgb_graph.specs.declared.graph.arena.Slot.{Slot}
use Rattle.sgb_graph.specs.Chain.{Leads}
use Rattle.sgb_graph.specs.Private.Arena.{Slots, Shows, ShowsVertex, IsLinked, slot_at, next_of, next_at, entry_of, owner_in, names_counted, numbers}
use Rattle.sgb_graph.specs.Field.{arc_no}
use Rattle.sgb_graph.proofs.Counts.{occurs_at}
use Rattle.sgb_graph.proofs.Chains.{Leads-agree, Leads-first, Leads-behind}
use Rattle.sgb_graph.proofs.Slots.{one_name, slot_same, slot_other, relinked_unseen, next_blind_entry, next_blind_owner, next_blind_names, length-relinked, gaining_unseen, losing_unseen, more_blind_next, more_blind_entry, more_blind_owner, less_blind_next, less_blind_entry, less_blind_owner, length-gaining, length-losing, counted_more}
use Rattle.sgb_graph.proofs.Shows.{ShowsBut, but_of, numbers_are, linked_first}
use Rattle.std.specs.Int.{w64}
use Rattle.std.proofs.lemmas.Int.{to_z-of_z}
use Rattle.sgb_graph.specs.declared.field.Tip.{Tip}
use Rattle.sgb_graph.specs.declared.field.Tip.TheVariants as tips
use Rattle.sgb_graph.specs.declared.field.Util.TheVariants as utils

-- the owner with the arc
abbrev pub owner_with : GraphOf → CutArc → VertexOf
owner_with g c = record (vertex_at g c.owner.0) { arcs = insert (arcs_of g c.owner.0) c.place c.number.0 }

pub put_vertices : (g : GraphOf) (c : CutArc) → (with_cut_arc g c).vertices ≡ set g.vertices c.owner.0 (owner_with g c)
unfolding with_cut_arc with_listed
put_vertices g c = refl

pub put_n : (g : GraphOf) (c : CutArc) → n_of (with_cut_arc g c) ≡ n_of g
unfolding with_cut_arc with_listed
put_n g c = length-set g.vertices c.owner.0 (owner_with g c)

pub put_made : (g : GraphOf) (c : CutArc) → made_of (with_cut_arc g c) ≡ made_of g
unfolding with_cut_arc with_listed
put_made g c = length-set g.entries c.number.0 (Some (arc_of c))

pub put_vertex_same : (g : GraphOf) (c : CutArc) → CanPutBack g c → vertex_at (with_cut_arc g c) c.owner.0 ≡ owner_with g c
unfolding with_cut_arc with_listed
put_vertex_same g c can = get_or-set_same g.vertices c.owner.0 (owner_with g c) no_vertex can.owner

pub put_vertex_other : (g : GraphOf) (c : CutArc) (v : ℕ) → v ≢ c.owner.0 → vertex_at (with_cut_arc g c) v ≡ vertex_at g v
unfolding with_cut_arc with_listed
put_vertex_other g c v ne = get_or-set_other g.vertices c.owner.0 v (owner_with g c) no_vertex ne

pub put_entry_same : (g : GraphOf) (c : CutArc) → CanPutBack g c → arc_at (with_cut_arc g c) c.number.0 ≡ Some (arc_of c)
unfolding with_cut_arc with_listed
put_entry_same g c can = entry_same g.entries c.number.0 (Some (arc_of c)) can.made

pub put_entry_other : (g : GraphOf) (c : CutArc) (k : ℕ) → k ≢ c.number.0 → arc_at (with_cut_arc g c) k ≡ arc_at g k
unfolding with_cut_arc with_listed
put_entry_other g c k ne = entry_other g.entries c.number.0 k (Some (arc_of c)) ne

-- how often a number is listed then
pub put_occurrences : (g : GraphOf) (c : CutArc) (k : ℕ) → occurrences k (insert (arcs_of g c.owner.0) c.place c.number.0) ≡ occurrences k (arcs_of g c.owner.0) + cond (c.number.0 == k) 1 0
put_occurrences g c k = sum_by-insert (λ j. cond (j == k) 1 0) (arcs_of g c.owner.0) c.place c.number.0

pub put_listings : (g : GraphOf) (c : CutArc) (k : ℕ) → CanPutBack g c → listings k (with_cut_arc g c).vertices ≡ listings k g.vertices + cond (c.number.0 == k) 1 0
put_listings g c k can =
    let s = sum_by-set (λ v. occurrences k v.arcs) g.vertices c.owner.0 (owner_with g c) no_vertex can.owner in
    ap (listings k) (put_vertices g c) ∙ omega (arith, s, put_occurrences g c k)

pub put_keeps : (g : GraphOf) (c : CutArc) → CanPutBack g c → Keeps (n_of g) g.entries (n_of (with_cut_arc g c)) (with_cut_arc g c).entries
put_keeps g c can =
    record {
      vertices = omega (arith, put_n g c);
      arcs = λ k live. elim (cases_eq k c.number.0) [
        | inl same ↦ ap (λ i. is_some (arc_at (with_cut_arc g c) i)) same ∙ ap is_some (put_entry_same g c can)
        | inr ne ↦ ap is_some (put_entry_other g c k ne) ∙ live
      ];
    }

-- how many fields name an arc then
pub put_names : (g : GraphOf) (c : CutArc) (k : ℕ) → CanPutBack g c → names_of (with_cut_arc g c) k ≡ names_of g k + names_in k c.fields
unfolding with_cut_arc with_listed
put_names g c k can =
    let v = sum_by-set (λ x. names_in k x.fields) g.vertices c.owner.0 (owner_with g c) no_vertex can.owner in
    let e = sum_by-set (names_in_entry k) g.entries c.number.0 (Some (arc_of c)) None can.made in
    let hole : names_in_entry k (get_or g.entries c.number.0 None) ≡ 0 = ap (names_in_entry k) can.hole in
    omega (arith, v, e, hole)

pub put_sound : (g : GraphOf) (c : CutArc) → IsGraph g → CanPutBack g c → IsGraph (with_cut_arc g c)
unfolding with_cut_arc with_listed
put_sound g c sound can =
    let h = with_cut_arc g c in
    let keeps : Keeps (n_of g) g.entries (n_of h) h.entries = put_keeps g c can in
    let owner = sound.vertices c.owner.0 no_vertex can.owner in
    record {
      listed = λ k. elim (cases_eq k c.number.0) [
        | inl same ↦
            let was : listings k g.vertices ≡ 0 = sound.listed k ∙ ap (λ b. cond b 1 0) (ap (λ i. has_arc g i) same ∙ ap is_some can.hole) in
            let now : has_arc h k ≡ true = ap (λ i. is_some (arc_at h i)) same ∙ ap is_some (put_entry_same g c can) in
            put_listings g c k can ∙ (ap (λ b. listings k g.vertices + cond b 1 0) (eq-eqb c.number.0 k (sym same)) ∙ (omega arith ∙ ap (λ b. cond b 1 0) (sym now)))
        | inr ne ↦
            put_listings g c k can ∙ (ap (λ b. listings k g.vertices + cond b 1 0) (ne_eqb c.number.0 k (λ e. ne (sym e))) ∙ (omega arith ∙ (sound.listed k ∙ ap (λ o. cond (is_some o) 1 0) (sym (put_entry_other g c k ne)))))
      ];
      id = sound.id;
      types = sound.types;
      six = sound.six;
      values = λ i d l. IsValue-keeps (n_of g) (n_of h) g.entries h.entries (get_or g.fields i d) keeps (sound.values i d l);
      vertices = All-set (IsVertex (n_of h) h.entries) g.vertices c.owner.0 (owner_with g c)
          (λ i d l. IsVertex-keeps (n_of g) (n_of h) g.entries h.entries (get_or g.vertices i d) keeps (sound.vertices i d l))
          (record {
            label = owner.label;
            six = owner.six;
            values = λ i d l. IsValue-keeps (n_of g) (n_of h) g.entries h.entries (get_or (vertex_at g c.owner.0).fields i d) keeps (owner.values i d l);
          });
      arcs = All-set (λ o. IfSome o (IsArc (n_of h) h.entries)) g.entries c.number.0 (Some (arc_of c))
          (λ i d l. IsEntry-keeps (n_of g) (n_of h) g.entries h.entries (get_or g.entries i d) keeps (sound.arcs i d l))
          (IsArc-keeps (n_of g) (n_of h) g.entries h.entries (arc_of c) keeps can.arc);
      few_vertices = omega (arith, put_n g c, sound.few_vertices);
      few_arcs = omega (arith, put_made g c, sound.few_arcs);
    }

-- one more arc lives
pub put_m : (g : GraphOf) (c : CutArc) → CanPutBack g c → m_of (with_cut_arc g c) ≡ m_of g + 1
unfolding with_cut_arc with_listed
put_m g c can =
    let one : Option ArcOf → ℕ = λ o. cond (is_some o) 1 0 in
    let e = sum_by-set one g.entries c.number.0 (Some (arc_of c)) None can.made in
    let hole : one (get_or g.entries c.number.0 None) ≡ 0 = ap one can.hole in
    omega (arith, e, hole)

-- how often a number stands in the lists then
put_occurs : (g : GraphOf) (c : CutArc) (k v : ℕ) → CanPutBack g c → k ≢ c.number.0 → occurrences k (arcs_of (with_cut_arc g c) v) ≡ occurrences k (arcs_of g v)
put_occurs g c k v can ne =
    elim (cases_eq v c.owner.0) [
      | inl same ↦
          ap (λ w. occurrences k (arcs_of (with_cut_arc g c) w)) same
          ∙ (ap (λ z. occurrences k z.arcs) (put_vertex_same g c can)
          ∙ (put_occurrences g c k
          ∙ (ap (λ b. occurrences k (arcs_of g c.owner.0) + cond b 1 0) (ne_eqb c.number.0 k (λ e. ne (sym e)))
          ∙ (omega arith ∙ ap (λ w. occurrences k (arcs_of g w)) (sym same)))))
      | inr other ↦ ap (λ z. occurrences k z.arcs) (put_vertex_other g c v other)
    ]

pub put_occurs_new : (g : GraphOf) (c : CutArc) → IsGraph g → CanPutBack g c → occurrences c.number.0 (arcs_of (with_cut_arc g c) c.owner.0) ≡ 1
put_occurs_new g c sound can =
    ap (λ z. occurrences c.number.0 z.arcs) (put_vertex_same g c can)
    ∙ (put_occurrences g c c.number.0
    ∙ (ap (λ b. occurrences c.number.0 (arcs_of g c.owner.0) + cond b 1 0) (eq-eqb c.number.0 c.number.0 refl)
    ∙ omega (arith, hole_unlisted g c.number.0 c.owner.0 sound (ap is_some can.hole))))

pub put_owned : (g : GraphOf) (c : CutArc) (k : ℕ) (o : Option VertexNo) → CanPutBack g c → k ≢ c.number.0 → IfSome o (λ v. occurrences k (arcs_of g v.0) ≡ 1) → IfSome o (λ v. occurrences k (arcs_of (with_cut_arc g c) v.0) ≡ 1)
put_owned g c k None can ne h = tt
put_owned g c k (Some v) can ne h = put_occurs g c k v.0 can ne ∙ h

-- counting names changes nothing else
pub gaining_but : (vs : List Vertex) (ss : Slots) (g : GraphOf) (u : Util) → ShowsBut vs ss g → ShowsBut vs (slots_gaining ss u) g
gaining_but vs ss g u x =
    record {
      n = x.n;
      vertices = λ v d h.
          let y = x.vertices v d h in
          record {
            label = y.label;
            fields = y.fields;
            arcs = Leads-agree (next_at ss) (next_at (slots_gaining ss u)) (get_or vs v d).first (arcs_of g v) None (λ j _. gaining_unseen next_of more_blind_next ss u j) y.arcs;
          };
      made = length-gaining ss u ∙ x.made;
      entries = λ k. gaining_unseen entry_of more_blind_entry ss u k ∙ x.entries k;
      owners = λ k. subst (λ o. IfSome o (λ v. occurrences k (arcs_of g v.0) ≡ 1)) (sym (gaining_unseen owner_in more_blind_owner ss u k)) (x.owners k);
    }

pub losing_but : (vs : List Vertex) (ss : Slots) (g : GraphOf) (u : Util) → ShowsBut vs ss g → ShowsBut vs (slots_losing ss u) g
losing_but vs ss g u x =
    record {
      n = x.n;
      vertices = λ v d h.
          let y = x.vertices v d h in
          record {
            label = y.label;
            fields = y.fields;
            arcs = Leads-agree (next_at ss) (next_at (slots_losing ss u)) (get_or vs v d).first (arcs_of g v) None (λ j _. losing_unseen next_of less_blind_next ss u j) y.arcs;
          };
      made = length-losing ss u ∙ x.made;
      entries = λ k. losing_unseen entry_of less_blind_entry ss u k ∙ x.entries k;
      owners = λ k. subst (λ o. IfSome o (λ v. occurrences k (arcs_of g v.0) ≡ 1)) (sym (losing_unseen owner_in less_blind_owner ss u k)) (x.owners k);
    }

-- where a number stands in a list: first, or behind another
pub record IsBehind (ks : List ℕ) (before : Option ArcNo) (place : ℕ) : Type 0 where
  pub i : ℕ
  pub p : ℕ
  pub place_is : place ≡ suc i
  pub before_is : before ≡ Some (arc_no p)
  pub at : get_or ks i 0 ≡ p
  pub within : i < length ks

pub get_within : (ks : List ℕ) (i : ℕ) → i < length ks → slice_get ks i ≡ Some (get_or ks i 0)
get_within [] i h = absurd (omega arith)
get_within (k ∷ ks) zero h = refl
get_within (k ∷ ks) (suc i) h = get_within ks i (omega arith)

pub before_cases : (ks : List ℕ) (place : ℕ) (before : Option ArcNo) → before ≡ number_before ks place → place ≤ length ks → ((before ≡ None) × (place ≡ 0)) ⊎ IsBehind ks before place
before_cases ks zero before is h = inl (is, refl)
before_cases ks (suc i) before is h =
    inr (record {
      i = i;
      p = get_or ks i 0;
      place_is = refl;
      before_is = is ∙ ap (option_map arc_no) (get_within ks i (omega arith));
      at = refl;
      within = omega arith;
    })

pub next_of_live : (link : Option ArcNo) (o : Option Slot) → is_some (entry_of o) ≡ true → next_of (with_next link o) ≡ link
next_of_live link None live = absurd cc
next_of_live link (Some s) live = refl

-- the slot of the arc, and the slots with it
abbrev pub put_slot : CutArc → Option ArcNo → Slot
put_slot c link = record { owner = c.owner; tip = c.tip; next = link; names = 0; len = c.len; fields = c.fields }

abbrev pub put_slots : Slots → CutArc → Option ArcNo → Option ArcNo → Slots
put_slots ts c before link = set (slots_relinked ts before (Some c.number)) c.number.0 (Some (put_slot c link))

module _ (vs : List Vertex) (ts : Slots) (g : GraphOf) (c : CutArc) (x : ShowsBut vs ts g) (sound : IsGraph g) (can : CanPutBack g c) where
  -- what does not see links sees the new slot alone
  pub put_same : (before link : Option ArcNo) → slot_at (put_slots ts c before link) c.number.0 ≡ Some (put_slot c link)
  put_same before link =
      slot_same (slots_relinked ts before (Some c.number)) c.number.0 (Some (put_slot c link)) (omega (arith, length-relinked ts before (Some c.number), x.made, can.made))

  pub put_other : {Y : Type 0} (f : Option Slot → Y) → ((link : Option ArcNo) (o : Option Slot) → f (with_next link o) ≡ f o) → (before link : Option ArcNo) (j : ℕ) → j ≢ c.number.0 → f (slot_at (put_slots ts c before link) j) ≡ f (slot_at ts j)
  put_other f blind before link j ne =
      ap f (slot_other (slots_relinked ts before (Some c.number)) c.number.0 j (Some (put_slot c link)) ne)
      ∙ relinked_unseen f blind ts before (Some c.number) j

  -- the number is new to each list
  fresh : (v : ℕ) → occurrences c.number.0 (arcs_of g v) ≡ 0
  fresh v = hole_unlisted g c.number.0 v sound (ap is_some can.hole)

  not_fresh : (v j : ℕ) → 0 < occurrences j (arcs_of g v) → j ≢ c.number.0
  not_fresh v j o e = omega (arith, ap (λ i. occurrences i (arcs_of g v)) e, fresh v)

  once : (v j : ℕ) → occurrences j (arcs_of g v) ≤ 1
  once v j = elim (cases_lt 0 (occurrences j (arcs_of g v))) [
    | inl o ↦ omega (arith, (listed_live g j v sound o).once)
    | inr o ↦ omega arith
  ]

  -- the arc stands first in its owner's list
  front_next : (link : Option ArcNo) (j : ℕ) → j ≢ c.number.0 → next_at (put_slots ts c None link) j ≡ next_at ts j
  front_next link j ne = ap next_of (slot_other ts c.number.0 j (Some (put_slot c link)) ne)

  front_owner : (d : Vertex) → c.place ≡ 0
      → ShowsVertex (put_slots ts c None (link_after vs ts c.owner.0 None)) (get_or (vertices_relinked vs c.owner.0 None (Some c.number)) c.owner.0 d) (owner_with g c)
  front_owner d first =
      let y = x.vertices c.owner.0 any_vertex can.owner in
      let link = (vertex_in vs c.owner.0).first in
      let qs = put_slots ts c None link in
      subst (λ z. ShowsVertex qs z (owner_with g c))
      (sym (get_or-set_same vs c.owner.0 (record (vertex_in vs c.owner.0) { first = Some c.number }) d (omega (arith, x.n, can.owner))))
      (record {
        label = y.label;
        fields = y.fields;
        arcs = subst (λ n. Leads (next_at qs) (Some c.number) (insert (arcs_of g c.owner.0) n c.number.0) None) (sym first)
            (Leads-first (next_at ts) (next_at qs) link (arcs_of g c.owner.0) c.number.0 (ap next_of (put_same None link))
            (λ j o. front_next link j (not_fresh c.owner.0 j o)) y.arcs);
      })

  front_others : (v : ℕ) (d : Vertex) → v < n_of g → v ≢ c.owner.0
      → ShowsVertex (put_slots ts c None (link_after vs ts c.owner.0 None)) (get_or (vertices_relinked vs c.owner.0 None (Some c.number)) v d) (vertex_at g v)
  front_others v d h ne =
      let y = x.vertices v d h in
      let link = (vertex_in vs c.owner.0).first in
      let qs = put_slots ts c None link in
      subst (λ z. ShowsVertex qs z (vertex_at g v))
      (sym (get_or-set_other vs c.owner.0 v (record (vertex_in vs c.owner.0) { first = Some c.number }) d ne))
      (record {
        label = y.label;
        fields = y.fields;
        arcs = Leads-agree (next_at ts) (next_at qs) (get_or vs v d).first (arcs_of g v) None (λ j o. front_next link j (not_fresh v j o)) y.arcs;
      })

  -- the arc stands behind another
  behind_next : (p : ℕ) (link : Option ArcNo) (j : ℕ) → j ≢ c.number.0 → j ≢ p → next_at (put_slots ts c (Some (arc_no p)) link) j ≡ next_at ts j
  behind_next p link j ne other =
      ap next_of (slot_other (slots_relinked ts (Some (arc_no p)) (Some c.number)) c.number.0 j (Some (put_slot c link)) ne)
      ∙ ap next_of (slot_other ts p j (with_next (Some c.number) (slot_at ts p)) other)

  behind_link : (p : ℕ) (link : Option ArcNo) → 0 < occurrences p (arcs_of g c.owner.0) → next_at (put_slots ts c (Some (arc_no p)) link) p ≡ Some c.number
  behind_link p link o =
      let it = listed_live g p c.owner.0 sound o in
      let live : is_some (entry_of (slot_at ts p)) ≡ true = ap is_some (x.entries p) ∙ it.live in
      ap next_of (slot_other (slots_relinked ts (Some (arc_no p)) (Some c.number)) c.number.0 p (Some (put_slot c link)) (not_fresh c.owner.0 p o))
      ∙ (ap next_of (slot_same ts p (with_next (Some c.number) (slot_at ts p)) (omega (arith, it.made, x.made)))
      ∙ next_of_live (Some c.number) (slot_at ts p) live)

  behind_owner : (d : Vertex) (i p : ℕ) → c.place ≡ suc i → get_or (arcs_of g c.owner.0) i 0 ≡ p → i < length (arcs_of g c.owner.0)
      → ShowsVertex (put_slots ts c (Some (arc_no p)) (next_at ts p)) (get_or vs c.owner.0 d) (owner_with g c)
  behind_owner d i p place at within =
      let y = x.vertices c.owner.0 d can.owner in
      let qs = put_slots ts c (Some (arc_no p)) (next_at ts p) in
      let o : 0 < occurrences p (arcs_of g c.owner.0) = subst (λ j. 0 < occurrences j (arcs_of g c.owner.0)) at (occurs_at (arcs_of g c.owner.0) i 0 within) in
      record {
        label = y.label;
        fields = y.fields;
        arcs = subst (λ n. Leads (next_at qs) (get_or vs c.owner.0 d).first (insert (arcs_of g c.owner.0) n c.number.0) None) (sym place)
            (Leads-behind (next_at ts) (next_at qs) (get_or vs c.owner.0 d).first (arcs_of g c.owner.0) i c.number.0 p within at (once c.owner.0) (fresh c.owner.0)
            (behind_link p (next_at ts p) o) (ap next_of (put_same (Some (arc_no p)) (next_at ts p))) (behind_next p (next_at ts p)) y.arcs);
      }

  behind_others : (v : ℕ) (d : Vertex) (i p : ℕ) → v < n_of g → v ≢ c.owner.0 → get_or (arcs_of g c.owner.0) i 0 ≡ p → i < length (arcs_of g c.owner.0)
      → ShowsVertex (put_slots ts c (Some (arc_no p)) (next_at ts p)) (get_or vs v d) (vertex_at g v)
  behind_others v d i p h ne at within =
      let y = x.vertices v d h in
      let qs = put_slots ts c (Some (arc_no p)) (next_at ts p) in
      let o : 0 < occurrences p (arcs_of g c.owner.0) = subst (λ j. 0 < occurrences j (arcs_of g c.owner.0)) at (occurs_at (arcs_of g c.owner.0) i 0 within) in
      record {
        label = y.label;
        fields = y.fields;
        arcs = Leads-agree (next_at ts) (next_at qs) (get_or vs v d).first (arcs_of g v) None
            (λ j here. behind_next p (next_at ts p) j (not_fresh v j here)
            (λ e. ne (one_owner g p v c.owner.0 sound (subst (λ q. 0 < occurrences q (arcs_of g v)) e here) o)))
            y.arcs;
      }

  -- both
  pub put_vertices_shown : (before : Option ArcNo) (v : ℕ) (d : Vertex) → before ≡ number_before (arcs_of g c.owner.0) c.place → v < n_of (with_cut_arc g c)
      → ShowsVertex (put_slots ts c before (link_after vs ts c.owner.0 before)) (get_or (vertices_relinked vs c.owner.0 before (Some c.number)) v d) (vertex_at (with_cut_arc g c) v)
  put_vertices_shown before v d is h =
      let low : v < n_of g = omega (arith, h, put_n g c) in
      let P : Option ArcNo → ℕ → VertexOf → Type 0 =
      λ b w z. ShowsVertex (put_slots ts c b (link_after vs ts c.owner.0 b)) (get_or (vertices_relinked vs c.owner.0 b (Some c.number)) w d) z in
      elim (cases_eq v c.owner.0) [
        | inl same ↦
            let here : vertex_at (with_cut_arc g c) v ≡ owner_with g c = ap (vertex_at (with_cut_arc g c)) same ∙ put_vertex_same g c can in
            let at_owner : P before c.owner.0 (owner_with g c) =
            elim (before_cases (arcs_of g c.owner.0) c.place before is can.place) [
              | inl f ↦ subst (λ b. P b c.owner.0 (owner_with g c)) (sym f.0) (front_owner d f.1)
              | inr b ↦ subst (λ q. P q c.owner.0 (owner_with g c)) (sym b.before_is) (behind_owner d b.i b.p b.place_is b.at b.within)
            ] in
            subst (P before v) (sym here) (subst (λ w. P before w (owner_with g c)) (sym same) at_owner)
        | inr ne ↦
            subst (P before v) (sym (put_vertex_other g c v ne))
            (elim (before_cases (arcs_of g c.owner.0) c.place before is can.place) [
              | inl f ↦ subst (λ b. P b v (vertex_at g v)) (sym f.0) (front_others v d low ne)
              | inr b ↦ subst (λ q. P q v (vertex_at g v)) (sym b.before_is) (behind_others v d b.i b.p low ne b.at b.within)
            ])
      ]

  pub put_entries_shown : (before link : Option ArcNo) (k : ℕ) → entry_of (slot_at (put_slots ts c before link) k) ≡ arc_at (with_cut_arc g c) k
  put_entries_shown before link k =
      elim (cases_eq k c.number.0) [
        | inl same ↦
            ap (λ i. entry_of (slot_at (put_slots ts c before link) i)) same
            ∙ (ap entry_of (put_same before link) ∙ (sym (put_entry_same g c can) ∙ ap (arc_at (with_cut_arc g c)) (sym same)))
        | inr ne ↦ put_other entry_of next_blind_entry before link k ne ∙ (x.entries k ∙ sym (put_entry_other g c k ne))
      ]

  pub put_owners_shown : (before link : Option ArcNo) (k : ℕ) → IfSome (owner_in (slot_at (put_slots ts c before link) k)) (λ v. occurrences k (arcs_of (with_cut_arc g c) v.0) ≡ 1)
  put_owners_shown before link k =
      let P : ℕ → Option VertexNo → Type 0 = λ i o. IfSome o (λ v. occurrences i (arcs_of (with_cut_arc g c) v.0) ≡ 1) in
      elim (cases_eq k c.number.0) [
        | inl same ↦
            subst (λ i. P i (owner_in (slot_at (put_slots ts c before link) i))) (sym same)
            (subst (λ o. P c.number.0 (owner_in o)) (sym (put_same before link)) (put_occurs_new g c sound can))
        | inr ne ↦
            subst (P k) (sym (put_other owner_in next_blind_owner before link k ne)) (put_owned g c k (owner_in (slot_at ts k)) can ne (x.owners k))
      ]

-- counts of names after the arc's fields gained theirs
gained : (ss : Slots) (us : List Util) (k n : ℕ) → length us ≡ 2 → IfSome (names_counted (slot_at ss k)) (λ m. m ≡ n) → IfSome (names_counted (slot_at (slots_gaining_both ss us) k)) (λ m. m ≡ n + names_in k us)
gained ss us k n two known =
    let sum : n + one_name k (value_at us 0) + one_name k (value_at us 1) ≡ n + names_in k us = omega (arith, names_in_two k us two) in
    subst (λ z. IfSome (names_counted (slot_at (slots_gaining_both ss us) k)) (λ m. m ≡ z)) sum
    (counted_more (slots_gaining ss (value_at us 0)) (value_at us 1) k (n + one_name k (value_at us 0)) (counted_more ss (value_at us 0) k n known))

pub length-vertices_relinked : (vs : List Vertex) (v : ℕ) (before link : Option ArcNo) → length (vertices_relinked vs v before link) ≡ length vs
length-vertices_relinked vs v None link = length-set vs v (record (vertex_in vs v) { first = link })
length-vertices_relinked vs v (Some p) link = refl

-- the fields show the graph with the arc
pub put_shows : (vs : List Vertex) (ss : Slots) (g : GraphOf) (c : CutArc) (before : Option ArcNo) → Shows vs ss g → IsGraph g → CanPutBack g c → before ≡ number_before (arcs_of g c.owner.0) c.place
    → Shows (vertices_relinked vs c.owner.0 before (Some c.number)) (put_slots (slots_gaining_both ss c.fields) c before (link_after vs (slots_gaining_both ss c.fields) c.owner.0 before)) (with_cut_arc g c)
put_shows vs ss g c before shows sound can is =
    let us = c.fields in
    let ts = slots_gaining_both ss us in
    let link = link_after vs ts c.owner.0 before in
    let qs = put_slots ts c before link in
    let x : ShowsBut vs ts g = gaining_but vs (slots_gaining ss (value_at us 0)) g (value_at us 1) (gaining_but vs ss g (value_at us 0) (but_of vs ss g shows)) in
    let none : names_of (with_cut_arc g c) c.number.0 ≡ 0 = omega (arith, put_names g c c.number.0 can, hole_unnamed g c.number.0 sound can.hole, names_none (n_of g) g.entries c.number.0 us can.hole can.arc.values) in
    record {
      n = omega (arith, length-vertices_relinked vs c.owner.0 before (Some c.number), x.n, put_n g c);
      vertices = λ v d h. put_vertices_shown vs ts g c x sound can before v d is h;
      made = omega (arith, length-set (slots_relinked ts before (Some c.number)) c.number.0 (Some (put_slot c link)), length-relinked ts before (Some c.number), x.made, put_made g c);
      entries = put_entries_shown vs ts g c x sound can before link;
      owners = put_owners_shown vs ts g c x sound can before link;
      names = λ k. elim (cases_eq k c.number.0) [
        | inl same ↦
            subst (λ i. IfSome (names_counted (slot_at qs i)) (λ m. m ≡ names_of (with_cut_arc g c) i)) (sym same)
            (subst (λ o. IfSome (names_counted o) (λ m. m ≡ names_of (with_cut_arc g c) c.number.0)) (sym (put_same vs ts g c x sound can before link)) (sym none))
        | inr ne ↦
            subst (λ o. IfSome o (λ m. m ≡ names_of (with_cut_arc g c) k)) (sym (put_other vs ts g c x sound can names_counted next_blind_names before link k ne))
            (subst (λ z. IfSome (names_counted (slot_at ts k)) (λ m. m ≡ z)) (sym (put_names g c k can)) (gained ss us k (names_of g k) can.arc.two (shows.names k)))
      ];
    }

-- the counts have room
counted_below : (o : Option ℕ) (n high : ℕ) → n < high → IfSome o (λ m. m ≡ n) → IfSome o (λ m. (0 ≤ m) × (m < high))
counted_below None n high h known = tt
counted_below (Some m) n high h known = (omega arith, omega (arith, known))

pub counted_room : (ss : Slots) (g : GraphOf) (u : Util) (f : ℕ → ℕ) (high : ℕ) → length ss ≡ made_of g → IsValue (n_of g) g.entries u → ((k : ℕ) → IfSome (names_counted (slot_at ss k)) (λ m. m ≡ f k)) → ((k : ℕ) → f k < high) → IsCounted ss 0 high u
counted_room ss g utils.Zero f high made v known below = tt
counted_room ss g (utils.Int z) f high made v known below = tt
counted_room ss g (utils.Vertex w) f high made v known below = tt
counted_room ss g (utils.Arc a) f high made v known below =
    (omega (arith, made, made_of_live g a.0 v), counted_below (names_counted (slot_at ss a.0)) (f a.0) high (below a.0) (known a.0))
counted_room ss g (utils.Text t) f high made v known below = tt

pub one_at_most : (k : ℕ) (u : Util) → one_name k u ≤ 1
one_at_most k u = elim (cases_Bool (is_name k u)) [
  | inl e ↦ rw e (omega arith)
  | inr e ↦ rw e (omega arith)
]

pub first_room : (vs : List Vertex) (ss : Slots) (g : GraphOf) (u : Util) → Shows vs ss g → IsGraph g → IsValue (n_of g) g.entries u → IsCounted ss 0 (2 ^ 32 - 1) u
first_room vs ss g u shows sound v =
    counted_room ss g u (names_of g) (2 ^ 32 - 1) shows.made v shows.names (λ k. omega (arith, few_names g k sound))

pub second_room : (vs : List Vertex) (ss : Slots) (g : GraphOf) (a u : Util) → Shows vs ss g → IsGraph g → IsValue (n_of g) g.entries u → IsCounted (slots_gaining ss a) 0 (2 ^ 32 - 1) u
second_room vs ss g a u shows sound v =
    counted_room (slots_gaining ss a) g u (λ k. names_of g k + one_name k a) (2 ^ 32 - 1) (length-gaining ss a ∙ shows.made) v
    (λ k. counted_more ss a k (names_of g k) (shows.names k))
    (λ k. omega (arith, few_names g k sound, one_at_most k a))

-- the number that stands before a place names a slot
pub before_within : (g : GraphOf) (v place : ℕ) (before : Option ArcNo) → IsGraph g → before ≡ number_before (arcs_of g v) place → place ≤ length (arcs_of g v) → (p : ArcNo) → before ≡ Some p → p.0 < made_of g
before_within g v place before sound is h p e =
    elim (before_cases (arcs_of g v) place before is h) [
      | inl f ↦ absurd (let none = f.0 in cc)
      | inr b ↦
          let same : b.p ≡ p.0 = let here = b.before_is in cc in
          let o : 0 < occurrences b.p (arcs_of g v) = subst (λ j. 0 < occurrences j (arcs_of g v)) b.at (occurs_at (arcs_of g v) b.i 0 b.within) in
          omega (arith, same, (listed_live g b.p v sound o).made)
    ]

-- the owner's links, once the names are counted
pub put_linked : (vs : List Vertex) (ss ts : Slots) (g : GraphOf) (c : CutArc) (d : Vertex) → Shows vs ss g → IsGraph g → CanPutBack g c → ts ≡ slots_gaining_both ss c.fields
    → IsLinked ts (get_or vs c.owner.0 d).first × (numbers ts (get_or vs c.owner.0 d).first ≡ arcs_of g c.owner.0)
put_linked vs ss ts g c d shows sound can is =
    let us = slots_gaining_both ss c.fields in
    let x : ShowsBut vs us g = gaining_but vs (slots_gaining ss (value_at c.fields 0)) g (value_at c.fields 1) (gaining_but vs ss g (value_at c.fields 0) (but_of vs ss g shows)) in
    let P : Slots → Type 0 = λ t. IsLinked t (get_or vs c.owner.0 d).first × (numbers t (get_or vs c.owner.0 d).first ≡ arcs_of g c.owner.0) in
    subst P (sym is) (linked_first vs us g c.owner.0 d x sound can.owner, numbers_are vs us g c.owner.0 d x sound can.owner)

-- what the steps of `put_back` leave
pub put_back_done : (vs ws : List Vertex) (ss ts rs : Slots) (g : GraphOf) (c : CutArc) (d : Vertex) (before link : Option ArcNo) → Shows vs ss g → IsGraph g → CanPutBack g c
    → ts ≡ slots_gaining_both ss c.fields → before ≡ number_before (numbers ts (get_or vs c.owner.0 d).first) c.place → link ≡ link_after vs ts c.owner.0 before
    → ws ≡ vertices_relinked vs c.owner.0 before (Some c.number) → rs ≡ slots_relinked ts before (Some c.number)
    → Shows ws (set rs c.number.0 (Some (record { owner = c.owner; tip = c.tip; next = link; names = 0; len = to_z w64 (of_z w64 c.len); fields = c.fields }))) (with_cut_arc g c)
put_back_done vs ws ss ts rs g c d before link shows sound can ts_is before_is link_is ws_is rs_is =
    let us = slots_gaining_both ss c.fields in
    let is : before ≡ number_before (arcs_of g c.owner.0) c.place = before_is ∙ ap (λ ks. number_before ks c.place) (put_linked vs ss ts g c d shows sound can ts_is).1 in
    let r = put_shows vs ss g c before shows sound can is in
    let made : rs ≡ slots_relinked us before (Some c.number) = rs_is ∙ ap (λ t. slots_relinked t before (Some c.number)) ts_is in
    let follows : link ≡ link_after vs us c.owner.0 before = link_is ∙ ap (λ t. link_after vs t c.owner.0 before) ts_is in
    let length_is : to_z w64 (of_z w64 c.len) ≡ c.len = to_z-of_z w64 c.len can.arc.len in
    rw (ws_is, made, follows, length_is) r

-- a tip to one of n vertices, of which there are not more
pub low_tip : (n : ℕ) (t : Tip) → n ≤ 65535 → IsTip n t → IsTip 65535 t
low_tip n tips.Zero few low = tt
low_tip n tips.One few low = tt
low_tip n (tips.To v) few low = omega (arith, few, low)
