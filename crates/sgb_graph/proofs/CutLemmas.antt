-- Lemmas on what cutting an arc, and undoing an edit, leave of the fields.
use Rattle.std.proofs.Common.{◌≡◌, ◌<◌, ◌≤◌, ◌+◌, ◌-◌, ℕ, List, length, get_or, take, Option, Some, None, is_some, true, false, ◌&&◌, ◌==◌, nat_le, refl, sym, ap, subst, ◌∙◌, arith, IfSome, inl, inr, min, max}
use Rattle.sgb_graph.specs.declared.field.ArcNo.{ArcNo}
use Rattle.sgb_graph.specs.declared.graph.Vertex.{Vertex}
use Rattle.sgb_graph.specs.declared.graph.arena.Slot.{Slot}
use Rattle.sgb_graph.specs.declared.graph.Graph.TheInside.{Inside}
use Rattle.sgb_graph.specs.declared.delta.CutArc.{CutArc}
use Rattle.sgb_graph.specs.Graph.{GraphOf, IsGraph, n_of, made_of, m_of, has_arc, names_of, arcs_of, occurrences, has_vertex, names_in}
use Rattle.sgb_graph.specs.Edit.{without_arc, without_listed, with_cut_arc, with_listed, refusal_of_cut, refusal_unless, with_edge, with_arc, with_entry_last}
use Rattle.sgb_graph.specs.Delta.{cut_arc, LeftByArc, LeftByEdge, LeftByCut}
use Rattle.sgb_graph.specs.Private.Arena.{Slots, Shows, IsArena, graph_of, slot_at, entry_of, owner_in, next_of, next_at, names_counted}
use Rattle.sgb_graph.specs.Field.{arc_no}
use Rattle.sgb_graph.specs.Private.Link.{CanTakeOut, CanBeTakenOut, TakesOut, CanPutBack, PutsBack}
use Rattle.sgb_graph.proofs.Shows.{Opened, closed, closed_arena}
use Rattle.std.proofs.lemmas.Bool.{and_parts, ltb-true, leb-true, eqb-true, cases_Bool, cases_order}
use Rattle.std.proofs.lemmas.List.{get_or_past, get_or-take, length-take-le, take-take}
use Rattle.sgb_graph.specs.declared.refusal.Refusal.TheVariants.{BadOperand, TooLarge}
use Rattle.sgb_graph.proofs.Chains.{Leads-agree}
use Rattle.sgb_graph.specs.Private.Holes.{with_hole}
use Rattle.sgb_graph.proofs.Holes.{at_hole, hole_made, hole_names, hole_m, hole_sound, new_can, with_arc_is, with_edge_is, first_cut, second_cut, first_can, second_can}
use Rattle.sgb_graph.proofs.ShowsPut.{put_sound, put_entry_same, put_names}
use Rattle.sgb_graph.specs.Private.Insert.{new_cut}
use Rattle.sgb_graph.proofs.Sound.{hole_unnamed}
use Rattle.sgb_graph.proofs.Laws.{cut_can, with_cut_arc-without_arc, without_arc-with_cut_arc}
use Rattle.sgb_graph.proofs.NewArcs.{SameOwn, put_after, one_less}
use Rattle.sgb_graph.proofs.TakeOut.{found_live, take_sound, take_m, take_made}

-- what `cut` knows before it takes the arc out
pub record CutCan (a : Inside) (g : GraphOf) (k : ℕ) (vs : List Vertex) (ss : Slots) : Type 0 where
  pub opened : Opened a g
  pub can : CanTakeOut g k
  pub vertices : vs ≡ a.vertices
  pub slots : ss ≡ a.slots

pub record CutLeft (b : Inside) (g : GraphOf) (k : ℕ) (c : CutArc) : Type 0 where
  pub arena : IsArena b
  pub graph : graph_of b ≡ without_arc g k
  pub delta : c ≡ cut_arc g k
  pub left : LeftByCut g c (graph_of b)
  pub sound : IsGraph (graph_of b)

pub cut_left : (a b : Inside) (g : GraphOf) (k : ℕ) (c : CutArc) (vs ws : List Vertex) (ss ts : Slots) → CutCan a g k vs ss → refusal_of_cut g k ≡ None
    → TakesOut vs ss k c ws ts → b.vertices ≡ ws → b.slots ≡ ts → b.holes ≡ a.holes + 1 → SameOwn a b → CutLeft b g k c
unfolding without_arc without_listed
cut_left a b g k c vs ws ss ts x accepted takes vertices slots holes own =
    let o = x.opened in
    let h = without_arc g k in
    let shown : Shows vs ss g = rw (x.vertices, x.slots) o.shows in
    let f = found_live g k o.graph x.can.live in
    let t = takes g shown o.graph x.can in
    let after : Opened b h = record {
      graph = take_sound g k o.graph x.can f;
      shows = rw (vertices, slots) t.1;
      holes = omega (arith, holes, o.holes, take_m g k f, take_made g k);
      id = own.id ∙ o.id;
      types = own.types ∙ o.types;
      fields = own.fields ∙ o.fields;
    } in
    let arena = closed_arena b h after in
    let number : c.number.0 ≡ k = ap (λ z. z.number.0) t.0 in
    record {
      arena = arena;
      graph = closed b h after;
      delta = t.0;
      left = record {
        graph = o.graph;
        accepted = ap (refusal_of_cut g) number ∙ accepted;
        arc = t.0 ∙ ap (cut_arc g) (sym number);
        left = closed b h after ∙ ap (without_arc g) (sym number);
      };
      sound = arena.graph;
    }

-- what the test before a cut tells
pub can_cut_is : (g : GraphOf) (k : ℕ) → (has_arc g k && (names_of g k == 0)) ≡ true → CanTakeOut g k
can_cut_is g k both =
    let p = and_parts (has_arc g k) (names_of g k == 0) both in
    record { live = p.0; unnamed = eqb-true (names_of g k) 0 p.1 }

pub cut_accepted : (g : GraphOf) (k : ℕ) → (has_arc g k && (names_of g k == 0)) ≡ true → refusal_of_cut g k ≡ None
cut_accepted g k both = ap (λ b. refusal_unless b BadOperand None) both

-- the last number, a hole, is taken back
no_slot : (o : Option Slot) → entry_of o ≡ None → o ≡ None
no_slot None none = refl
no_slot (Some s) none = absurd cc

pub take_hole : (vs : List Vertex) (ts : Slots) (g : GraphOf) → Shows vs ts (with_hole g) → Shows vs (take (made_of g) ts) g
take_hole vs ts g x =
    let m = made_of g in
    let us = take m ts in
    let size : length ts ≡ m + 1 = x.made ∙ hole_made g in
    let size' : length us ≡ m = length-take-le m ts (omega arith) in
    let same : (j : ℕ) → slot_at us j ≡ slot_at ts j = λ j.
    elim (cases_order j m) [
      | inl here ↦
          get_or_past us j None (omega arith)
          ∙ sym (ap (slot_at ts) here ∙ no_slot (slot_at ts m) (x.entries m ∙ (at_hole g.entries m ∙ get_or_past g.entries m None (omega arith))))
      | inr (inl low) ↦ get_or-take m ts j None low
      | inr (inr high) ↦ get_or_past us j None (omega arith) ∙ sym (get_or_past ts j None (omega arith))
    ] in
    record {
      n = x.n;
      vertices = λ v d h.
          let y = x.vertices v d h in
          record {
            label = y.label;
            fields = y.fields;
            arcs = Leads-agree (next_at ts) (next_at us) (get_or vs v d).first (arcs_of g v) None (λ j _. ap next_of (same j)) y.arcs;
          };
      made = size';
      entries = λ j. ap entry_of (same j) ∙ (x.entries j ∙ at_hole g.entries j);
      owners = λ j. subst (λ o. IfSome (owner_in o) (λ v. occurrences j (arcs_of g v.0) ≡ 1)) (sym (same j)) (x.owners j);
      names = λ j. subst (λ o. IfSome (names_counted o) (λ m. m ≡ names_of g j)) (sym (same j))
          (subst (λ z. IfSome (names_counted (slot_at ts j)) (λ m. m ≡ z)) (hole_names g j) (x.names j));
    }

-- undoing a cut
pub cut_taken : (g h : GraphOf) (c : CutArc) → LeftByCut g c h → CanTakeOut g c.number.0
cut_taken g h c left =
    elim (cases_Bool (has_arc g c.number.0 && (names_of g c.number.0 == 0))) [
      | inl e ↦ can_cut_is g c.number.0 e
      | inr e ↦ absurd (let no_cut = ap (λ b. refusal_unless b BadOperand None) e in let accepted = left.accepted in cc)
    ]

pub revert_cut_can : (g h : GraphOf) (c : CutArc) → LeftByCut g c h → CanPutBack h c
revert_cut_can g h c left =
    let can = cut_taken g h c left in
    let f = found_live g c.number.0 left.graph can.live in
    subst (λ k. CanPutBack k c) (sym left.left)
    (subst (CanPutBack (without_arc g c.number.0)) (sym left.arc) (cut_can g c.number.0 left.graph can f))

pub revert_cut_after : (a b : Inside) (h : GraphOf) (c : CutArc) (g : GraphOf) → Opened a h → LeftByCut g c h
    → PutsBack a.vertices a.slots c b.vertices b.slots → b.holes ≡ a.holes - 1 → SameOwn a b → Opened b g
revert_cut_after a b h c g o left puts holes own =
    let can = cut_taken g h c left in
    let f = found_live g c.number.0 left.graph can.live in
    let back : with_cut_arc h c ≡ g =
    ap (λ k. with_cut_arc k c) left.left ∙ (ap (with_cut_arc (without_arc g c.number.0)) left.arc ∙ with_cut_arc-without_arc g c.number.0 f) in
    let shows = puts h o.shows o.graph (revert_cut_can g h c left) in
    subst (Opened b) back
    (put_after b h c o.graph (revert_cut_can g h c left) shows (one_less a b h c o (revert_cut_can g h c left) holes) (own.id ∙ o.id) (own.types ∙ o.types) (own.fields ∙ o.fields))

-- undoing a new arc
join_refused : (g : GraphOf) (u v made : ℕ) → refusal_unless (has_vertex g u && has_vertex g v) BadOperand (refusal_unless (nat_le made 1000000) TooLarge None) ≡ None → (u < n_of g) × (v < n_of g) × (made ≤ 1000000)
join_refused g u v made none =
    elim (cases_Bool (has_vertex g u && has_vertex g v)) [
      | inl both ↦
          let p = and_parts (has_vertex g u) (has_vertex g v) both in
          elim (cases_Bool (nat_le made 1000000)) [
            | inl few ↦ (ltb-true u (n_of g) p.0, ltb-true v (n_of g) p.1, leb-true made 1000000 few)
            | inr many ↦ absurd (let bad = ap (λ b. refusal_unless (has_vertex g u && has_vertex g v) BadOperand (refusal_unless b TooLarge None)) many in let same = ap (λ b. refusal_unless b BadOperand (refusal_unless false TooLarge None)) both in cc)
          ]
      | inr not_both ↦ absurd (let bad = ap (λ b. refusal_unless b BadOperand (refusal_unless (nat_le made 1000000) TooLarge None)) not_both in cc)
    ]

pub record NewArcLeft (g : GraphOf) (k : ArcNo) (h : GraphOf) (c : CutArc) : Type 0 where
  pub hole : IsGraph (with_hole g)
  pub can : CanPutBack (with_hole g) c
  pub number : c.number ≡ k
  pub left : h ≡ with_cut_arc (with_hole g) c
  pub unnamed : (j : ℕ) → names_in j c.fields ≡ 0

pub new_arc_left : (g h : GraphOf) (k : ArcNo) (l : LeftByArc g k h) → NewArcLeft g k h (new_cut (arc_no (made_of g)) (record { 0 = l.from }) (record { 0 = l.to }) l.len)
new_arc_left g h k l =
    let p = join_refused g l.from l.to (made_of g + 1) l.accepted in
    record {
      hole = hole_sound g l.graph (omega (arith, p.2));
      can = new_can g l.from l.to l.len l.graph p.0 p.1 l.fits;
      number = sym l.number;
      left = l.left ∙ with_arc_is g l.from l.to l.len;
      unnamed = λ j. refl;
    }

-- an arc that was put at a hole can be taken out
pub put_taken : (h : GraphOf) (c : CutArc) → IsGraph h → CanPutBack h c → names_in c.number.0 c.fields ≡ 0 → CanTakeOut (with_cut_arc h c) c.number.0
put_taken h c sound can none =
    record {
      live = ap is_some (put_entry_same h c can);
      unnamed = omega (arith, put_names h c c.number.0 can, hole_unnamed h c.number.0 sound can.hole, none);
    }

pub revert_arc_can : (g h : GraphOf) (k : ArcNo) → LeftByArc g k h → CanTakeOut h k.0
revert_arc_can g h k l =
    let c = new_cut (arc_no (made_of g)) (record { 0 = l.from }) (record { 0 = l.to }) l.len in
    let x = new_arc_left g h k l in
    subst (λ z. CanTakeOut h z.0) x.number
    (subst (λ z. CanTakeOut z c.number.0) (sym x.left) (put_taken (with_hole g) c x.hole x.can (x.unnamed c.number.0)))

pub revert_arc_law : (g h : GraphOf) (k : ArcNo) → LeftByArc g k h → without_arc h k.0 ≡ with_hole g
revert_arc_law g h k l =
    let c = new_cut (arc_no (made_of g)) (record { 0 = l.from }) (record { 0 = l.to }) l.len in
    let x = new_arc_left g h k l in
    ap (λ z. without_arc h z.0) (sym x.number) ∙ (ap (λ z. without_arc z c.number.0) x.left ∙ without_arc-with_cut_arc (with_hole g) c x.hole x.can)

-- a new arc leaves id, types and own fields as they were
pub same_own : (g h : GraphOf) (k : ArcNo) → LeftByArc g k h → (h.id ≡ g.id) × (h.types ≡ g.types) × (h.fields ≡ g.fields)
unfolding with_arc with_listed with_entry_last
same_own g h k l = (ap (λ z. z.id) l.left, ap (λ z. z.types) l.left, ap (λ z. z.fields) l.left)

pub revert_arc_after : (a b : Inside) (h : GraphOf) (k : ArcNo) (c : CutArc) (ts : Slots) (g : GraphOf) → Opened a h → LeftByArc g k h
    → TakesOut a.vertices a.slots k.0 c b.vertices ts → b.slots ≡ take k.0 ts → b.holes ≡ a.holes → SameOwn a b → Opened b g
revert_arc_after a b h k c ts g o l takes slots holes own =
    let can = revert_arc_can g h k l in
    let f = found_live h k.0 o.graph can.live in
    let t = takes h o.shows o.graph can in
    let law = revert_arc_law g h k l in
    let shown : Shows b.vertices (take (made_of g) ts) g = take_hole b.vertices ts g (subst (Shows b.vertices ts) law t.1) in
    let number : k.0 ≡ made_of g = ap (λ z. z.0) l.number in
    record {
      graph = l.graph;
      shows = rw (slots, number) shown;
      holes = omega (arith, holes, o.holes, take_m h k.0 f, take_made h k.0, ap m_of law, ap made_of law, hole_m g, hole_made g);
      id = own.id ∙ (o.id ∙ (same_own g h k l).0);
      types = own.types ∙ (o.types ∙ (same_own g h k l).1);
      fields = own.fields ∙ (o.fields ∙ (same_own g h k l).2);
    }

-- undoing a new edge
pub record NewEdgeLeft (g : GraphOf) (k : ArcNo) (h : GraphOf) : Type 0 where
  pub hole : IsGraph (with_hole (with_hole g))
  pub second : CutArc
  pub first : CutArc
  pub can : CanPutBack (with_hole (with_hole g)) second
  pub next : CanPutBack (with_cut_arc (with_hole (with_hole g)) second) first
  pub number : first.number.0 ≡ k.0
  pub after : second.number.0 ≡ k.0 + 1
  pub left : h ≡ with_cut_arc (with_cut_arc (with_hole (with_hole g)) second) first
  pub unnamed : (j : ℕ) → (names_in j first.fields ≡ 0) × (names_in j second.fields ≡ 0)

pub new_edge_left : (g h : GraphOf) (k : ArcNo) → LeftByEdge g k h → NewEdgeLeft g k h
new_edge_left g h k l =
    let p = join_refused g l.from l.to (made_of g + 2) l.accepted in
    let low = min l.from l.to in
    let high = max l.from l.to in
    let below : low < n_of g = omega (arith, p.0, p.1) in
    let above : high < n_of g = omega (arith, p.0, p.1) in
    let same : k.0 ≡ made_of g = ap (λ z. z.0) l.number in
    record {
      hole = hole_sound (with_hole g) (hole_sound g l.graph (omega (arith, p.2))) (omega (arith, hole_made g, p.2));
      second = second_cut g low high l.len;
      first = first_cut g low high l.len;
      can = second_can g low high l.len l.graph below above l.fits;
      next = first_can g low high l.len l.graph below above l.fits;
      number = sym same;
      after = ap (λ n. n + 1) (sym same);
      left = l.left ∙ with_edge_is g l.from l.to l.len;
      unnamed = λ j. (refl, refl);
    }

pub record RevertEdgeCan (g : GraphOf) (k : ℕ) (h : GraphOf) : Type 0 where
  pub can : CanTakeOut h k
  pub next : CanTakeOut (without_arc h k) (k + 1)
  pub law : without_arc (without_arc h k) (k + 1) ≡ with_hole (with_hole g)
  pub middle : IsGraph (without_arc h k)

pub revert_edge_can : (g h : GraphOf) (k : ArcNo) → LeftByEdge g k h → RevertEdgeCan g k.0 h
revert_edge_can g h k l =
    let x = new_edge_left g h k l in
    let e = with_hole (with_hole g) in
    let p = with_cut_arc e x.second in
    let sound : IsGraph p = put_sound e x.second x.hole x.can in
    let law : without_arc h k.0 ≡ p =
    ap (without_arc h) (sym x.number) ∙ (ap (λ z. without_arc z x.first.number.0) x.left ∙ without_arc-with_cut_arc p x.first sound x.next) in
    record {
      can = subst (CanTakeOut h) x.number (subst (λ z. CanTakeOut z x.first.number.0) (sym x.left) (put_taken p x.first sound x.next (x.unnamed x.first.number.0).0));
      next = subst (λ z. CanTakeOut z (k.0 + 1)) (sym law) (subst (CanTakeOut p) x.after (put_taken e x.second x.hole x.can (x.unnamed x.second.number.0).1));
      law = ap (λ z. without_arc z (k.0 + 1)) law ∙ (ap (without_arc p) (sym x.after) ∙ without_arc-with_cut_arc e x.second x.hole x.can);
      middle = subst IsGraph (sym law) sound;
    }

-- the second arc can be taken out once the first is
pub revert_edge_next : (a : Inside) (h : GraphOf) (k : ArcNo) (c : CutArc) (us : List Vertex) (rs : Slots) (g : GraphOf) → Opened a h → LeftByEdge g k h → TakesOut a.vertices a.slots k.0 c us rs → CanBeTakenOut us rs (k.0 + 1)
revert_edge_next a h k c us rs g o l takes =
    let y = revert_edge_can g h k l in
    record { graph = without_arc h k.0; sound = y.middle; shows = (takes h o.shows o.graph y.can).1; can = y.next }

pub same_own_edge : (g h : GraphOf) (k : ArcNo) → LeftByEdge g k h → (h.id ≡ g.id) × (h.types ≡ g.types) × (h.fields ≡ g.fields)
unfolding with_edge with_listed with_entry_last
same_own_edge g h k l = (ap (λ z. z.id) l.left, ap (λ z. z.types) l.left, ap (λ z. z.fields) l.left)

revert_edge_counts : (g h : GraphOf) (k : ArcNo) → IsGraph h → LeftByEdge g k h → (m_of h ≡ m_of g + 2) × (made_of h ≡ made_of g + 2)
revert_edge_counts g h k sound l =
    let y = revert_edge_can g h k l in (
      omega (arith, take_m h k.0 (found_live h k.0 sound y.can.live), take_m (without_arc h k.0) (k.0 + 1) (found_live (without_arc h k.0) (k.0 + 1) y.middle y.next.live), ap m_of y.law, hole_m g, hole_m (with_hole g)),
      omega (arith, take_made h k.0, take_made (without_arc h k.0) (k.0 + 1), ap made_of y.law, hole_made g, hole_made (with_hole g)),
    )

pub revert_edge_after : (a b : Inside) (h : GraphOf) (k : ArcNo) (c d : CutArc) (us : List Vertex) (rs ts : Slots) (g : GraphOf) → Opened a h → LeftByEdge g k h
    → TakesOut a.vertices a.slots k.0 c us rs → TakesOut us rs (k.0 + 1) d b.vertices ts → b.slots ≡ take k.0 ts → b.holes ≡ a.holes → SameOwn a b → Opened b g
revert_edge_after a b h k c d us rs ts g o l first second slots holes own =
    let ws = b.vertices in
    let y = revert_edge_can g h k l in
    let t : Shows ws ts (with_hole (with_hole g)) = subst (Shows ws ts) y.law (second (without_arc h k.0) (first h o.shows o.graph y.can).1 y.middle y.next).1 in
    let one : Shows ws (take (made_of (with_hole g)) ts) (with_hole g) = take_hole ws ts (with_hole g) t in
    let two : Shows ws (take (made_of g) (take (made_of (with_hole g)) ts)) g = take_hole ws (take (made_of (with_hole g)) ts) g one in
    let shown : Shows ws (take (made_of g) ts) g = subst (λ r. Shows ws r g) (take-take (made_of g) (made_of (with_hole g)) ts (omega (arith, hole_made g))) two in
    let number : k.0 ≡ made_of g = ap (λ z. z.0) l.number in
    record {
      graph = l.graph;
      shows = rw (slots, number) shown;
      holes = omega (arith, holes, o.holes, (revert_edge_counts g h k o.graph l).0, (revert_edge_counts g h k o.graph l).1);
      id = own.id ∙ (o.id ∙ (same_own_edge g h k l).0);
      types = own.types ∙ (o.types ∙ (same_own_edge g h k l).1);
      fields = own.fields ∙ (o.fields ∙ (same_own_edge g h k l).2);
    }
