-- Lemmas on an arc that is given another tip and another length.
use Rattle.std.proofs.Common.{◌≡◌, ◌<◌, ℕ, ℤ, get_or, set, Option, Some, None, is_some, IfSome, true, refl, sym, ap, subst, ◌∙◌, arith, cond, inl, inr, FitsSigned}
use Rattle.std.specs.Int.{w64}
use Rattle.std.proofs.lemmas.Bool.{cases_eq, ltb-true, lt-ltb}
use Rattle.std.proofs.lemmas.List.{length-set}
use Rattle.std.proofs.lemmas.List.Sums.{sum_by-set}
use Rattle.sgb_graph.specs.declared.graph.arena.Slot.{Slot}
use Rattle.sgb_graph.specs.declared.graph.Graph.TheInside.{Inside}
use Rattle.sgb_graph.specs.Graph.{GraphOf, ArcOf, IsGraph, IsArc, n_of, made_of, arcs_of, arc_at, has_arc, occurrences, names_in, names_in_entry, names_of, IsTip}
use Rattle.sgb_graph.specs.Edit.{entry_at, arc_or, no_arc}
use Rattle.sgb_graph.specs.Private.Arena.{Shows, IsArena, graph_of, slot_at, next_of, next_at, entry_of, owner_in, names_counted}
use Rattle.sgb_graph.proofs.Chains.{Leads-agree}
use Rattle.sgb_graph.proofs.Graphs.{made_of_live}
use Rattle.sgb_graph.proofs.Slots.{slot_same, slot_other, slot_unseen}
use Rattle.sgb_graph.proofs.Sound.{Keeps, IsValue-keeps, IsVertex-keeps, IsArc-keeps, IsEntry-keeps, All-set, entry_same, entry_other}
use Rattle.sgb_graph.proofs.Shows.{Opened, opened, closed, closed_arena}
use Rattle.sgb_graph.proofs.TakeOut.{some_entry}
use Rattle.sgb_graph.specs.declared.field.Tip.{Tip}
use Rattle.sgb_graph.specs.declared.field.Tip.TheVariants as tips
use Rattle.sgb_graph.specs.Private.Fill.{can_lead, SameNames, with_aim, with_aim_in}

aim_blind_next : (t : Tip) (z : ℤ) (o : Option Slot) → next_of (with_aim_in t z o) ≡ next_of o
aim_blind_next t z None = refl
aim_blind_next t z (Some s) = refl

aim_blind_owner : (t : Tip) (z : ℤ) (o : Option Slot) → owner_in (with_aim_in t z o) ≡ owner_in o
aim_blind_owner t z None = refl
aim_blind_owner t z (Some s) = refl

aim_blind_names : (t : Tip) (z : ℤ) (o : Option Slot) → names_counted (with_aim_in t z o) ≡ names_counted o
aim_blind_names t z None = refl
aim_blind_names t z (Some s) = refl

entry_aim : (t : Tip) (z : ℤ) (o : Option Slot) (e : Option ArcOf) → entry_of o ≡ e → is_some e ≡ true → entry_of (with_aim_in t z o) ≡ Some (record (arc_or no_arc e) { tip = t; len = z })
entry_aim t z None None same live = absurd cc
entry_aim t z None (Some e) same live = absurd cc
entry_aim t z (Some s) None same live = absurd cc
entry_aim t z (Some s) (Some e) same live = ap (λ o. Some (record (arc_or no_arc o) { tip = t; len = z })) same

pub aim_opened : (a b : Inside) (g : GraphOf) (k : ℕ) (t : Tip) (z : ℤ) → Opened a g → has_arc g k ≡ true → IsTip (n_of g) t → FitsSigned w64 z
    → b.id ≡ a.id → b.types ≡ a.types → b.fields ≡ a.fields → b.holes ≡ a.holes → b.vertices ≡ a.vertices
    → b.slots ≡ set a.slots k (with_aim_in t z (slot_at a.slots k)) → Opened b (with_aim g k t z)
unfolding with_aim
aim_opened a b g k t z o there leads fits id types fields holes vertices slots =
    let h = with_aim g k t z in
    let sound = o.graph in
    let low : k < made_of g = made_of_live g k there in
    let e = entry_at g k in
    let entry : arc_at g k ≡ Some e = some_entry (arc_at g k) there in
    let arc : IsArc (n_of g) g.entries e = subst (λ r. IfSome r (IsArc (n_of g) g.entries)) entry (sound.arcs k None low) in
    let y : ArcOf = record e { tip = t; len = z } in
    let made : made_of h ≡ made_of g = length-set g.entries k (Some y) in
    let still : (j : ℕ) → has_arc h j ≡ has_arc g j = λ j.
    elim (cases_eq j k) [
      | inl same ↦ ap (has_arc h) same ∙ (ap is_some (entry_same g.entries k (Some y) low) ∙ (sym there ∙ ap (has_arc g) (sym same)))
      | inr ne ↦ ap is_some (entry_other g.entries k j (Some y) ne)
    ] in
    let keeps : Keeps (n_of g) g.entries (n_of h) h.entries = record { vertices = omega arith; arcs = λ j l. still j ∙ l } in
    let arc' : IsArc (n_of h) h.entries e = IsArc-keeps (n_of g) (n_of h) g.entries h.entries e keeps arc in
    let one : Option ArcOf → ℕ = λ r. cond (is_some r) 1 0 in
    let vs = a.vertices in
    let ss = a.slots in
    let p = with_aim_in t z (slot_at ss k) in
    let ts = set ss k p in
    let shown : Shows vs ts h = record {
      n = o.shows.n;
      vertices = λ w d l.
          let v = o.shows.vertices w d l in
          record {
            label = v.label;
            fields = v.fields;
            arcs = Leads-agree (next_at ss) (next_at ts) (get_or vs w d).first (arcs_of g w) None (λ j _. slot_unseen next_of ss k j p (aim_blind_next t z (slot_at ss k))) v.arcs;
          };
      made = length-set ss k p ∙ (o.shows.made ∙ sym made);
      entries = λ j. elim (cases_eq j k) [
        | inl same ↦
            ap (λ i. entry_of (slot_at ts i)) same
            ∙ (ap entry_of (slot_same ss k p (omega (arith, o.shows.made)))
            ∙ (entry_aim t z (slot_at ss k) (arc_at g k) (o.shows.entries k) there
            ∙ (sym (entry_same g.entries k (Some y) low) ∙ ap (arc_at h) (sym same))))
        | inr ne ↦ ap entry_of (slot_other ss k j p ne) ∙ (o.shows.entries j ∙ sym (entry_other g.entries k j (Some y) ne))
      ];
      owners = λ j. subst (λ r. IfSome r (λ v. occurrences j (arcs_of g v.0) ≡ 1)) (sym (slot_unseen owner_in ss k j p (aim_blind_owner t z (slot_at ss k)))) (o.shows.owners j);
      names = λ j.
          let s = sum_by-set (names_in_entry j) g.entries k (Some y) None low in
          let was : names_in_entry j (get_or g.entries k None) ≡ names_in j e.fields = ap (names_in_entry j) entry in
          let same : names_of h j ≡ names_of g j = omega (arith, s, was) in
          subst (λ r. IfSome r (λ m. m ≡ names_of h j)) (sym (slot_unseen names_counted ss k j p (aim_blind_names t z (slot_at ss k))))
          (subst (λ n. IfSome (names_counted (slot_at ss j)) (λ m. m ≡ n)) (sym same) (o.shows.names j));
    } in
    record {
      graph = record {
        listed = λ j. sound.listed j ∙ ap (λ b. cond b 1 0) (sym (still j));
        id = sound.id;
        types = sound.types;
        six = sound.six;
        values = λ j d l. IsValue-keeps (n_of g) (n_of h) g.entries h.entries (get_or g.fields j d) keeps (sound.values j d l);
        vertices = λ j d l. IsVertex-keeps (n_of g) (n_of h) g.entries h.entries (get_or g.vertices j d) keeps (sound.vertices j d l);
        arcs = All-set (λ r. IfSome r (IsArc (n_of h) h.entries)) g.entries k (Some y)
            (λ j d l. IsEntry-keeps (n_of g) (n_of h) g.entries h.entries (get_or g.entries j d) keeps (sound.arcs j d l))
            (record { tip = leads; len = fits; two = arc'.two; values = arc'.values });
        few_vertices = sound.few_vertices;
        few_arcs = omega (arith, made, sound.few_arcs);
      };
      shows = rw (vertices, slots) shown;
      holes =
          (let s = sum_by-set one g.entries k (Some y) None low in
          let was : one (get_or g.entries k None) ≡ 1 = ap one entry in
          omega (arith, holes, o.holes, s, was, made));
      id = id ∙ o.id;
      types = types ∙ o.types;
      fields = fields ∙ o.fields;
    }

-- the test of a tip
pub leads_true : (n : ℕ) (t : Tip) → can_lead n t ≡ true → IsTip n t
leads_true n tips.Zero h = tt
leads_true n tips.One h = tt
leads_true n (tips.To v) h = ltb-true v.0 n h

pub leads_so : (n : ℕ) (t : Tip) → IsTip n t → can_lead n t ≡ true
leads_so n tips.Zero h = refl
leads_so n tips.One h = refl
leads_so n (tips.To v) h = lt-ltb v.0 n h

-- the same vertices and arcs can be named
pub names-with_aim : (g : GraphOf) (k : ℕ) (t : Tip) (z : ℤ) → has_arc g k ≡ true → SameNames g (with_aim g k t z)
unfolding with_aim
names-with_aim g k t z there =
    let y : ArcOf = record (entry_at g k) { tip = t; len = z } in
    record {
      n = refl;
      live = λ j. elim (cases_eq j k) [
        | inl same ↦ ap (has_arc (with_aim g k t z)) same ∙ (ap is_some (entry_same g.entries k (Some y) (made_of_live g k there)) ∙ (sym there ∙ ap (has_arc g) (sym same)))
        | inr ne ↦ ap is_some (entry_other g.entries k j (Some y) ne)
      ];
    }

-- what `aim` leaves, clause by clause
pub record AimDone (b : Inside) (g : GraphOf) (k : ℕ) (t : Tip) (z : ℤ) : Type 0 where
  pub arena : IsArena b
  pub graph : graph_of b ≡ with_aim g k t z
  pub names : SameNames g (graph_of b)
  pub sound : IsGraph (graph_of b)

pub aim_done : (a b : Inside) (g : GraphOf) (k : ℕ) (t t' : Tip) (z z' : ℤ) → graph_of a ≡ g → IsArena a → has_arc g k ≡ true → can_lead (n_of g) t ≡ true → FitsSigned w64 z → t' ≡ t → z' ≡ z
    → b.id ≡ a.id → b.types ≡ a.types → b.fields ≡ a.fields → b.holes ≡ a.holes → b.vertices ≡ a.vertices
    → b.slots ≡ set a.slots k (with_aim_in t' z' (slot_at a.slots k)) → AimDone b g k t z
aim_done a b g k t t' z z' same arena there leads fits tip len id types fields holes vertices slots =
    let o = opened a g same arena in
    let made : b.slots ≡ set a.slots k (with_aim_in t z (slot_at a.slots k)) =
    slots ∙ (ap (λ x. set a.slots k (with_aim_in x z' (slot_at a.slots k))) tip ∙ ap (λ y. set a.slots k (with_aim_in t y (slot_at a.slots k))) len) in
    let after = aim_opened a b g k t z o there (leads_true (n_of g) t leads) fits id types fields holes vertices made in
    let is : graph_of b ≡ with_aim g k t z = closed b (with_aim g k t z) after in
    let arena' = closed_arena b (with_aim g k t z) after in
    record { arena = arena'; graph = is; names = subst (SameNames g) (sym is) (names-with_aim g k t z there); sound = arena'.graph }
