-- Lemmas on new arcs and edges that are linked into a graph.
use Rattle.std.proofs.Common.{◌≡◌, ◌+◌, ℤ, List, [], ◌∷◌, ◌++◌, length, set, Option, Some, None, refl, sym, ap, subst, ◌∙◌, ◌<◌, ◌≤◌, ◌-◌, arith, min, max, is_some, FitsSigned, ℕ, ap₂}
use Rattle.std.specs.Int.{w64}
use Rattle.std.proofs.lemmas.Int.{to_z-of_z}
use Rattle.std.proofs.lemmas.List.{set_at, length_push}
use Rattle.sgb_graph.specs.declared.field.VertexNo.{VertexNo}
use Rattle.sgb_graph.specs.declared.field.ArcNo.{ArcNo}
use Rattle.sgb_graph.specs.declared.graph.Vertex.{Vertex}
use Rattle.sgb_graph.specs.declared.graph.arena.Slot.{Slot}
use Rattle.sgb_graph.specs.Graph.{GraphOf, IsGraph, n_of, made_of, m_of}
use Rattle.sgb_graph.specs.Edit.{with_cut_arc, with_arc, with_edge, with_listed}
use Rattle.sgb_graph.specs.Private.Insert.{new_cut, new_slot, PutsBoth, first_behind, Both, both, vertex_no, with_new_arc, with_new_edge, relinked_both}
use Rattle.sgb_graph.specs.Private.Arena.{Slots, Shows, IsArena, graph_of}
use Rattle.sgb_graph.specs.Field.{arc_no}
use Rattle.sgb_graph.specs.Private.Link.{CanPutBack, PutsBack, any_vertex, vertex_in, vertices_relinked}
use Rattle.sgb_graph.proofs.ShowsPut.{put_sound, put_m, put_made, put_back_done}
use Rattle.sgb_graph.proofs.Holes.{two_set_last, hole_made, hole_m, hole_sound, hole_shows, with_arc_is, new_can, arc_accepted, first_cut, second_cut, first_can, second_can, with_edge_is, edge_accepted}
use Rattle.std.proofs.lemmas.List.Sums.{count_by-le-length}
use Rattle.sgb_graph.specs.declared.graph.Graph.TheInside.{Inside}
use Rattle.sgb_graph.specs.declared.delta.CutArc.{CutArc}
use Rattle.sgb_graph.specs.Delta.{LeftByArc, LeftByEdge}
use Rattle.sgb_graph.proofs.Shows.{Opened, closed, closed_arena}
use Rattle.sgb_graph.specs.Private.Holes.{with_hole}
use Rattle.sgb_graph.specs.declared.field.Util.{Util}
use Rattle.sgb_graph.specs.declared.graph.arena.Cell.{Cell}
use Rattle.sgb_graph.specs.Builder.{insertion}
use Rattle.sgb_graph.specs.Private.Cells.{two_zeros, slot_with, zipped, new_cell}
use Rattle.sgb_graph.proofs.Cells.{length-zipped, slot_pushed}

-- the fields before and after a step between two graphs of one id, types and own fields
pub record SameOwn (a b : Inside) : Type 0 where
  pub id : b.id ≡ a.id
  pub types : b.types ≡ a.types
  pub fields : b.fields ≡ a.fields

-- where an arc can be put back there is a hole, and then one less
pub some_hole : (a : Inside) (h : GraphOf) (c : CutArc) → Opened a h → CanPutBack h c → 0 < a.holes
some_hole a h c o can =
    let few : m_of (with_cut_arc h c) ≤ made_of (with_cut_arc h c) = count_by-le-length is_some (with_cut_arc h c).entries in
    omega (arith, few, o.holes, put_m h c can, put_made h c)

pub one_less : (a b : Inside) (h : GraphOf) (c : CutArc) → Opened a h → CanPutBack h c → b.holes ≡ a.holes - 1 → b.holes + (m_of h + 1) ≡ made_of h
one_less a b h c o can holes = omega (arith, holes, some_hole a h c o can, o.holes)

-- fields that show the graph h with an arc put back
pub put_after : (b : Inside) (h : GraphOf) (c : CutArc) → IsGraph h → CanPutBack h c → Shows b.vertices b.slots (with_cut_arc h c) → b.holes + (m_of h + 1) ≡ made_of h
    → b.id ≡ h.id → b.types ≡ h.types → b.fields ≡ h.fields → Opened b (with_cut_arc h c)
unfolding with_cut_arc with_listed
put_after b h c sound can shows holes id types fields =
    record {
      graph = put_sound h c sound can;
      shows = shows;
      holes = omega (arith, holes, put_m h c can, put_made h c);
      id = id;
      types = types;
      fields = fields;
    }

-- what `new_arc` knows before it links the arc
pub record NewArcCan (a : Inside) (g : GraphOf) (u v : VertexNo) (z : ℤ) (c : CutArc) (vs : List Vertex) (ss : Slots) : Type 0 where
  pub opened : Opened a g
  pub from : u.0 < n_of g
  pub to : v.0 < n_of g
  pub few : made_of g < 1000000
  pub fits : FitsSigned w64 z
  pub cut : c ≡ new_cut (arc_no (made_of g)) u v z
  pub vertices : vs ≡ a.vertices
  pub slots : ss ≡ a.slots ++ None ∷ []

pub new_arc_can : (a : Inside) (g : GraphOf) (u v : VertexNo) (z : ℤ) (c : CutArc) (vs : List Vertex) (ss : Slots) → NewArcCan a g u v z c vs ss
    → (IsGraph (with_hole g)) × (Shows vs ss (with_hole g)) × (CanPutBack (with_hole g) c)
new_arc_can a g u v z c vs ss k = (
  hole_sound g k.opened.graph k.few,
  rw (k.vertices, k.slots) (hole_shows a.vertices a.slots g k.opened.shows),
  subst (CanPutBack (with_hole g)) (sym k.cut) (new_can g u.0 v.0 z k.opened.graph k.from k.to k.fits),
)

pub new_arc_after : (a b : Inside) (g : GraphOf) (u v : VertexNo) (z : ℤ) (c : CutArc) (vs ws : List Vertex) (ss ts : Slots) → NewArcCan a g u v z c vs ss
    → PutsBack vs ss c ws ts → b.vertices ≡ ws → b.slots ≡ ts → b.holes ≡ a.holes → SameOwn a b → Opened b (with_arc g u.0 v.0 z)
new_arc_after a b g u v z c vs ws ss ts k puts vertices slots holes own =
    let x = new_arc_can a g u v z c vs ss k in
    let h = with_hole g in
    let shows : Shows b.vertices b.slots (with_cut_arc h c) = rw (vertices, slots) (puts h x.1 x.0 x.2) in
    let can = x.2 in
    let o = k.opened in
    let after : Opened b (with_cut_arc h c) = put_after b h c x.0 can shows (omega (arith, holes, o.holes, hole_m g, hole_made g)) (own.id ∙ o.id) (own.types ∙ o.types) (own.fields ∙ o.fields) in
    subst (Opened b) (ap (with_cut_arc h) k.cut ∙ sym (with_arc_is g u.0 v.0 z)) after

-- what `new_arc` leaves, clause by clause
pub record NewArcDone (b : Inside) (g : GraphOf) (u v : VertexNo) (z : ℤ) (number : ArcNo) : Type 0 where
  pub arena : IsArena b
  pub graph : graph_of b ≡ with_arc g u.0 v.0 z
  pub left : LeftByArc g number (graph_of b)
  pub sound : IsGraph (graph_of b)

pub arc_done : (b : Inside) (g : GraphOf) (u v : VertexNo) (z : ℤ) (number : ArcNo) → IsGraph g → u.0 < n_of g → v.0 < n_of g → made_of g < 1000000 → FitsSigned w64 z → number ≡ arc_no (made_of g)
    → Opened b (with_arc g u.0 v.0 z) → NewArcDone b g u v z number
arc_done b g u v z number sound from to few fits is o =
    let arena = closed_arena b (with_arc g u.0 v.0 z) o in
    record {
      arena = arena;
      graph = closed b (with_arc g u.0 v.0 z) o;
      left = record {
        from = u.0;
        to = v.0;
        len = z;
        graph = sound;
        accepted = arc_accepted g u.0 v.0 from to few;
        fits = fits;
        number = is;
        left = closed b (with_arc g u.0 v.0 z) o;
      };
      sound = arena.graph;
    }

-- what `new_edge` knows before it links its arcs
pub record NewEdgeCan (a : Inside) (g : GraphOf) (u v : VertexNo) (z : ℤ) (c d : CutArc) (vs : List Vertex) (ss : Slots) : Type 0 where
  pub opened : Opened a g
  pub from : u.0 < n_of g
  pub to : v.0 < n_of g
  pub few : made_of g + 1 < 1000000
  pub fits : FitsSigned w64 z
  pub second : c ≡ second_cut g (min u.0 v.0) (max u.0 v.0) z
  pub first : d ≡ first_cut g (min u.0 v.0) (max u.0 v.0) z
  pub vertices : vs ≡ a.vertices
  pub slots : ss ≡ a.slots ++ None ∷ [] ++ None ∷ []

pub record EdgeCan (h : GraphOf) (c d : CutArc) (vs : List Vertex) (ss : Slots) : Type 0 where
  pub sound : IsGraph h
  pub shows : Shows vs ss h
  pub can : CanPutBack h c
  pub next : CanPutBack (with_cut_arc h c) d

pub new_edge_can : (a : Inside) (g : GraphOf) (u v : VertexNo) (z : ℤ) (c d : CutArc) (vs : List Vertex) (ss : Slots) → NewEdgeCan a g u v z c d vs ss → EdgeCan (with_hole (with_hole g)) c d vs ss
new_edge_can a g u v z c d vs ss k =
    let low = min u.0 v.0 in
    let high = max u.0 v.0 in
    let h = with_hole g in
    let below : low < n_of g = omega (arith, k.from, k.to) in
    let above : high < n_of g = omega (arith, k.from, k.to) in
    record {
      sound = hole_sound h (hole_sound g k.opened.graph (omega (arith, k.few))) (omega (arith, hole_made g, k.few));
      shows = rw (k.vertices, k.slots) (hole_shows a.vertices (a.slots ++ None ∷ []) h (hole_shows a.vertices a.slots g k.opened.shows));
      can = subst (CanPutBack (with_hole h)) (sym k.second) (second_can g low high z k.opened.graph below above k.fits);
      next =
          subst (λ x. CanPutBack (with_cut_arc (with_hole h) x) d) (sym k.second)
          (subst (CanPutBack (with_cut_arc (with_hole h) (second_cut g low high z))) (sym k.first) (first_can g low high z k.opened.graph below above k.fits));
    }

pub new_edge_after : (a b : Inside) (g : GraphOf) (u v : VertexNo) (z : ℤ) (c d : CutArc) (vs ws : List Vertex) (ss ts : Slots) → NewEdgeCan a g u v z c d vs ss
    → PutsBoth vs ss c d ws ts → b.vertices ≡ ws → b.slots ≡ ts → b.holes ≡ a.holes → SameOwn a b → Opened b (with_edge g u.0 v.0 z)
unfolding with_cut_arc with_listed
new_edge_after a b g u v z c d vs ws ss ts k puts vertices slots holes own =
    let x = new_edge_can a g u v z c d vs ss k in
    let h = with_hole (with_hole g) in
    let h1 = with_cut_arc h c in
    let shows : Shows b.vertices b.slots (with_cut_arc h1 d) = rw (vertices, slots) (puts h x.shows x.sound x.can x.next) in
    let o = k.opened in
    let count : b.holes + (m_of h1 + 1) ≡ made_of h1 = omega (arith, holes, o.holes, put_m h c x.can, put_made h c, hole_m g, hole_m (with_hole g), hole_made g, hole_made (with_hole g)) in
    let after : Opened b (with_cut_arc h1 d) = put_after b h1 d (put_sound h c x.sound x.can) x.next shows count (own.id ∙ o.id) (own.types ∙ o.types) (own.fields ∙ o.fields) in
    subst (Opened b)
    (ap (λ y. with_cut_arc (with_cut_arc h y) d) k.second
    ∙ (ap (with_cut_arc (with_cut_arc h (second_cut g (min u.0 v.0) (max u.0 v.0) z))) k.first ∙ sym (with_edge_is g u.0 v.0 z)))
    after

pub record NewEdgeDone (b : Inside) (g : GraphOf) (u v : VertexNo) (z : ℤ) (number : ArcNo) : Type 0 where
  pub arena : IsArena b
  pub graph : graph_of b ≡ with_edge g u.0 v.0 z
  pub left : LeftByEdge g number (graph_of b)
  pub sound : IsGraph (graph_of b)

pub edge_done : (b : Inside) (g : GraphOf) (u v : VertexNo) (z : ℤ) (number : ArcNo) → IsGraph g → u.0 < n_of g → v.0 < n_of g → made_of g + 1 < 1000000 → FitsSigned w64 z → number ≡ arc_no (made_of g)
    → Opened b (with_edge g u.0 v.0 z) → NewEdgeDone b g u v z number
edge_done b g u v z number sound from to few fits is o =
    let arena = closed_arena b (with_edge g u.0 v.0 z) o in
    record {
      arena = arena;
      graph = closed b (with_edge g u.0 v.0 z) o;
      left = record {
        from = u.0;
        to = v.0;
        len = z;
        graph = sound;
        accepted = edge_accepted g u.0 v.0 from to few;
        fits = fits;
        number = is;
        left = closed b (with_edge g u.0 v.0 z) o;
      };
      sound = arena.graph;
    }

-- an arc that becomes the first of its owner
put_first : (vs ws : List Vertex) (ss : Slots) (g : GraphOf) (k : ArcNo) (u v : VertexNo) (z : ℤ) (link : Option ArcNo) → Shows vs ss g → IsGraph g → CanPutBack g (new_cut k u v z)
    → link ≡ (vertex_in vs u.0).first → ws ≡ vertices_relinked vs u.0 None (Some k) → Shows ws (set ss k.0 (Some (new_slot u v link z))) (with_cut_arc g (new_cut k u v z))
put_first vs ws ss g k u v z link shows sound can link_is ws_is =
    subst (λ y. Shows ws (set ss k.0 (Some (new_slot u v link y))) (with_cut_arc g (new_cut k u v z))) (to_z-of_z w64 z can.arc.len)
    (put_back_done vs ws ss ss ss g (new_cut k u v z) any_vertex None link shows sound can refl refl link_is ws_is refl)

pub arc_pushed : (vs ws : List Vertex) (ss ts : Slots) (k : ArcNo) (u v : VertexNo) (z : ℤ) (link : Option ArcNo) (slot : Slot) → k.0 ≡ length ss → link ≡ (vertex_in vs u.0).first
    → ws ≡ vertices_relinked vs u.0 None (Some k) → slot ≡ new_slot u v link z → ts ≡ ss ++ Some slot ∷ [] → PutsBack vs (ss ++ None ∷ []) (new_cut k u v z) ws ts
arc_pushed vs ws ss ts k u v z link slot last link_is ws_is slot_is ts_is =
    λ g shows sound can.
    let s = new_slot u v link z in
    let same : set (ss ++ None ∷ []) k.0 (Some s) ≡ ts = set_at ss None [] (Some s) k.0 (sym last) ∙ (ap (λ o. ss ++ Some o ∷ []) (sym slot_is) ∙ sym ts_is) in
    subst (λ l. Shows ws l (with_cut_arc g (new_cut k u v z))) same (put_first vs ws (ss ++ None ∷ []) g k u v z link shows sound can link_is ws_is)

pub edge_pushed : (vs us ws : List Vertex) (ss rs ts : Slots) (k : ArcNo) (u v : VertexNo) (z : ℤ) (first second : Option ArcNo) (a b : Slot) → k.0 ≡ length ss
    → second ≡ (vertex_in vs v.0).first → us ≡ vertices_relinked vs v.0 None (Some (arc_no (k.0 + 1)))
    → first ≡ (vertex_in us u.0).first → ws ≡ vertices_relinked us u.0 None (Some k)
    → a ≡ new_slot u v first z → rs ≡ ss ++ Some a ∷ [] → b ≡ new_slot v u second z → ts ≡ rs ++ Some b ∷ []
    → PutsBoth vs (ss ++ None ∷ [] ++ None ∷ []) (new_cut (arc_no (k.0 + 1)) v u z) (new_cut k u v z) ws ts
edge_pushed vs us ws ss rs ts k u v z first second a b last second_is us_is first_is ws_is a_is rs_is b_is ts_is =
    λ g shows sound can next.
    let c = new_cut (arc_no (k.0 + 1)) v u z in
    let d = new_cut k u v z in
    let hs : Slots = ss ++ None ∷ [] ++ None ∷ [] in
    let s = new_slot u v first z in
    let t = new_slot v u second z in
    let one : Shows us (set hs (k.0 + 1) (Some t)) (with_cut_arc g c) = put_first vs us hs g (arc_no (k.0 + 1)) v u z second shows sound can second_is us_is in
    let both : Shows ws (set (set hs (k.0 + 1) (Some t)) k.0 (Some s)) (with_cut_arc (with_cut_arc g c) d) =
    put_first us ws (set hs (k.0 + 1) (Some t)) (with_cut_arc g c) k u v z first one (put_sound g c sound can) next first_is ws_is in
    let same : set (set hs (k.0 + 1) (Some t)) k.0 (Some s) ≡ ts =
    ap (λ n. set (set hs (n + 1) (Some t)) n (Some s)) last
    ∙ (two_set_last ss None (Some s) (Some t)
    ∙ (ap (λ o. ss ++ Some o ∷ [] ++ Some t ∷ []) (sym a_is)
    ∙ (ap (λ l. l ++ Some t ∷ []) (sym rs_is)
    ∙ (ap (λ o. rs ++ Some o ∷ []) (sym b_is) ∙ sym ts_is)))) in
    subst (λ l. Shows ws l (with_cut_arc (with_cut_arc g c) d)) same both

-- ---- the vertices and cells
-- the cells and fields before, and the same with more room
pub record Roomy (cs bs : List Cell) (fs gs : List (List Util)) (now : Slots) : Type 0 where
  pub view : zipped cs fs ≡ now
  pub few : length fs ≤ length cs
  pub cells : bs ≡ cs
  pub fields : gs ≡ fs

next_number : (cs bs : List Cell) (fs gs : List (List Util)) (now : Slots) (k : ℕ) → Roomy cs bs fs gs now → k ≡ length bs → k ≡ length now
next_number cs bs fs gs now k r number =
    number ∙ (ap length r.cells ∙ (sym (length-zipped cs fs) ∙ ap length r.view))

pub arc_joins : (vs ws : List Vertex) (cs bs ds : List Cell) (fs gs : List (List Util)) (now : Slots) (u v : VertexNo) (z : ℤ) (k : ℕ) (cell : Cell) → Roomy cs bs fs gs now → k ≡ length bs
    → ws ≡ vertices_relinked vs u.0 None (Some (arc_no k)) → cell ≡ new_cell u v (vertex_in vs u.0).first z → ds ≡ bs ++ cell ∷ [] → both ws (zipped ds gs) ≡ with_new_arc (both vs now) (insertion u.0 v.0 z)
unfolding with_new_arc
arc_joins vs ws cs bs ds fs gs now u v z k cell r number ws_is cell_is ds_is =
    ap₂ both (ws_is ∙ ap (λ j. vertices_relinked vs u.0 None (Some (arc_no j))) (next_number cs bs fs gs now k r number))
    (slot_pushed cs bs ds fs gs now cell (Some (new_slot u v (vertex_in vs u.0).first z)) r.view r.few r.cells r.fields ds_is (ap (slot_with two_zeros) cell_is))

pub edge_joins : (vs ws : List Vertex) (cs bs es ds : List Cell) (fs gs : List (List Util)) (now : Slots) (u v low high : ℕ) (z : ℤ) (k : ℕ) (a b : Cell) → Roomy cs bs fs gs now → k ≡ length bs → low ≡ min u v → high ≡ max u v
    → ws ≡ relinked_both vs k low high → a ≡ new_cell (vertex_no low) (vertex_no high) (first_behind vs k low high) z → es ≡ bs ++ a ∷ []
    → b ≡ new_cell (vertex_no high) (vertex_no low) (vertex_in vs high).first z → ds ≡ es ++ b ∷ [] → both ws (zipped ds gs) ≡ with_new_edge (both vs now) (insertion u v z)
unfolding with_new_edge
edge_joins vs ws cs bs es ds fs gs now u v low high z k a b r number low_is high_is ws_is a_is as_is b_is ds_is =
    let same : k ≡ length now = next_number cs bs fs gs now k r number in
    let s : ℕ → ℕ → ℕ → Slots = λ j x y. now ++ Some (new_slot (vertex_no x) (vertex_no y) (first_behind vs j x y) z) ∷ [] in
    let t : ℕ → ℕ → ℕ → Slots = λ j x y. s j x y ++ Some (new_slot (vertex_no y) (vertex_no x) (vertex_in vs y).first z) ∷ [] in
    let form : ℕ → ℕ → ℕ → Both = λ j x y. both (relinked_both vs j x y) (t j x y) in
    let one : zipped es gs ≡ s k low high = slot_pushed cs bs es fs gs now a (Some (new_slot (vertex_no low) (vertex_no high) (first_behind vs k low high) z)) r.view r.few r.cells r.fields as_is (ap (slot_with two_zeros) a_is) in
    let more : length gs ≤ length es = omega (arith, r.few, ap length r.cells, ap length r.fields, ap length as_is, length_push bs a) in
    let two : zipped ds gs ≡ t k low high = slot_pushed es es ds gs gs (s k low high) b (Some (new_slot (vertex_no high) (vertex_no low) (vertex_in vs high).first z)) one more refl refl ds_is (ap (slot_with two_zeros) b_is) in
    ap₂ both ws_is two
    ∙ (ap (λ j. form j low high) same
    ∙ (ap (λ x. form (length now) x high) low_is ∙ ap (form (length now) (min u v)) high_is))

-- ---- the graph
arc_after : (a b : Inside) (g : GraphOf) (u v : VertexNo) (z : ℤ) → Opened a g → u.0 < n_of g → v.0 < n_of g → made_of g < 1000000 → FitsSigned w64 z
    → both b.vertices b.slots ≡ with_new_arc (both a.vertices a.slots) (insertion u.0 v.0 z) → b.holes ≡ a.holes → SameOwn a b → Opened b (with_arc g u.0 v.0 z)
unfolding with_new_arc
arc_after a b g u v z o from to few fits is holes own =
    let k = length a.slots in
    let link = (vertex_in a.vertices u.0).first in
    let ws = vertices_relinked a.vertices u.0 None (Some (arc_no k)) in
    let ts : Slots = a.slots ++ Some (new_slot u v link z) ∷ [] in
    let can : NewArcCan a g u v z (new_cut (arc_no k) u v z) a.vertices (a.slots ++ None ∷ []) = record {
      opened = o;
      from = from;
      to = to;
      few = few;
      fits = fits;
      cut = ap (λ m. new_cut (arc_no m) u v z) o.shows.made;
      vertices = refl;
      slots = refl;
    } in
    new_arc_after a b g u v z (new_cut (arc_no k) u v z) a.vertices ws (a.slots ++ None ∷ []) ts can
    (arc_pushed a.vertices ws a.slots ts (arc_no k) u v z link (new_slot u v link z) refl refl refl refl refl)
    (ap (λ (x : Both). x.vertices) is) (ap (λ (x : Both). x.slots) is) holes own

edge_after : (a b : Inside) (g : GraphOf) (u v : VertexNo) (z : ℤ) → Opened a g → u.0 < n_of g → v.0 < n_of g → made_of g + 1 < 1000000 → FitsSigned w64 z
    → both b.vertices b.slots ≡ with_new_edge (both a.vertices a.slots) (insertion u.0 v.0 z) → b.holes ≡ a.holes → SameOwn a b → Opened b (with_edge g u.0 v.0 z)
unfolding with_new_edge
edge_after a b g u v z o from to few fits is holes own =
    let low : VertexNo = vertex_no (min u.0 v.0) in
    let high : VertexNo = vertex_no (max u.0 v.0) in
    let k = length a.slots in
    let vs = a.vertices in
    let us = vertices_relinked vs high.0 None (Some (arc_no (k + 1))) in
    let ws = relinked_both vs k low.0 high.0 in
    let after_low = first_behind vs k low.0 high.0 in
    let after_high = (vertex_in vs high.0).first in
    let rs : Slots = a.slots ++ Some (new_slot low high after_low z) ∷ [] in
    let ts : Slots = rs ++ Some (new_slot high low after_high z) ∷ [] in
    let second = new_cut (arc_no (k + 1)) high low z in
    let first = new_cut (arc_no k) low high z in
    let can : NewEdgeCan a g u v z second first vs (a.slots ++ None ∷ [] ++ None ∷ []) = record {
      opened = o;
      from = from;
      to = to;
      few = few;
      fits = fits;
      second = ap (λ m. new_cut (arc_no (m + 1)) high low z) o.shows.made;
      first = ap (λ m. new_cut (arc_no m) low high z) o.shows.made;
      vertices = refl;
      slots = refl;
    } in
    let puts : PutsBoth vs (a.slots ++ None ∷ [] ++ None ∷ []) second first ws ts =
    edge_pushed vs us ws a.slots rs ts (arc_no k) low high z after_low after_high (new_slot low high after_low z) (new_slot high low after_high z)
    refl refl refl refl refl refl refl refl refl in
    new_edge_after a b g u v z second first vs ws _ ts can puts (ap (λ (x : Both). x.vertices) is) (ap (λ (x : Both). x.slots) is) holes own

pub arc_joined : (a b : Inside) (g : GraphOf) (u v : VertexNo) (z y : ℤ) (number : ArcNo) → Opened a g → u.0 < n_of g → v.0 < n_of g → FitsSigned w64 z → y ≡ z → length a.slots + 1 ≤ 1000000
    → both b.vertices b.slots ≡ with_new_arc (both a.vertices a.slots) (insertion u.0 v.0 y) → b.holes ≡ a.holes → SameOwn a b → number ≡ arc_no (made_of g) → NewArcDone b g u v z number
arc_joined a b g u v z y number o from to fits same few is holes own number_is =
    let less : made_of g < 1000000 = omega (arith, few, o.shows.made) in
    arc_done b g u v z number o.graph from to less fits number_is
    (arc_after a b g u v z o from to less fits (subst (λ x. both b.vertices b.slots ≡ with_new_arc (both a.vertices a.slots) (insertion u.0 v.0 x)) same is) holes own)

pub edge_joined : (a b : Inside) (g : GraphOf) (u v : VertexNo) (z y : ℤ) (number : ArcNo) → Opened a g → u.0 < n_of g → v.0 < n_of g → FitsSigned w64 z → y ≡ z → length a.slots + 2 ≤ 1000000
    → both b.vertices b.slots ≡ with_new_edge (both a.vertices a.slots) (insertion u.0 v.0 y) → b.holes ≡ a.holes → SameOwn a b → number ≡ arc_no (made_of g) → NewEdgeDone b g u v z number
edge_joined a b g u v z y number o from to fits same few is holes own number_is =
    let less : made_of g + 1 < 1000000 = omega (arith, few, o.shows.made) in
    edge_done b g u v z number o.graph from to less fits number_is
    (edge_after a b g u v z o from to less fits (subst (λ x. both b.vertices b.slots ≡ with_new_edge (both a.vertices a.slots) (insertion u.0 v.0 x)) same is) holes own)
