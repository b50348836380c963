-- Lemmas on what setting a length, a label, the id or the letters leaves.
use Rattle.std.proofs.Common.{◌≡◌, ◌<◌, ℕ, ℤ, List, get_or, set, Option, Some, None, is_some, IfSome, Bool, true, false, refl, sym, ap, subst, ◌∙◌, arith, inl, inr, FitsSigned, to_z, of_z}
use Rattle.std.specs.Int.{w64}
use Rattle.std.proofs.lemmas.Bool.{cases_eq, ltb-true, lt-ltb}
use Rattle.std.proofs.lemmas.Int.{to_z-of_z}
use Rattle.std.proofs.lemmas.List.{get_or-set_same, get_or-set_other, length-set, set-set, set-get_or, get_or_default}
use Rattle.std.proofs.lemmas.List.Sums.{sum_by-set}
use Rattle.sgb_graph.specs.declared.field.VertexNo.{VertexNo}
use Rattle.sgb_graph.specs.declared.field.ArcNo.{ArcNo}
use Rattle.sgb_graph.specs.declared.graph.Vertex as vertex
use Rattle.sgb_graph.specs.declared.graph.arena.Slot.{Slot}
use Rattle.sgb_graph.specs.declared.graph.Graph.TheInside.{Inside}
use Rattle.sgb_graph.specs.Text.{IsText}
use Rattle.sgb_graph.specs.Graph.{GraphOf, VertexOf, ArcOf, IsGraph, IsVertex, IsArc, n_of, vertex_at, no_vertex, arcs_of, arc_at, has_arc, has_vertex, occurrences, listings, names_in, names_of}
use Rattle.sgb_graph.specs.Edit.{with_len, with_label, entry_at, arc_or, no_arc, util_at, has_place, refusal_unless}
use Rattle.sgb_graph.specs.Private.Arena.{Slots, Shows, ShowsVertex, IsArena, graph_of, slot_at, entry_of, owner_in, names_counted, len_in, with_len_in}
use Rattle.sgb_graph.specs.Private.Link.{any_vertex, vertex_in}
use Rattle.sgb_graph.specs.Private.Vertices.{with_name}
use Rattle.sgb_graph.specs.Private.Fill.{with_aim, with_aim_in}
use Rattle.sgb_graph.proofs.ArcChanges.{aim_opened}
use Rattle.sgb_graph.proofs.Graphs.{made_of_live}
use Rattle.sgb_graph.proofs.Sound.{Keeps, IsValue-keeps, IsVertex-keeps, IsEntry-keeps, All-set, entry_same}
use Rattle.sgb_graph.proofs.Shows.{Opened, opened, closed, closed_arena}
use Rattle.sgb_graph.proofs.TakeOut.{some_entry}
use Rattle.sgb_graph.proofs.ExchangeLemmas.{owned_as, graph_six, fields_of_entry}
use Rattle.sgb_graph.specs.declared.field.Util.{Util}
use Rattle.sgb_graph.specs.declared.field.Util.TheVariants as utils
use Rattle.sgb_graph.specs.declared.field.VertexField.{VertexField}
use Rattle.sgb_graph.specs.declared.field.ArcField.{ArcField}
use Rattle.sgb_graph.specs.declared.field.GraphField.{GraphField}
use Rattle.sgb_graph.specs.declared.field.Place.{Place}
use Rattle.sgb_graph.specs.declared.field.Place.TheVariants as places
use Rattle.sgb_graph.specs.declared.refusal.Refusal.TheVariants.{BadOperand}
use Rattle.sgb_graph.specs.Field.{vertex_place, arc_place, graph_place}
use Rattle.sgb_graph.specs.Private.Exchange.{fields_in}
use Rattle.sgb_graph.specs.Delta.{LeftByLen, LeftByLabel}
use Rattle.sgb_graph.specs.Private.SameLaws.{same_graph}

-- a label
pub label_opened : (a b : Inside) (g : GraphOf) (v : ℕ) (t : List ℕ) → Opened a g → v < n_of g → IsText t
    → b.id ≡ a.id → b.types ≡ a.types → b.fields ≡ a.fields → b.holes ≡ a.holes → b.slots ≡ a.slots
    → b.vertices ≡ set a.vertices v (with_name t (vertex_in a.vertices v)) → Opened b (with_label g v t)
unfolding with_label
label_opened a b g v t o low text id types fields holes slots vertices =
    let h = with_label g v t in
    let x = vertex_at g v in
    let y : VertexOf = record x { label = t } in
    let n : n_of h ≡ n_of g = length-set g.vertices v y in
    let keeps : Keeps (n_of g) g.entries (n_of h) h.entries = record { vertices = omega (arith, n); arcs = λ k l. l } in
    let sound = o.graph in
    let owner = IsVertex-keeps (n_of g) (n_of h) g.entries h.entries x keeps (sound.vertices v no_vertex low) in
    let new = with_name t (vertex_in a.vertices v) in
    let vs = a.vertices in
    let ss = a.slots in
    let names : (j : ℕ) → names_of h j ≡ names_of g j = λ j.
    (let s = sum_by-set (λ z. names_in j z.fields) g.vertices v y no_vertex low in omega (arith, s)) in
    let arcs : (w : ℕ) → arcs_of h w ≡ arcs_of g w = λ w.
    elim (cases_eq w v) [
      | inl same ↦ ap (λ k. (get_or h.vertices k no_vertex).arcs) same ∙ (ap (λ z. z.arcs) (get_or-set_same g.vertices v y no_vertex low) ∙ ap (arcs_of g) (sym same))
      | inr ne ↦ ap (λ z. z.arcs) (get_or-set_other g.vertices v w y no_vertex ne)
    ] in
    let shown : Shows (set vs v new) ss h = record {
      n = omega (arith, length-set vs v new, o.shows.n, n);
      vertices = λ w d l.
          elim (cases_eq w v) [
            | inl same ↦
                let z = o.shows.vertices v any_vertex low in
                let made : ShowsVertex ss new y = record { label = refl; fields = z.fields; arcs = z.arcs } in
                let one : get_or (set vs v new) w d ≡ new = ap (λ k. get_or (set vs v new) k d) same ∙ get_or-set_same vs v new d (omega (arith, o.shows.n, low)) in
                let two : vertex_at h w ≡ y = ap (vertex_at h) same ∙ get_or-set_same g.vertices v y no_vertex low in
                subst (λ r. ShowsVertex ss r (vertex_at h w)) (sym one) (subst (ShowsVertex ss new) (sym two) made)
            | inr ne ↦
                subst (λ r. ShowsVertex ss r (vertex_at h w)) (sym (get_or-set_other vs v w new d ne))
                (subst (ShowsVertex ss (get_or vs w d)) (sym (get_or-set_other g.vertices v w y no_vertex ne)) (o.shows.vertices w d (omega (arith, l, n))))
          ];
      made = o.shows.made;
      entries = o.shows.entries;
      owners = λ k. owned_as k (owner_in (slot_at ss k)) (arcs_of g) (arcs_of h) arcs (o.shows.owners k);
      names = λ k. subst (λ z. IfSome (names_counted (slot_at ss k)) (λ m. m ≡ z)) (sym (names k)) (o.shows.names k);
    } in
    record {
      graph = record {
        listed = λ k.
            let s = sum_by-set (λ z. occurrences k z.arcs) g.vertices v y no_vertex low in
            let same : listings k h.vertices ≡ listings k g.vertices = omega (arith, s) in
            same ∙ sound.listed k;
        id = sound.id;
        types = sound.types;
        six = sound.six;
        values = λ k d l. IsValue-keeps (n_of g) (n_of h) g.entries h.entries (get_or g.fields k d) keeps (sound.values k d l);
        vertices = All-set (IsVertex (n_of h) h.entries) g.vertices v y
            (λ k d l. IsVertex-keeps (n_of g) (n_of h) g.entries h.entries (get_or g.vertices k d) keeps (sound.vertices k d l))
            (record { label = text; six = owner.six; values = owner.values });
        arcs = λ k d l. IsEntry-keeps (n_of g) (n_of h) g.entries h.entries (get_or g.entries k d) keeps (sound.arcs k d l);
        few_vertices = omega (arith, n, sound.few_vertices);
        few_arcs = sound.few_arcs;
      };
      shows = rw (vertices, slots) shown;
      holes = rw holes o.holes;
      id = id ∙ o.id;
      types = types ∙ o.types;
      fields = fields ∙ o.fields;
    }

-- a length
len_is_aim : (z : ℤ) (o : Option Slot) (e : Option ArcOf) → entry_of o ≡ e → is_some e ≡ true → with_len_in z o ≡ with_aim_in (arc_or no_arc e).tip z o
len_is_aim z None None same live = absurd cc
len_is_aim z None (Some e) same live = absurd cc
len_is_aim z (Some s) None same live = absurd cc
len_is_aim z (Some s) (Some e) same live = ap (λ o. with_aim_in (arc_or no_arc o).tip z (Some s)) same

pub len_of_entry : (o : Option Slot) (e : Option ArcOf) → entry_of o ≡ e → is_some e ≡ true → len_in o ≡ (arc_or no_arc e).len
len_of_entry None None same live = absurd cc
len_of_entry None (Some e) same live = absurd cc
len_of_entry (Some s) None same live = absurd cc
len_of_entry (Some s) (Some e) same live = ap (λ o. (arc_or no_arc o).len) same

pub len_opened : (a b : Inside) (g : GraphOf) (k : ℕ) (z : ℤ) → Opened a g → has_arc g k ≡ true → FitsSigned w64 z
    → b.id ≡ a.id → b.types ≡ a.types → b.fields ≡ a.fields → b.holes ≡ a.holes → b.vertices ≡ a.vertices
    → b.slots ≡ set a.slots k (with_len_in z (slot_at a.slots k)) → Opened b (with_len g k z)
unfolding with_len with_aim
len_opened a b g k z o there fits id types fields holes vertices slots =
    let e = entry_at g k in
    let entry : arc_at g k ≡ Some e = some_entry (arc_at g k) there in
    let arc : IsArc (n_of g) g.entries e = subst (λ r. IfSome r (IsArc (n_of g) g.entries)) entry (o.graph.arcs k None (made_of_live g k there)) in
    aim_opened a b g k e.tip z o there arc.tip fits id types fields holes vertices
    (slots ∙ ap (set a.slots k) (len_is_aim z (slot_at a.slots k) (arc_at g k) (o.shows.entries k) there))

-- what `set_len` leaves, clause by clause
pub record LenDone (b : Inside) (g : GraphOf) (k : ArcNo) (z old : ℤ) : Type 0 where
  pub arena : IsArena b
  pub graph : graph_of b ≡ with_len g k.0 z
  pub left : LeftByLen g k old (graph_of b)
  pub sound : IsGraph (graph_of b)

pub len_done : (a b : Inside) (g : GraphOf) (k : ArcNo) (z z' old : ℤ) (ss ts : Slots) → graph_of a ≡ g → IsArena a → has_arc g k.0 ≡ true → FitsSigned w64 z → z' ≡ z
    → ss ≡ a.slots → old ≡ len_in (slot_at ss k.0) → ts ≡ set ss k.0 (with_len_in z' (slot_at ss k.0))
    → b.id ≡ a.id → b.types ≡ a.types → b.fields ≡ a.fields → b.holes ≡ a.holes → b.vertices ≡ a.vertices → b.slots ≡ ts → LenDone b g k z (to_z w64 (of_z w64 old))
len_done a b g k z z' old ss ts same arena there fits is ss_is old_is ts_is id types fields holes vertices slots =
    let o = opened a g same arena in
    let made : b.slots ≡ set a.slots k.0 (with_len_in z (slot_at a.slots k.0)) =
    slots ∙ (ts_is ∙ (ap (λ r. set r k.0 (with_len_in z' (slot_at r k.0))) ss_is ∙ ap (λ y. set a.slots k.0 (with_len_in y (slot_at a.slots k.0))) is)) in
    let after = len_opened a b g k.0 z o there fits id types fields holes vertices made in
    let arena' = closed_arena b (with_len g k.0 z) after in
    let entry : arc_at g k.0 ≡ Some (entry_at g k.0) = some_entry (arc_at g k.0) there in
    let arc : IsArc (n_of g) g.entries (entry_at g k.0) = subst (λ r. IfSome r (IsArc (n_of g) g.entries)) entry (o.graph.arcs k.0 None (made_of_live g k.0 there)) in
    let was : old ≡ (entry_at g k.0).len = old_is ∙ (ap (λ r. len_in (slot_at r k.0)) ss_is ∙ len_of_entry (slot_at a.slots k.0) (arc_at g k.0) (o.shows.entries k.0) there) in
    record {
      arena = arena';
      graph = closed b (with_len g k.0 z) after;
      left = record {
        len = z;
        graph = o.graph;
        accepted = ap (λ t. refusal_unless t BadOperand None) there;
        kept = ap (λ r. to_z w64 (of_z w64 r)) was ∙ to_z-of_z w64 (entry_at g k.0).len arc.len;
        left = closed b (with_len g k.0 z) after;
      };
      sound = arena'.graph;
    }

pub record LabelDone (b : Inside) (g : GraphOf) (v : VertexNo) (t old : List ℕ) : Type 0 where
  pub arena : IsArena b
  pub graph : graph_of b ≡ with_label g v.0 t
  pub left : LeftByLabel g v old (graph_of b)
  pub sound : IsGraph (graph_of b)

pub label_done : (a b : Inside) (g : GraphOf) (v : VertexNo) (t old : List ℕ) → graph_of a ≡ g → IsArena a → v.0 < n_of g → IsText t
    → old ≡ (vertex_in a.vertices v.0).label
    → b.id ≡ a.id → b.types ≡ a.types → b.fields ≡ a.fields → b.holes ≡ a.holes → b.slots ≡ a.slots
    → b.vertices ≡ set a.vertices v.0 (with_name t (vertex_in a.vertices v.0)) → LabelDone b g v t old
label_done a b g v t old same arena low text old_is id types fields holes slots vertices =
    let o = opened a g same arena in
    let after = label_opened a b g v.0 t o low text id types fields holes slots vertices in
    let arena' = closed_arena b (with_label g v.0 t) after in
    record {
      arena = arena';
      graph = closed b (with_label g v.0 t) after;
      left = record {
        label = t;
        graph = o.graph;
        accepted = ap (λ r. refusal_unless r BadOperand None) (lt-ltb v.0 (n_of g) low);
        kept = old_is ∙ (o.shows.vertices v.0 any_vertex low).label;
        left = closed b (with_label g v.0 t) after;
      };
      sound = arena'.graph;
    }

-- the value that `util` reads
pub util_vertex : (a : Inside) (g : GraphOf) (p : Place) (v : VertexNo) (f : VertexField) (vs : List vertex.Vertex) (i : ℕ) (u : Util) → graph_of a ≡ g → IsArena a → has_place g p ≡ true
    → p ≡ places.Vertex v f → vs ≡ a.vertices → i ≡ vertex_place f → u ≡ get_or (vertex_in vs v.0).fields i utils.Zero → u ≡ util_at g p
unfolding util_at
util_vertex a g p v f vs i u same arena there is vertices place here =
    let o = opened a g same arena in
    let there' : has_place g (places.Vertex v f) ≡ true = subst (λ q. has_place g q ≡ true) is there in
    let low : v.0 < n_of g = ltb-true v.0 (n_of g) there' in
    here
    ∙ (ap (λ xs. get_or (vertex_in xs v.0).fields i utils.Zero) vertices
    ∙ (ap (λ j. get_or (vertex_in a.vertices v.0).fields j utils.Zero) place
    ∙ (ap (λ us. get_or us (vertex_place f) utils.Zero) (o.shows.vertices v.0 any_vertex low).fields ∙ ap (util_at g) (sym is))))

pub util_arc : (a : Inside) (g : GraphOf) (p : Place) (k : ArcNo) (f : ArcField) (ss : Slots) (i : ℕ) (u : Util) → graph_of a ≡ g → IsArena a → has_place g p ≡ true
    → p ≡ places.Arc k f → ss ≡ a.slots → i ≡ arc_place f → u ≡ get_or (fields_in (slot_at ss k.0)) i utils.Zero → u ≡ util_at g p
unfolding util_at
util_arc a g p k f ss i u same arena there is slots place here =
    let o = opened a g same arena in
    let there' : has_place g (places.Arc k f) ≡ true = subst (λ q. has_place g q ≡ true) is there in
    here
    ∙ (ap (λ r. get_or (fields_in (slot_at r k.0)) i utils.Zero) slots
    ∙ (ap (λ j. get_or (fields_in (slot_at a.slots k.0)) j utils.Zero) place
    ∙ (ap (λ us. get_or us (arc_place f) utils.Zero) (fields_of_entry (slot_at a.slots k.0) (arc_at g k.0) (o.shows.entries k.0) there') ∙ ap (util_at g) (sym is))))

pub util_graph : (a : Inside) (g : GraphOf) (p : Place) (f : GraphField) (i : ℕ) (u : Util) → graph_of a ≡ g → IsArena a → p ≡ places.Graph f → i ≡ graph_place f → get_or a.fields i u ≡ util_at g p
unfolding util_at
util_graph a g p f i u same arena is place =
    let o = opened a g same arena in
    ap (λ j. get_or a.fields j u) place
    ∙ (ap (λ us. get_or us (graph_place f) u) o.fields
    ∙ (get_or_default g.fields (graph_place f) u utils.Zero (omega (arith, o.graph.six, graph_six f)) ∙ ap (util_at g) (sym is)))

pub unless_ok : (b : Bool) → refusal_unless b BadOperand None ≡ None → b ≡ true
unless_ok true e = refl
unless_ok false e = absurd cc

-- undoing a set length
pub record LeftLen (g : GraphOf) (k : ArcNo) (old : ℤ) (h : GraphOf) : Type 0 where
  pub there : has_arc h k.0 ≡ true
  pub fits : FitsSigned w64 old
  pub back : with_len h k.0 old ≡ g

pub left_len : (g h : GraphOf) (k : ArcNo) (old : ℤ) → LeftByLen g k old h → LeftLen g k old h
unfolding with_len
left_len g h k old l =
    let live = unless_ok (has_arc g k.0) l.accepted in
    let low = made_of_live g k.0 live in
    let e = entry_at g k.0 in
    let y : ArcOf = record e { len = l.len } in
    let entry : arc_at g k.0 ≡ Some e = some_entry (arc_at g k.0) live in
    let arc : IsArc (n_of g) g.entries e = subst (λ r. IfSome r (IsArc (n_of g) g.entries)) entry (l.graph.arcs k.0 None low) in
    let now : arc_at h k.0 ≡ Some y = ap (λ (q : GraphOf). arc_at q k.0) l.left ∙ entry_same g.entries k.0 (Some y) low in
    let here : record (entry_at h k.0) { len = old } ≡ e = ap (λ r. record (arc_or no_arc r) { len = old }) now ∙ ap (λ z. record e { len = z }) l.kept in
    let entries : set h.entries k.0 (Some (record (entry_at h k.0) { len = old })) ≡ g.entries =
    ap (λ (q : GraphOf). set q.entries k.0 (Some (record (entry_at h k.0) { len = old }))) l.left
    ∙ (ap (λ r. set (set g.entries k.0 (Some y)) k.0 (Some r)) here
    ∙ (set-set g.entries k.0 (Some y) (Some e) ∙ (ap (set g.entries k.0) (sym entry) ∙ set-get_or g.entries k.0 None))) in
    record {
      there = ap is_some now;
      fits = subst (FitsSigned w64) (sym l.kept) arc.len;
      back = same_graph (with_len h k.0 old) g (ap (λ (q : GraphOf). q.id) l.left) (ap (λ (q : GraphOf). q.types) l.left) (ap (λ (q : GraphOf). q.fields) l.left) (ap (λ (q : GraphOf). q.vertices) l.left) entries;
    }

-- undoing a set label
pub record LeftLabel (g : GraphOf) (v : VertexNo) (old : List ℕ) (h : GraphOf) : Type 0 where
  pub low : v.0 < n_of h
  pub back : with_label h v.0 old ≡ g

pub left_label : (g h : GraphOf) (v : VertexNo) (old : List ℕ) → LeftByLabel g v old h → LeftLabel g v old h
unfolding with_label
left_label g h v old l =
    let low = ltb-true v.0 (n_of g) (unless_ok (has_vertex g v.0) l.accepted) in
    let x = vertex_at g v.0 in
    let y : VertexOf = record x { label = l.label } in
    let n : n_of h ≡ n_of g = ap n_of l.left ∙ length-set g.vertices v.0 y in
    let now : vertex_at h v.0 ≡ y = ap (λ (q : GraphOf). vertex_at q v.0) l.left ∙ get_or-set_same g.vertices v.0 y no_vertex low in
    let here : record (vertex_at h v.0) { label = old } ≡ x = ap (λ (q : VertexOf). record q { label = old }) now ∙ ap (λ t. record x { label = t }) l.kept in
    let vertices : set h.vertices v.0 (record (vertex_at h v.0) { label = old }) ≡ g.vertices =
    ap (λ (q : GraphOf). set q.vertices v.0 (record (vertex_at h v.0) { label = old })) l.left
    ∙ (ap (set (set g.vertices v.0 y) v.0) here ∙ (set-set g.vertices v.0 y x ∙ set-get_or g.vertices v.0 no_vertex)) in
    record {
      low = omega (arith, n, low);
      back = same_graph (with_label h v.0 old) g (ap (λ (q : GraphOf). q.id) l.left) (ap (λ (q : GraphOf). q.types) l.left) (ap (λ (q : GraphOf). q.fields) l.left) vertices (ap (λ (q : GraphOf). q.entries) l.left);
    }
