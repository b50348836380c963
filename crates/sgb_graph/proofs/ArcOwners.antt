-- Lemmas on rows that tell the arcs of a graph while chains are followed.
use Rattle.std.proofs.Common.{◌≡◌, ◌<◌, ◌+◌, ℕ, zero, suc, List, [], ◌∷◌, length, get_or, map, replicate, Option, Some, None, is_some, IfSome, All, Bool, true, false, ◌&&◌, refl, sym, ap, subst, ◌∙◌, arith, cond, ◌⊎◌, inl, inr, ◌≢◌, ◌≤◌, ◌-◌, set, IsSome}
use Rattle.std.specs.List.{list_all, range_with_len}
use Rattle.std.proofs.lemmas.Bool.{cases_Bool, cases_lt, lt-ltb, and_from, and_parts, cases_eq}
use Rattle.std.proofs.lemmas.List.{length-replicate, get_or-replicate, get_or_past, replicate_more, same_lists, get_or_default, get_or-set_same, get_or-set_other, length-map}
use Rattle.sgb_graph.specs.declared.field.Util.{Util}
use Rattle.sgb_graph.specs.declared.field.Util.TheVariants as utils
use Rattle.sgb_graph.specs.declared.parts.ArcPart.{ArcPart}
use Rattle.sgb_graph.specs.declared.parts.VertexPart.{VertexPart}
use Rattle.sgb_graph.specs.declared.parts.Parts.{Parts}
use Rattle.sgb_graph.specs.declared.refusal.Refusal.{Refusal}
use Rattle.sgb_graph.specs.declared.refusal.Refusal.TheVariants.{NoRoom, BadOperand}
use Rattle.sgb_graph.specs.Graph.{GraphOf, VertexOf, ArcOf, IsGraph, IsArc, IsTip, IsValue, IsId, n_of, made_of, vertex_at, no_vertex, arcs_of, arc_at, has_arc, m_of, label_of, occurrences, names_in, names_in_entry, names_of}
use Rattle.sgb_graph.specs.Edit.{stored, can_name, arc_or, no_arc, with_listed, with_cut_arc}
use Rattle.sgb_graph.specs.Types.{IsTypes}
use Rattle.sgb_graph.specs.New.{new_graph, blank_vertex, six_zeros, new_id}
use Rattle.sgb_graph.specs.Private.Holes.{with_hole, blank_graph}
use Rattle.sgb_graph.specs.Parts.{vertex_part, arc_part, IsVertexOf, IsArcOf, Builds}
use Rattle.sgb_graph.specs.Private.Lay.{links_of, Lays, Laying, RefusesToLay, laid_cell, LayingAt, laid_arc, link_at, kept_link, kept_links, row_at, any_row, nexts, unowned, owned_row, laid_entry, laid_slot, LikeBut, Tells, Owns, OwnsBelow, OwnsUpTo, FirstsOf}
use Rattle.sgb_graph.specs.Private.Fill.{SameNames, can_name_each, can_name_part, can_name_at, can_name_vertices, can_name_arcs, can_name_all, filled_vertex, filled_entry, FillsVertices, FillsArcs, can_lead}
use Rattle.sgb_graph.proofs.Graphs.{made_of_live, listed_live}
use Rattle.sgb_graph.proofs.TakeOut.{some_entry}
use Rattle.sgb_graph.proofs.RecordChains.{links_count, over_links, over_parts, lays_same, lists_same, laying_begins, laying_kept, laid_can, laid_more, record_refused, first_kept, listed_low, lays_as_kept, refuses_kept}
use Rattle.sgb_graph.proofs.FieldValues.{each-same, part-same, filled_lives}
use Rattle.sgb_graph.proofs.PairedLemmas.{range_all}
use Rattle.sgb_graph.proofs.ArcChanges.{leads_so}
use Rattle.sgb_graph.specs.Private.SameLaws.{same_vertex, same_graph}
use Rattle.std.proofs.lemmas.List.Sums.{count_by-le-length}
use Rattle.sgb_graph.specs.declared.field.ArcNo.{ArcNo}
use Rattle.sgb_graph.specs.declared.field.VertexNo.{VertexNo}
use Rattle.sgb_graph.specs.declared.graph.Vertex.{Vertex}
use Rattle.sgb_graph.specs.declared.graph.Graph.TheInside.{Inside}
use Rattle.sgb_graph.specs.declared.graph.lay.Chained.{Chained}
use Rattle.sgb_graph.specs.Chain.{Leads}
use Rattle.sgb_graph.specs.Private.Arena.{Slots, Shows, ShowsVertex, slot_at, next_of, next_at, entry_of, owner_in, names_counted, graph_of, IsArena, IsBare}
use Rattle.sgb_graph.specs.Private.Vertices.{blank, with_first}
use Rattle.sgb_graph.specs.Private.Cells.{two_zeros, slot_owned, zipped}
use Rattle.sgb_graph.specs.Private.Link.{any_vertex, vertex_in, CanPutBack}
use Rattle.sgb_graph.proofs.Chains.{Leads-agree}
use Rattle.sgb_graph.proofs.Counts.{sum_zero}
use Rattle.sgb_graph.proofs.Holes.{hole_sound}
use Rattle.sgb_graph.proofs.NewLemmas.{new_is, new_id_is, blank_is_bare, bare_opened}
use Rattle.sgb_graph.proofs.ShowsPut.{put_n, put_made, put_m, put_vertex_same, put_vertex_other, put_entry_same, put_entry_other, put_names, put_sound, put_occurs_new, put_owned}
use Rattle.sgb_graph.proofs.Shows.{Opened, closed, closed_arena}

-- blank graphs
pub blank_begins : (n : ℕ) → new_graph n ≡ blank_graph n 0
unfolding new_graph blank_graph
blank_begins n = refl

pub blank_more : (n m : ℕ) → with_hole (blank_graph n m) ≡ blank_graph n (m + 1)
unfolding blank_graph
blank_more n m = ap (λ es. record (new_graph n) { entries = es }) (replicate_more m None)

pub blank_n : (n m : ℕ) → n_of (blank_graph n m) ≡ n
unfolding blank_graph new_graph
blank_n n m = length-replicate n blank_vertex

pub blank_made : (n m : ℕ) → made_of (blank_graph n m) ≡ m
unfolding blank_graph
blank_made n m = length-replicate m None

blank_arcs : (n m w : ℕ) → arcs_of (blank_graph n m) w ≡ []
unfolding blank_graph new_graph
blank_arcs n m w =
    elim (cases_lt w n) [
      | inl low ↦ ap (λ (x : VertexOf). x.arcs) (get_or-replicate n w blank_vertex no_vertex low)
      | inr high ↦ ap (λ (x : VertexOf). x.arcs) (get_or_past (replicate n blank_vertex) w no_vertex (omega (arith, length-replicate n blank_vertex)))
    ]

pub blank_lays : (vs : List VertexPart) (rs : List ArcPart) (g : GraphOf) (n m : ℕ) → g ≡ blank_graph n m → n ≡ length vs → m ≡ length rs → IsGraph g → Laying vs (links_of rs) 0 g
blank_lays vs rs g n m is ns ms sound =
    record {
      n = ap n_of is ∙ (blank_n n m ∙ ns);
      made = ap made_of is ∙ (blank_made n m ∙ (ms ∙ sym (links_count rs)));
      lists = λ w low. absurd (omega arith);
      empty = λ w _. ap (λ h. arcs_of h w) is ∙ blank_arcs n m w;
      graph = sound;
    }

-- a graph of the parts lays their chains
pub lays_of : (p : Parts) (h : GraphOf) → Builds p h → Lays p.vertices (links_of p.arcs) h
lays_of p h b =
    record {
      n = b.n;
      made = b.made ∙ sym (links_count p.arcs);
      lists = λ w low. over_links p.arcs (vertex_part p.vertices w).first (arcs_of h w) (b.vertices w low).arcs;
      graph = b.graph;
    }

-- and its values name what is there
value_named : (h : GraphOf) (u : Util) → IsValue (n_of h) h.entries (stored u) → can_name h u ≡ true
value_named h utils.Zero x = refl
value_named h (utils.Int z) x = refl
value_named h (utils.Vertex v) x = lt-ltb v.0 (n_of h) x
value_named h (utils.Arc a) x = x
value_named h (utils.Text t) x = refl

each_named : (h : GraphOf) (us : List Util) → All (IsValue (n_of h) h.entries) (map stored us) → can_name_each h us ≡ true
each_named h [] all = refl
each_named h (u ∷ us) all =
    and_from (can_name h u) (can_name_each h us) (value_named h u (all 0 utils.Zero (omega arith))) (each_named h us (λ i d l. all (suc i) d (omega arith)))

each_there : (g h : GraphOf) (us vs : List Util) → SameNames g h → vs ≡ map stored us → All (IsValue (n_of h) h.entries) vs → can_name_each g us ≡ true
each_there g h us vs same is all =
    sym (each-same g h us same) ∙ each_named h us (subst (All (IsValue (n_of h) h.entries)) is all)

all_parts : (g : GraphOf) (vs : List VertexPart) → ((v : ℕ) → v < length vs → can_name_each g (vertex_part vs v).fields ≡ true) → can_name_vertices g vs ≡ true
all_parts g [] each = refl
all_parts g (p ∷ vs) each = and_from (can_name_each g p.fields) (can_name_vertices g vs) (each 0 (omega arith)) (all_parts g vs (λ v low. each (suc v) (omega arith)))

record_named : (p : Parts) (g h : GraphOf) (k : ℕ) → SameNames g h → Builds p h → can_name_at g p.arcs k ≡ true
record_named p g h k same b =
    elim (cases_Bool (has_arc g k)) [
      | inl live ↦
          let alive : has_arc h k ≡ true = same.live k ∙ live in
          let e = arc_or no_arc (arc_at h k) in
          let entry : arc_at h k ≡ Some e = some_entry (arc_at h k) alive in
          let part : IsArcOf (arc_part p.arcs k) e = subst (λ o. IfSome o (IsArcOf (arc_part p.arcs k))) entry (b.arcs k) in
          let arc : IsArc (n_of h) h.entries e = subst (λ o. IfSome o (IsArc (n_of h) h.entries)) entry (b.graph.arcs k None (made_of_live h k alive)) in
          let tip : can_lead (n_of g) (arc_part p.arcs k).tip ≡ true =
          leads_so (n_of g) (arc_part p.arcs k).tip (subst (λ n. IsTip n (arc_part p.arcs k).tip) same.n (subst (IsTip (n_of h)) part.tip arc.tip)) in
          ap (λ x. cond x (can_name_part g (arc_part p.arcs k)) true) live
          ∙ and_from (can_lead (n_of g) (arc_part p.arcs k).tip) (can_name_each g (arc_part p.arcs k).fields) tip
          (each_there g h (arc_part p.arcs k).fields e.fields same part.fields arc.values)
      | inr hole ↦ ap (λ x. cond x (can_name_part g (arc_part p.arcs k)) true) hole
    ]

pub all_named : (p : Parts) (g h : GraphOf) → Lays p.vertices (links_of p.arcs) g → Builds p h → can_name_all g p.fields p.vertices ≡ true
all_named p g h x b =
    let same : SameNames g h = lays_same p.vertices (links_of p.arcs) g h x (lays_of p h b) in
    let own : can_name_each g p.fields ≡ true = each_there g h p.fields h.fields same b.fields b.graph.values in
    let vertices : can_name_vertices g p.vertices ≡ true =
    all_parts g p.vertices
    (λ v low.
    let there : v < n_of h = omega (arith, b.n) in
    each_there g h (vertex_part p.vertices v).fields (vertex_at h v).fields same (b.vertices v there).fields (b.graph.vertices v no_vertex there).values) in
    ap (λ a. a && can_name_vertices g p.vertices) own ∙ ap (λ a. true && a) vertices

pub arcs_named : (p : Parts) (g h : GraphOf) → Lays p.vertices (links_of p.arcs) g → Builds p h → can_name_arcs g p.arcs ≡ true
arcs_named p g h x b =
    let same : SameNames g h = lays_same p.vertices (links_of p.arcs) g h x (lays_of p h b) in
    range_all (can_name_at g p.arcs) 0 (length p.arcs) (λ k. record_named p g h k same b)

-- what the steps leave is the graph of the parts
part_filled : (part : ArcPart) (o : Option ArcOf) → IfSome (filled_entry part o) (IsArcOf part)
part_filled part None = tt
part_filled part (Some e) = record { tip = refl; len = refl; fields = refl }

pub builds : (p : Parts) (g1 g2 g3 g4 : GraphOf) → Lays p.vertices (links_of p.arcs) g1 → (g1.id ≡ p.id) × (g1.types ≡ p.types) → FillsVertices p.vertices g1 g2 → FillsArcs p.arcs g2 g3
    → g4 ≡ record g3 { fields = map stored p.fields } → IsGraph g4 → Builds p g4
builds p g1 g2 g3 g4 x own y z all sound =
    let vs = p.vertices in
    let rs = p.arcs in
    let g : GraphOf = record g3 { fields = map stored p.fields } in
    let n : n_of g ≡ n_of g1 = ap n_of z.rest ∙ y.n in
    subst (Builds p) (sym all)
    (record {
      id = ap (λ h. h.id) z.rest ∙ (ap (λ h. h.id) y.rest ∙ own.0);
      types = ap (λ h. h.types) z.rest ∙ (ap (λ h. h.types) y.rest ∙ own.1);
      fields = refl;
      n = n ∙ x.n;
      vertices = λ v low.
          let there : v < n_of g1 = omega (arith, n) in
          let at : vertex_at g v ≡ filled_vertex (vertex_part vs v) (vertex_at g1 v) = ap (λ h. vertex_at h v) z.rest ∙ y.vertices v there in
          subst (IsVertexOf rs (vertex_part vs v)) (sym at) (record { label = refl; fields = refl; arcs = over_parts rs (vertex_part vs v).first (arcs_of g1 v) (x.lists v there) });
      made = z.made ∙ (ap made_of y.rest ∙ (x.made ∙ links_count rs));
      arcs = λ k.
          let at : arc_at g3 k ≡ filled_entry (arc_part rs k) (arc_at g1 k) = z.entries k ∙ ap (λ h. filled_entry (arc_part rs k) (arc_at h k)) y.rest in
          subst (λ o. IfSome o (IsArcOf (arc_part rs k))) (sym at) (part_filled (arc_part rs k) (arc_at g1 k));
      graph = subst IsGraph all sound;
    })

-- chains that no graph has
pub not_laid : (p : Parts) (e : Refusal) → ((e ≡ NoRoom) × (0 < length p.vertices + length p.arcs)) ⊎ RefusesToLay p.vertices (links_of p.arcs) e → (e ≡ NoRoom) ⊎ ((e ≡ BadOperand) × ((g : GraphOf) → Builds p g → ⊥))
not_laid p e (inl room) = inl room.0
not_laid p e (inr bad) = inr (bad.0, λ g b. bad.1 g (lays_of p g b))

-- the same parts under other names
pub lays_moved : (vs ws : List VertexPart) (rs ts : List ArcPart) (g : GraphOf) → vs ≡ ws → rs ≡ ts → Lays vs (links_of rs) g → Lays ws (links_of ts) g
lays_moved vs ws rs ts g vertices arcs x = subst (λ l. Lays ws (links_of l) g) arcs (subst (λ l. Lays l (links_of rs) g) vertices x)

named_moved : (g : GraphOf) (us : List Util) (vs ws : List VertexPart) (r b : Bool) → vs ≡ ws → r ≡ can_name_all g us vs → r ≡ b → can_name_all g us ws ≡ b
named_moved g us vs ws r b vertices is now = ap (can_name_all g us) (sym vertices) ∙ (sym is ∙ now)

-- a value that names nothing there is in no graph of the parts
pub unnamed_refused : (p : Parts) (g : GraphOf) (vs : List VertexPart) (r : Bool) → Lays p.vertices (links_of p.arcs) g → vs ≡ p.vertices → r ≡ can_name_all g p.fields vs → r ≡ false
    → (h : GraphOf) → Builds p h → ⊥
unnamed_refused p g vs r x vertices is bad h b =
    let no' = named_moved g p.fields vs p.vertices r false vertices is bad in
    let yes' = all_named p g h x b in
    cc

-- the parts of the test
pub record NamedParts (g : GraphOf) (us : List Util) (vs : List VertexPart) : Type 0 where
  pub own : can_name_each g us ≡ true
  pub vertices : can_name_vertices g vs ≡ true

pub named_parts : (p : Parts) (g : GraphOf) (vs : List VertexPart) (r : Bool) → vs ≡ p.vertices → r ≡ can_name_all g p.fields vs → r ≡ true → NamedParts g p.fields p.vertices
named_parts p g vs r vertices is good =
    let x = and_parts (can_name_each g p.fields) (can_name_vertices g p.vertices) (named_moved g p.fields vs p.vertices r true vertices is good) in
    record { own = x.0; vertices = x.1 }

list_all-same : (p q : ℕ → Bool) (ks : List ℕ) → ((k : ℕ) → p k ≡ q k) → list_all p ks ≡ list_all q ks
list_all-same p q [] same = refl
list_all-same p q (k ∷ ks) same = ap (λ b. b && list_all p ks) (same k) ∙ ap (λ b. q k && b) (list_all-same p q ks same)

pub arcs-same : (g h : GraphOf) (rs : List ArcPart) → SameNames g h → can_name_arcs h rs ≡ can_name_arcs g rs
arcs-same g h rs same =
    list_all-same (can_name_at h rs) (can_name_at g rs) (range_with_len 0 (length rs))
    (λ k. ap (λ b. cond b (can_name_part h (arc_part rs k)) true) (same.live k)
    ∙ ap (λ b. cond (has_arc g k) b true) (part-same g h (arc_part rs k) same))

-- so is a record whose values name nothing there, once the vertices are filled
pub arc_refused : (p : Parts) (g h : GraphOf) (rs : List ArcPart) (e : Refusal) → Lays p.vertices (links_of p.arcs) g → SameNames g h → rs ≡ p.arcs → (e ≡ BadOperand) × (can_name_arcs h rs ≡ false)
    → (e ≡ NoRoom) ⊎ ((e ≡ BadOperand) × ((i : GraphOf) → Builds p i → ⊥))
arc_refused p g h rs e x same arcs bad =
    inr (
      bad.0,
      λ i b.
          (let no' : can_name_arcs g p.arcs ≡ false = ap (can_name_arcs g) (sym arcs) ∙ (sym (arcs-same g h rs same) ∙ bad.1) in
          let yes' = arcs_named p g i x b in
          cc),
    )

pub filled_names : (vs : List VertexPart) (g h : GraphOf) → FillsVertices vs g h → SameNames g h
filled_names vs g h x = record { n = x.n; live = λ k. ap (λ y. has_arc y k) x.rest }

pub arcs_filled_names : (rs : List ArcPart) (g h : GraphOf) → FillsArcs rs g h → SameNames g h
arcs_filled_names rs g h x =
    record { n = ap n_of x.rest; live = λ k. ap is_some (x.entries k) ∙ filled_lives (arc_part rs k) (arc_at g k) }

-- the parts have one graph
same_arc : (part : ArcPart) (o q : Option ArcOf) → is_some o ≡ is_some q → IfSome o (IsArcOf part) → IfSome q (IsArcOf part) → o ≡ q
same_arc part None None alike x y = refl
same_arc part None (Some f) alike x y = absurd cc
same_arc part (Some e) None alike x y = absurd cc
same_arc part (Some e) (Some f) alike x y =
    ap (λ t. Some (record { tip = t; len = e.len; fields = e.fields })) (x.tip ∙ sym y.tip)
    ∙ (ap (λ z. Some (record { tip = f.tip; len = z; fields = e.fields })) (x.len ∙ sym y.len)
    ∙ ap (λ us. Some (record { tip = f.tip; len = f.len; fields = us })) (x.fields ∙ sym y.fields))

pub builds_one : (p : Parts) (g h : GraphOf) → Builds p g → Builds p h → g ≡ h
builds_one p g h b c =
    let x = lays_of p g b in
    let y = lays_of p h c in
    let same = lays_same p.vertices (links_of p.arcs) g h x y in
    same_graph g h (b.id ∙ sym c.id) (b.types ∙ sym c.types) (b.fields ∙ sym c.fields)
    (same_lists g.vertices h.vertices (b.n ∙ sym c.n)
    (λ v d low.
    let there : v < n_of h = omega (arith, b.n, c.n) in
    let k = b.vertices v low in
    let l = c.vertices v there in
    get_or_default g.vertices v d no_vertex low
    ∙ (same_vertex (vertex_at g v) (vertex_at h v) (k.label ∙ sym l.label) (k.fields ∙ sym l.fields) (lists_same p.vertices (links_of p.arcs) g h v x y low)
    ∙ get_or_default h.vertices v no_vertex d there)))
    (same_lists g.entries h.entries (b.made ∙ sym c.made)
    (λ k d low.
    get_or_default g.entries k d None low
    ∙ (same_arc (arc_part p.arcs k) (arc_at g k) (arc_at h k) (sym (same.live k)) (b.arcs k) (c.arcs k)
    ∙ get_or_default h.entries k None d (omega (arith, b.made, c.made)))))

-- rows one by one
pub nexts_at : (rows : List Chained) (k : ℕ) → link_at (nexts rows) k ≡ (row_at rows k).next
nexts_at [] k = refl
nexts_at (r ∷ rows) zero = refl
nexts_at (r ∷ rows) (suc k) = nexts_at rows k

pub nexts_set : (rows : List Chained) (k : ℕ) (r : Chained) → r.next ≡ (row_at rows k).next → nexts (set rows k r) ≡ nexts rows
nexts_set [] k r same = refl
nexts_set (x ∷ rows) zero r same = ap (λ l. l ∷ nexts rows) same
nexts_set (x ∷ rows) (suc k) r same = ap (λ ls. x.next ∷ ls) (nexts_set rows k r same)

pub nexts_count : (rows : List Chained) → length (nexts rows) ≡ length rows
nexts_count rows = length-map rows (λ (r : Chained). r.next)

slot_of_row : (rows : List Chained) (k : ℕ) → slot_at (map laid_slot rows) k ≡ laid_slot (row_at rows k)
slot_of_row [] k = refl
slot_of_row (r ∷ rows) zero = refl
slot_of_row (r ∷ rows) (suc k) = slot_of_row rows k

-- an arc that is to be filled, put at a hole
module _ (rows : List Chained) (holes n : ℕ) (g : GraphOf) (k : ArcNo) (v : VertexNo) (t : Tells rows holes n g) (sound : IsGraph g) (can : CanPutBack g (laid_arc g k v)) (low : k.0 < length rows) where
  abbrev after : GraphOf
  after = with_cut_arc g (laid_arc g k v)

  abbrev then : List Chained
  then = set rows k.0 (owned_row v (row_at rows k.0))

  row_here : row_at then k.0 ≡ owned_row v (row_at rows k.0)
  row_here = get_or-set_same rows k.0 (owned_row v (row_at rows k.0)) any_row low

  row_there : (j : ℕ) → j ≢ k.0 → row_at then j ≡ row_at rows j
  row_there j ne = get_or-set_other rows k.0 j (owned_row v (row_at rows k.0)) any_row ne

  entries_then : (j : ℕ) → arc_at after j ≡ laid_entry (row_at then j).owner
  entries_then j = elim (cases_eq j k.0) [
    | inl same ↦
        subst (λ i. arc_at after i ≡ laid_entry (row_at then i).owner) (sym same)
        (put_entry_same g (laid_arc g k v) can ∙ ap (λ (r : Chained). laid_entry r.owner) (sym row_here))
    | inr ne ↦ put_entry_other g (laid_arc g k v) j ne ∙ (t.entries j ∙ ap (λ (r : Chained). laid_entry r.owner) (sym (row_there j ne)))
  ]

  owners_then : (j : ℕ) → IfSome (row_at then j).owner (λ w. occurrences j (arcs_of after w.0) ≡ 1)
  owners_then j =
      let P : ℕ → Option VertexNo → Type 0 = λ i o. IfSome o (λ w. occurrences i (arcs_of after w.0) ≡ 1) in
      elim (cases_eq j k.0) [
        | inl same ↦
            subst (λ i. P i (row_at then i).owner) (sym same)
            (subst (λ (r : Chained). P k.0 r.owner) (sym row_here) (put_occurs_new g (laid_arc g k v) sound can))
        | inr ne ↦
            subst (λ (r : Chained). P j r.owner) (sym (row_there j ne))
            (put_owned g (laid_arc g k v) j (row_at rows j).owner can ne (t.owners j))
      ]

  left_then : holes - 1 + m_of after ≡ made_of after
  left_then =
      let c = laid_arc g k v in
      let few : m_of after ≤ made_of after = count_by-le-length is_some after.entries in
      omega (arith, few, t.left, put_m g c can, put_made g c)

  labels_then : (w : ℕ) → label_of after w ≡ label_of g w
  labels_then w = elim (cases_eq w v.0) [
    | inl same ↦ subst (λ i. label_of after i ≡ label_of g i) (sym same) (ap (λ (x : VertexOf). x.label) (put_vertex_same g (laid_arc g k v) can))
    | inr ne ↦ ap (λ (x : VertexOf). x.label) (put_vertex_other g (laid_arc g k v) w ne)
  ]

  values_then : (w : ℕ) → (vertex_at after w).fields ≡ (vertex_at g w).fields
  values_then w = elim (cases_eq w v.0) [
    | inl same ↦ subst (λ i. (vertex_at after i).fields ≡ (vertex_at g i).fields) (sym same) (ap (λ (x : VertexOf). x.fields) (put_vertex_same g (laid_arc g k v) can))
    | inr ne ↦ ap (λ (x : VertexOf). x.fields) (put_vertex_other g (laid_arc g k v) w ne)
  ]

  like_then : LikeBut g after
  unfolding with_cut_arc with_listed
  like_then = record { fields = refl; n = put_n g (laid_arc g k v); labels = labels_then; values = values_then }

  pub told_then : Tells then (holes - 1) n after
  told_then =
      let a = like_then in
      let b = t.new in
      record {
        entries = entries_then;
        owners = owners_then;
        names = λ j. put_names g (laid_arc g k v) j can ∙ omega (arith, t.names j);
        left = left_then;
        new = record {
          fields = a.fields ∙ b.fields;
          n = a.n ∙ b.n;
          labels = λ w. a.labels w ∙ b.labels w;
          values = λ w. a.values w ∙ b.values w;
        };
      }

-- one record more is owned
module _ (vs : List VertexPart) (v : VertexNo) (link : Option ArcNo) (rows : List Chained) (holes : ℕ) (k : ArcNo) (x : OwnsUpTo vs v.0 link rows holes) (is : link ≡ Some k) (owner : v.0 < length vs) where
  -- it is a hole so far
  can_own : k.0 < length rows → (row_at rows k.0).owner ≡ None → CanPutBack x.graph (laid_arc x.graph k v)
  can_own low free =
      laid_can x.graph k v (ap is_some (x.tells.entries k.0 ∙ ap laid_entry free))
      (omega (arith, low, x.laying.made, nexts_count rows)) (omega (arith, owner, x.laying.n))

  pub hole_left : k.0 < length rows → (row_at rows k.0).owner ≡ None → 0 < holes
  hole_left low free =
      let c = laid_arc x.graph k v in
      let can = can_own low free in
      let h = with_cut_arc x.graph c in
      let few : m_of h ≤ made_of h = count_by-le-length is_some h.entries in
      omega (arith, few, x.tells.left, put_m x.graph c can, put_made x.graph c)

  pub owns_more : (now : List Chained) (next : Option ArcNo) → k.0 < length rows → (row_at rows k.0).owner ≡ None → next ≡ (row_at rows k.0).next
      → now ≡ set rows k.0 (owned_row v (row_at rows k.0)) → OwnsUpTo vs v.0 next now (holes - 1)
  owns_more now next low free follows now_is =
      let g = x.graph in
      let can = can_own low free in
      let links : nexts (set rows k.0 (owned_row v (row_at rows k.0))) ≡ nexts rows = nexts_set rows k.0 (owned_row v (row_at rows k.0)) refl in
      let h = with_cut_arc g (laid_arc g k v) in
      subst (λ r. OwnsUpTo vs v.0 next r (holes - 1)) (sym now_is)
      (record {
        graph = h;
        end = Some k;
        laying = subst (λ ls. LayingAt vs ls v.0 (Some k) next h) (sym links)
            (laid_more vs (nexts rows) v x.end link next k g h x.laying is can refl (put_sound g (laid_arc g k v) x.laying.graph can) (follows ∙ sym (nexts_at rows k.0)));
        tells = told_then rows holes (length vs) g k v x.tells x.laying.graph can low;
      })

  owned_lives : (o : Option VertexNo) → IsSome o → is_some (laid_entry o) ≡ true
  owned_lives None h = absurd (let a = h in cc)
  owned_lives (Some w) h = refl

  pub owns_refused : (e : Refusal) → (e ≡ BadOperand) × (k.0 < length rows → IsSome (row_at rows k.0).owner) → RefusesToLay vs (nexts rows) e
  owns_refused e bad =
      record_refused vs (nexts rows) v.0 x.end link k x.graph e x.laying is owner (
        bad.0,
        λ low. ap is_some (x.tells.entries k.0) ∙ owned_lives (row_at rows k.0).owner (bad.1 (omega (arith, low, x.laying.made, nexts_count rows))),
      )

-- the chain of one vertex begins
pub owning_begins : (vs : List VertexPart) (v : ℕ) (rows : List Chained) (holes : ℕ) (link : Option ArcNo) → OwnsBelow vs v rows holes → link ≡ (vertex_part vs v).first → OwnsUpTo vs v link rows holes
owning_begins vs v rows holes link x is =
    record { graph = x.graph; end = None; laying = laying_begins vs (nexts rows) v x.graph link x.laying is; tells = x.tells }

-- before that no record is owned
abbrev new_inside : ℕ → Inside
new_inside n = record { id = new_id n; types = replicate 14 90; fields = six_zeros; vertices = replicate n blank; slots = []; holes = 0 }

new_opened : (n : ℕ) → n ≤ 65535 → Opened (new_inside n) (new_graph n)
new_opened n few =
    let long : length (replicate n blank) ≡ n = length-replicate n blank in
    subst (Opened (new_inside n)) (new_is n)
    (bare_opened (new_inside n) (omega (arith, long, few)) (new_id_is n few) (record { fourteen = refl; letters = refl }) (subst (λ m. All (IsBare m) (replicate n blank)) (sym long) (blank_is_bare n n)) refl refl refl)

blank_sound : (n m : ℕ) → n ≤ 65535 → m ≤ 1000000 → IsGraph (blank_graph n m)
blank_sound n zero few low = subst IsGraph (blank_begins n) (new_opened n few).graph
blank_sound n (suc m) few low =
    let more : with_hole (blank_graph n m) ≡ blank_graph n (suc m) = blank_more n m ∙ ap (blank_graph n) (let e : m + 1 ≡ suc m = omega arith in e) in
    subst IsGraph more (hole_sound (blank_graph n m) (blank_sound n m few (omega (arith, low))) (omega (arith, low, blank_made n m)))

none_owned : (rs : List ArcPart) (k : ℕ) → (row_at (map unowned rs) k).owner ≡ None
none_owned [] k = refl
none_owned (r ∷ rs) zero = refl
none_owned (r ∷ rs) (suc k) = none_owned rs k

links_kept : (rs : List ArcPart) → nexts (map unowned rs) ≡ kept_links 1000000 rs
links_kept [] = refl
links_kept (r ∷ rs) = ap (λ ls. kept_link 1000000 r.next ∷ ls) (links_kept rs)

blank_entry : (n m k : ℕ) → arc_at (blank_graph n m) k ≡ None
unfolding blank_graph
blank_entry n zero k = refl
blank_entry n (suc m) zero = refl
blank_entry n (suc m) (suc k) = blank_entry n m k

blank_names : (n m k : ℕ) → names_of (blank_graph n m) k ≡ 0
unfolding blank_graph new_graph
blank_names n m k =
    let vertices = sum_zero (λ (v : VertexOf). names_in k v.fields) (replicate n blank_vertex) (λ i d low. ap (λ (v : VertexOf). names_in k v.fields) (get_or-replicate n i blank_vertex d (omega (arith, length-replicate n blank_vertex)))) in
    let entries = sum_zero (names_in_entry k) (replicate m None) (λ i d low. ap (names_in_entry k) (get_or-replicate m i None d (omega (arith, low, length-replicate {A = Option ArcOf} m None)))) in
    omega (arith, vertices, entries)

blank_m : (n m : ℕ) → m_of (blank_graph n m) ≡ 0
unfolding blank_graph
blank_m n zero = refl
blank_m n (suc m) = blank_m n m

blank_like : (n m : ℕ) → LikeBut (new_graph n) (blank_graph n m)
unfolding blank_graph
blank_like n m = record { fields = refl; n = refl; labels = λ w. refl; values = λ w. refl }

pub owns_none : (vs : List VertexPart) (rs : List ArcPart) (rows : List Chained) → rows ≡ map unowned rs → length vs ≤ 65535 → length rs ≤ 1000000 → OwnsBelow vs 0 rows (length rows)
owns_none vs rs rows is few_vertices few_arcs =
    let n = length vs in
    let m = length rs in
    let g = blank_graph n m in
    let sound : IsGraph g = blank_sound n m few_vertices few_arcs in
    let made : made_of g ≡ m = blank_made n m in
    let count : length (map unowned rs) ≡ m = length-map rs unowned in
    subst (λ r. OwnsBelow vs 0 r (length r)) (sym is)
    (record {
      graph = g;
      laying = subst (λ ls. Laying vs ls 0 g) (sym (links_kept rs)) (laying_kept 1000000 vs rs g (blank_lays vs rs g n m refl refl refl sound));
      tells = record {
        entries = λ k. blank_entry n m k ∙ ap laid_entry (sym (none_owned rs k));
        owners = λ k. subst (λ o. IfSome o (λ v. occurrences k (arcs_of g v.0) ≡ 1)) (sym (none_owned rs k)) tt;
        names = blank_names n m;
        left = omega (arith, count, made, blank_m n m);
        new = blank_like n m;
      };
    })

-- the slots of the rows
pub laid_zipped : (rows : List Chained) → zipped (map laid_cell rows) [] ≡ map laid_slot rows
laid_zipped [] = refl
laid_zipped (r ∷ rows) = ap (λ ss. laid_slot r ∷ ss) (laid_zipped rows)

entry_laid : (r : Chained) (o : Option VertexNo) → entry_of (slot_owned o two_zeros (laid_cell r)) ≡ laid_entry o
entry_laid r None = refl
entry_laid r (Some v) = refl

owner_laid : (r : Chained) (o : Option VertexNo) → owner_in (slot_owned o two_zeros (laid_cell r)) ≡ o
owner_laid r None = refl
owner_laid r (Some v) = refl

next_laid : (r : Chained) (o : Option VertexNo) → is_some (laid_entry o) ≡ true → next_of (slot_owned o two_zeros (laid_cell r)) ≡ r.next
next_laid r None live = absurd (let a = live in cc)
next_laid r (Some v) live = refl

names_laid : (r : Chained) (o : Option VertexNo) → IfSome (names_counted (slot_owned o two_zeros (laid_cell r))) (λ m. m ≡ 0)
names_laid r None = tt
names_laid r (Some v) = refl

-- with the vertices linked to the fronts of their chains they show the graph that the rows tell, with its own id and letters
module _ (ws : List Vertex) (vs : List VertexPart) (rows : List Chained) (holes : ℕ) (id types : List ℕ) (x : Owns vs rows holes) (us : List Vertex) (old : Shows us [] (new_graph (length vs))) (firsts : FirstsOf us vs ws) where
  abbrev told : GraphOf
  told = record x.graph { id = id; types = types }

  abbrev made : Slots
  made = map laid_slot rows

  follows : (w j : ℕ) → 0 < occurrences j (arcs_of x.graph w) → next_at made j ≡ link_at (nexts rows) j
  follows w j here =
      let r = row_at rows j in
      let live : has_arc x.graph j ≡ true = (listed_live x.graph j w x.lays.graph here).live in
      ap next_of (slot_of_row rows j) ∙ (next_laid r r.owner (ap is_some (sym (x.tells.entries j)) ∙ live) ∙ sym (nexts_at rows j))

  vertex_laid : (w : ℕ) (d : Vertex) → w < n_of x.graph → ShowsVertex made (get_or ws w d) (vertex_at x.graph w)
  vertex_laid w d low =
      let g = x.graph in
      let link = (vertex_part vs w).first in
      let here : w < length ws = omega (arith, low, firsts.len, old.n, x.tells.new.n) in
      let there : w < length vs = omega (arith, low, x.lays.n) in
      let at : get_or ws w d ≡ with_first (kept_link 1000000 link) (vertex_in us w) = get_or_default ws w d any_vertex here ∙ firsts.linked w there in
      let y = old.vertices w any_vertex (omega (arith, low, x.tells.new.n)) in
      let leads = x.lays.lists w low in
      let front : kept_link 1000000 link ≡ link =
      first_kept 1000000 (link_at (nexts rows)) (λ j. kept_link 1000000 (link_at (nexts rows) j)) (λ j. refl) link (arcs_of g w) leads (listed_low 1000000 g w x.lays.graph x.lays.graph.few_arcs) in
      subst (λ z. ShowsVertex made z (vertex_at g w)) (sym at)
      (record {
        label = y.label ∙ sym (x.tells.new.labels w);
        fields = y.fields ∙ sym (x.tells.new.values w);
        arcs = subst (λ l. Leads (next_at made) l (arcs_of g w) None) (sym front)
            (Leads-agree (link_at (nexts rows)) (next_at made) link (arcs_of g w) None (follows w) leads);
      })

  laid_shows : Shows ws made told
  laid_shows =
      let g = x.graph in
      let t = x.tells in
      record {
        n = omega (arith, firsts.len, old.n, t.new.n);
        vertices = vertex_laid;
        made = omega (arith, length-map rows laid_slot, x.lays.made, nexts_count rows);
        entries = λ k. ap entry_of (slot_of_row rows k) ∙ (entry_laid (row_at rows k) (row_at rows k).owner ∙ sym (t.entries k));
        owners = λ k. subst (λ o. IfSome o (λ v. occurrences k (arcs_of g v.0) ≡ 1)) (sym (ap owner_in (slot_of_row rows k) ∙ owner_laid (row_at rows k) (row_at rows k).owner)) (t.owners k);
        names = λ k. subst (λ s. IfSome (names_counted s) (λ m. m ≡ names_of g k)) (sym (slot_of_row rows k))
            (subst (λ z. IfSome (names_counted (laid_slot (row_at rows k))) (λ m. m ≡ z)) (sym (t.names k)) (names_laid (row_at rows k) (row_at rows k).owner));
      }

pub record LaidDone (b : Inside) (vs : List VertexPart) (rows : List Chained) : Type 0 where
  pub arena : IsArena b
  pub lays : Lays vs (nexts rows) (graph_of b)

pub laid_done : (b : Inside) (vs : List VertexPart) (rows : List Chained) (us : List Vertex) → Owns vs rows b.holes → length vs ≤ 65535 → us ≡ replicate (length vs) blank → FirstsOf us vs b.vertices
    → b.slots ≡ map laid_slot rows → IsId b.id → IsTypes b.types → b.fields ≡ six_zeros → LaidDone b vs rows
unfolding new_graph
laid_done b vs rows us x few blanks firsts slots id types fields =
    let s = x.lays.graph in
    let g : GraphOf = record x.graph { id = b.id; types = b.types } in
    let sound : IsGraph g = record { listed = s.listed; id = id; types = types; six = s.six; values = s.values; vertices = s.vertices; arcs = s.arcs; few_vertices = s.few_vertices; few_arcs = s.few_arcs } in
    let old : Shows us [] (new_graph (length vs)) = subst (λ ws. Shows ws [] (new_graph (length vs))) (sym blanks) (new_opened (length vs) few).shows in
    let o : Opened b g = record {
      graph = sound;
      shows = subst (λ ss. Shows b.vertices ss g) (sym slots) (laid_shows b.vertices vs rows b.holes b.id b.types x us old firsts);
      holes = x.tells.left;
      id = refl;
      types = refl;
      fields = fields ∙ sym x.tells.new.fields;
    } in
    let lays : Lays vs (nexts rows) g = record { n = x.lays.n; made = x.lays.made; lists = x.lays.lists; graph = sound } in
    record { arena = closed_arena b g o; lays = subst (Lays vs (nexts rows)) (sym (closed b g o)) lays }

-- what is laid along the links that are kept
pub laid_all : (vs : List VertexPart) (rs : List ArcPart) (rows now : List Chained) (g : GraphOf) → rows ≡ map unowned rs → nexts now ≡ nexts rows → Lays vs (nexts now) g → Lays vs (links_of rs) g
laid_all vs rs rows now g is links x = lays_as_kept vs rs g (subst (λ ls. Lays vs ls g) (links ∙ (ap nexts is ∙ links_kept rs)) x)

pub none_laid : (vs : List VertexPart) (rs : List ArcPart) (rows : List Chained) (e : Refusal) → rows ≡ map unowned rs → RefusesToLay vs (nexts rows) e → RefusesToLay vs (links_of rs) e
none_laid vs rs rows e is refused = refuses_kept vs rs e (subst (λ ls. RefusesToLay vs ls e) (ap nexts is ∙ links_kept rs) refused)
