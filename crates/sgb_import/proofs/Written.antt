-- Lemmas on the arcs or edges that an export writes: in which order they stand, and that they are within the graph.
use Rattle.std.proofs.Common.{◌≡◌, ◌≢◌, ◌<◌, ◌≤◌, ◌+◌, ℕ, zero, suc, List, [], ◌∷◌, ◌++◌, length, map, Option, Some, None, is_some, IfSome, Bool, true, false, ◌==◌, cond, min, max, inl, inr, All, FitsSigned, refl, sym, ap, ap₂, subst, ◌∙◌, arith, w64}
use Rattle.std.specs.List.{flat_map, range_with_len}
use Rattle.std.proofs.lemmas.Bool.{cases_eq, eq-eqb, ne_eqb, leb-true}
use Rattle.std.proofs.lemmas.List.{append-nil, length-map, map-id}
use Rattle.std.proofs.lemmas.List.Elements.{All-append, All-head, All-map, All-nil, All-tail, All-weaker, filter-append, filter_passes}
use Rattle.sgb_graph.specs.Builder.{Insertion}
use Rattle.sgb_graph.specs.Edit.{arc_or, no_arc, entry_at}
use Rattle.sgb_graph.specs.Graph.{GraphOf, ArcOf, IsArc, IsGraph, n_of, arc_at}
use Rattle.sgb_graph.specs.Operand.{tip_number}
use Rattle.sgb_graph.specs.Paired.{walk}
use Rattle.sgb_graph.proofs.Graphs.{listed_live}
use Rattle.sgb_graph.proofs.Spokes.{entry_within}
use Rattle.sgb_export.specs.Links.{links}
use Rattle.sgb_import.specs.Laws.{written, upward, leaving, by_source}
use Rattle.sgb_import.specs.Outline.{Outline, IsOutline, IsLink, graph_of_outline}
use Rattle.sgb_import.proofs.Extensions.{IsListed}
use Rattle.sgb_import.proofs.NewNumbers.{map_same, up_at, numbers_at, numbers_listed, ends_at}
use Rattle.sgb_import.proofs.OutlineLinks.{map-flat_map, written_is, written_arcs, written_edges}

-- ---- lists over a range of numbers
pub flat_map_range : {Y : Type 0} (f g : ℕ → List Y) (n a : ℕ) → ((v : ℕ) → a ≤ v → v < a + n → f v ≡ g v) → flat_map f (range_with_len a n) ≡ flat_map g (range_with_len a n)
flat_map_range f g zero a same = refl
flat_map_range f g (suc n) a same =
    ap₂ (λ x y. x ++ y) (same a (omega arith) (omega arith)) (flat_map_range f g n (a + 1) (λ v low high. same v (omega arith) (omega arith)))

pub All-range : {Y : Type 0} (P : Y → Type 0) (f : ℕ → List Y) (n a : ℕ) → ((v : ℕ) → a ≤ v → v < a + n → All P (f v)) → All P (flat_map f (range_with_len a n))
All-range P f zero a each = All-nil P
All-range P f (suc n) a each =
    All-append P (f a) (flat_map f (range_with_len (a + 1) n)) (each a (omega arith) (omega arith)) (All-range P f n (a + 1) (λ v low high. each v (omega arith) (omega arith)))

-- ---- by the vertices that they leave
leaving_all : (v : ℕ) (es : List Insertion) → All (λ e. e.from ≡ v) es → leaving es v ≡ es
leaving_all v [] all = refl
leaving_all v (e ∷ es) all =
    rw (eq-eqb e.from v (All-head (λ (x : Insertion). x.from ≡ v) e es all)) (ap (λ l. e ∷ l) (leaving_all v es (All-tail (λ (x : Insertion). x.from ≡ v) e es all)))

leaving_none : (v w : ℕ) (es : List Insertion) → All (λ e. e.from ≡ v) es → v ≢ w → leaving es w ≡ []
leaving_none v w [] all ne = refl
leaving_none v w (e ∷ es) all ne =
    let here : e.from ≡ v = All-head (λ (x : Insertion). x.from ≡ v) e es all in
    rw (ne_eqb e.from w (λ same. ne (sym here ∙ same))) (leaving_none v w es (All-tail (λ (x : Insertion). x.from ≡ v) e es all) ne)

module _ (lists : ℕ → List Insertion) (own : (v : ℕ) → All (λ e. e.from ≡ v) (lists v)) where
  leaving_past : (n a v : ℕ) → v < a → leaving (flat_map lists (range_with_len a n)) v ≡ []
  leaving_past zero a v low = refl
  leaving_past (suc n) a v low =
      filter-append (λ (e : Insertion). e.from == v) (lists a) (flat_map lists (range_with_len (a + 1) n))
      ∙ ap₂ (λ x y. x ++ y) (leaving_none a v (lists a) (own a) (λ e. omega arith)) (leaving_past n (a + 1) v (omega arith))

  leaving_range : (n a v : ℕ) → a ≤ v → v < a + n → leaving (flat_map lists (range_with_len a n)) v ≡ lists v
  leaving_range zero a v low high = absurd (omega arith)
  leaving_range (suc n) a v low high =
      filter-append (λ (e : Insertion). e.from == v) (lists a) (flat_map lists (range_with_len (a + 1) n))
      ∙ elim (cases_eq a v) [
        | inl same ↦
            ap₂ (λ x y. x ++ y) (leaving_all v (lists a) (subst (λ w. All (λ (e : Insertion). e.from ≡ w) (lists a)) same (own a))) (leaving_past n (a + 1) v (omega arith))
            ∙ (append-nil (lists a) ∙ ap lists same)
        | inr other ↦
            let ne : a ≢ v = other in
            ap₂ (λ x y. x ++ y) (leaving_none a v (lists a) (own a) ne) (leaving_range n (a + 1) v (omega arith) (omega arith))
      ]

pub written_sources : (directed : Bool) (g : GraphOf) → by_source (n_of g) (written directed g) ≡ written directed g
written_sources directed g =
    let lists : ℕ → List Insertion = λ v. map (ends_at g v) (numbers_at directed g v) in
    ap (by_source (n_of g)) (written_is directed g)
    ∙ (flat_map_range (leaving (flat_map lists (range_with_len 0 (n_of g)))) lists (n_of g) 0
    (leaving_range lists (λ v. All-map (λ (e : Insertion). e.from ≡ v) (ends_at g v) (numbers_at directed g v) (λ i d h. refl)) (n_of g) 0)
    ∙ sym (written_is directed g))

-- links that are told another way, with the same sources
leaving-map : (t : Insertion → Insertion) → ((e : Insertion) → (t e).from ≡ e.from) → (es : List Insertion) (v : ℕ) → leaving (map t es) v ≡ map t (leaving es v)
leaving-map t same [] v = refl
leaving-map t same (e ∷ es) v =
    ap (λ w. cond (w == v) (t e ∷ leaving (map t es) v) (leaving (map t es) v)) (same e)
    ∙ (ap (λ l. cond (e.from == v) (t e ∷ l) l) (leaving-map t same es v)
    ∙ elim (e.from == v) as (λ b. cond b (t e ∷ map t (leaving es v)) (map t (leaving es v)) ≡ map t (cond b (e ∷ leaving es v) (leaving es v))) [
      | true ↦ refl
      | false ↦ refl
    ])

pub by_source-map : (t : Insertion → Insertion) → ((e : Insertion) → (t e).from ≡ e.from) → (n : ℕ) (es : List Insertion) → by_source n (map t es) ≡ map t (by_source n es)
by_source-map t same n es =
    flat_map_range (leaving (map t es)) (λ v. map t (leaving es v)) n 0 (λ v low high. leaving-map t same es v)
    ∙ sym (map-flat_map t (leaving es) (range_with_len 0 n))

-- ---- edges are told from their smaller endpoints
abbrev pub IsUpward : Insertion → Type 0
IsUpward e = e.from ≤ e.to

upward_is : (e : Insertion) → IsUpward e → upward e ≡ e
upward_is e up =
    let low : min e.from e.to ≡ e.from = omega arith in
    let high : max e.from e.to ≡ e.to = omega arith in
    λ i. record { from = low i; to = high i; len = e.len }

pub upward_ordered : (es : List Insertion) → All IsUpward es → map upward es ≡ es
upward_ordered es all = map_same upward (λ e. e) es (All-weaker IsUpward (λ e. upward e ≡ e) upward_is es all) ∙ map-id es

pub written_ordered : (g : GraphOf) → All IsUpward (written false g)
written_ordered g =
    let lists : ℕ → List Insertion = λ v. map (ends_at g v) (numbers_at false g v) in
    subst (All IsUpward) (sym (written_is false g))
    (All-range IsUpward lists (n_of g) 0
    (λ v low high. All-map IsUpward (ends_at g v) (numbers_at false g v)
    (All-weaker (λ k. up_at false g v k ≡ true) (λ k. IsUpward (ends_at g v k)) (λ k up. leb-true v (tip_number (entry_at g k).tip) up) (numbers_at false g v) (filter_passes (up_at false g v) (walk false g v)))))

-- ---- what comes back of an outline whose links stand in the order of an export
pub links_back_as : (directed : Bool) (t : Insertion → Insertion) → ((e : Insertion) → (t e).from ≡ e.from) → ((e : Insertion) → (t e).to ≡ e.to) → (o : Outline) (g : GraphOf) → IsOutline o → o.directed ≡ directed → length o.names ≡ n_of g
    → o.links ≡ map t (written directed g) → written directed (graph_of_outline o) ≡ map t (written directed g)
links_back_as true t from to o g is directed n links =
    written_arcs o is directed
    ∙ (ap₂ by_source n links ∙ (by_source-map t from (n_of g) (written true g) ∙ ap (map t) (written_sources true g)))
links_back_as false t from to o g is directed n links =
    let es = map t (written false g) in
    let ordered : All IsUpward es = All-map IsUpward t (written false g)
    (All-weaker IsUpward (λ e. IsUpward (t e)) (λ e up. let a = from e in let b = to e in omega arith) (written false g) (written_ordered g)) in
    written_edges o is directed
    ∙ (ap₂ (λ m ls. by_source m (map upward ls)) n links
    ∙ (ap (by_source (n_of g)) (upward_ordered es ordered)
    ∙ (by_source-map t from (n_of g) (written false g) ∙ ap (map t) (written_sources false g))))

pub links_back : (directed : Bool) (o : Outline) (g : GraphOf) → IsOutline o → o.directed ≡ directed → length o.names ≡ n_of g → o.links ≡ written directed g → written directed (graph_of_outline o) ≡ written directed g
links_back directed o g is same n links =
    links_back_as directed (λ e. e) (λ e. refl) (λ e. refl) o g is same n (links ∙ sym (map-id (written directed g))) ∙ map-id (written directed g)

-- ---- what is written of a sound graph is within it
arc_fits : (n : ℕ) (es : List (Option ArcOf)) (o : Option ArcOf) → IfSome o (IsArc n es) → is_some o ≡ true → FitsSigned w64 (arc_or no_arc o).len
arc_fits n es None is live = absurd cc
arc_fits n es (Some e) is live = is.len

pub written_within : (directed : Bool) (g : GraphOf) → IsGraph g → All (IsLink (n_of g)) (written directed g)
written_within directed g sound =
    let lists : ℕ → List Insertion = λ v. map (ends_at g v) (numbers_at directed g v) in
    subst (All (IsLink (n_of g))) (sym (written_is directed g))
    (All-range (IsLink (n_of g)) lists (n_of g) 0
    (λ v low high. All-map (IsLink (n_of g)) (ends_at g v) (numbers_at directed g v)
    (All-weaker (IsListed g v) (λ k. IsLink (n_of g) (ends_at g v k))
    (λ k listed.
    let it = listed_live g k v sound listed in
    record {
      from = it.vertex;
      to = entry_within g k sound (let inside = it.vertex in omega arith);
      len = arc_fits (n_of g) g.entries (arc_at g k) (sound.arcs k None it.made) it.live;
    }) (numbers_at directed g v) (numbers_listed directed g v))))

pub length-written : (directed : Bool) (g : GraphOf) → length (written directed g) ≡ length (links directed g)
length-written directed g = length-map (links directed g) (λ l. record { from = l.from; to = l.to; len = l.len })
