-- Lemmas on chains of records, and on what is laid of them.
use Rattle.std.proofs.Common.{◌≡◌, ◌≢◌, ◌<◌, ◌≤◌, ◌+◌, ℕ, zero, suc, List, [], ◌∷◌, ◌++◌, length, get_or, Option, Some, None, is_some, All, true, false, refl, sym, ap, subst, ◌∙◌, arith, cond, inl, inr, ◌==◌, option_map, slice_get, min, rules}
use Rattle.std.proofs.lemmas.Bool.{cases_Bool, cases_order, cases_lt}
use Rattle.std.proofs.Math.Nat.{min-eq_left, min-eq_right}
use Rattle.std.proofs.lemmas.List.{get_or_at, length_push, get_or_default, length-map}
use Rattle.std.proofs.lemmas.List.Sums.{sum_by-append}
use Rattle.sgb_graph.specs.declared.field.ArcNo.{ArcNo}
use Rattle.sgb_graph.specs.declared.field.VertexNo.{VertexNo}
use Rattle.sgb_graph.specs.declared.parts.ArcPart.{ArcPart}
use Rattle.sgb_graph.specs.declared.parts.VertexPart.{VertexPart}
use Rattle.sgb_graph.specs.Chain.{Leads}
use Rattle.sgb_graph.specs.Graph.{GraphOf, ArcOf, IsGraph, n_of, made_of, no_vertex, arcs_of, arc_at, has_arc, occurrences, listings}
use Rattle.sgb_graph.specs.Edit.{with_cut_arc}
use Rattle.sgb_graph.specs.Private.Link.{CanPutBack, number_before}
use Rattle.sgb_graph.specs.Parts.{vertex_part, next_part}
use Rattle.sgb_graph.specs.declared.refusal.Refusal.{Refusal}
use Rattle.sgb_graph.specs.declared.refusal.Refusal.TheVariants.{BadOperand}
use Rattle.sgb_graph.specs.Private.Lay.{RefusesToLay, links_of, kept_link, kept_links, link_at, last_number, Lays, Laying, LayingAt, laid_arc}
use Rattle.sgb_graph.specs.Field.{arc_no}
use Rattle.sgb_graph.specs.Private.Fill.{SameNames}
use Rattle.sgb_graph.proofs.Holes.{zero_value}
use Rattle.sgb_graph.proofs.Chains.{chain_is, Leads-agree}
use Rattle.sgb_graph.proofs.Counts.{occurs_yes, sum_some}
use Rattle.sgb_graph.proofs.Graphs.{listed_live, one_owner, arcs_live}
use Rattle.sgb_graph.proofs.ShowsPut.{put_n, put_made, put_vertex_same, put_vertex_other, get_within}
use Rattle.std.proofs.lemmas.List.Edits.{insert_end}

-- one number more
pub Leads-push : (next : ℕ → Option ArcNo) (link : Option ArcNo) (ks : List ℕ) (k : ArcNo) → Leads next link ks (Some k) → Leads next link (ks ++ k.0 ∷ []) (next k.0)
unfolding Leads
Leads-push next link [] k l = (l, refl)
Leads-push next link (j ∷ ks) k l = (l.0, Leads-push next (next j) ks k l.1)

-- a list behind those that were passed
pub record RestOf (next : ℕ → Option ArcNo) (done : List ℕ) (last : Option ArcNo) (ks : List ℕ) : Type 0 where
  pub rest : List ℕ
  pub is : ks ≡ done ++ rest
  pub leads : Leads next last rest None

pub rest_of : (next : ℕ → Option ArcNo) (link : Option ArcNo) (done : List ℕ) (last : Option ArcNo) (ks : List ℕ) → Leads next link done last → Leads next link ks None → RestOf next done last ks
unfolding Leads
rest_of next link [] last ks l r = record { rest = ks; is = refl; leads = subst (λ x. Leads next x ks None) l r }
rest_of next link (d ∷ done) last [] l r = absurd (let a = l.0 in cc)
rest_of next link (d ∷ done) last (k ∷ ks) l r =
    let a = l.0 in
    let b = r.0 in
    let both : arc_no d ≡ arc_no k = cc in
    let same : d ≡ k = ap (λ (x : ArcNo). x.0) both in
    let x = rest_of next (next d) done last ks l.1 (subst (λ i. Leads next (next i) ks None) (sym same) r.1) in
    record { rest = x.rest; is = ap (λ i. i ∷ ks) (sym same) ∙ ap (λ r. d ∷ r) x.is; leads = x.leads }

-- links lead along one list
pub Leads-same : (next : ℕ → Option ArcNo) (link : Option ArcNo) (ks js : List ℕ) → Leads next link ks None → Leads next link js None → ks ≡ js
Leads-same next link ks js a b =
    let m = length ks + length js in
    sym (chain_is next link ks m a (omega arith)) ∙ chain_is next link js m b (omega arith)

-- a list that begins with this number
record Begins (next : ℕ → Option ArcNo) (k : ArcNo) (ks : List ℕ) : Type 0 where
  rest : List ℕ
  is : ks ≡ k.0 ∷ rest

begins : (next : ℕ → Option ArcNo) (k : ArcNo) (ks : List ℕ) → Leads next (Some k) ks None → Begins next k ks
unfolding Leads
begins next k [] l = absurd cc
begins next k (j ∷ ks) l =
    let a = l.0 in
    let same : k ≡ arc_no j = cc in
    record { rest = ks; is = ap (λ (x : ArcNo). x.0 ∷ ks) (sym same) }

-- what follows by the links follows by the records
pub link_of_part : (rs : List ArcPart) (k : ℕ) → link_at (links_of rs) k ≡ next_part rs k
link_of_part [] k = refl
link_of_part (r ∷ rs) zero = refl
link_of_part (r ∷ rs) (suc k) = link_of_part rs k

pub links_count : (rs : List ArcPart) → length (links_of rs) ≡ length rs
links_count rs = length-map rs (λ (r : ArcPart). r.next)

pub over_links : (rs : List ArcPart) (link : Option ArcNo) (ks : List ℕ) → Leads (next_part rs) link ks None → Leads (link_at (links_of rs)) link ks None
over_links rs link ks = Leads-agree (next_part rs) (link_at (links_of rs)) link ks None (λ j _. link_of_part rs j)

pub over_parts : (rs : List ArcPart) (link : Option ArcNo) (ks : List ℕ) → Leads (link_at (links_of rs)) link ks None → Leads (next_part rs) link ks None
over_parts rs link ks = Leads-agree (link_at (links_of rs)) (next_part rs) link ks None (λ j _. sym (link_of_part rs j))

-- links that are kept lead along the same lists
module _ (most : ℕ) (next after : ℕ → Option ArcNo) (same : (j : ℕ) → after j ≡ kept_link most (next j)) where
  pub kept_is : (link : Option ArcNo) (k : ℕ) → link ≡ Some (arc_no k) → k < most → kept_link most link ≡ Some (arc_no k)
  kept_is link k is low = ap (kept_link most) is ∙ ap (λ i. Some (arc_no i)) (min-eq_left (omega arith))

  pub kept_from : (link : Option ArcNo) (k : ℕ) → kept_link most link ≡ Some (arc_no k) → k < most → link ≡ Some (arc_no k)
  kept_from None k is low = absurd cc
  kept_from (Some m) k is low =
      let both : arc_no (min m.0 most) ≡ arc_no k = cc in
      let at : min m.0 most ≡ k = ap (λ (x : ArcNo). x.0) both in
      elim (cases_lt m.0 most) [
        | inl under ↦
            let plain : min m.0 most ≡ m.0 = min-eq_left (omega arith) in
            let it : m.0 ≡ k = omega arith in
            ap (λ i. Some (arc_no i)) it
        | inr over ↦
            let plain : min m.0 most ≡ most = min-eq_right (omega arith) in
            absurd (omega arith)
      ]

  kept_none : (link : Option ArcNo) → kept_link most link ≡ None → link ≡ None
  kept_none None is = refl
  kept_none (Some m) is = absurd cc

  pub Leads-kept : (link : Option ArcNo) (ks : List ℕ) → Leads next link ks None → All (λ k. k < most) ks → Leads after (kept_link most link) ks None
  unfolding Leads
  Leads-kept link [] l low = ap (kept_link most) l
  Leads-kept link (k ∷ ks) l low = (
    kept_is link k l.0 (low 0 0 (omega arith)),
    subst (λ x. Leads after x ks None) (sym (same k)) (Leads-kept (next k) ks l.1 (λ i d h. low (suc i) d (omega arith))),
  )

  pub Leads-from_kept : (link : Option ArcNo) (ks : List ℕ) → Leads after (kept_link most link) ks None → All (λ k. k < most) ks → Leads next link ks None
  unfolding Leads
  Leads-from_kept link [] l low = kept_none link l
  Leads-from_kept link (k ∷ ks) l low = (
    kept_from link k l.0 (low 0 0 (omega arith)),
    Leads-from_kept (next k) ks (subst (λ x. Leads after x ks None) (same k) l.1) (λ i d h. low (suc i) d (omega arith)),
  )

  -- so do they from a link that is not kept
  pub first_kept : (link : Option ArcNo) (ks : List ℕ) → Leads next link ks None → All (λ k. k < most) ks → kept_link most link ≡ link
  unfolding Leads
  first_kept link [] l low = ap (kept_link most) l ∙ sym l
  first_kept link (k ∷ ks) l low = kept_is link k l.0 (low 0 0 (omega arith)) ∙ sym l.0

  first_from : (link : Option ArcNo) (ks : List ℕ) → Leads after link ks None → All (λ k. k < most) ks → kept_link most link ≡ link
  unfolding Leads
  first_from link [] l low = ap (kept_link most) l ∙ sym l
  first_from link (k ∷ ks) l low = kept_is link k l.0 (low 0 0 (omega arith)) ∙ sym l.0

  pub along_kept : (link : Option ArcNo) (ks : List ℕ) → Leads next link ks None → All (λ k. k < most) ks → Leads after link ks None
  along_kept link ks l low = subst (λ x. Leads after x ks None) (first_kept link ks l low) (Leads-kept link ks l low)

  pub along_all : (link : Option ArcNo) (ks : List ℕ) → Leads after link ks None → All (λ k. k < most) ks → Leads next link ks None
  along_all link ks l low = Leads-from_kept link ks (subst (λ x. Leads after x ks None) (sym (first_from link ks l low)) l) low

kept_at : (most : ℕ) (rs : List ArcPart) (k : ℕ) → link_at (kept_links most rs) k ≡ kept_link most (link_at (links_of rs) k)
kept_at most [] k = refl
kept_at most (r ∷ rs) zero = refl
kept_at most (r ∷ rs) (suc k) = kept_at most rs k

kept_count : (most : ℕ) (rs : List ArcPart) → length (kept_links most rs) ≡ length (links_of rs)
kept_count most rs = length-map rs (λ (r : ArcPart). kept_link most r.next) ∙ sym (links_count rs)

pub listed_low : (most : ℕ) (g : GraphOf) (w : ℕ) → IsGraph g → made_of g ≤ most → All (λ k. k < most) (arcs_of g w)
listed_low most g w sound few = λ i d l. omega (arith, few, (arcs_live g w sound i d l).made)

pub lays_kept : (most : ℕ) (vs : List VertexPart) (rs : List ArcPart) (g : GraphOf) → made_of g ≤ most → Lays vs (links_of rs) g → Lays vs (kept_links most rs) g
lays_kept most vs rs g few x =
    record {
      n = x.n;
      made = x.made ∙ sym (kept_count most rs);
      lists = λ w low. along_kept most (link_at (links_of rs)) (link_at (kept_links most rs)) (kept_at most rs) (vertex_part vs w).first (arcs_of g w) (x.lists w low) (listed_low most g w x.graph few);
      graph = x.graph;
    }

lays_from_kept : (most : ℕ) (vs : List VertexPart) (rs : List ArcPart) (g : GraphOf) → made_of g ≤ most → Lays vs (kept_links most rs) g → Lays vs (links_of rs) g
lays_from_kept most vs rs g few x =
    record {
      n = x.n;
      made = x.made ∙ kept_count most rs;
      lists = λ w low. along_all most (link_at (links_of rs)) (link_at (kept_links most rs)) (kept_at most rs) (vertex_part vs w).first (arcs_of g w) (x.lists w low) (listed_low most g w x.graph few);
      graph = x.graph;
    }

pub lays_as_kept : (vs : List VertexPart) (rs : List ArcPart) (g : GraphOf) → Lays vs (kept_links 1000000 rs) g → Lays vs (links_of rs) g
lays_as_kept vs rs g x = lays_from_kept 1000000 vs rs g x.graph.few_arcs x

pub laying_kept : (most : ℕ) (vs : List VertexPart) (rs : List ArcPart) (g : GraphOf) → Laying vs (links_of rs) 0 g → Laying vs (kept_links most rs) 0 g
laying_kept most vs rs g x =
    record {
      n = x.n;
      made = x.made ∙ sym (kept_count most rs);
      lists = λ w low. absurd (omega arith);
      empty = x.empty;
      graph = x.graph;
    }

pub refuses_kept : (vs : List VertexPart) (rs : List ArcPart) (e : Refusal) → RefusesToLay vs (kept_links 1000000 rs) e → RefusesToLay vs (links_of rs) e
refuses_kept vs rs e bad = (bad.0, λ h lays. bad.1 h (lays_kept 1000000 vs rs h lays.graph.few_arcs lays))

-- the laying of one vertex begins and ends
pub laying_begins : (vs : List VertexPart) (ls : List (Option ArcNo)) (v : ℕ) (g : GraphOf) (link : Option ArcNo) → Laying vs ls v g → link ≡ (vertex_part vs v).first → LayingAt vs ls v None link g
unfolding Leads
laying_begins vs ls v g link x is =
    let none : arcs_of g v ≡ [] = x.empty v (omega arith) in
    record {
      n = x.n;
      made = x.made;
      lists = x.lists;
      here = subst (λ ks. Leads (link_at ls) (vertex_part vs v).first ks link) (sym none) (sym is);
      last = ap last_number (sym none);
      empty = λ w h. x.empty w (omega arith);
      graph = x.graph;
    }

-- what the test before an arc is laid tells
hole_at : (o : Option ArcOf) → is_some o ≡ false → o ≡ None
hole_at None h = refl
hole_at (Some e) h = absurd cc

pub laid_can : (g : GraphOf) (k : ArcNo) (v : VertexNo) → has_arc g k.0 ≡ false → k.0 < made_of g → v.0 < n_of g → CanPutBack g (laid_arc g k v)
laid_can g k v hole made owner =
    record {
      hole = hole_at (arc_at g k.0) hole;
      made = made;
      owner = owner;
      place = omega arith;
      arc = record { tip = tt; len = search rules; two = refl; values = zero_value (n_of g) g.entries };
    }

-- the last number, once it is added
pub last_push : (ks : List ℕ) (k : ArcNo) → Some k ≡ last_number (ks ++ k.0 ∷ [])
last_push ks k =
    let js = ks ++ k.0 ∷ [] in
    let size : length js ≡ suc (length ks) = omega (arith, length_push ks k.0) in
    let at : slice_get js (length ks) ≡ Some k.0 = get_within js (length ks) (omega (arith, size)) ∙ ap Some (get_or_at ks k.0 [] 0 (length ks) refl) in
    sym (ap (number_before js) size ∙ ap (option_map arc_no) at)

-- one record more is laid
pub laid_more : (vs : List VertexPart) (ls : List (Option ArcNo)) (v : VertexNo) (end link next : Option ArcNo) (k : ArcNo) (g h : GraphOf) → LayingAt vs ls v.0 end link g → link ≡ Some k
    → CanPutBack g (laid_arc g k v) → h ≡ with_cut_arc g (laid_arc g k v) → IsGraph h → next ≡ link_at ls k.0 → LayingAt vs ls v.0 (Some k) next h
laid_more vs ls v end link next k g h x is can new sound follows =
    let c = laid_arc g k v in
    let ks = arcs_of g v.0 in
    let now : arcs_of (with_cut_arc g c) v.0 ≡ ks ++ k.0 ∷ [] = ap (λ y. y.arcs) (put_vertex_same g c can) ∙ insert_end ks k.0 in
    let leads : Leads (link_at ls) (vertex_part vs v.0).first (ks ++ k.0 ∷ []) (link_at ls k.0) =
    Leads-push (link_at ls) (vertex_part vs v.0).first ks k (subst (λ l. Leads (link_at ls) (vertex_part vs v.0).first ks l) is x.here) in
    subst (λ y. IsGraph y → LayingAt vs ls v.0 (Some k) next y) (sym new)
    (λ sound'. record {
      n = put_n g c ∙ x.n;
      made = put_made g c ∙ x.made;
      lists = λ w low.
          let ne : w ≢ v.0 = λ e. omega arith in
          subst (λ y. Leads (link_at ls) (vertex_part vs w).first y.arcs None) (sym (put_vertex_other g c w ne)) (x.lists w low);
      here = subst (λ l. Leads (link_at ls) (vertex_part vs v.0).first (arcs_of (with_cut_arc g c) v.0) l) (sym follows)
          (subst (λ r. Leads (link_at ls) (vertex_part vs v.0).first r (link_at ls k.0)) (sym now) leads);
      last = last_push ks k ∙ ap last_number (sym now);
      empty = λ w high.
          let ne : w ≢ v.0 = λ e. omega arith in
          ap (λ y. y.arcs) (put_vertex_other g c w ne) ∙ x.empty w high;
      graph = sound';
    }) sound

-- an arc that lives is listed
pub owner_listed : (g : GraphOf) (k : ℕ) → IsGraph g → has_arc g k ≡ true → (w : ℕ) × (w < n_of g) × (0 < occurrences k (arcs_of g w))
owner_listed g k sound live =
    let one : listings k g.vertices ≡ 1 = sound.listed k ∙ ap (λ b. cond b 1 0) live in
    sum_some (λ v. occurrences k v.arcs) g.vertices no_vertex (omega arith)

-- where a record cannot be laid, no graph lays the chains
pub lay_refused : (vs : List VertexPart) (ls : List (Option ArcNo)) (v : ℕ) (end link : Option ArcNo) (k : ArcNo) (g h : GraphOf) → LayingAt vs ls v end link g → link ≡ Some k → v < length vs
    → (k.0 < made_of g → has_arc g k.0 ≡ true) → Lays vs ls h → ⊥
lay_refused vs ls v end link k g h x is low taken y =
    let next = link_at ls in
    let first = (vertex_part vs v).first in
    let ks = arcs_of g v in
    let r = rest_of next first ks (Some k) (arcs_of h v) (subst (λ l. Leads next first ks l) is x.here) (y.lists v (omega (arith, y.n))) in
    let b = begins next k r.rest r.leads in
    let lists : arcs_of h v ≡ ks ++ k.0 ∷ b.rest = r.is ∙ ap (λ l. ks ++ l) b.is in
    let counts : occurrences k.0 (arcs_of h v) ≡ occurrences k.0 ks + 1 + occurrences k.0 b.rest =
    ap (occurrences k.0) lists ∙ omega (arith, sum_by-append (λ j. cond (j == k.0) 1 0) ks (k.0 ∷ b.rest), occurs_yes k.0 k.0 b.rest refl) in
    let it = listed_live h k.0 v y.graph (omega arith) in
    let live : has_arc g k.0 ≡ true = taken (omega (arith, it.made, x.made, y.made)) in
    let o = owner_listed g k.0 x.graph live in
    elim (cases_order o.0 v) [
      | inl same ↦ omega (arith, o.2, ap (λ w. occurrences k.0 (arcs_of g w)) same, it.once)
      | inr (inl below) ↦
          let alike : arcs_of g o.0 ≡ arcs_of h o.0 =
          Leads-same (link_at ls) (vertex_part vs o.0).first (arcs_of g o.0) (arcs_of h o.0) (x.lists o.0 below) (y.lists o.0 (omega (arith, y.n))) in
          omega (arith, one_owner h k.0 o.0 v y.graph (omega (arith, o.2, ap (occurrences k.0) alike)) (omega arith))
      | inr (inr above) ↦ omega (arith, o.2, ap (occurrences k.0) (x.empty o.0 above))
    ]

-- two graphs that lay the same chains have the same lists and the same live arcs
pub lists_same : (vs : List VertexPart) (ls : List (Option ArcNo)) (g h : GraphOf) (w : ℕ) → Lays vs ls g → Lays vs ls h → w < n_of g → arcs_of g w ≡ arcs_of h w
lists_same vs ls g h w x y low =
    Leads-same (link_at ls) (vertex_part vs w).first (arcs_of g w) (arcs_of h w) (x.lists w low) (y.lists w (omega (arith, x.n, y.n)))

lives_too : (vs : List VertexPart) (ls : List (Option ArcNo)) (g h : GraphOf) (k : ℕ) → Lays vs ls g → Lays vs ls h → has_arc g k ≡ true → has_arc h k ≡ true
lives_too vs ls g h k x y live =
    let o = owner_listed g k x.graph live in
    (listed_live h k o.0 y.graph (omega (arith, o.2, ap (occurrences k) (lists_same vs ls g h o.0 x y o.1)))).live

pub lays_same : (vs : List VertexPart) (ls : List (Option ArcNo)) (g h : GraphOf) → Lays vs ls g → Lays vs ls h → SameNames g h
lays_same vs ls g h x y =
    record {
      n = y.n ∙ sym x.n;
      live = λ k. elim (cases_Bool (has_arc g k)) [
        | inl a ↦ lives_too vs ls g h k x y a ∙ sym a
        | inr a ↦ elim (cases_Bool (has_arc h k)) [
          | inl b ↦ absurd (let c = lives_too vs ls h g k y x b in cc)
          | inr b ↦ b ∙ sym a
        ]
      ];
    }

pub part_at : {X : Type 0} (xs : List X) (i : ℕ) (d e x : X) → i < length xs → x ≡ get_or xs i d → x ≡ get_or xs i e
part_at xs i d e x low is = is ∙ get_or_default xs i d e low

-- a number that is none of a hole is laid by no graph
pub record_refused : (vs : List VertexPart) (ls : List (Option ArcNo)) (v : ℕ) (end link : Option ArcNo) (k : ArcNo) (g : GraphOf) (e : Refusal) → LayingAt vs ls v end link g → link ≡ Some k → v < length vs
    → (e ≡ BadOperand) × (k.0 < made_of g → has_arc g k.0 ≡ true) → RefusesToLay vs ls e
record_refused vs ls v end link k g e x is low bad = (bad.0, λ h lays. lay_refused vs ls v end link k g h x is low bad.1 lays)
