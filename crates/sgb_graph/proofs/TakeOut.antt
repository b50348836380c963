-- Lemmas on an arc that is taken out of a graph.
use Rattle.std.proofs.Common.{◌≡◌, ◌≢◌, ◌<◌, ◌+◌, ℕ, suc, List, [], ◌∷◌, length, get_or, set, Option, Some, None, is_some, IfSome, All, Bool, true, false, not, refl, sym, ap, subst, ◌∙◌, arith, cond, ◌==◌, inl, inr}
use Rattle.std.specs.List.{remove, sum_by, position_or_len}
use Rattle.std.proofs.lemmas.Bool.{cases_Bool, eq-eqb, ne_eqb, eqb-true, eqb-false, cases_eq}
use Rattle.std.proofs.lemmas.List.{get_or-set_same, get_or-set_other, length-set}
use Rattle.std.proofs.lemmas.List.Sums.{sum_by-set, sum_by-remove}
use Rattle.sgb_graph.specs.declared.field.Util.{Util}
use Rattle.sgb_graph.specs.declared.field.Util.TheVariants.{Zero, Int, Vertex, Arc, Text}
use Rattle.sgb_graph.specs.Graph.{GraphOf, VertexOf, ArcOf, IsGraph, IsVertex, IsArc, IsValue, n_of, made_of, m_of, vertex_at, no_vertex, arcs_of, arc_at, has_arc, occurrences, listings, is_name, names_in, names_in_entry, names_of}
use Rattle.sgb_graph.specs.Edit.{without_listed, without_arc, owner_of, place_of, entry_at, arc_or, no_arc}
use Rattle.sgb_graph.specs.Private.Link.{CanTakeOut}
use Rattle.sgb_graph.proofs.Counts.{zero_of_sum, occurs_no, sum_some}
use Rattle.sgb_graph.proofs.Graphs.{listed_live, owner_is}
use Rattle.sgb_graph.proofs.Sound.{All-set, entry_same, entry_other}

-- a number that stands in a list is found there
pub record FoundIn (k : ℕ) (ks : List ℕ) : Type 0 where
  pub within : position_or_len (λ j. j == k) ks < length ks
  pub at : get_or ks (position_or_len (λ j. j == k) ks) 0 ≡ k

at_next : (k j : ℕ) (ks : List ℕ) (m n : ℕ) → m ≡ 1 + n → get_or ks n 0 ≡ k → get_or (j ∷ ks) m 0 ≡ k
at_next k j ks m n e h =
    let same : m ≡ suc n = omega arith in
    ap (λ i. get_or (j ∷ ks) i 0) same ∙ h

pub found_in : (k : ℕ) (ks : List ℕ) → 0 < occurrences k ks → FoundIn k ks
found_in k [] h = absurd (omega arith)
found_in k (j ∷ ks) h =
    elim (cases_Bool (j == k)) [
      | inl e ↦
          let here : position_or_len (λ i. i == k) (j ∷ ks) ≡ 0 = ap (λ b. cond (not b) (1 + position_or_len (λ i. i == k) ks) 0) e in
          record { within = omega (arith, here); at = ap (λ n. get_or (j ∷ ks) n 0) here ∙ eqb-true j k e }
      | inr e ↦
          let there : position_or_len (λ i. i == k) (j ∷ ks) ≡ 1 + position_or_len (λ i. i == k) ks = ap (λ b. cond (not b) (1 + position_or_len (λ i. i == k) ks) 0) e in
          let rest = found_in k ks (omega (arith, occurs_no k j ks (eqb-false j k e))) in
          record { within = omega (arith, there, rest.within); at = at_next k j ks (position_or_len (λ i. i == k) (j ∷ ks)) (position_or_len (λ i. i == k) ks) there rest.at }
    ]

-- a live arc has its owner and its place there
pub record Found (g : GraphOf) (k : ℕ) : Type 0 where
  pub owner : owner_of g k < n_of g
  pub made : k < made_of g
  pub within : place_of g k < length (arcs_of g (owner_of g k))
  pub at : get_or (arcs_of g (owner_of g k)) (place_of g k) 0 ≡ k
  pub once : occurrences k (arcs_of g (owner_of g k)) ≡ 1
  pub entry : arc_at g k ≡ Some (entry_at g k)

pub some_entry : (o : Option ArcOf) → is_some o ≡ true → o ≡ Some (arc_or no_arc o)
some_entry None live = absurd cc
some_entry (Some e) live = refl

pub found : (g : GraphOf) (k v : ℕ) → IsGraph g → 0 < occurrences k (arcs_of g v) → Found g k
found g k v sound h =
    let it = listed_live g k v sound h in
    let is : v ≡ owner_of g k = sym (owner_is g k v sound h) in
    let here : 0 < occurrences k (arcs_of g (owner_of g k)) = subst (λ w. 0 < occurrences k (arcs_of g w)) is h in
    let f = found_in k (arcs_of g (owner_of g k)) here in
    record {
      owner = subst (λ w. w < n_of g) is it.vertex;
      made = it.made;
      within = f.within;
      at = f.at;
      once = subst (λ w. occurrences k (arcs_of g w) ≡ 1) is it.once;
      entry = some_entry (arc_at g k) it.live;
    }

-- a live arc is found
pub found_live : (g : GraphOf) (k : ℕ) → IsGraph g → has_arc g k ≡ true → Found g k
found_live g k sound live =
    let one : listings k g.vertices ≡ 1 = sound.listed k ∙ ap (λ b. cond b 1 0) live in
    let s = sum_some (λ v. occurrences k v.arcs) g.vertices no_vertex (omega (arith, one)) in
    found g k s.0 sound s.2

-- the owner without the arc
abbrev pub owner_without : GraphOf → ℕ → VertexOf
owner_without g k = record (vertex_at g (owner_of g k)) { arcs = remove (arcs_of g (owner_of g k)) (place_of g k) }

pub take_n : (g : GraphOf) (k : ℕ) → n_of (without_arc g k) ≡ n_of g
unfolding without_arc without_listed
take_n g k = length-set g.vertices (owner_of g k) (owner_without g k)

pub take_made : (g : GraphOf) (k : ℕ) → made_of (without_arc g k) ≡ made_of g
unfolding without_arc without_listed
take_made g k = length-set g.entries k None

pub take_vertex_same : (g : GraphOf) (k : ℕ) → Found g k → vertex_at (without_arc g k) (owner_of g k) ≡ owner_without g k
unfolding without_arc without_listed
take_vertex_same g k f = get_or-set_same g.vertices (owner_of g k) (owner_without g k) no_vertex f.owner

pub take_vertex_other : (g : GraphOf) (k v : ℕ) → v ≢ owner_of g k → vertex_at (without_arc g k) v ≡ vertex_at g v
unfolding without_arc without_listed
take_vertex_other g k v ne = get_or-set_other g.vertices (owner_of g k) v (owner_without g k) no_vertex ne

pub take_entry_same : (g : GraphOf) (k : ℕ) → Found g k → arc_at (without_arc g k) k ≡ None
unfolding without_arc without_listed
take_entry_same g k f = entry_same g.entries k None f.made

pub take_entry_other : (g : GraphOf) (k j : ℕ) → j ≢ k → arc_at (without_arc g k) j ≡ arc_at g j
unfolding without_arc without_listed
take_entry_other g k j ne = entry_other g.entries k j None ne

-- how often a number is listed then
pub take_occurrences : (g : GraphOf) (k j : ℕ) → Found g k → occurrences j (remove (arcs_of g (owner_of g k)) (place_of g k)) + cond (k == j) 1 0 ≡ occurrences j (arcs_of g (owner_of g k))
take_occurrences g k j f =
    let one : ℕ → ℕ = λ i. cond (i == j) 1 0 in
    let s = sum_by-remove one (arcs_of g (owner_of g k)) (place_of g k) 0 f.within in
    let here : one (get_or (arcs_of g (owner_of g k)) (place_of g k) 0) ≡ one k = ap one f.at in
    omega (arith, s, here)

pub take_listings : (g : GraphOf) (k j : ℕ) → Found g k → listings j (without_arc g k).vertices + cond (k == j) 1 0 ≡ listings j g.vertices
unfolding without_arc without_listed
take_listings g k j f =
    let s = sum_by-set (λ v. occurrences j v.arcs) g.vertices (owner_of g k) (owner_without g k) no_vertex f.owner in
    omega (arith, s, take_occurrences g k j f)

-- how many fields name an arc then
pub take_names : (g : GraphOf) (k j : ℕ) → Found g k → names_of (without_arc g k) j + names_in j (entry_at g k).fields ≡ names_of g j
unfolding without_arc without_listed
take_names g k j f =
    let v = sum_by-set (λ x. names_in j x.fields) g.vertices (owner_of g k) (owner_without g k) no_vertex f.owner in
    let e = sum_by-set (names_in_entry j) g.entries k None None f.made in
    let arc : names_in_entry j (get_or g.entries k None) ≡ names_in j (entry_at g k).fields = ap (names_in_entry j) f.entry in
    omega (arith, v, e, arc)

-- a value that does not name the arc is sound without it
IsValue-without : (n : ℕ) (es : List (Option ArcOf)) (k : ℕ) (u : Util) → is_name k u ≡ false → IsValue n es u → IsValue n (set es k None) u
IsValue-without n es k Zero e v = tt
IsValue-without n es k (Int z) e v = v
IsValue-without n es k (Vertex w) e v = v
IsValue-without n es k (Arc a) e v = ap is_some (entry_other es k a.0 None (eqb-false a.0 k e)) ∙ v
IsValue-without n es k (Text t) e v = v

false_of_zero : (b : Bool) → (let m : ℕ = cond b 1 0 in m) ≡ 0 → b ≡ false
false_of_zero true e = absurd (omega (arith, e))
false_of_zero false e = refl

values_without : (n : ℕ) (es : List (Option ArcOf)) (k : ℕ) (us : List Util) → names_in k us ≡ 0 → All (IsValue n es) us → All (IsValue n (set es k None)) us
values_without n es k us none all i d h =
    IsValue-without n es k (get_or us i d) (false_of_zero (is_name k (get_or us i d)) (zero_of_sum (λ u. cond (is_name k u) 1 0) us i d none h)) (all i d h)

pub entry_without : (n : ℕ) (es : List (Option ArcOf)) (k : ℕ) (o : Option ArcOf) → names_in_entry k o ≡ 0 → IfSome o (IsArc n es) → IfSome o (IsArc n (set es k None))
entry_without n es k None none x = tt
entry_without n es k (Some e) none x =
    record { tip = x.tip; len = x.len; two = x.two; values = values_without n es k e.fields none x.values }

pub take_sound : (g : GraphOf) (k : ℕ) → IsGraph g → CanTakeOut g k → Found g k → IsGraph (without_arc g k)
unfolding without_arc without_listed
take_sound g k sound can f =
    let h = without_arc g k in
    let n = n_of g in
    let own : names_in k g.fields ≡ 0 = omega (arith, can.unnamed) in
    let vs : sum_by (λ v. names_in k v.fields) g.vertices ≡ 0 = omega (arith, can.unnamed) in
    let es : sum_by (names_in_entry k) g.entries ≡ 0 = omega (arith, can.unnamed) in
    let same_n : n_of g ≡ n_of h = sym (take_n g k) in
    let vertex : (v : VertexOf) → names_in k v.fields ≡ 0 → IsVertex n g.entries v → IsVertex (n_of h) h.entries v = λ v none x.
    subst (λ m. IsVertex m h.entries v) same_n (record { label = x.label; six = x.six; values = values_without n g.entries k v.fields none x.values }) in
    record {
      listed = λ j. elim (cases_eq j k) [
        | inl same ↦
            let was : listings j g.vertices ≡ 1 = sound.listed j ∙ ap (λ b. cond b 1 0) (ap (λ i. has_arc g i) same ∙ can.live) in
            let one : listings j h.vertices + cond (k == j) 1 0 ≡ listings j g.vertices = take_listings g k j f in
            let hit : (let m : ℕ = cond (k == j) 1 0 in m) ≡ 1 = ap (λ b. cond b 1 0) (eq-eqb k j (sym same)) in
            let now : has_arc h j ≡ false = ap (λ i. is_some (arc_at h i)) same ∙ ap is_some (take_entry_same g k f) in
            let none : listings j h.vertices ≡ 0 = omega (arith, was, one, hit) in
            none ∙ ap (λ b. cond b 1 0) (sym now)
        | inr ne ↦
            let one : listings j h.vertices + cond (k == j) 1 0 ≡ listings j g.vertices = take_listings g k j f in
            let miss : (let m : ℕ = cond (k == j) 1 0 in m) ≡ 0 = ap (λ b. cond b 1 0) (ne_eqb k j (λ e. ne (sym e))) in
            let same : listings j h.vertices ≡ listings j g.vertices = omega (arith, one, miss) in
            same ∙ (sound.listed j ∙ ap (λ o. cond (is_some o) 1 0) (sym (take_entry_other g k j ne)))
      ];
      id = sound.id;
      types = sound.types;
      six = sound.six;
      values = subst (λ m. All (IsValue m h.entries) g.fields) same_n (values_without n g.entries k g.fields own sound.values);
      vertices = All-set (IsVertex (n_of h) h.entries) g.vertices (owner_of g k) (owner_without g k)
          (λ i d l. vertex (get_or g.vertices i d) (zero_of_sum (λ v. names_in k v.fields) g.vertices i d vs l) (sound.vertices i d l))
          (let x = vertex (vertex_at g (owner_of g k)) (zero_of_sum (λ v. names_in k v.fields) g.vertices (owner_of g k) no_vertex vs f.owner) (sound.vertices (owner_of g k) no_vertex f.owner) in
          record { label = x.label; six = x.six; values = x.values });
      arcs = All-set (λ o. IfSome o (IsArc (n_of h) h.entries)) g.entries k None
          (λ i d l. subst (λ m. IfSome (get_or g.entries i d) (IsArc m h.entries)) same_n
          (entry_without n g.entries k (get_or g.entries i d) (zero_of_sum (names_in_entry k) g.entries i d es l) (sound.arcs i d l)))
          tt;
      few_vertices = omega (arith, take_n g k, sound.few_vertices);
      few_arcs = omega (arith, take_made g k, sound.few_arcs);
    }

-- one arc less lives
pub take_m : (g : GraphOf) (k : ℕ) → Found g k → m_of (without_arc g k) + 1 ≡ m_of g
unfolding without_arc without_listed
take_m g k f =
    let one : Option ArcOf → ℕ = λ o. cond (is_some o) 1 0 in
    let e = sum_by-set one g.entries k None None f.made in
    let live : one (get_or g.entries k None) ≡ 1 = ap one f.entry in
    omega (arith, e, live)
