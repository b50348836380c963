-- Laws: an arc put back and taken out, and one taken out and put back, leave the graph as it was.
use Rattle.std.proofs.Common.{◌≡◌, ◌≢◌, ◌<◌, ◌≤◌, ◌+◌, ℕ, zero, suc, List, [], ◌∷◌, length, get_or, set, Some, None, is_some, IfSome, not, refl, sym, ap, subst, ◌∙◌, arith, cond, ◌==◌}
use Rattle.std.specs.List.{insert, remove, position_or_len}
use Rattle.std.proofs.lemmas.Bool.{eq-eqb, ne_eqb}
use Rattle.std.proofs.lemmas.List.{set-set, set-get_or}
use Rattle.std.proofs.lemmas.List.Edits.{length-remove}
use Rattle.sgb_graph.specs.declared.delta.CutArc.{CutArc}
use Rattle.sgb_graph.specs.Graph.{GraphOf, VertexOf, IsGraph, IsArc, n_of, vertex_at, no_vertex, arcs_of, occurrences, names_in}
use Rattle.sgb_graph.specs.Edit.{with_listed, without_listed, with_cut_arc, without_arc, arc_of, owner_of, place_of, entry_at}
use Rattle.sgb_graph.specs.Delta.{cut_arc}
use Rattle.sgb_graph.specs.Private.Link.{CanPutBack, CanTakeOut}
use Rattle.sgb_graph.proofs.Counts.{occurs_yes, occurs_no}
use Rattle.sgb_graph.proofs.Graphs.{owner_is, hole_unlisted}
use Rattle.sgb_graph.proofs.ShowsPut.{owner_with, put_sound, put_vertex_same, put_occurs_new}
use Rattle.sgb_graph.proofs.TakeOut.{Found, owner_without, take_n, take_made, take_vertex_same, take_entry_same, entry_without, take_names}
use Rattle.sgb_graph.specs.Private.SameLaws.{same_graph}

-- of lists
remove-insert : (ks : List ℕ) (i k : ℕ) → i ≤ length ks → remove (insert ks i k) i ≡ ks
remove-insert ks zero k h = refl
remove-insert [] (suc i) k h = absurd (omega arith)
remove-insert (q ∷ ks) (suc i) k h = ap (λ r. q ∷ r) (remove-insert ks i k (omega arith))

insert-remove : (ks : List ℕ) (i k : ℕ) → i < length ks → get_or ks i 0 ≡ k → insert (remove ks i) i k ≡ ks
insert-remove [] i k h at = absurd (omega arith)
insert-remove (q ∷ ks) zero k h at = ap (λ x. x ∷ ks) (sym at)
insert-remove (q ∷ ks) (suc i) k h at = ap (λ r. q ∷ r) (insert-remove ks i k (omega arith) at)

position-insert : (ks : List ℕ) (i k : ℕ) → i ≤ length ks → occurrences k ks ≡ 0 → position_or_len (λ j. j == k) (insert ks i k) ≡ i
position-insert ks zero k h none = ap (λ b. let m : ℕ = cond (not b) (1 + position_or_len (λ j. j == k) ks) 0 in m) (eq-eqb k k refl)
position-insert [] (suc i) k h none = absurd (omega arith)
position-insert (q ∷ ks) (suc i) k h none =
    let ne : q ≢ k = λ e. omega (arith, occurs_yes k q ks e) in
    let rest : position_or_len (λ j. j == k) (insert ks i k) ≡ i = position-insert ks i k (omega arith) (omega (arith, occurs_no k q ks ne)) in
    let step : position_or_len (λ j. j == k) (insert (q ∷ ks) (suc i) k) ≡ 1 + position_or_len (λ j. j == k) (insert ks i k) =
    ap (λ b. let m : ℕ = cond (not b) (1 + position_or_len (λ j. j == k) (insert ks i k)) 0 in m) (ne_eqb q k ne) in
    omega (arith, step, rest)

-- an arc that was put into the graph stands where it was put
pub put_owner_of : (g : GraphOf) (c : CutArc) → IsGraph g → CanPutBack g c → owner_of (with_cut_arc g c) c.number.0 ≡ c.owner.0
put_owner_of g c sound can =
    let one : occurrences c.number.0 (arcs_of (with_cut_arc g c) c.owner.0) ≡ 1 = put_occurs_new g c sound can in
    owner_is (with_cut_arc g c) c.number.0 c.owner.0 (put_sound g c sound can) (omega (arith, one))

pub put_place_of : (g : GraphOf) (c : CutArc) → IsGraph g → CanPutBack g c → place_of (with_cut_arc g c) c.number.0 ≡ c.place
put_place_of g c sound can =
    let h = with_cut_arc g c in
    ap (λ v. position_or_len (λ j. j == c.number.0) (arcs_of h v)) (put_owner_of g c sound can)
    ∙ (ap (λ x. position_or_len (λ j. j == c.number.0) x.arcs) (put_vertex_same g c can)
    ∙ position-insert (arcs_of g c.owner.0) c.place c.number.0 can.place (hole_unlisted g c.number.0 c.owner.0 sound (ap is_some can.hole)))

-- put back and taken out
pub without_arc-with_cut_arc : (g : GraphOf) (c : CutArc) → IsGraph g → CanPutBack g c → without_arc (with_cut_arc g c) c.number.0 ≡ g
unfolding without_arc without_listed with_cut_arc with_listed
without_arc-with_cut_arc g c sound can =
    let h = with_cut_arc g c in
    let k = c.number.0 in
    let v = c.owner.0 in
    let taken : ℕ → ℕ → List VertexOf = λ w i. set h.vertices w (record (vertex_at h w) { arcs = remove (arcs_of h w) i }) in
    let here : vertex_at h v ≡ owner_with g c = put_vertex_same g c can in
    let vertices : taken (owner_of h k) (place_of h k) ≡ g.vertices =
    ap (λ w. taken w (place_of h k)) (put_owner_of g c sound can)
    ∙ (ap (taken v) (put_place_of g c sound can)
    ∙ (ap (λ x. set h.vertices v (record x { arcs = remove x.arcs c.place })) here
    ∙ (ap (λ ks. set h.vertices v (record (vertex_at g v) { arcs = ks })) (remove-insert (arcs_of g v) c.place k can.place)
    ∙ (set-set g.vertices v (owner_with g c) (vertex_at g v) ∙ set-get_or g.vertices v no_vertex)))) in
    let entries : set h.entries k None ≡ g.entries =
    set-set g.entries k (Some (arc_of c)) None
    ∙ (ap (set g.entries k) (sym can.hole) ∙ set-get_or g.entries k None) in
    same_graph (without_arc h k) g refl refl refl vertices entries

-- taken out and put back
pub cut_can : (g : GraphOf) (k : ℕ) → IsGraph g → CanTakeOut g k → Found g k → CanPutBack (without_arc g k) (cut_arc g k)
unfolding without_arc without_listed
cut_can g k sound can f =
    let h = without_arc g k in
    let ks = arcs_of g (owner_of g k) in
    let arc : IsArc (n_of g) g.entries (entry_at g k) = subst (λ o. IfSome o (IsArc (n_of g) g.entries)) f.entry (sound.arcs k None f.made) in
    let named : names_in k (entry_at g k).fields ≡ 0 = omega (arith, can.unnamed, take_names g k k f) in
    record {
      hole = take_entry_same g k f;
      made = omega (arith, take_made g k, f.made);
      owner = omega (arith, take_n g k, f.owner);
      place = omega (arith, length-remove ks (place_of g k) f.within, f.within, ap (λ x. length x.arcs) (take_vertex_same g k f));
      arc = subst (λ n. IsArc n h.entries (entry_at g k)) (sym (take_n g k)) (entry_without (n_of g) g.entries k (Some (entry_at g k)) named arc);
    }

pub with_cut_arc-without_arc : (g : GraphOf) (k : ℕ) → Found g k → with_cut_arc (without_arc g k) (cut_arc g k) ≡ g
unfolding without_arc without_listed with_cut_arc with_listed
with_cut_arc-without_arc g k f =
    let h = without_arc g k in
    let v = owner_of g k in
    let i = place_of g k in
    let vertices : set h.vertices v (record (vertex_at h v) { arcs = insert (arcs_of h v) i k }) ≡ g.vertices =
    ap (λ x. set h.vertices v (record x { arcs = insert x.arcs i k })) (take_vertex_same g k f)
    ∙ (ap (λ ks. set h.vertices v (record (vertex_at g v) { arcs = ks })) (insert-remove (arcs_of g v) i k f.within f.at)
    ∙ (set-set g.vertices v (owner_without g k) (vertex_at g v) ∙ set-get_or g.vertices v no_vertex)) in
    let entries : set h.entries k (Some (entry_at g k)) ≡ g.entries =
    set-set g.entries k None (Some (entry_at g k))
    ∙ (ap (set g.entries k) (sym f.entry) ∙ set-get_or g.entries k None) in
    same_graph (with_cut_arc h (cut_arc g k)) g refl refl refl vertices entries
