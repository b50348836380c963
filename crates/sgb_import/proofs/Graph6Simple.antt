-- The graph of a text in graph6 can be exported in graph6: its arcs lead to vertices, it has no loops and no repeated edges.
use Rattle.std.proofs.Common.{◌≡◌, ◌≢◌, ℕ, ◌<◌, ◌==◌, pos, Bool, true, false, not, List, [], ◌∷◌, map, length, get_or, All, Option, Some, None, refl, sym, ap, ◌∙◌, subst, arith, zero-add}
use Rattle.std.proofs.lemmas.Bool.{and_from, and_parts, eqb-true, ne_eqb, false_from_ne_true, false≢true, not-false}
use Rattle.std.proofs.lemmas.List.{length-map, get_or-map, get_or_default}
use Rattle.std.proofs.lemmas.List.Elements.{All-head, All-tail, All-filter, filter_passes}
use Rattle.std.proofs.lemmas.List.Folds.{list_any_none}
use Rattle.std.proofs.lemmas.List.FromFn.{length-range_with_len, get_or-range_with_len, length-enumerate_from, get_or-enumerate_from}
use Rattle.std.proofs.lemmas.List.Kept.{AllPairs-filter}
use Rattle.std.proofs.lemmas.List.Sums.{AllPass-from_list_all, list_all-from_AllPass}
use Rattle.std.specs.List.{AllPairs, filter, list_all, list_any, enumerate_from, range_with_len}
use Rattle.sgb_export.specs.Links.{is_directed, links, are_even_at}
use Rattle.sgb_export.specs.Simple.{is_loop, have_same_ends, are_single, is_simple}
use Rattle.sgb_graph.specs.Builder.{Insertion, insertion}
use Rattle.sgb_graph.specs.declared.field.Tip.TheVariants.{Zero, One, To}
use Rattle.sgb_graph.specs.Graph.{GraphOf, ArcOf, arc_at, made_of, n_of}
use Rattle.sgb_graph.specs.Operand.{refusal_of_operand}
use Rattle.sgb_graph.specs.Paired.{is_matched, is_view_matched, is_tip_matched, is_paired}
use Rattle.sgb_graph.specs.Read.{entry_view, leads_on, is_vertex_tip}
use Rattle.sgb_plan.specs.Distinct.{Distinct}
use Rattle.sgb_plan.proofs.Distincts.{All-flat_map, Distinct-head, Distinct-tail, Distinct-filter, Distinct-flat_map_range}
use Rattle.sgb_import.specs.Graph6.{is_set, pairs, edges_in}
use Rattle.sgb_import.specs.Laws.{by_source, leaving, written}
use Rattle.sgb_import.proofs.Graph6Joined.{pairs-distinct, pairs-unit}
use Rattle.sgb_import.proofs.Graph6Outlines.{edges-all, pairs-upward}

-- ---- no loops, and no edge twice
loopless : (ls : _) (b : Bool) → list_all (λ l. not (is_loop l)) ls ≡ b → All (λ (e : Insertion). e.from < e.to) (map (λ l. insertion l.from l.to l.len) ls) → b ≡ true
loopless [] b is up = sym is
loopless (l ∷ ls) b is up =
    let edges = map (λ l. insertion l.from l.to l.len) ls in
    let e = insertion l.from l.to l.len in
    let low : l.from < l.to = All-head (λ (e : Insertion). e.from < e.to) e edges up in
    sym is ∙ and_from _ _ (ap not (ne_eqb l.from l.to (λ h. omega arith))) (loopless ls _ refl (All-tail (λ (e : Insertion). e.from < e.to) e edges up))

same_edge : (a b : Insertion) → a.from ≡ b.from → a.to ≡ b.to → a.len ≡ b.len → a ≡ b
same_edge a b p q r = λ i. record { from = p i; to = q i; len = r i }

-- no element has the endpoints of an edge that differs from all of theirs
apart : {X : Type 0} (edge : X → Insertion) (test : X → Bool) (e : Insertion) (ls : List X) →
    ((m : X) → test m ≡ true → (e.from ≡ (edge m).from) × (e.to ≡ (edge m).to)) → All (λ y. e ≢ y) (map edge ls) →
    e.len ≡ pos 1 → All (λ (x : Insertion). x.len ≡ pos 1) (map edge ls) → list_any test ls ≡ false
apart edge test e ls ends others unit units = list_any_none test ls (λ k d h.
    false_from_ne_true _ (λ same.
    let m = get_or ls k d in
    let at : get_or (map edge ls) k (edge d) ≡ edge m = get_or-map edge ls k d (edge d) h in
    let within : k < length (map edge ls) = omega (arith, length-map ls edge) in
    let is = ends m same in
    let len : (edge m).len ≡ pos 1 = subst (λ (x : Insertion). x.len ≡ pos 1) at (units k (edge d) within) in
    others k (edge d) within (same_edge e (edge m) is.0 is.1 (unit ∙ sym len) ∙ sym at)))

single : (ls : _) (b : Bool) → are_single ls ≡ b → Distinct (map (λ l. insertion l.from l.to l.len) ls) →
    All (λ (e : Insertion). e.len ≡ pos 1) (map (λ l. insertion l.from l.to l.len) ls) → b ≡ true
unfolding are_single
single [] b is distinct unit = sym is
single (l ∷ ls) b is distinct unit =
    let e = insertion l.from l.to l.len in
    let edges = map (λ l. insertion l.from l.to l.len) ls in
    let units = All-tail (λ (x : Insertion). x.len ≡ pos 1) e edges unit in
    let others : list_any (have_same_ends l) ls ≡ false =
    apart (λ l. insertion l.from l.to l.len) (have_same_ends l) e ls
    (λ m same. let ends = and_parts _ _ same in (eqb-true l.from m.from ends.0, eqb-true l.to m.to ends.1))
    (Distinct-head e edges distinct) (All-head (λ (x : Insertion). x.len ≡ pos 1) e edges unit) units in
    sym is ∙ and_from _ _ (ap not others) (single ls _ refl (Distinct-tail e edges distinct) units)

-- ---- the edges that are found
enumerated_apart : (xs : List Insertion) → Distinct xs → AllPairs (λ (p q : ℕ × Insertion). p.1 ≢ q.1) (enumerate_from 0 xs)
enumerated_apart xs distinct i j d below h same =
    let long = length-enumerate_from 0 xs in
    let j' : j < length xs = omega arith in
    let i' : i < length xs = omega arith in
    distinct i j d.1 below j'
    (sym (ap (λ (p : ℕ × Insertion). p.1) (get_or-enumerate_from 0 xs i d i')) ∙ same ∙ ap (λ (p : ℕ × Insertion). p.1) (get_or-enumerate_from 0 xs j d j'))

apart-map : (ps : List (ℕ × Insertion)) → AllPairs (λ (p q : ℕ × Insertion). p.1 ≢ q.1) ps → Distinct (map (λ (p : ℕ × Insertion). p.1) ps)
apart-map ps apart i j d below h same =
    let edge = λ (p : ℕ × Insertion). p.1 in
    let j' : j < length ps = omega (arith, length-map ps edge) in
    apart i j (0, d) below j' (sym (get_or-map edge ps i (0, d) d (omega arith)) ∙ same ∙ get_or-map edge ps j (0, d) d j')

edges-distinct : (n : ℕ) (body : List ℕ) → Distinct (edges_in n body)
unfolding edges_in
edges-distinct n body =
    let set = λ (p : ℕ × Insertion). is_set body p.0 in
    apart-map (filter set (enumerate_from 0 (pairs n)))
    (AllPairs-filter (λ (p q : ℕ × Insertion). p.1 ≢ q.1) set (enumerate_from 0 (pairs n)) (enumerated_apart (pairs n) (pairs-distinct n)))

sources-all : (P : Insertion → Type 0) (n : ℕ) (es : List Insertion) → All P es → All P (by_source n es)
sources-all P n es all =
    All-flat_map P (leaving es) (range_with_len 0 n) (λ k d h. All-filter (λ (e : Insertion). e.from == get_or (range_with_len 0 n) k d) P es all)

sources-distinct : (n : ℕ) (es : List Insertion) → Distinct es → Distinct (by_source n es)
sources-distinct n es distinct =
    Distinct-flat_map_range (leaving es) (λ (e : Insertion). e.from) 0 n
    (λ v k d h. eqb-true (get_or (leaving es v) k d).from v (filter_passes (λ (e : Insertion). e.from == v) es k d h))
    (λ v. Distinct-filter (λ (e : Insertion). e.from == v) es distinct)

pub simple_found : (g : GraphOf) (n : ℕ) (body : List ℕ) → written false g ≡ by_source n (edges_in n body) → is_simple g ≡ true
unfolding is_simple
simple_found g n body e =
    let es = edges_in n body in
    and_from _ _
    (loopless (links false g) _ refl (subst (All (λ (x : Insertion). x.from < x.to)) (sym e) (sources-all (λ (x : Insertion). x.from < x.to) n es (edges-all (λ (x : Insertion). x.from < x.to) n body (pairs-upward n)))))
    (single (links false g) _ refl (subst Distinct (sym e) (sources-distinct n es (edges-distinct n body)))
    (subst (All (λ (x : Insertion). x.len ≡ pos 1)) (sym e) (sources-all (λ (x : Insertion). x.len ≡ pos 1) n es (edges-all (λ (x : Insertion). x.len ≡ pos 1) n body (pairs-unit n)))))

-- ---- arcs that lead to vertices
view_leads : (g : GraphOf) (k v : ℕ) (o : Option ArcOf) → is_view_matched g k (entry_view v o) ≡ true → leads_on o ≡ true
view_leads g k v None h = refl
view_leads g k v (Some e) h =
    (elim e.tip as (λ t. is_tip_matched g k v t ≡ true → is_vertex_tip t ≡ true) [
      | Zero ↦ λ wrong. absurd (false≢true wrong)
      | One ↦ λ wrong. absurd (false≢true wrong)
      | To w ↦ λ right. refl
    ]) h

matched_leads : (g : GraphOf) (k : ℕ) → is_matched g k ≡ true → leads_on (arc_at g k) ≡ true
unfolding is_matched
matched_leads g k h = view_leads g k _ (arc_at g k) h

pub undirected_leads : (g : GraphOf) → is_directed g ≡ false → refusal_of_operand g ≡ None
unfolding is_directed
undirected_leads g h =
    let both = and_parts (is_paired g) (list_all (are_even_at g) (range_with_len 0 (n_of g))) (not-false _ h) in
    let paired = and_parts _ _ both.0 in
    let all : list_all leads_on g.entries ≡ true =
    list_all-from_AllPass leads_on g.entries (λ k d l.
    let numbers = range_with_len 0 (made_of g) in
    let within : k < length numbers = omega (arith, length-range_with_len 0 (made_of g)) in
    let at : get_or numbers k 0 ≡ k = get_or-range_with_len 0 (made_of g) k 0 l ∙ zero-add k in
    let here : is_matched g k ≡ true = sym (ap (is_matched g) at) ∙ AllPass-from_list_all (is_matched g) numbers paired.0 k 0 within in
    ap leads_on (get_or_default g.entries k d None l) ∙ matched_leads g k here) in
    rw all refl
