-- A graph of arcs in the order of an export is directed: no arc of it has its other half.
use Rattle.std.proofs.Common.{◌≡◌, ◌≢◌, ◌<◌, ◌≤◌, ◌+◌, ◌-◌, ℕ, zero, suc, List, [], ◌∷◌, ◌++◌, length, map, reverse, is_some, Bool, true, false, ◌&&◌, cond, inl, inr, All, refl, sym, ap, subst, ◌∙◌, arith}
use Rattle.std.specs.List.{filter, flat_map, list_all, range_with_len}
use Rattle.std.proofs.lemmas.Bool.{cases_Bool, cases_order, eq-eqb, ne_eqb}
use Rattle.std.proofs.lemmas.List.{nil_from_length}
use Rattle.std.proofs.lemmas.List.Elements.{All-head, All-map, All-nil, All-tail, All-weaker}
use Rattle.sgb_graph.specs.Builder.{Insertion, inserted, with_all}
use Rattle.sgb_graph.specs.Edit.{owner_of, with_arc}
use Rattle.sgb_graph.specs.Graph.{GraphOf, ArcOf, IsGraph, n_of, made_of, arcs_of, has_arc, occurrences}
use Rattle.sgb_graph.specs.Paired.{GoesTo, are_loops_paired, is_loop, is_loop_pair, without_halves}
use Rattle.sgb_graph.proofs.Counts.{occurs_yes}
use Rattle.sgb_graph.proofs.Graphs.{listed_live, made_of_live, owner_is}
use Rattle.sgb_graph.proofs.Halves.{pair_down, pair_up}
use Rattle.sgb_graph.proofs.Insertions.{made-with_arc}
use Rattle.sgb_graph.proofs.PairedLemmas.{alone_first, alone_last, none_alone}
use Rattle.sgb_graph.proofs.SameRows.{and_no}
use Rattle.sgb_export.specs.Links.{is_directed}
use Rattle.sgb_import.specs.Laws.{written}
use Rattle.sgb_import.specs.Outline.{IsLink, IsOutline, Outline, arcs_of_links, graph_of_outline}
use Rattle.sgb_import.proofs.Extensions.{Extends, IsListed, all_listed, goes_leads, live_listed, matched_hole, same_owner}
use Rattle.sgb_import.proofs.FewLinks.{PairedLists, all_of, length_is, occurs_append, undirected_pairs}
use Rattle.sgb_import.proofs.NewLinks.{arcs-with_arc, extends-with_arc, new-with_arc}
use Rattle.sgb_import.proofs.NewNumbers.{ends_at, entry-with_arc, even_at, numbers_at, up_at}
use Rattle.sgb_import.proofs.OutlineLinks.{Halved, all_arcs, bare, graph_is, grown_step, halved_undirected, no_walk, written_is}
use Rattle.sgb_import.proofs.Written.{All-range}

-- ---- the newest arc
module _ (g : GraphOf) (e : Insertion) (x : Extends g (with_arc g e.from e.to e.len)) (from : e.from < n_of g) where
  abbrev h : GraphOf
  h = with_arc g e.from e.to e.len

  newest_first : arcs_of h e.from ≡ made_of g ∷ arcs_of g e.from
  newest_first = arcs-with_arc g e.from e.to e.len e.from from ∙ ap (λ b. cond b (made_of g ∷ arcs_of g e.from) (arcs_of g e.from)) (eq-eqb e.from e.from refl)

  pub newest_listed : IsListed h e.from (made_of g)
  newest_listed = omega (arith, ap (occurrences (made_of g)) newest_first, occurs_yes (made_of g) (made_of g) (arcs_of g e.from) refl)

  pub newest_owner : owner_of h (made_of g) ≡ e.from
  newest_owner = owner_is h (made_of g) e.from x.after newest_listed

  newest : GoesTo h (made_of g) e.from e.to
  newest = record {
    live = ap is_some (new-with_arc g e.from e.to e.len);
    owner = newest_owner;
    tip = ap (λ (a : ArcOf). a.tip) (entry-with_arc g e.from e.to e.len);
  }

  -- a loop: its number is above all others
  loop_alone : (ks : List ℕ) → All (λ k. k < made_of g) ks → is_loop h e.from (made_of g) ≡ true → are_loops_paired h e.from (made_of g ∷ ks) ≡ false
  loop_alone [] all loop = alone_last h e.from (made_of g) loop
  loop_alone (k ∷ ks) all loop =
      let low = All-head (λ j. j < made_of g) k ks all in
      let apart : is_loop_pair h e.from (made_of g) k ≡ false =
      ap (λ b. is_loop h e.from (made_of g) && is_loop h e.from k && b) (ne_eqb (made_of g + 1) k (λ same. omega arith)) ∙ and_no (is_loop h e.from (made_of g) && is_loop h e.from k) in
      alone_first h e.from (made_of g) k ks loop apart

  newest_alone : (before : e.to < e.from → (k : ℕ) → k + 1 ≡ made_of g → e.from ≤ owner_of h k) → PairedLists h → ⊥
  newest_alone before pairs =
      let k = made_of g in
      let made = made-with_arc g e.from e.to e.len in
      elim (cases_order e.to e.from) [
        | inl same ↦
            let loop : is_loop h e.from k ≡ true = goes_leads h k e.from e.from (subst (GoesTo h k e.from) same newest) in
            let alone = loop_alone (arcs_of g e.from) (All-weaker (IsListed g e.from) (λ j. j < made_of g) (λ j listed. (listed_live g j e.from x.before listed).made) (arcs_of g e.from) (all_listed g e.from)) loop in
            let paired = sym (ap (are_loops_paired h e.from) newest_first) ∙ pairs.loops e.from (listed_live h k e.from x.after newest_listed).vertex in
            let both : true ≡ false = sym paired ∙ alone in
            cc
        | inr (inl down) ↦
            let back = pair_down h k e.from e.to pairs.paired newest down in
            let some = back.0 in
            let first = before down (k - 1) (omega arith) in
            let owner = back.1.owner in
            omega arith
        | inr (inr up) ↦
            let back = pair_up h k e.from e.to pairs.paired newest up in
            let low = made_of_live h (k + 1) back.live in
            omega arith
      ]

  pub newest_directed : (before : e.to < e.from → (k : ℕ) → k + 1 ≡ made_of g → e.from ≤ owner_of h k) → is_directed h ≡ true
  newest_directed before =
      elim (cases_Bool (is_directed h)) [
        | inl directed ↦ directed
        | inr undirected ↦ absurd (newest_alone before (undirected_pairs h undirected))
      ]

-- ---- the first two of a list
-- the first leads up or is a loop, or leaves no later vertex than the second
abbrev pub FirstTwo : List Insertion → Type 0
FirstTwo [] = Unit {0}
FirstTwo (e ∷ []) = Unit {0}
FirstTwo (e ∷ (f ∷ es)) = e.to < e.from → e.from ≤ f.from

first_two : (xs ys : List Insertion) (a : ℕ) → All (λ e. e.from ≡ a) xs → All (λ e. a ≤ e.from) ys → FirstTwo ys → FirstTwo (xs ++ ys)
first_two [] ys a own later two = two
first_two (x ∷ []) [] a own later two = tt
first_two (x ∷ []) (y ∷ ys) a own later two =
    let here = All-head (λ (e : Insertion). e.from ≡ a) x [] own in
    let there = All-head (λ (e : Insertion). a ≤ e.from) y ys later in
    λ down. omega arith
first_two (x ∷ (y ∷ xs)) ys a own later two =
    let here = All-head (λ (e : Insertion). e.from ≡ a) x (y ∷ xs) own in
    let there = All-head (λ (e : Insertion). e.from ≡ a) y xs (All-tail (λ (e : Insertion). e.from ≡ a) x (y ∷ xs) own) in
    λ down. omega arith

first_two_of : (lists : ℕ → List Insertion) → ((v : ℕ) → All (λ e. e.from ≡ v) (lists v)) → (n a : ℕ) → FirstTwo (flat_map lists (range_with_len a n))
first_two_of lists own zero a = tt
first_two_of lists own (suc n) a =
    first_two (lists a) (flat_map lists (range_with_len (a + 1) n)) a (own a)
    (All-range (λ (e : Insertion). a ≤ e.from) lists n (a + 1) (λ v low high. All-weaker (λ (e : Insertion). e.from ≡ v) (λ (e : Insertion). a ≤ e.from) (λ e is. omega arith) (lists v) (own v)))
    (first_two_of lists own n (a + 1))

pub written_two : (directed : Bool) (g : GraphOf) → FirstTwo (written directed g)
written_two directed g =
    subst FirstTwo (sym (written_is directed g))
    (first_two_of (λ v. map (ends_at g v) (numbers_at directed g v)) (λ v. All-map (λ (e : Insertion). e.from ≡ v) (ends_at g v) (numbers_at directed g v) (λ i d h. refl)) (n_of g) 0)

-- ---- the graph of an outline of arcs
some_directed : (o : Outline) → IsOutline o → (ls : List Insertion) → All (IsLink (length o.names)) ls → length ls ≤ 1000000 → FirstTwo ls → ls ≢ [] → is_directed (with_all true (bare o) (reverse ls)) ≡ true
unfolding inserted
some_directed o is [] links few two some = absurd (some refl)
some_directed o is (e ∷ []) links few two some =
    let n = length o.names in
    let g = with_all true (bare o) (reverse []) in
    let x = all_arcs o is [] (All-nil (IsLink n)) (omega arith) in
    let first = All-head (IsLink n) e [] links in
    let x_n = x.n in
    let x_made = x.made in
    let from_low = first.from in
    let to_low = first.to in
    let from : e.from < n_of g = omega arith in
    ap is_directed (grown_step true (bare o) e [])
    ∙ newest_directed g e (extends-with_arc g e.from e.to e.len x.sound from (omega arith) first.len (omega arith)) from (λ down k same. absurd (omega arith))
some_directed o is (e ∷ (f ∷ ls)) links few two some =
    let n = length o.names in
    let earlier = with_all true (bare o) (reverse ls) in
    let g = with_all true (bare o) (reverse (f ∷ ls)) in
    let tail = All-tail (IsLink n) e (f ∷ ls) links in
    let y = all_arcs o is ls (All-tail (IsLink n) f ls tail) (omega arith) in
    let x = all_arcs o is (f ∷ ls) tail (omega arith) in
    let first = All-head (IsLink n) e (f ∷ ls) links in
    let second = All-head (IsLink n) f ls tail in
    let x_n = x.n in
    let x_made = x.made in
    let y_n = y.n in
    let y_made = y.made in
    let from_low = first.from in
    let to_low = first.to in
    let from_second = second.from in
    let to_second = second.to in
    let from : e.from < n_of g = omega arith in
    let from' : f.from < n_of earlier = omega arith in
    let more = extends-with_arc g e.from e.to e.len x.sound from (omega arith) first.len (omega arith) in
    let less = extends-with_arc earlier f.from f.to f.len y.sound from' (omega arith) second.len (omega arith) in
    let grown : g ≡ with_arc earlier f.from f.to f.len = grown_step true (bare o) f ls in
    let owner : owner_of g (made_of earlier) ≡ f.from = ap (λ a. owner_of a (made_of earlier)) grown ∙ newest_owner earlier f less from' in
    let listed : IsListed g f.from (made_of earlier) = subst (λ a. IsListed a f.from (made_of earlier)) (sym grown) (newest_listed earlier f less from') in
    let still = same_owner g (with_arc g e.from e.to e.len) more f.from (made_of earlier) listed in
    ap is_directed (grown_step true (bare o) e (f ∷ ls))
    ∙ newest_directed g e more from (λ down k same.
    let ordered = two down in
    let is_last : made_of earlier ≡ k = omega arith in
    let its : owner_of (with_arc g e.from e.to e.len) k ≡ f.from = ap (owner_of (with_arc g e.from e.to e.len)) (sym is_last) ∙ (still ∙ owner) in
    omega arith)

pub outline_directed : (o : Outline) → IsOutline o → o.directed ≡ true → FirstTwo o.links → o.links ≢ [] → is_directed (graph_of_outline o) ≡ true
outline_directed o is directed two some =
    ap is_directed (graph_is o ∙ ap (λ d. with_all d (bare o) (reverse o.links)) directed)
    ∙ some_directed o is o.links is.links (subst (λ d. arcs_of_links d (length o.links) ≤ 1000000) directed is.few_arcs) two some

-- ---- a directed graph has an arc
occurs_all : (k : ℕ) (ks : List ℕ) (p : ℕ → Bool) → ((j : ℕ) → p j ≡ true) → occurrences k (filter p ks) ≡ occurrences k ks
occurs_all k ks p all = ap (occurrences k) (keeps ks)
  where
    keeps : (js : List ℕ) → filter p js ≡ js
    keeps [] = refl
    keeps (j ∷ js) = rw (all j) (ap (λ l. j ∷ l) (keeps js))

occurs_in_range : (lists : ℕ → List ℕ) (k w n a : ℕ) → a ≤ w → w < a + n → occurrences k (lists w) ≤ occurrences k (flat_map lists (range_with_len a n))
occurs_in_range lists k w zero a low high = absurd (omega arith)
occurs_in_range lists k w (suc n) a low high =
    let both = occurs_append k (lists a) (flat_map lists (range_with_len (a + 1) n)) in
    elim (cases_order a w) [
      | inl same ↦ let here : occurrences k (lists a) ≡ occurrences k (lists w) = ap (λ v. occurrences k (lists v)) same in omega arith
      | inr (inl less) ↦ let rest = occurs_in_range lists k w n (a + 1) (omega arith) (omega arith) in omega arith
      | inr (inr more) ↦ absurd (omega arith)
    ]

module _ (g : GraphOf) (sound : IsGraph g) (none : written true g ≡ []) where
  nothing_in : all_of g (numbers_at true g) ≡ []
  nothing_in = nil_from_length (all_of g (numbers_at true g)) (sym (length_is true g) ∙ ap length none)

  none_listed : (v k : ℕ) → IsListed g v k → ⊥
  none_listed v k listed =
      let inside = (listed_live g k v sound listed).vertex in
      let some = occurs_in_range (numbers_at true g) k v (n_of g) 0 (omega arith) (omega arith) in
      let same = occurs_all k (arcs_of g v) (up_at true g v) (λ j. refl) in
      let empty = ap (occurrences k) nothing_in in
      omega arith

  no_arcs : (v : ℕ) → arcs_of g v ≡ []
  no_arcs v = go (arcs_of g v) (λ k. none_listed v k)
    where
      go : (ks : List ℕ) → ((k : ℕ) → 0 < occurrences k ks → ⊥) → ks ≡ []
      go [] listed = refl
      go (k ∷ ks) listed = absurd (listed k (omega (arith, occurs_yes k k ks refl)))

  none_halved : Halved g
  none_halved = record {
    matched = λ k. elim (cases_Bool (has_arc g k)) [
      | inl live ↦ absurd (none_listed (owner_of g k) k (live_listed g k sound live))
      | inr hole ↦ matched_hole g k hole
    ];
    loops = λ v. ap (are_loops_paired g v) (no_arcs v) ∙ none_alone g v;
    even = λ v. ap (list_all (even_at g)) (ap (λ ks. filter (up_at false g v) (without_halves g v ks)) (no_arcs v) ∙ ap (filter (up_at false g v)) (no_walk g v));
  }

pub some_written : (g : GraphOf) → IsGraph g → is_directed g ≡ true → written true g ≢ []
some_written g sound directed none = let undirected = halved_undirected g (none_halved g sound none) in let both : true ≡ false = sym directed ∙ undirected in cc
