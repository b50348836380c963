-- The exported list of edges by names is read as a graph with the same list, if names stand in it in the order of the vertices.
use Rattle.std.proofs.Common.{◌≡◌, ◌≢◌, ◌<◌, ◌≤◌, ◌+◌, ℕ, suc, List, [], ◌∷◌, ◌++◌, length, get_or, map, unwrap_or, Option, Some, None, Bool, true, false, not, ◌||◌, ◌==◌, nat_le, cond, inl, inr, All, IsTrue, refl, sym, ap, ap₂, subst, ◌∙◌, arith, zero-add}
use Rattle.std.specs.Cmp.Lexicographic.{pointwise}
use Rattle.std.specs.Fmt.{signed_decimal}
use Rattle.std.specs.List.{flat_map, list_all, list_any, position_or_len, range_with_len}
use Rattle.std.specs.Option.{option_or}
use Rattle.std.specs.Str.{bytes_eq}
use Rattle.std.proofs.lemmas.Bool.{and_from, and_parts, cases_Bool, cases_order, eq-eqb, eqb-false, eqb-true, le-leb, ne_eqb}
use Rattle.std.proofs.lemmas.List.Concat.{flat_map-append}
use Rattle.std.proofs.lemmas.List.Elements.{All-cons, All-from_get_or, All-head, All-nil, All-tail, All-weaker}
use Rattle.std.proofs.lemmas.List.Folds.{list_any_at}
use Rattle.std.proofs.lemmas.List.FromFn.{get_or-map-range_with_len, get_or-range_with_len, length-map-range_with_len, length-range_with_len}
use Rattle.std.proofs.lemmas.List.Sums.{position_or_len_is}
use Rattle.std.proofs.lemmas.Slice.Eq.{bytes_eq-Decides}
use Rattle.sgb_graph.specs.declared.refusal.Refusal.TheVariants.{BadOperand}
use Rattle.sgb_graph.specs.Builder.{Insertion, insertion}
use Rattle.sgb_graph.specs.Edit.{refusal_unless}
use Rattle.sgb_graph.specs.Graph.{GraphOf, IsGraph, label_of, n_of, no_vertex, occurrences}
use Rattle.sgb_graph.specs.Read.{leads_on}
use Rattle.sgb_graph.specs.Sound.{is_text}
use Rattle.sgb_graph.specs.Text.{IsText}
use Rattle.sgb_graph.proofs.Counts.{any_some, occurs_at, occurs_more, occurs_yes}
use Rattle.sgb_graph.proofs.PairedLemmas.{below_all}
use Rattle.sgb_export.specs.declared.format.Format.TheVariants.{NamedEdges}
use Rattle.sgb_export.specs.Edges.{are_distinct, are_plain, is_new, is_plain}
use Rattle.sgb_export.specs.Export.{refusal_of_export}
use Rattle.sgb_export.specs.Links.{is_directed, links}
use Rattle.sgb_export.specs.Text.{export_text, link_text, links_text, listed_text, vertices_text}
use Rattle.sgb_import.specs.declared.edges_header.Header.{Header}
use Rattle.sgb_import.specs.declared.refusal.TextFault.TheVariants.{WrongVertices}
use Rattle.sgb_import.specs.declared.source.EdgeList.{EdgeList}
use Rattle.sgb_import.specs.Edges.{Ends, count_fault, end_fault, end_words, first_ones, link_of, names_of, outline_of_edges, refusal_of_edges, vertex_no}
use Rattle.sgb_import.specs.Laws.{AreMetInOrder, IsMet, by_names, written}
use Rattle.sgb_import.specs.Numbers.{natural_of}
use Rattle.sgb_import.specs.Outline.{IsLink, IsOutline, Outline, arcs_of_links, graph_of_outline}
use Rattle.sgb_import.specs.Refusal.{fault_unless}
use Rattle.sgb_import.proofs.DirectedLists.{outline_directed, some_written, written_two}
use Rattle.sgb_import.proofs.EdgeReadings.{Printed, header, not_refused, outline_is, outline_said}
use Rattle.sgb_import.proofs.EdgeTexts.{AreEnds, IsEnd, counts_bytes, edge_lines, id_bytes, link_bytes}
use Rattle.sgb_import.proofs.EdgesBack.{asked_for, few_front, few_of_arcs, front_short, link_line, list_text, no_vertices, printed_links}
use Rattle.sgb_import.proofs.FewLinks.{few_links}
use Rattle.sgb_import.proofs.FirstOnes.{FirstNumbers, all_met, any_same, first_numbers, first_short, occurs_then}
use Rattle.sgb_import.proofs.NewNumbers.{map_same}
use Rattle.sgb_import.proofs.OutlineLinks.{id_of_outline, label_of_outline, n_of_outline, outline_undirected}
use Rattle.sgb_import.proofs.ReadBack.{IsLine, line_of_text, text_of_lines}
use Rattle.sgb_import.proofs.Written.{links_back, written_within}

-- ---- the exported text, line by line
named_text : (g : GraphOf) → export_text NamedEdges g ≡ text_of_lines (edge_lines (label_of g) (is_directed g) (n_of g) g.id (written (is_directed g) g))
unfolding export_text listed_text links_text
named_text g =
    let d = is_directed g in
    list_text (label_of g) g (vertices_text NamedEdges g) (links_text NamedEdges d g 0 (links d g)) (no_vertices (range_with_len 0 (n_of g)))
    (printed_links (link_text NamedEdges d g) (λ l. insertion l.from l.to l.len) (link_bytes (label_of g)) (λ k l. link_line (label_of g l.from) (label_of g l.to) (signed_decimal l.len)) 0 (links d g))

-- ---- names that an export accepts
names_accepted : (a b c : Bool) → option_or (refusal_unless a BadOperand None) (refusal_unless b BadOperand (refusal_unless c BadOperand None)) ≡ None → (b ≡ true) × (c ≡ true)
names_accepted true true true is = (refl, refl)
names_accepted true true false is = absurd cc
names_accepted true false c is = absurd cc
names_accepted false b c is = absurd cc

spaceless : (bs : List ℕ) → IsLine bs → list_all (λ b. not (b == 32)) bs ≡ true → All (λ b. 33 ≤ b) bs
spaceless [] is none = All-nil (λ b. 33 ≤ b)
spaceless (b ∷ bs) is none =
    let p = and_parts (not (b == 32)) (list_all (λ c. not (c == 32)) bs) none in
    let low = All-head (λ c. 32 ≤ c) b bs is in
    let high : 33 ≤ b =
    elim (cases_Bool (b == 32)) [
      | inl space ↦ absurd (let wrong : not (b == 32) ≡ false = ap not space in let right = p.0 in cc)
      | inr other ↦ let ne : b ≢ 32 = eqb-false b 32 other in omega arith
    ] in
    All-cons (λ c. 33 ≤ c) b bs high (spaceless bs (All-tail (λ c. 32 ≤ c) b bs is) p.1)

plain_end : (w : List ℕ) → IsText w → is_plain w ≡ true → IsEnd w
plain_end [] text plain = absurd cc
plain_end (c ∷ name) text plain =
    let p = and_parts (not (c == 35)) (list_all (λ b. not (b == 32)) (c ∷ name)) plain in
    record {
      word = record { some = omega arith; bytes = spaceless (c ∷ name) (line_of_text (c ∷ name) text) p.1 };
      plain = λ e. let hash : (c == 35) ≡ true = eq-eqb c 35 e in let wrong : not (c == 35) ≡ false = ap not hash in let right = p.0 in cc;
    }

text_is : (t : List ℕ) → IsText t → is_text t ≡ true
text_is t text = and_from (nat_le (length t) 4095) _ (le-leb (length t) 4095 text.short) text.printable

not_new : (b : Bool) → b ≡ true → not b ≡ true → ⊥
not_new true is new = absurd cc
not_new false is new = absurd cc

labels_differ : (g : GraphOf) → are_distinct g ≡ true → (m j : ℕ) → j < m → m < n_of g → label_of g m ≢ label_of g j
labels_differ g distinct m j low inside same =
    let new = below_all (is_new g) (n_of g) m distinct inside in
    let at : get_or (range_with_len 0 m) j 0 ≡ j = get_or-range_with_len 0 m j 0 low ∙ zero-add j in
    let equal : pointwise ◌==◌ (label_of g m) (label_of g j) ≡ true = (bytes_eq-Decides (label_of g m) (label_of g j)).1 same in
    not_new (list_any (λ w. pointwise ◌==◌ (label_of g m) (label_of g w)) (range_with_len 0 m))
    (list_any_at (λ w. pointwise ◌==◌ (label_of g m) (label_of g w)) (range_with_len 0 m) j 0 (omega (arith, length-range_with_len 0 m)) (ap (λ w. pointwise ◌==◌ (label_of g m) (label_of g w)) at ∙ equal)) new

unequal : (v w : List ℕ) → v ≢ w → bytes_eq v w ≡ false
unequal v w ne =
    elim (cases_Bool (bytes_eq v w)) [
      | inl same ↦ absurd (ne ((bytes_eq-Decides v w).0 same))
      | inr other ↦ other
    ]

same_test : (g : GraphOf) → are_distinct g ≡ true → (m j : ℕ) → m < n_of g → j < n_of g → bytes_eq (label_of g m) (label_of g j) ≡ (j == m)
same_test g distinct m j low low' =
    elim (cases_order j m) [
      | inl same ↦ (bytes_eq-Decides (label_of g m) (label_of g j)).1 (ap (label_of g) (sym same)) ∙ sym (eq-eqb j m same)
      | inr (inl less) ↦ unequal (label_of g m) (label_of g j) (labels_differ g distinct m j less low) ∙ sym (ne_eqb j m (λ e. omega arith))
      | inr (inr more) ↦ unequal (label_of g m) (label_of g j) (λ e. labels_differ g distinct j m more low' (sym e)) ∙ sym (ne_eqb j m (λ e. omega arith))
    ]

-- ---- the numbers of the endpoints
abbrev pub ends_of_links : List Insertion → List ℕ
ends_of_links = flat_map (λ (e : Insertion). e.from ∷ e.to ∷ [])

pub words_of_ends : (word : ℕ → List ℕ) (es : List Insertion) → end_words (map (by_names word) es) ≡ map word (ends_of_links es)
words_of_ends word [] = refl
words_of_ends word (e ∷ es) = ap (λ ws. word e.from ∷ (word e.to ∷ ws)) (words_of_ends word es)

ends_low : (n : ℕ) (es : List Insertion) → All (IsLink n) es → All (λ k. k < n) (ends_of_links es)
ends_low n [] all = All-nil (λ k. k < n)
ends_low n (e ∷ es) all =
    let here = All-head (IsLink n) e es all in
    All-cons (λ k. k < n) e.from (e.to ∷ ends_of_links es) here.from
    (All-cons (λ k. k < n) e.to (ends_of_links es) here.to (ends_low n es (All-tail (IsLink n) e es all)))

-- a test that some element passes
met_somewhere : (v : ℕ) (es : List Insertion) → IsTrue (list_any (λ e. e.from == v || e.to == v) es) → 0 < occurrences v (ends_of_links es)
met_somewhere v [] some = absurd cc
met_somewhere v (e ∷ es) some =
    let rest = ends_of_links es in
    let more = occurs_more v e.from (e.to ∷ rest) in
    let more' = occurs_more v e.to rest in
    elim (cases_Bool (e.from == v)) [
      | inl first ↦ omega (arith, occurs_yes v e.from (e.to ∷ rest) (eqb-true e.from v first))
      | inr other ↦ elim (cases_Bool (e.to == v)) [
        | inl second ↦ omega (arith, more, occurs_yes v e.to rest (eqb-true e.to v second))
        | inr neither ↦
            let later : list_any (λ (f : Insertion). f.from == v || f.to == v) es ≡ true = sym (ap₂ (λ a b. a || b || list_any (λ (f : Insertion). f.from == v || f.to == v) es) other neither) ∙ some in
            let found = met_somewhere v es later in
            omega arith
      ]
    ]

-- each link's own endpoints
abbrev pub EndsOccur : List ℕ → Insertion → Type 0
EndsOccur ks e = (0 < occurrences e.from ks) × (0 < occurrences e.to ks)

pub ends_occur : (es : List Insertion) → All (EndsOccur (ends_of_links es)) es
ends_occur [] = All-nil (EndsOccur [])
ends_occur (e ∷ es) =
    let rest = ends_of_links es in
    let all = e.from ∷ (e.to ∷ rest) in
    let deeper : (k : ℕ) → occurrences k rest ≤ occurrences k all = λ k. omega (arith, occurs_more k e.from (e.to ∷ rest), occurs_more k e.to rest) in
    All-cons (EndsOccur all) e es
    (omega (arith, occurs_yes e.from e.from (e.to ∷ rest) refl), omega (arith, occurs_more e.to e.from (e.to ∷ rest), occurs_yes e.to e.to rest refl))
    (All-weaker (EndsOccur rest) (EndsOccur all) (λ f h. let a = deeper f.from in let b = deeper f.to in (omega arith, omega arith)) es (ends_occur es))

-- ---- a name is found where it stands
found_at : (p : List ℕ → Bool) (ws : List (List ℕ)) → list_any p ws ≡ true → p (get_or ws (position_or_len p ws) []) ≡ true
found_at p [] some = absurd cc
found_at p (w ∷ ws) some =
    let place : Bool → ℕ = λ b. let m : ℕ = cond (not b) (1 + position_or_len p ws) 0 in m in
    elim (cases_Bool (p w)) [
      | inl here ↦ ap (λ b. p (get_or (w ∷ ws) (place b) [])) here ∙ here
      | inr past ↦
          let next : 1 + position_or_len p ws ≡ suc (position_or_len p ws) = omega arith in
          ap (λ b. p (get_or (w ∷ ws) (place b) [])) past ∙ (ap (λ k. p (get_or (w ∷ ws) k [])) next ∙ found_at p ws (sym (ap (λ b. b || list_any p ws) past) ∙ some))
    ]

read_name : (names : List (List ℕ)) (w : List ℕ) → list_any (bytes_eq w) names ≡ true → get_or names (position_or_len (bytes_eq w) names) [] ≡ w
read_name names w some =
    sym ((bytes_eq-Decides w (get_or names (position_or_len (bytes_eq w) names) [])).0 (found_at (bytes_eq w) names some))

pub links_told : (list : EdgeList) (names : List (List ℕ)) (word : ℕ → List ℕ) (ks : List ℕ) → list.names ≡ true → ((k : ℕ) → 0 < occurrences k ks → list_any (bytes_eq (word k)) names ≡ true)
    → (es : List Insertion) → All (EndsOccur ks) es → map (by_names (λ v. get_or names v [])) (map (link_of list names) (map (by_names word) es)) ≡ map (by_names word) es
links_told list names word ks named found [] all = refl
links_told list names word ks named found (e ∷ es) all =
    let here = All-head (EndsOccur ks) e es all in
    let told : (v : ℕ) → 0 < occurrences v ks → get_or names (vertex_no list names (word v)) [] ≡ word v =
    λ v some. ap (λ b. get_or names (cond b (position_or_len (bytes_eq (word v)) names) (unwrap_or (natural_of (word v)) 0)) []) named ∙ read_name names (word v) (found v some) in
    ap₂ (λ x xs. x ∷ xs) (ap₂ (λ a b. record { from = a; to = b; len = e.len }) (told e.from here.0) (told e.to here.1))
    (links_told list names word ks named found es (All-tail (EndsOccur ks) e es all))

-- ---- the whole list
name_fine : (list : EdgeList) (h : Option Header) (w : List ℕ) → list.names ≡ true → is_text w ≡ true → end_fault list h w ≡ None
unfolding end_fault
name_fine list h w named text = rw (named, text) refl

names_counted : (list : EdgeList) (directed : Bool) (n m : ℕ) (front : List Ends) → length (first_ones (end_words front)) ≤ n → length front ≤ m → arcs_of_links directed m ≤ 1000000
    → count_fault list (Some (header directed n m)) front ≡ None
unfolding count_fault
names_counted list directed n m front names less few =
    rw (le-leb (length (first_ones (end_words front))) n names, few_front directed (length front) m less few)
    (elim list.names as (λ b. fault_unless (not b || true) WrongVertices None ≡ None) [
      | true ↦ refl
      | false ↦ refl
    ])

module _ (list : EdgeList) (g : GraphOf) (sound : IsGraph g) (accepted : refusal_of_export NamedEdges g ≡ None) (named : list.names ≡ true) (asked : list.directed ≡ true → is_directed g ≡ true) where
  abbrev pub directed : Bool
  directed = is_directed g

  abbrev pub es : List Insertion
  es = written directed g

  abbrev pub label : ℕ → List ℕ
  label = label_of g

  pub links_in : All (IsLink (n_of g)) es
  links_in = written_within directed g sound

  pub names_fine : (are_plain g ≡ true) × (are_distinct g ≡ true)
  names_fine = names_accepted (list_all leads_on g.entries) (are_plain g) (are_distinct g) accepted

  pub label_text : (v : ℕ) → v < n_of g → IsText (label v)
  label_text v inside = (sound.vertices v no_vertex inside).label

  label_end : (v : ℕ) → v < n_of g → IsEnd (label v)
  label_end v inside = plain_end (label v) (label_text v inside) (below_all (λ w. is_plain (label w)) (n_of g) v names_fine.0 inside)

  pub tests : (m j : ℕ) → m < n_of g → j < n_of g → bytes_eq (label m) (label j) ≡ (j == m)
  tests = same_test g names_fine.1

  pub few : arcs_of_links directed (length es) ≤ 1000000
  few = few_links directed g sound (λ is. is)

  ends_in : All (λ k. k < n_of g) (ends_of_links es)
  ends_in = ends_low (n_of g) es links_in

  pub firsts : (ks : List ℕ) × FirstNumbers label (ends_of_links es) ks
  firsts = first_numbers label (n_of g) tests (ends_of_links es) ends_in

  -- the names as they are met; and that they are as many as there are vertices
  abbrev pub met_first : List (List ℕ)
  met_first = first_ones (end_words (map (by_names label) es))

  abbrev pub AllMet : Type 0
  AllMet = length met_first ≡ n_of g

  pub met_all : ((v : ℕ) → v < n_of g → IsMet g v) → AllMet
  met_all met =
      ap (λ ws. length (first_ones ws)) (words_of_ends label es)
      ∙ all_met label (n_of g) (ends_of_links es) firsts.0 firsts.1 ends_in (λ v inside. met_somewhere v es (met v inside))

  abbrev labels : List (List ℕ)
  labels = map label (range_with_len 0 (n_of g))

  labels_count : length labels ≡ n_of g
  labels_count = length-map-range_with_len label 0 (n_of g)

  pub ordered_all : AreMetInOrder g → AllMet
  ordered_all met = ap length met ∙ labels_count

  printed : AllMet → Printed list label directed (n_of g) g.id es
  printed met = record {
    titled = sound.id;
    small = sound.few_vertices;
    few = few_of_arcs directed (length es) few;
    ends = All-weaker (IsLink (n_of g)) (AreEnds label) (λ e is. record { from = label_end e.from is.from; to = label_end e.to is.to; len = is.len }) es links_in;
    links = links_in;
    asked = asked_for list directed asked;
    fine = λ v inside. name_fine list (Some (header directed (n_of g) (length es))) (label v) named (text_is (label v) (label_text v inside));
    counts = λ front rest is.
        let all : end_words front ++ end_words rest ≡ end_words (map (by_names label) es) = sym (flat_map-append (λ (e : Ends). e.from ∷ e.to ∷ []) front rest) ∙ ap end_words is in
        names_counted list directed (n_of g) (length es) front
        (omega (arith, first_short (end_words front) (end_words rest), ap (λ ws. length (first_ones ws)) all, met))
        (front_short (by_names label) front rest es is) few;
    all = rw (eq-eqb (length (first_ones (end_words (map (by_names label) es)))) (n_of g) met)
        (elim list.names as (λ b. (not b || true) ≡ true) [
          | true ↦ refl
          | false ↦ refl
        ]);
  }

  pub named_not_refused : AllMet → refusal_of_edges list (export_text NamedEdges g) ≡ None
  named_not_refused met = ap (refusal_of_edges list) (named_text g) ∙ not_refused list label directed (n_of g) g.id es (printed met)

  names_are : names_of list (Some (header directed (n_of g) (length es))) (map (by_names label) es) ≡ first_ones (end_words (map (by_names label) es))
  unfolding names_of
  names_are = rw named refl

  -- ---- what it says
  pub firsts_in : All (λ j. j < n_of g) firsts.0
  firsts_in i d h = occurs_then (λ j. j < n_of g) (ends_of_links es) (get_or firsts.0 i d) ends_in (firsts.1.only (get_or firsts.0 i d) (occurs_at firsts.0 i d h))

  pub found : (k : ℕ) → 0 < occurrences k (ends_of_links es) → list_any (bytes_eq (label k)) (first_ones (end_words (map (by_names label) es))) ≡ true
  found k some =
      let ks = firsts.0 in
      let x = firsts.1 in
      let here = x.some k some in
      let low = firsts_in in
      ap (list_any (bytes_eq (label k))) (ap first_ones (words_of_ends label es) ∙ x.words)
      ∙ (any_same label (n_of g) tests k ks (occurs_then (λ j. j < n_of g) ks k low here) low ∙ any_some k ks here)

  pub named_said : AllMet → outline_of_edges list (export_text NamedEdges g) ≡ record { id = g.id; names = met_first; directed = directed; links = map (link_of list met_first) (map (by_names label) es) }
  named_said met = ap (outline_of_edges list) (named_text g) ∙ outline_said list label directed (n_of g) g.id es (printed met) met_first names_are

  -- the links that it says are, by its names, those that are written
  pub named_links : AllMet → map (by_names (λ v. get_or (outline_of_edges list (export_text NamedEdges g)).names v [])) (outline_of_edges list (export_text NamedEdges g)).links ≡ map (by_names label) es
  named_links met =
      ap (λ (o : Outline). map (by_names (λ v. get_or o.names v [])) o.links) (named_said met)
      ∙ links_told list met_first label (ends_of_links es) named found es (ends_occur es)

  -- ---- where names stand in the order of the vertices
  abbrev outlined : Outline
  outlined = record { id = g.id; names = labels; directed = directed; links = es }

  label_place : (v : ℕ) → v < n_of g → vertex_no list labels (label v) ≡ v
  label_place v inside =
      let at : (k : ℕ) → k < n_of g → get_or labels k [] ≡ label k = λ k low. get_or-map-range_with_len label 0 (n_of g) k k [] low (zero-add k) in
      ap (λ b. cond b (position_or_len (bytes_eq (label v)) labels) (unwrap_or (natural_of (label v)) 0)) named
      ∙ position_or_len_is (bytes_eq (label v)) labels v [] (omega (arith, labels_count))
      (λ k low. ap (bytes_eq (label v)) (at k (omega arith)) ∙ (tests v k inside (omega arith) ∙ ne_eqb k v (λ e. omega arith)))
      (λ low. ap (bytes_eq (label v)) (at v inside) ∙ (tests v v inside inside ∙ eq-eqb v v refl))

  named_outline : AreMetInOrder g → outline_of_edges list (export_text NamedEdges g) ≡ outlined
  named_outline met =
      ap (outline_of_edges list) (named_text g)
      ∙ outline_is list label directed (n_of g) g.id es (printed (ordered_all met)) labels (names_are ∙ met) label_place

  labels_text : All IsText labels
  labels_text = All-from_get_or IsText labels [] (λ i h.
      let inside : i < n_of g = omega (arith, labels_count) in
      subst IsText (sym (get_or-map-range_with_len label 0 (n_of g) i i [] inside (zero-add i))) (label_text i inside))

  is_outline : IsOutline outlined
  is_outline = record {
    id = sound.id;
    names = labels_text;
    few_vertices = let small = sound.few_vertices in omega (arith, labels_count);
    links = subst (λ n. All (IsLink n) es) (sym labels_count) links_in;
    few_arcs = few;
  }

  same_direction : is_directed (graph_of_outline outlined) ≡ is_directed g
  same_direction =
      elim (cases_Bool (is_directed g)) [
        | inl arcs ↦
            outline_directed outlined is_outline arcs (written_two directed g) (λ none. some_written g sound arcs (ap (λ d. written d g) (sym arcs) ∙ none)) ∙ sym arcs
        | inr edges ↦ outline_undirected outlined is_outline edges ∙ sym edges
      ]

  same_labels : (v : ℕ) → v < n_of g → label_of (graph_of_outline outlined) v ≡ label v
  same_labels v inside = label_of_outline outlined v ∙ get_or-map-range_with_len label 0 (n_of g) v v [] inside (zero-add v)

  same_text : export_text NamedEdges (graph_of_outline outlined) ≡ export_text NamedEdges g
  same_text =
      let h = graph_of_outline outlined in
      let form : (ℕ → List ℕ) → Bool → ℕ → List ℕ → List Insertion → List ℕ = λ word d n id ls. text_of_lines (edge_lines word d n id ls) in
      let lines : map (link_bytes (label_of h)) es ≡ map (link_bytes label) es =
      map_same (link_bytes (label_of h)) (link_bytes label) es
      (All-weaker (IsLink (n_of g)) (λ e. link_bytes (label_of h) e ≡ link_bytes label e)
      (λ e is. ap₂ (λ u v. u ++ (32 ∷ (v ++ (32 ∷ signed_decimal e.len)))) (same_labels e.from is.from) (same_labels e.to is.to)) es links_in) in
      named_text h
      ∙ (ap (λ d. form (label_of h) d (n_of h) h.id (written d h)) same_direction
      ∙ (ap₂ (λ n id. form (label_of h) directed n id (written directed h)) (n_of_outline outlined ∙ labels_count) (id_of_outline outlined)
      ∙ (ap (form (label_of h) directed (n_of g) g.id) (links_back directed outlined g is_outline refl labels_count refl)
      ∙ (ap (λ ls. text_of_lines (counts_bytes directed (n_of g) (length es) ∷ (id_bytes g.id ∷ ls))) lines
      ∙ sym (named_text g)))))

  pub same_named : AreMetInOrder g → export_text NamedEdges (graph_of_outline (outline_of_edges list (export_text NamedEdges g))) ≡ export_text NamedEdges g
  same_named met = ap (λ o. export_text NamedEdges (graph_of_outline o)) (named_outline met) ∙ same_text
