-- The exported list of edges of a graph is read as a graph with the same list.
use Rattle.std.proofs.Common.{◌≡◌, ◌<◌, ◌≤◌, ◌+◌, ◌*◌, ◌^◌, ℕ, List, [], ◌∷◌, ◌++◌, codes, length, map, Some, None, Bool, true, false, not, ◌||◌, nat_le, inl, inr, All, refl, sym, ap, ap₂, subst, ◌∙◌, arith, append_assoc}
use Rattle.std.specs.Fmt.{decimal, signed_decimal}
use Rattle.std.specs.List.{enumerate_from, flat_map, range_with_len}
use Rattle.std.proofs.lemmas.Bool.{cases_Bool, le-leb, lt-ltb}
use Rattle.std.proofs.lemmas.List.{append-nil, length-append, length-map}
use Rattle.std.proofs.lemmas.List.Elements.{All-weaker}
use Rattle.sgb_graph.specs.Builder.{Insertion, insertion}
use Rattle.sgb_graph.specs.Graph.{GraphOf, IsGraph, n_of}
use Rattle.sgb_export.specs.declared.format.Format.TheVariants.{Edges}
use Rattle.sgb_export.specs.Dot.{kind}
use Rattle.sgb_export.specs.Edges.{counts_line, id_line}
use Rattle.sgb_export.specs.Links.{is_directed, links}
use Rattle.sgb_export.specs.Text.{export_text, link_text, links_text, listed_text, vertices_text}
use Rattle.sgb_import.specs.declared.source.EdgeList.{EdgeList}
use Rattle.sgb_import.specs.Edges.{Ends, count_fault, end_fault, names_of, outline_of_edges, refusal_of_edges, vertex_no}
use Rattle.sgb_import.specs.Laws.{by_names, written}
use Rattle.sgb_import.specs.Outline.{IsLink, IsOutline, Outline, arcs_of_links, graph_of_outline, numbered}
use Rattle.sgb_import.proofs.DirectedLists.{outline_directed, some_written, written_two}
use Rattle.sgb_import.proofs.EdgeNames.{length-numbered, numbered_text}
use Rattle.sgb_import.proofs.EdgeReadings.{Printed, header, not_refused, outline_is}
use Rattle.sgb_import.proofs.EdgeTexts.{AreEnds, IsEnd, counts_bytes, edge_lines, id_bytes, link_bytes}
use Rattle.sgb_import.proofs.FewLinks.{few_links}
use Rattle.sgb_import.proofs.OutlineLinks.{id_of_outline, n_of_outline, outline_undirected}
use Rattle.sgb_import.proofs.ReadBack.{first_of_decimal, natural_of_decimal, text_of_lines, word_of_decimal}
use Rattle.sgb_import.proofs.Written.{length-written, links_back, written_within}

-- ---- the exported text, line by line
pub no_vertices : (xs : List ℕ) → flat_map {X = ℕ} {A = ℕ} (λ v. []) xs ≡ []
no_vertices [] = refl
no_vertices (x ∷ xs) = no_vertices xs

pub printed_links : {X : Type 0} (f : ℕ → X → List ℕ) (h : X → Insertion) (b : Insertion → List ℕ) → ((k : ℕ) (x : X) → f k x ≡ b (h x) ++ 10 ∷ []) → (k : ℕ) (xs : List X)
    → flat_map (λ p. f p.0 p.1) (enumerate_from k xs) ≡ text_of_lines (map b (map h xs))
printed_links f h b same k [] = refl
printed_links f h b same k (x ∷ xs) = ap₂ (λ l rest. l ++ rest) (same k x) (printed_links f h b same (k + 1) xs)

pub link_line : (u v w : List ℕ) → u ++ codes " " ++ v ++ codes " " ++ w ++ codes "\n" ≡ (u ++ (32 ∷ (v ++ (32 ∷ w)))) ++ 10 ∷ []
link_line u v w = simp append_assoc

pub counts_is : (directed : Bool) (g : GraphOf) → counts_line directed g ≡ counts_bytes directed (n_of g) (length (written directed g)) ++ 10 ∷ []
counts_is directed g =
    ap (λ m. codes "# " ++ kind directed ++ codes " " ++ decimal (n_of g) ++ codes " " ++ decimal m ++ codes "\n") (sym (length-written directed g))
    ∙ simp append_assoc

pub id_is : (g : GraphOf) → id_line g ≡ id_bytes g.id ++ 10 ∷ []
id_is g = simp append_assoc

-- a head, no lines of vertices, and the lines of links
pub list_text : (word : ℕ → List ℕ) (g : GraphOf) (vs ls : List ℕ) → vs ≡ [] → ls ≡ text_of_lines (map (link_bytes word) (written (is_directed g) g))
    → (counts_line (is_directed g) g ++ id_line g) ++ (vs ++ (ls ++ [])) ≡ text_of_lines (edge_lines word (is_directed g) (n_of g) g.id (written (is_directed g) g))
list_text word g vs ls none links =
    let d = is_directed g in
    let c = counts_bytes d (n_of g) (length (written d g)) ++ 10 ∷ [] in
    let i = id_bytes g.id ++ 10 ∷ [] in
    ap₂ (λ h us. h ++ (us ++ (ls ++ []))) (ap₂ (λ x y. x ++ y) (counts_is d g) (id_is g)) none
    ∙ (append_assoc c i (ls ++ []) ∙ ap (λ l. c ++ (i ++ l)) (append-nil ls ∙ links))

edges_text : (g : GraphOf) → export_text Edges g ≡ text_of_lines (edge_lines decimal (is_directed g) (n_of g) g.id (written (is_directed g) g))
unfolding export_text listed_text links_text
edges_text g =
    let d = is_directed g in
    list_text decimal g (vertices_text Edges g) (links_text Edges d g 0 (links d g)) (no_vertices (range_with_len 0 (n_of g)))
    (printed_links (link_text Edges d g) (λ l. insertion l.from l.to l.len) (link_bytes decimal) (λ k l. link_line (decimal l.from) (decimal l.to) (signed_decimal l.len)) 0 (links d g))

-- ---- numbers as words
pub end_of_number : (v : ℕ) → v < 2 ^ 64 → IsEnd (decimal v)
end_of_number v small = record { word = word_of_decimal v small; plain = λ e. let low = first_of_decimal v small in omega arith }

number_ends : (n : ℕ) → n ≤ 65535 → (e : Insertion) → IsLink n e → AreEnds decimal e
number_ends n small e is =
    let a = is.from in
    let b = is.to in
    record { from = end_of_number e.from (omega arith); to = end_of_number e.to (omega arith); len = is.len }

number_fine : (list : EdgeList) (directed : Bool) (n m v : ℕ) → list.names ≡ false → n ≤ 65535 → v < n → end_fault list (Some (header directed n m)) (decimal v) ≡ None
unfolding end_fault
number_fine list directed n m v numbers small inside = rw (numbers, natural_of_decimal v (omega arith), lt-ltb v n inside) refl

pub front_short : {X Y : Type 0} (f : X → Y) (front rest : List Y) (xs : List X) → front ++ rest ≡ map f xs → length front ≤ length xs
front_short f front rest xs is = omega (arith, ap length is, length-append front rest, length-map xs f)

pub few_front : (directed : Bool) (k m : ℕ) → k ≤ m → arcs_of_links directed m ≤ 1000000 → nat_le (arcs_of_links directed k) 1000000 ≡ true
few_front true k m less few = le-leb k 1000000 (omega arith)
few_front false k m less few = le-leb (2 * k) 1000000 (omega arith)

pub few_of_arcs : (directed : Bool) (m : ℕ) → arcs_of_links directed m ≤ 1000000 → m ≤ 1000000
few_of_arcs true m few = few
few_of_arcs false m few = omega arith

numbers_counted : (list : EdgeList) (directed : Bool) (n m : ℕ) (front : List Ends) → list.names ≡ false → length front ≤ m → arcs_of_links directed m ≤ 1000000 → count_fault list (Some (header directed n m)) front ≡ None
unfolding count_fault
numbers_counted list directed n m front numbers less few = rw (numbers, few_front directed (length front) m less few) refl

pub asked_for : (list : EdgeList) (directed : Bool) → (list.directed ≡ true → directed ≡ true) → (not list.directed || directed) ≡ true
asked_for list directed is =
    elim (cases_Bool list.directed) [
      | inl asks ↦ rw (asks, is asks) refl
      | inr not_so ↦ rw not_so refl
    ]

-- ---- the outline
module _ (list : EdgeList) (g : GraphOf) (sound : IsGraph g) (numbers : list.names ≡ false) (asked : list.directed ≡ true → is_directed g ≡ true) where
  abbrev directed : Bool
  directed = is_directed g

  abbrev es : List Insertion
  es = written directed g

  few : arcs_of_links directed (length es) ≤ 1000000
  few = few_links directed g sound (λ is. is)

  printed : Printed list decimal directed (n_of g) g.id es
  printed = record {
    titled = sound.id;
    small = sound.few_vertices;
    few = few_of_arcs directed (length es) few;
    ends = All-weaker (IsLink (n_of g)) (AreEnds decimal) (number_ends (n_of g) sound.few_vertices) es (written_within directed g sound);
    links = written_within directed g sound;
    asked = asked_for list directed asked;
    fine = λ v inside. number_fine list directed (n_of g) (length es) v numbers sound.few_vertices inside;
    counts = λ front rest is. numbers_counted list directed (n_of g) (length es) front numbers (front_short (by_names decimal) front rest es is) few;
    all = rw numbers refl;
  }

  pub edges_not_refused : refusal_of_edges list (export_text Edges g) ≡ None
  edges_not_refused = ap (refusal_of_edges list) (edges_text g) ∙ not_refused list decimal directed (n_of g) g.id es printed

  abbrev outlined : Outline
  outlined = record { id = g.id; names = numbered 0 (n_of g); directed = directed; links = es }

  named : names_of list (Some (header directed (n_of g) (length es))) (map (by_names decimal) es) ≡ numbered 0 (n_of g)
  unfolding names_of
  named = rw numbers refl

  numbered_so : (v : ℕ) → v < n_of g → vertex_no list (numbered 0 (n_of g)) (decimal v) ≡ v
  numbered_so v inside = let small = sound.few_vertices in rw (numbers, natural_of_decimal v (omega arith)) refl

  pub edges_outline : outline_of_edges list (export_text Edges g) ≡ outlined
  edges_outline = ap (outline_of_edges list) (edges_text g) ∙ outline_is list decimal directed (n_of g) g.id es printed (numbered 0 (n_of g)) named numbered_so

  names_count : length (numbered 0 (n_of g)) ≡ n_of g
  names_count = length-numbered 0 (n_of g)

  is_outline : IsOutline outlined
  is_outline = record {
    id = sound.id;
    names = numbered_text 0 (n_of g) (let small = sound.few_vertices in omega arith);
    few_vertices = let small = sound.few_vertices in omega (arith, names_count);
    links = subst (λ n. All (IsLink n) es) (sym names_count) (written_within directed g sound);
    few_arcs = few;
  }

  pub same_direction : is_directed (graph_of_outline outlined) ≡ is_directed g
  same_direction =
      elim (cases_Bool (is_directed g)) [
        | inl arcs ↦
            outline_directed outlined is_outline arcs (written_two directed g) (λ none. some_written g sound arcs (ap (λ d. written d g) (sym arcs) ∙ none)) ∙ sym arcs
        | inr edges ↦ outline_undirected outlined is_outline edges ∙ sym edges
      ]

  -- its graph is exported as this one
  pub same_edges : export_text Edges (graph_of_outline outlined) ≡ export_text Edges g
  same_edges =
      let h = graph_of_outline outlined in
      let form : Bool → ℕ → List ℕ → List Insertion → List ℕ = λ d n id ls. text_of_lines (edge_lines decimal d n id ls) in
      edges_text h
      ∙ (ap (λ d. form d (n_of h) h.id (written d h)) same_direction
      ∙ (ap₂ (λ n id. form directed n id (written directed h)) (n_of_outline outlined ∙ names_count) (id_of_outline outlined)
      ∙ (ap (form directed (n_of g) g.id) (links_back directed outlined g is_outline refl names_count refl)
      ∙ sym (edges_text g))))
