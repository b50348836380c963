-- Lemmas on a whole list of edges: its header as it is read, its faults, and its outline.
use Rattle.std.proofs.Common.{◌≡◌, ◌≤◌, ◌-◌, ◌^◌, ◌==◌, ◌||◌, ℕ, List, length, map, min, Bool, true, false, not, codes, Option, Some, None, option_map, nat_le, ◌⊎◌, inl, inr, refl, sym, ap, ap₂, subst, ◌∙◌, arith, lit≤}
use Rattle.std.specs.Option.{option_or}
use Rattle.std.proofs.lemmas.Bool.{and_parts, cases_eq, eq-eqb, le-leb, leb-true, ne_eqb}
use Rattle.std.proofs.lemmas.Bool.Decides.{leb_tells}
use Rattle.std.proofs.lemmas.List.{length-map}
use Rattle.sgb_graph.specs.Builder.{Insertion}
use Rattle.sgb_graph.specs.Graph.{IsId}
use Rattle.sgb_graph.specs.Sound.{is_id, is_text}
use Rattle.sgb_import.specs.declared.edges_header.Header.{Header}
use Rattle.sgb_import.specs.declared.outline.Link.{Link}
use Rattle.sgb_import.specs.declared.outline.Names.{Names}
use Rattle.sgb_import.specs.declared.refusal.ImportRefusal.{ImportRefusal}
use Rattle.sgb_import.specs.declared.refusal.ImportRefusal.TheVariants.{NoRoom}
use Rattle.sgb_import.specs.declared.refusal.TextFault.{TextFault}
use Rattle.sgb_import.specs.declared.refusal.TextFault.TheVariants.{BadId, NotDirected, TooManyVertices, WrongEdges, WrongVertices}
use Rattle.sgb_import.specs.declared.source.EdgeList.{EdgeList}
use Rattle.sgb_import.specs.Edges.{Ends, count_fault, directed_by, edges_in, end_fault, end_words, fault_behind, first_line_fault, first_ones, header_fault, header_of, id_fault, id_line, id_of, last_fault, link_of, most_vertices, names_of, outline_of_edges, refusal_of_edges}
use Rattle.sgb_import.specs.Lines.{LineOf, lines}
use Rattle.sgb_import.specs.Outline.{IsOutline, Outline, arcs_of_links}
use Rattle.sgb_import.specs.Private.EdgesRead.{IsRead, announced_fault, capped}
use Rattle.sgb_import.specs.Private.Outlined.{insertion_of, names_in}
use Rattle.sgb_import.specs.Refusal.{at_line, fault_unless}
use Rattle.sgb_import.proofs.EdgeNames.{text_of_test}
use Rattle.sgb_import.proofs.EdgesSoFar.{later, names_by_word}

-- ---- a header whose numbers are capped
abbrev most : ℕ
most = 2 ^ 64 - 1

abbrev with_edges : Header → ℕ → Header
with_edges h m = record { line = h.line; directed = h.directed; vertices = h.vertices; edges = m }

few_alike : (a b : ℕ) → (a ≤ 65535 → b ≤ 65535) → (b ≤ 65535 → a ≤ 65535) → nat_le a 65535 ≡ nat_le b 65535
few_alike a b to from =
    elim (leb_tells a 65535) [
      | inl few ↦ few.0 ∙ sym (le-leb b 65535 (to few.1))
      | inr many ↦ elim (leb_tells b 65535) [
        | inl other ↦ absurd (let bad : a ≤ 65535 = from other.1 in omega (arith, bad, many.1))
        | inr more ↦ many.0 ∙ sym more.0
      ]
    ]

pub capped_fault : (list : EdgeList) (header : Option Header) → header_fault list (option_map capped header) ≡ header_fault list header
capped_fault list None = refl
capped_fault list (Some h) =
    ap (λ few. at_line h.line (fault_unless (not list.directed || h.directed) NotDirected (fault_unless few TooManyVertices None)))
    (few_alike (min h.vertices most) h.vertices (λ few. omega (arith, few)) (λ few. omega (arith, few)))

-- the header is read as it stands, but for the number of edges where it is large
pub record IsSame (list : EdgeList) (seen said : Option Header) : Type 0 where
  pub lines : (ls : List LineOf) → first_line_fault list seen ls ≡ first_line_fault list said ls
  pub last : (es : List Ends) → length es ≤ 1000000 → last_fault list seen es ≡ last_fault list said es
  pub names : (es : List Ends) → names_of list seen es ≡ names_of list said es
  pub directed : directed_by list seen ≡ directed_by list said
  pub few : most_vertices seen ≤ 65535

same_lines : (list : EdgeList) (h : Header) (m : ℕ) (ls : List LineOf) → first_line_fault list (Some (with_edges h m)) ls ≡ first_line_fault list (Some h) ls
unfolding fault_behind end_fault count_fault
same_lines list h m ls = refl

same_names : (list : EdgeList) (h : Header) (m : ℕ) (es : List Ends) → names_of list (Some (with_edges h m)) es ≡ names_of list (Some h) es
unfolding names_of
same_names list h m es = refl

as_many : (n m : ℕ) → n ≤ 1000000 → (n == min m most) ≡ (n == m)
as_many n m few =
    elim (cases_eq n m) [
      | inl same ↦ (let low : n ≡ min m most = omega (arith, same, few) in eq-eqb n (min m most) low ∙ sym (eq-eqb n m same))
      | inr other ↦ ne_eqb n (min m most) (λ e. other (omega (arith, e, few))) ∙ sym (ne_eqb n m other)
    ]

at_line_none : (line : ℕ) (f : Option TextFault) → at_line line f ≡ None → f ≡ None
at_line_none line None none = refl
at_line_none line (Some f) none = absurd cc

capped_is : (list : EdgeList) (h : Header) → header_fault list (Some (capped h)) ≡ None → (capped h ≡ with_edges h (min h.edges most)) × (h.vertices ≤ 65535)
capped_is list h none =
    let few_said : nat_le (min h.vertices most) 65535 ≡ true =
    (later (nat_le (min h.vertices most) 65535) TooManyVertices None
    (later (not list.directed || h.directed) NotDirected (fault_unless (nat_le (min h.vertices most) 65535) TooManyVertices None)
    (at_line_none h.line (fault_unless (not list.directed || h.directed) NotDirected (fault_unless (nat_le (min h.vertices most) 65535) TooManyVertices None)) none)).1).0 in
    let few : min h.vertices most ≤ 65535 = leb-true (min h.vertices most) 65535 few_said in
    let same : min h.vertices most ≡ h.vertices = omega (arith, few) in
    (ap (λ n. record { line = h.line; directed = h.directed; vertices = n; edges = min h.edges most }) same, omega (arith, few, same))

pub same_header : (list : EdgeList) (said seen : Option Header) → seen ≡ option_map capped said → header_fault list seen ≡ None → IsSame list seen said
same_header list None seen is none =
    subst (λ s. IsSame list s None) (sym is)
    (record { lines = λ ls. refl; last = λ es few. refl; names = λ es. refl; directed = refl; few = omega arith })
same_header list (Some h) seen is none =
    let known = capped_is list h (subst (λ s. header_fault list s ≡ None) is none) in
    subst (λ s. IsSame list s (Some h)) (sym (is ∙ ap (λ k. Some k) known.0))
    (record {
      lines = same_lines list h (min h.edges most);
      last = λ es few.
          ap (λ b. at_line h.line (fault_unless b WrongEdges (fault_unless (not list.names || (length (first_ones (end_words es)) == h.vertices)) WrongVertices None)))
          (as_many (length es) h.edges few);
      names = same_names list h (min h.edges most);
      directed = refl;
      few = known.1;
    })

-- ---- the counts
equal_of : (b : Bool) (x y m : ℕ) (f : TextFault) → (b ≡ true → x ≡ y) → fault_unless (not b || (x == m)) f None ≡ fault_unless (not b || (y == m)) f None
equal_of true x y m f same = ap (λ k. fault_unless (k == m) f None) (same refl)
equal_of false x y m f same = refl

pub announced_is : (list : EdgeList) (header : Option Header) (es : List Ends) (names edges : ℕ) → names ≡ length (names_of list header es) → edges ≡ length es
    → announced_fault list header names edges ≡ last_fault list header es
announced_is list None es names edges n m = refl
announced_is list (Some h) es names edges n m =
    ap₂ (λ k o. at_line h.line (fault_unless (k == h.edges) WrongEdges o)) m
    (equal_of list.names names (length (first_ones (end_words es))) h.vertices WrongVertices
    (λ is. n ∙ ap (λ ns. length ns) (names_by_word list (Some h) es is)))

-- ---- what is refused
module _ (list : EdgeList) (text : List ℕ) where
  pub refused_header : {e : ImportRefusal} → header_fault list (header_of (lines text)) ≡ Some e → refusal_of_edges list text ≡ Some e
  unfolding refusal_of_edges
  refused_header is = rw is refl

  pub refused_id : {e : ImportRefusal} → header_fault list (header_of (lines text)) ≡ None → id_fault (id_line (lines text)) ≡ Some e → refusal_of_edges list text ≡ Some e
  unfolding refusal_of_edges
  refused_id none is = rw (none, is) refl

  pub refused_lines : {o : Option ImportRefusal} → header_fault list (header_of (lines text)) ≡ None → id_fault (id_line (lines text)) ≡ None
      → option_or (first_line_fault list (header_of (lines text)) (lines text)) (last_fault list (header_of (lines text)) (edges_in (lines text))) ≡ o → refusal_of_edges list text ≡ o
  unfolding refusal_of_edges
  refused_lines none no_id is = rw (none, no_id) is

-- ---- the id
default_id : IsId (codes "import(edges)")
default_id = record { text = record { short = lit≤ tt; printable = refl }; short = lit≤ tt }

pub id_is : (line : Option LineOf) → id_fault line ≡ None → IsId (id_of line)
id_is None none = default_id
id_is (Some l) none =
    let is : is_id l.bytes ≡ true = (later (is_id l.bytes) BadId None (at_line_none l.number (fault_unless (is_id l.bytes) BadId None) none)).0 in
    let p = and_parts (is_text l.bytes) (nat_le (length l.bytes) 160) is in
    record { text = text_of_test l.bytes p.0; short = leb-true (length l.bytes) 160 p.1 }

-- ---- what is answered
abbrev outline : List ℕ → List (List ℕ) → Bool → List Insertion → Outline
outline id names directed links = record { id = id; names = names; directed = directed; links = links }

few_links : (d : Bool) (m : ℕ) → arcs_of_links d m ≤ 1000000 → m ≤ 1000000
few_links true m few = few
few_links false m few = omega (arith, few)

module _ (list : EdgeList) (text : List ℕ) (seen : Option Header) (seen_is : seen ≡ option_map capped (header_of (lines text))) where
  pub header_refused : {o : Option ImportRefusal} → header_fault list seen ≡ o → header_fault list (header_of (lines text)) ≡ o
  header_refused is = sym (ap (header_fault list) seen_is ∙ capped_fault list (header_of (lines text))) ∙ is

  pub line_of_edges_refused : {e : ImportRefusal} → header_fault list seen ≡ None → id_fault (id_line (lines text)) ≡ None
      → (e ≡ NoRoom) ⊎ (first_line_fault list seen (lines text) ≡ Some e) → (e ≡ NoRoom) ⊎ (refusal_of_edges list text ≡ Some e)
  line_of_edges_refused none no_id (inl room) = inl room
  line_of_edges_refused none no_id (inr is) =
      let same = same_header list (header_of (lines text)) seen seen_is none in
      inr (refused_lines list text (header_refused none) no_id
      (ap (λ o. option_or o (last_fault list (header_of (lines text)) (edges_in (lines text)))) (sym (same.lines (lines text)) ∙ is)))

  -- the header and the id are in order, and the lines are read
  module _ (ns : Names) (ls : List Link) (none : header_fault list seen ≡ None) (no_id : id_fault (id_line (lines text)) ≡ None) (read : IsRead list seen (edges_in (lines text)) ns ls) where
    as_many_links : length (edges_in (lines text)) ≡ length ls
    as_many_links =
        sym (length-map (edges_in (lines text)) (link_of list (names_of list seen (edges_in (lines text)))))
        ∙ (ap (λ xs. length xs) (sym read.links) ∙ length-map ls insertion_of)

    pub counts_told : (n m : ℕ) {o : Option ImportRefusal} → first_line_fault list seen (lines text) ≡ None → n ≡ length (names_in ns) → m ≡ length ls
        → announced_fault list seen n m ≡ o → refusal_of_edges list text ≡ o
    counts_told n m no_line n_is m_is is =
        let same = same_header list (header_of (lines text)) seen seen_is none in
        let few : length (edges_in (lines text)) ≤ 1000000 = omega (arith, as_many_links, few_links (directed_by list seen) (length ls) read.few_arcs) in
        refused_lines list text (header_refused none) no_id
        (ap (λ o. option_or o (last_fault list (header_of (lines text)) (edges_in (lines text)))) (sym (same.lines (lines text)) ∙ no_line)
        ∙ (sym (same.last (edges_in (lines text)) few)
        ∙ (sym (announced_is list seen (edges_in (lines text)) n m (n_is ∙ ap (λ xs. length xs) read.names) (m_is ∙ sym as_many_links)) ∙ is)))

    pub outline_told : (id : List ℕ) (directed : Bool) → id ≡ id_of (id_line (lines text)) → directed ≡ directed_by list seen
        → record { id = id; names = names_in ns; directed = directed; links = map insertion_of ls } ≡ outline_of_edges list text
    unfolding outline_of_edges
    outline_told id directed id_is directed_is =
        let same = same_header list (header_of (lines text)) seen seen_is none in
        let es : List Ends = edges_in (lines text) in
        ap (λ i. outline i (names_in ns) directed (map insertion_of ls)) id_is
        ∙ (ap (λ d. outline (id_of (id_line (lines text))) (names_in ns) d (map insertion_of ls)) (directed_is ∙ same.directed)
        ∙ (ap (λ links. outline (id_of (id_line (lines text))) (names_in ns) (directed_by list (header_of (lines text))) links) read.links
        ∙ ap₂ (λ xs ys. outline (id_of (id_line (lines text))) xs (directed_by list (header_of (lines text))) (map (link_of list ys) es))
        (read.names ∙ same.names es) (same.names es)))

    pub outline_sound : (id : List ℕ) (directed : Bool) → id ≡ id_of (id_line (lines text)) → directed ≡ directed_by list seen
        → IsOutline (record { id = id; names = names_in ns; directed = directed; links = map insertion_of ls })
    outline_sound id directed same_id directed_is =
        let same = same_header list (header_of (lines text)) seen seen_is none in
        record {
          id = subst IsId (sym same_id) (id_is (id_line (lines text)) no_id);
          names = read.text;
          few_vertices = omega (arith, read.few_names, same.few);
          links = read.fits;
          few_arcs =
              subst (λ d. arcs_of_links d (length (map insertion_of ls)) ≤ 1000000) (sym directed_is)
              (subst (λ m. arcs_of_links (directed_by list seen) m ≤ 1000000) (sym (length-map ls insertion_of)) read.few_arcs);
        }
