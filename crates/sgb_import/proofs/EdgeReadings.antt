-- A list of edges that was printed is not refused, and says what was printed.
use Rattle.std.proofs.Common.{◌≡◌, ◌<◌, ◌≤◌, ◌+◌, ◌^◌, ℕ, zero, suc, List, [], ◌∷◌, ◌++◌, codes, length, map, take, drop, Option, Some, None, Bool, true, false, not, ◌||◌, ◌==◌, nat_le, cond, inl, inr, All, refl, sym, ap, ap₂, ◌∙◌, arith}
use Rattle.std.specs.Fmt.{decimal}
use Rattle.std.specs.List.{filter_map, list_all, range_with_len}
use Rattle.std.specs.Option.{option_map}
use Rattle.std.proofs.lemmas.Bool.{and_from, and_parts, eq-eqb, leb-true, le-leb}
use Rattle.std.proofs.lemmas.List.{length-map, take-append-drop, take_more}
use Rattle.std.proofs.lemmas.List.Elements.{All-append, All-cons, All-head, All-map, All-nil, All-tail, All-weaker, filter_map-append}
use Rattle.sgb_graph.specs.Builder.{Insertion, insertion}
use Rattle.sgb_graph.specs.Graph.{IsId}
use Rattle.sgb_graph.specs.Sound.{is_id}
use Rattle.sgb_export.specs.Dot.{kind}
use Rattle.sgb_import.specs.declared.edges_header.Header.{Header}
use Rattle.sgb_import.specs.declared.source.EdgeList.{EdgeList}
use Rattle.sgb_import.specs.Edges.{Ends, before_quote, count_fault, edge_fault, edge_of, edges_in, end_fault, end_words, ends_of, fault_behind, first_line_fault, first_ones, header_fault, header_of, header_of_words, header_with, id_fault, id_in, id_line, is_comment, kind_of, last_fault, line_at, line_fault, link_of, names_of, no_line, outline_of_edges, refusal_of_edges, vertex_no}
use Rattle.sgb_import.specs.Laws.{by_names}
use Rattle.sgb_import.specs.Lines.{LineOf, behind, lines, words}
use Rattle.sgb_import.specs.Numbers.{natural_of}
use Rattle.sgb_import.specs.Outline.{IsLink}
use Rattle.sgb_import.specs.Refusal.{at_line, first_some}
use Rattle.sgb_import.proofs.EdgeTexts.{AreEnds, EdgeLine, FineLine, comment_is, comment_no_edge, counts_bytes, counts_words, edge_line_of, edge_lines, edges_of_rest, fine_rest, hash_word, id_bytes, id_words, kind_word, link_bytes, no_edge_none, rest_lines}
use Rattle.sgb_import.proofs.ReadBack.{IsLine, line_of_text, line_of_word, lines_of_text, natural_of_decimal, numbered_from, text_of_lines, word_of_decimal, word_of_signed}

abbrev pub header : Bool → ℕ → ℕ → Header
header directed n m = record { line = 1; directed = directed; vertices = n; edges = m }

-- what is printed, and how it is to be read
pub record Printed (list : EdgeList) (word : ℕ → List ℕ) (directed : Bool) (size : ℕ) (id : List ℕ) (es : List Insertion) : Type 0 where
  pub titled : IsId id
  pub small : size ≤ 65535
  pub few : length es ≤ 1000000
  pub ends : All (AreEnds word) es
  pub links : All (IsLink size) es
  pub asked : (not list.directed || directed) ≡ true
  pub fine : (v : ℕ) → v < size → end_fault list (Some (header directed size (length es))) (word v) ≡ None
  pub counts : (front rest : List Ends) → front ++ rest ≡ map (by_names word) es → count_fault list (Some (header directed size (length es))) front ≡ None
  pub all : (not list.names || (length (first_ones (end_words (map (by_names word) es))) == size)) ≡ true

-- ---- its lines
line_more : (l rest : List ℕ) → IsLine l → IsLine rest → IsLine (l ++ (32 ∷ rest))
line_more l rest is more = All-append (λ b. 32 ≤ b) l (32 ∷ rest) is (All-cons (λ b. 32 ≤ b) 32 rest (omega arith) more)

low_bytes : (bs : List ℕ) → list_all (λ b. nat_le 32 b) bs ≡ true → IsLine bs
low_bytes [] all = All-nil (λ b. 32 ≤ b)
low_bytes (b ∷ bs) all =
    let p = and_parts (nat_le 32 b) (list_all (λ c. nat_le 32 c) bs) all in
    All-cons (λ c. 32 ≤ c) b bs (leb-true 32 b p.0) (low_bytes bs p.1)

counts_line : (directed : Bool) (n m : ℕ) → n < 2 ^ 64 → m < 2 ^ 64 → IsLine (counts_bytes directed n m)
counts_line directed n m small few =
    line_more (codes "#") (kind directed ++ (32 ∷ (decimal n ++ (32 ∷ decimal m)))) (line_of_word (codes "#") hash_word)
    (line_more (kind directed) (decimal n ++ (32 ∷ decimal m)) (line_of_word (kind directed) (kind_word directed))
    (line_more (decimal n) (decimal m) (line_of_word (decimal n) (word_of_decimal n small)) (line_of_word (decimal m) (word_of_decimal m few))))

id_bytes_line : (id : List ℕ) → IsId id → IsLine (id_bytes id)
id_bytes_line id is =
    All-append (λ b. 32 ≤ b) (codes "# id \"") (id ++ 34 ∷ []) (low_bytes (codes "# id \"") refl)
    (All-append (λ b. 32 ≤ b) id (34 ∷ []) (line_of_text id is.text) (low_bytes (34 ∷ []) refl))

link_bytes_line : (word : ℕ → List ℕ) (e : Insertion) → AreEnds word e → IsLine (link_bytes word e)
link_bytes_line word e is =
    line_more (word e.from) (word e.to ++ (32 ∷ _)) (line_of_word (word e.from) is.from.word)
    (line_more (word e.to) _ (line_of_word (word e.to) is.to.word) (line_of_word _ (word_of_signed e.len is.len)))

-- the lines of the text, of which the last is empty
abbrev all_lines : (ℕ → List ℕ) → Bool → ℕ → List ℕ → List Insertion → List LineOf
all_lines word directed n id es = numbered_from 1 (edge_lines word directed n id es ++ [] ∷ [])

abbrev first_line : Bool → ℕ → ℕ → LineOf
first_line directed n m = record { number = 1; bytes = counts_bytes directed n m }

abbrev second_line : List ℕ → LineOf
second_line id = record { number = 2; bytes = id_bytes id }

kind_read : (directed : Bool) → kind_of (kind directed) ≡ Some directed
kind_read true = refl
kind_read false = refl

header_words : (directed : Bool) (n m : ℕ) → n < 2 ^ 64 → m < 2 ^ 64 → header_of_words 1 (codes "#" ∷ (kind directed ∷ (decimal n ∷ (decimal m ∷ [])))) ≡ Some (header directed n m)
unfolding header_of_words
header_words directed n m small few =
    ap (λ k. header_with 1 k (natural_of (decimal n)) (natural_of (decimal m))) (kind_read directed)
    ∙ ap₂ (λ a b. header_with 1 (Some directed) a b) (natural_of_decimal n small) (natural_of_decimal m few)

quote_last : (id : List ℕ) → before_quote (id ++ 34 ∷ []) ≡ Some id
quote_last [] = refl
quote_last (b ∷ []) = refl
quote_last (b ∷ (c ∷ cs)) = ap (option_map (λ t. b ∷ t)) (quote_last (c ∷ cs))

no_id_first : (directed : Bool) (n m : ℕ) → id_in (first_line directed n m) ≡ None
unfolding id_in behind
no_id_first true n m = refl
no_id_first false n m = refl

id_second : (id : List ℕ) → id_in (second_line id) ≡ Some (record { number = 2; bytes = id })
unfolding id_in behind
id_second id = ap (option_map (λ t. record { number = 2; bytes = t })) (quote_last id)

range_none : {T : Type 0} (f : ℕ → Option T) (n a : ℕ) → ((i : ℕ) → a ≤ i → i < a + n → f i ≡ None) → first_some (map f (range_with_len a n)) ≡ None
range_none f zero a none = refl
range_none f (suc n) a none = rw (none a (omega arith) (omega arith)) (range_none f n (a + 1) (λ i low high. none i (omega arith) (omega arith)))

-- a text is not refused where none of its parts is at fault
none_of : (list : EdgeList) (text : List ℕ) (ls : List LineOf) (h : Option Header) (titled : Option LineOf) (es : List Ends) → lines text ≡ ls → header_of ls ≡ h → id_line ls ≡ titled → edges_in ls ≡ es
    → header_fault list h ≡ None → id_fault titled ≡ None → first_line_fault list h ls ≡ None → last_fault list h es ≡ None → refusal_of_edges list text ≡ None
unfolding refusal_of_edges
none_of list text ls h titled es lines_are header_is titled_is edges_are a b c d = rw (lines_are, header_is, titled_is, edges_are, a, b, c, d) refl

-- the links are those that were printed
links_read : (list : EdgeList) (names : List (List ℕ)) (word : ℕ → List ℕ) (n : ℕ) (es : List Insertion) → ((v : ℕ) → v < n → vertex_no list names (word v) ≡ v) → All (IsLink n) es
    → map (link_of list names) (map (by_names word) es) ≡ es
links_read list names word n [] numbers links = refl
links_read list names word n (e ∷ es) numbers links =
    let here = All-head (IsLink n) e es links in
    ap₂ (λ x xs. x ∷ xs) (ap₂ (λ a b. insertion a b e.len) (numbers e.from here.from) (numbers e.to here.to))
    (links_read list names word n es numbers (All-tail (IsLink n) e es links))

module _ (list : EdgeList) (word : ℕ → List ℕ) (directed : Bool) (n : ℕ) (id : List ℕ) (es : List Insertion) (x : Printed list word directed n id es) where
  abbrev ls : List LineOf
  ls = all_lines word directed n id es

  abbrev h : Option Header
  h = Some (header directed n (length es))

  lines_are : lines (text_of_lines (edge_lines word directed n id es)) ≡ ls
  lines_are =
      let small = x.small in
      let few = x.few in
      lines_of_text (edge_lines word directed n id es)
      (All-cons IsLine (counts_bytes directed n (length es)) (id_bytes id ∷ map (link_bytes word) es) (counts_line directed n (length es) (omega arith) (omega arith))
      (All-cons IsLine (id_bytes id) (map (link_bytes word) es) (id_bytes_line id x.titled)
      (All-map IsLine (link_bytes word) es (All-weaker (AreEnds word) (λ e. IsLine (link_bytes word e)) (link_bytes_line word) es x.ends))))

  first_words : words (counts_bytes directed n (length es)) ≡ codes "#" ∷ (kind directed ∷ (decimal n ∷ (decimal (length es) ∷ [])))
  first_words = let small = x.small in let few = x.few in counts_words directed n (length es) (omega arith) (omega arith)

  first_comment : is_comment (first_line directed n (length es)) ≡ true
  first_comment = comment_is (first_line directed n (length es)) (codes "#") (kind directed ∷ (decimal n ∷ (decimal (length es) ∷ []))) first_words

  second_comment : is_comment (second_line id) ≡ true
  second_comment = comment_is (second_line id) (codes "#") (words (codes "id \"" ++ (id ++ 34 ∷ []))) (id_words id)

  header_is : header_of ls ≡ h
  unfolding header_of
  header_is =
      let small = x.small in
      let few = x.few in
      rw first_comment (ap (header_of_words 1) first_words ∙ header_words directed n (length es) (omega arith) (omega arith))

  id_line_is : id_line ls ≡ Some (record { number = 2; bytes = id })
  unfolding id_line
  id_line_is = rw (no_id_first directed n (length es), id_second id) refl

  edges_are : edges_in ls ≡ map (by_names word) es
  unfolding edges_in
  edges_are =
      rw (no_edge_none (first_line directed n (length es)) (comment_no_edge (first_line directed n (length es)) first_comment), no_edge_none (second_line id) (comment_no_edge (second_line id) second_comment))
      (edges_of_rest word 3 es x.ends)

  fine_lines : All (FineLine word n) ls
  fine_lines =
      All-cons (FineLine word n) (first_line directed n (length es)) (second_line id ∷ rest_lines word 3 es) (inl (comment_no_edge (first_line directed n (length es)) first_comment))
      (All-cons (FineLine word n) (second_line id) (rest_lines word 3 es) (inl (comment_no_edge (second_line id) second_comment))
      (fine_rest word n 3 es x.ends x.links))

  -- ---- no line is at fault
  front_of : (i : ℕ) (e : Insertion) → i < length ls → EdgeLine word (line_at ls i) e → edges_in (take i ls) ++ by_names word e ∷ [] ≡ edges_in (take (i + 1) ls)
  unfolding edges_in
  front_of i e inside line =
      let one : filter_map edge_of (line_at ls i ∷ []) ≡ by_names word e ∷ [] = rw (edge_line_of word (line_at ls i) e line) refl in
      sym (ap (filter_map edge_of) (take_more ls i no_line inside)
      ∙ (filter_map-append edge_of (take i ls) (line_at ls i ∷ []) ∙ ap (λ ys. filter_map edge_of (take i ls) ++ ys) one))

  front_rest : (i : ℕ) → edges_in (take i ls) ++ edges_in (drop i ls) ≡ map (by_names word) es
  unfolding edges_in
  front_rest i = sym (filter_map-append edge_of (take i ls) (drop i ls)) ∙ (ap (filter_map edge_of) (take-append-drop i ls) ∙ edges_are)

  edge_fine : (i : ℕ) (e : Insertion) → i < length ls → EdgeLine word (line_at ls i) e → IsLink n e → edge_fault list h (edges_in (take i ls)) (Some (by_names word e)) ≡ None
  edge_fine i e inside line link =
      let front = front_of i e inside line in
      let counted : count_fault list h (edges_in (take i ls) ++ by_names word e ∷ []) ≡ None = ap (count_fault list h) front ∙ x.counts (edges_in (take (i + 1) ls)) (edges_in (drop (i + 1) ls)) (front_rest (i + 1)) in
      rw (x.fine e.from link.from, x.fine e.to link.to) counted

  behind_fine : (i : ℕ) → i < length ls → fault_behind list h (take i ls) (line_at ls i) ≡ None
  unfolding fault_behind
  behind_fine i inside =
      elim (fine_lines i no_line inside) [
        | inl none ↦ ap (λ b. cond b (edge_fault list h (edges_in (take i ls)) (ends_of (words (line_at ls i).bytes))) None) none
        | inr some ↦
            ap (λ b. cond b (edge_fault list h (edges_in (take i ls)) (ends_of (words (line_at ls i).bytes))) None) some.1.edge
            ∙ (ap (edge_fault list h (edges_in (take i ls))) some.1.ends ∙ edge_fine i some.0 inside some.1 some.2)
      ]

  lines_fine : first_line_fault list h ls ≡ None
  lines_fine = range_none (line_fault list h ls) (length ls) 0 (λ i low high. ap (at_line (line_at ls i).number) (behind_fine i (omega arith)))

  header_fine : header_fault list h ≡ None
  header_fine = let small = x.small in rw (x.asked, le-leb n 65535 small) refl

  id_fine : id_fault (Some (record { number = 2; bytes = id })) ≡ None
  id_fine =
      let is : is_id id ≡ true = and_from _ (nat_le (length id) 160) (and_from (nat_le (length id) 4095) _ (le-leb (length id) 4095 x.titled.text.short) x.titled.text.printable) (le-leb (length id) 160 x.titled.short) in
      rw is refl

  last_fine : last_fault list h (map (by_names word) es) ≡ None
  last_fine = rw (eq-eqb (length (map (by_names word) es)) (length es) (length-map es (by_names word)), x.all) refl

  pub not_refused : refusal_of_edges list (text_of_lines (edge_lines word directed n id es)) ≡ None
  not_refused = none_of list (text_of_lines (edge_lines word directed n id es)) ls h (Some (record { number = 2; bytes = id })) (map (by_names word) es) lines_are header_is id_line_is edges_are header_fine id_fine lines_fine last_fine

  pub outline_said : (names : List (List ℕ)) → names_of list h (map (by_names word) es) ≡ names
      → outline_of_edges list (text_of_lines (edge_lines word directed n id es)) ≡ record { id = id; names = names; directed = directed; links = map (link_of list names) (map (by_names word) es) }
  unfolding outline_of_edges
  outline_said names named =
      rw (lines_are, header_is, id_line_is, edges_are) (ap (λ ns. record { id = id; names = ns; directed = directed; links = map (link_of list ns) (map (by_names word) es) }) named)

  pub outline_is : (names : List (List ℕ)) → names_of list h (map (by_names word) es) ≡ names → ((v : ℕ) → v < n → vertex_no list names (word v) ≡ v)
      → outline_of_edges list (text_of_lines (edge_lines word directed n id es)) ≡ record { id = id; names = names; directed = directed; links = es }
  outline_is names named numbers =
      outline_said names named ∙ ap (λ ls. record { id = id; names = names; directed = directed; links = ls }) (links_read list names word n es numbers x.links)
