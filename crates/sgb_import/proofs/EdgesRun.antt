-- Lemmas on a run over the lines of a list of edges.
use Rattle.std.proofs.Common.{◌≡◌, ◌<◌, ◌≤◌, ◌+◌, ◌||◌, ℕ, List, [], ◌∷◌, ◌++◌, length, map, filter_map, All, Bool, true, false, not, Option, Some, None, IsSome, IsSomeAnd, nat_le, FitsSigned, w64, inl, inr, refl, sym, ap, ap₂, subst, ◌∙◌, arith, length-append}
use Rattle.std.specs.List.{cons_option, position_or_len}
use Rattle.std.specs.Option.{option_or}
use Rattle.std.specs.Str.{bytes_eq}
use Rattle.std.proofs.lemmas.Bool.{cases_Bool, leb-true}
use Rattle.std.proofs.lemmas.List.{length-map, map-append, append-nil}
use Rattle.std.proofs.lemmas.List.Elements.{All-head, All-push, All-tail, All-weaker, filter_map-append}
use Rattle.sgb_graph.specs.Builder.{Insertion, insertion}
use Rattle.sgb_graph.specs.Text.{IsText}
use Rattle.sgb_import.specs.declared.edges_ends.EdgeFault.{EdgeFault}
use Rattle.sgb_import.specs.declared.edges_ends.EdgeFault.TheVariants.{NoRoom, Text}
use Rattle.sgb_import.specs.declared.edges_header.Header.{Header}
use Rattle.sgb_import.specs.declared.outline.Link.{Link}
use Rattle.sgb_import.specs.declared.outline.Names.{Names}
use Rattle.sgb_import.specs.declared.refusal.ImportRefusal.{ImportRefusal}
use Rattle.sgb_import.specs.declared.refusal.TextFault.{TextFault}
use Rattle.sgb_import.specs.declared.source.EdgeList.{EdgeList}
use Rattle.sgb_import.specs.Edges.{Ends, count_fault, directed_by, edge_fault, edge_of, edges_in, end_fault, ends_of, fault_behind, is_edge, link_of, most_vertices, names_of, vertex_no}
use Rattle.sgb_import.specs.Lines.{LineOf, words}
use Rattle.sgb_import.specs.Outline.{IsLink, arcs_of_links}
use Rattle.sgb_import.specs.Private.EdgesRead.{IsBehind, IsFound, IsKind, IsRead, Tells, limits_fault, with_name}
use Rattle.sgb_import.specs.Private.Outlined.{insertion_of, names_in}
use Rattle.sgb_import.specs.Refusal.{at_line}
use Rattle.sgb_import.proofs.EdgeNames.{length-numbered, length-with_name, numbered_text, place_kept}
use Rattle.sgb_import.proofs.EdgesSoFar.{counts, limits_kept, name_is, no_numbers, no_words, words-more}

-- ---- links keep their vertices
link_wider : {n m : ℕ} {e : Insertion} → n ≤ m → IsLink n e → IsLink m e
link_wider {n} {m} {e} more link = record { from = omega (arith, link.from, more); to = omega (arith, link.to, more); len = link.len }

number_any : (list : EdgeList) (ns ms : List (List ℕ)) (w : List ℕ) → list.names ≡ false → vertex_no list ns w ≡ vertex_no list ms w
number_any list ns ms w is = rw is refl

vertex_kept : (list : EdgeList) (ns : List (List ℕ)) (w v : List ℕ) → vertex_no list ns v < length ns → vertex_no list (with_name ns w) v ≡ vertex_no list ns v
vertex_kept list ns w v low =
    elim (cases_Bool list.names) [
      | inl is ↦ (let below : position_or_len (bytes_eq v) ns < length ns = omega (arith, low, name_is list ns v is) in
          name_is list (with_name ns w) v is ∙ (place_kept (bytes_eq v) ns w below ∙ sym (name_is list ns v is)))
      | inr is ↦ number_any list (with_name ns w) ns v is
    ]

links_kept : (list : EdgeList) (ns : List (List ℕ)) (w : List ℕ) (es : List Ends) → All (IsLink (length ns)) (map (link_of list ns) es) → map (link_of list (with_name ns w)) es ≡ map (link_of list ns) es
links_kept list ns w [] all = refl
links_kept list ns w (e ∷ es) all =
    let head : IsLink (length ns) (link_of list ns e) = All-head (IsLink (length ns)) (link_of list ns e) (map (link_of list ns) es) all in
    ap₂ (λ x xs. x ∷ xs)
    (ap₂ (λ a b. insertion a b e.len) (vertex_kept list ns w e.from head.from) (vertex_kept list ns w e.to head.to))
    (links_kept list ns w es (All-tail (IsLink (length ns)) (link_of list ns e) (map (link_of list ns) es) all))

links_any : (list : EdgeList) (ns ms : List (List ℕ)) (es : List Ends) → list.names ≡ false → map (link_of list ns) es ≡ map (link_of list ms) es
links_any list ns ms [] is = refl
links_any list ns ms (e ∷ es) is =
    ap₂ (λ x xs. x ∷ xs)
    (ap₂ (λ a b. insertion a b e.len) (number_any list ns ms e.from is) (number_any list ns ms e.to is))
    (links_any list ns ms es is)

old_links : (list : EdgeList) (header : Option Header) (es : List Ends) (e : Ends) → All (IsLink (length (names_of list header es))) (map (link_of list (names_of list header es)) es)
    → map (link_of list (names_of list header (es ++ e ∷ []))) es ≡ map (link_of list (names_of list header es)) es
old_links list header es e fit =
    let old : List (List ℕ) = names_of list header es in
    elim (cases_Bool list.names) [
      | inl is ↦ (let one : List (List ℕ) = with_name old e.from in
          let kept : map (link_of list one) es ≡ map (link_of list old) es = links_kept list old e.from es fit in
          let wider : All (IsLink (length one)) (map (link_of list one) es) =
          subst (All (IsLink (length one))) (sym kept)
          (All-weaker (IsLink (length old)) (IsLink (length one)) (λ x l. link_wider (length-with_name old e.from) l) (map (link_of list old) es) fit) in
          ap (λ ns. map (link_of list ns) es) (words-more list header es e is)
          ∙ (links_kept list one e.to es wider ∙ kept))
      | inr is ↦ links_any list (names_of list header (es ++ e ∷ [])) old es is
    ]

-- ---- an edge more
module _ (list : EdgeList) (header : Option Header) (es : List Ends) (e : Ends) (ns ms : Names) (ls : List Link) (link : Link) where
  pub edge_fault_is : IsRead list header es ns ls → IsFound list header es e (names_in ns) (names_in ms) link.from link.to
      → edge_fault list header es (Some e) ≡ limits_fault list header (length (names_in ms)) (length ls + 1)
  edge_fault_is read found =
      let as_many : length es ≡ length ls =
      sym (length-map es (link_of list (names_of list header es))) ∙ (ap (λ xs. length xs) (sym read.links) ∙ length-map ls insertion_of) in
      let more : length (es ++ e ∷ []) ≡ length ls + 1 = omega (arith, as_many, length-append es (e ∷ [])) in
      ap (λ o. option_or o (option_or (end_fault list header e.to) (count_fault list header (es ++ e ∷ [])))) found.from_fault
      ∙ (ap (λ o. option_or o (count_fault list header (es ++ e ∷ []))) found.to_fault
      ∙ (counts list header (es ++ e ∷ [])
      ∙ ap₂ (λ n m. limits_fault list header n m) (ap (λ xs. length xs) (sym found.names)) more))

  few_more : IsRead list header es ns ls → IsFound list header es e (names_in ns) (names_in ms) link.from link.to
      → (not list.names || nat_le (length (names_in ms)) (most_vertices header)) ≡ true → length (names_in ms) ≤ most_vertices header
  few_more read found few =
      elim (cases_Bool list.names) [
        | inl is ↦ leb-true (length (names_in ms)) (most_vertices header) (let known : (not true || nat_le (length (names_in ms)) (most_vertices header)) ≡ true = rw is at few in known)
        | inr is ↦ found.numbers is read.few_names
      ]

  pub read_more : IsRead list header es ns ls → IsFound list header es e (names_in ns) (names_in ms) link.from link.to → link.len ≡ e.len → FitsSigned w64 link.len → IsKind list.names ms
      → limits_fault list header (length (names_in ms)) (length ls + 1) ≡ None → IsRead list header (es ++ e ∷ []) ms (ls ++ link ∷ [])
  read_more read found len fits kind none =
      let new : List (List ℕ) = names_of list header (es ++ e ∷ []) in
      let old : List (List ℕ) = names_of list header es in
      let kept = limits_kept list header (length (names_in ms)) (length ls + 1) none in
      let old_fit : All (IsLink (length old)) (map (link_of list old) es) =
      subst (λ xs. All (IsLink (length old)) xs) read.links (subst (λ xs. All (IsLink (length xs)) (map insertion_of ls)) read.names read.fits) in
      let both : map insertion_of (ls ++ link ∷ []) ≡ map insertion_of ls ++ insertion_of link ∷ [] = map-append insertion_of ls (link ∷ []) in
      let more : length (ls ++ link ∷ []) ≡ length ls + 1 = length-append ls (link ∷ []) in
      record {
        kind = kind;
        names = found.names;
        links =
            both
            ∙ (ap₂ (λ xs x. xs ++ x ∷ []) (read.links ∙ sym (old_links list header es e old_fit))
            (ap₂ (λ a b. insertion a b link.len) (found.from_is ∙ ap (λ xs. vertex_no list xs e.from) found.names) (found.to_is ∙ ap (λ xs. vertex_no list xs e.to) found.names)
            ∙ ap (λ z. insertion (vertex_no list new e.from) (vertex_no list new e.to) z) len)
            ∙ sym (map-append (link_of list new) es (e ∷ [])));
        fits =
            subst (All (IsLink (length (names_in ms)))) (sym both)
            (All-push (IsLink (length (names_in ms))) (map insertion_of ls) (insertion_of link)
            (All-weaker (IsLink (length (names_in ns))) (IsLink (length (names_in ms))) (λ x l. link_wider found.more l) (map insertion_of ls) read.fits)
            (record { from = found.from_low; to = found.to_low; len = fits }));
        text = found.text read.text;
        few_names = few_more read found kept.0;
        few_arcs = subst (λ m. arcs_of_links (directed_by list header) m ≤ 1000000) (sym more) kept.1;
      }

-- ---- faults
or_front : {T : Type 0} (a b d : Option T) {f : T} → option_or a b ≡ Some f → option_or a (option_or b d) ≡ Some f
or_front None None d is = absurd cc
or_front None (Some y) d is = is
or_front (Some x) b d is = is

pub ends_tell : (a b d : Option TextFault) (x : EdgeFault) → Tells (option_or a b) x → Tells (option_or a (option_or b d)) x
ends_tell a b d NoRoom told = tt
ends_tell a b d (Text f) told = or_front a b d told

-- ---- a line more
pub not_edge : (list : EdgeList) (header : Option Header) (before : List LineOf) (l : LineOf) → is_edge l ≡ false → fault_behind list header before l ≡ None
unfolding fault_behind
not_edge list header before l is = rw is refl

pub no_edge_more : (before : List LineOf) (l : LineOf) → is_edge l ≡ false → edges_in (before ++ l ∷ []) ≡ edges_in before
unfolding edges_in
no_edge_more before l is =
    let none : edge_of l ≡ None = rw is refl in
    filter_map-append edge_of before (l ∷ [])
    ∙ (ap (λ o. filter_map edge_of before ++ cons_option o []) none ∙ append-nil (filter_map edge_of before))

pub fault_of_edge : (list : EdgeList) (header : Option Header) (before : List LineOf) (l : LineOf) → is_edge l ≡ true
    → fault_behind list header before l ≡ edge_fault list header (edges_in before) (ends_of (words l.bytes))
unfolding fault_behind
fault_of_edge list header before l is = rw is refl

pub edge_more : (before : List LineOf) (l : LineOf) (e : Ends) → is_edge l ≡ true → ends_of (words l.bytes) ≡ Some e → edges_in (before ++ l ∷ []) ≡ edges_in before ++ e ∷ []
unfolding edges_in
edge_more before l e is some =
    let here : edge_of l ≡ Some e = rw is some in
    filter_map-append edge_of before (l ∷ []) ∙ ap (λ o. filter_map edge_of before ++ cons_option o []) here

pub took : (list : EdgeList) (header : Option Header) (before : List LineOf) (l : LineOf) (ns : Names) (ls : List Link) → is_edge l ≡ true → (o : Option Ends) → ends_of (words l.bytes) ≡ o
    → IsSomeAnd o (λ e. (edge_fault list header (edges_in before) (Some e) ≡ None) × IsRead list header (edges_in before ++ e ∷ []) ns ls)
    → (fault_behind list header before l ≡ None) × IsBehind list header before l ns ls
took list header before l ns ls is None some read = absurd read
took list header before l ns ls is (Some e) some read = (
  fault_of_edge list header before l is ∙ (ap (edge_fault list header (edges_in before)) some ∙ read.0),
  subst (λ es. IsRead list header es ns ls) (sym (edge_more before l e is some)) read.1,
)

-- the refusal of a line behind others
abbrev pub edge_line_fault : EdgeList → Option Header → List LineOf → LineOf → Option ImportRefusal
edge_line_fault list header before l = at_line l.number (fault_behind list header before l)

no_arcs : (d : Bool) → arcs_of_links d 0 ≤ 1000000
no_arcs true = omega arith
no_arcs false = omega arith

few_first : (list : EdgeList) (header : Option Header) → list.names ≡ false → length (names_of list header []) ≤ most_vertices header
few_first list None is = omega (arith, ap (λ ns. length ns) (no_numbers list None is), length-numbered 0 0)
few_first list (Some h) is = omega (arith, ap (λ ns. length ns) (no_numbers list (Some h) is), length-numbered 0 h.vertices)

pub first_few : (list : EdgeList) (header : Option Header) → length (names_of list header []) ≤ most_vertices header
first_few list header =
    elim (cases_Bool list.names) [
      | inl is ↦ (let none : length (names_of list header []) ≡ 0 = ap (λ ns. length ns) (sym (no_words list header is)) in omega (arith, none))
      | inr is ↦ few_first list header is
    ]

first_numbers : (list : EdgeList) (header : Option Header) → list.names ≡ false → most_vertices header ≤ 65535 → All IsText (names_of list header [])
first_numbers list None is most = subst (All IsText) (sym (no_numbers list None is)) (numbered_text 0 0 (omega arith))
first_numbers list (Some h) is most = subst (All IsText) (sym (no_numbers list (Some h) is)) (numbered_text 0 h.vertices (omega arith))

pub first_text : (list : EdgeList) (header : Option Header) → most_vertices header ≤ 65535 → All IsText (names_of list header [])
first_text list header most =
    elim (cases_Bool list.names) [
      | inl is ↦ subst (All IsText) (no_words list header is) (λ k d h. absurd (omega arith))
      | inr is ↦ first_numbers list header is most
    ]

-- nothing is read yet
pub none_read : (list : EdgeList) (header : Option Header) (ns : Names) → IsKind list.names ns → names_in ns ≡ names_of list header [] → most_vertices header ≤ 65535 → IsRead list header (edges_in []) ns []
unfolding edges_in
none_read list header ns kind names most = record {
  kind = kind;
  names = names;
  links = refl;
  fits = λ k d h. absurd (omega arith);
  text = subst (All IsText) (sym names) (first_text list header most);
  few_names = subst (λ xs. length xs ≤ most_vertices header) (sym names) (first_few list header);
  few_arcs = no_arcs (directed_by list header);
}

kept : {T : Type 0} (o : Option T) (xs : List T) → IsSome o → length (cons_option o xs) ≡ 1 + length xs
kept None xs some = absurd cc
kept (Some x) xs some = omega arith

-- a line among these has an edge
pub some_edge : (before : List LineOf) (l : LineOf) (rest : List LineOf) {all : List LineOf} → all ≡ before ++ l ∷ rest → IsSome (edge_of l) → 0 < length (edges_in all)
unfolding edges_in
some_edge before l rest {all} whole some =
    let one : length (cons_option (edge_of l) (filter_map edge_of rest)) ≡ 1 + length (filter_map edge_of rest) = kept (edge_of l) (filter_map edge_of rest) some in
    let parts : length (edges_in all) ≡ length (filter_map edge_of before) + length (cons_option (edge_of l) (filter_map edge_of rest)) =
    ap (λ ls. length (filter_map edge_of ls)) whole
    ∙ (ap (λ xs. length xs) (filter_map-append edge_of before (l ∷ rest)) ∙ length-append (filter_map edge_of before) (cons_option (edge_of l) (filter_map edge_of rest))) in
    omega (arith, one, parts)
