-- The graph that is read of an exported list of edges by names has the same arcs or edges by names.
use Rattle.std.proofs.Common.{◌≡◌, ◌≢◌, ◌<◌, ◌≤◌, ◌+◌, ℕ, zero, suc, List, [], ◌∷◌, ◌++◌, length, get_or, map, unwrap_or, None, Bool, true, false, not, ◌||◌, cond, min, max, inl, inr, All, refl, sym, ap, ap₂, subst, ◌∙◌, arith, append_assoc, zero-add}
use Rattle.std.specs.List.{AllZip, flat_map, list_all, list_any, position_or_len, range_with_len}
use Rattle.std.specs.List.Sorted.{IsPermutation}
use Rattle.std.specs.Str.{bytes_eq}
use Rattle.std.proofs.lemmas.Bool.{and_from, cases_Bool, cases_lt, cases_eq, eq-eqb, ne_eqb}
use Rattle.std.proofs.lemmas.List.{get_or-map, length-map, nil_from_length}
use Rattle.std.proofs.lemmas.List.Elements.{All-cons, All-from_get_or, All-head, All-map, All-nil, All-tail, All-weaker}
use Rattle.std.proofs.lemmas.List.Folds.{list_any_none}
use Rattle.std.proofs.lemmas.List.FromFn.{get_or-range_with_len, length-range_with_len}
use Rattle.std.proofs.lemmas.List.Sorted.{IsPermutation-cons, IsPermutation-map, IsPermutation-middle, IsPermutation-refl, IsPermutation-sym, IsPermutation-trans}
use Rattle.std.proofs.lemmas.Slice.Eq.{bytes_eq-Decides}
use Rattle.sgb_graph.specs.Builder.{Insertion}
use Rattle.sgb_graph.specs.Graph.{GraphOf, IsGraph, label_of, n_of, occurrences}
use Rattle.sgb_graph.specs.Text.{IsText}
use Rattle.sgb_graph.proofs.Counts.{two_places}
use Rattle.sgb_graph.proofs.PairedLemmas.{below_all}
use Rattle.sgb_export.specs.declared.format.Format.TheVariants.{NamedEdges}
use Rattle.sgb_export.specs.Edges.{are_distinct, are_plain, is_new, is_plain}
use Rattle.sgb_export.specs.Export.{refusal_of_export}
use Rattle.sgb_export.specs.Links.{is_directed}
use Rattle.sgb_export.specs.Text.{export_text}
use Rattle.sgb_import.specs.declared.source.EdgeList.{EdgeList}
use Rattle.sgb_import.specs.Edges.{end_words, first_ones, link_of, outline_of_edges, vertex_no}
use Rattle.sgb_import.specs.Laws.{AreSame, IsSame, by_names, by_source, leaving, named_links, written}
use Rattle.sgb_import.specs.Numbers.{natural_of}
use Rattle.sgb_import.specs.Outline.{IsLink, IsOutline, Outline, arcs_of_links, graph_of_outline}
use Rattle.sgb_import.proofs.DirectedLists.{FirstTwo, outline_directed, some_written}
use Rattle.sgb_import.proofs.NamedBack as back
use Rattle.sgb_import.proofs.NewNumbers.{map_same}
use Rattle.sgb_import.proofs.OutlineLinks.{label_of_outline, n_of_outline, outline_undirected, told, written_told}
use Rattle.sgb_import.proofs.OutlineOperands.{outline_operand}
use Rattle.sgb_import.proofs.Written.{flat_map_range}

-- ---- by their sources is in another order
-- one list, and the same with e in it
record Split (e : Insertion) (without within : List Insertion) : Type 0 where
  before : List Insertion
  after : List Insertion
  old : without ≡ before ++ after
  new : within ≡ before ++ (e ∷ after)

leaving_other : (e : Insertion) (ls : List Insertion) (v : ℕ) → e.from ≢ v → leaving (e ∷ ls) v ≡ leaving ls v
leaving_other e ls v ne = rw (ne_eqb e.from v ne) refl

split_sources : (e : Insertion) (ls : List Insertion) (n a : ℕ) → a ≤ e.from → e.from < a + n → Split e (flat_map (leaving ls) (range_with_len a n)) (flat_map (leaving (e ∷ ls)) (range_with_len a n))
split_sources e ls zero a low high = absurd (omega arith)
split_sources e ls (suc n) a low high =
    let rest = flat_map (leaving ls) (range_with_len (a + 1) n) in
    let rest' = flat_map (leaving (e ∷ ls)) (range_with_len (a + 1) n) in
    elim (cases_eq e.from a) [
      | inl here ↦
          let same : rest' ≡ rest = flat_map_range (leaving (e ∷ ls)) (leaving ls) n (a + 1) (λ v above under. leaving_other e ls v (λ s. omega arith)) in
          let first : leaving (e ∷ ls) a ≡ e ∷ leaving ls a = rw (eq-eqb e.from a here) refl in
          record {
            before = [];
            after = leaving ls a ++ rest;
            old = refl;
            new = ap₂ (λ x y. x ++ y) first same;
          }
      | inr other ↦
          let ne : e.from ≢ a = other in
          let later = split_sources e ls n (a + 1) (omega arith) (omega arith) in
          record {
            before = leaving ls a ++ later.before;
            after = later.after;
            old = ap (λ l. leaving ls a ++ l) later.old ∙ sym (append_assoc (leaving ls a) later.before later.after);
            new = ap₂ (λ x y. x ++ y) (leaving_other e ls a ne) later.new ∙ sym (append_assoc (leaving ls a) later.before (e ∷ later.after));
          }
    ]

none_leaving : (n a : ℕ) → flat_map (leaving []) (range_with_len a n) ≡ []
none_leaving zero a = refl
none_leaving (suc n) a = none_leaving n (a + 1)

pub by_source_moved : (n : ℕ) (ls : List Insertion) → All (λ e. e.from < n) ls → IsPermutation ls (by_source n ls)
by_source_moved n [] low = subst (IsPermutation []) (sym (none_leaving n 0)) (IsPermutation-refl [])
by_source_moved n (e ∷ ls) low =
    let from = All-head (λ (x : Insertion). x.from < n) e ls low in
    let s = split_sources e ls n 0 (omega arith) (omega arith) in
    let rest : IsPermutation ls (s.before ++ s.after) = subst (IsPermutation ls) s.old (by_source_moved n ls (All-tail (λ (x : Insertion). x.from < n) e ls low)) in
    subst (IsPermutation (e ∷ ls)) (sym s.new)
    (IsPermutation-trans (e ∷ ls) (e ∷ (s.before ++ s.after)) (s.before ++ (e ∷ s.after)) (IsPermutation-cons e ls (s.before ++ s.after) rest)
    (IsPermutation-sym (s.before ++ (e ∷ s.after)) (e ∷ (s.before ++ s.after)) (IsPermutation-middle s.before e s.after)))

-- ---- an edge may be told from its other endpoint
told_same : (directed : Bool) (name : ℕ → List ℕ) (e : Insertion) → IsSame directed (by_names name e) (by_names name (told directed e))
told_same true name e = inl refl
told_same false name e =
    elim (cases_lt e.to e.from) [
      | inl down ↦
          let low : min e.from e.to ≡ e.to = omega arith in
          let high : max e.from e.to ≡ e.from = omega arith in
          inr (refl, ap₂ (λ a b. record { from = name a; to = name b; len = e.len }) low high)
      | inr up ↦
          let low : min e.from e.to ≡ e.from = omega arith in
          let high : max e.from e.to ≡ e.to = omega arith in
          inl (ap₂ (λ a b. record { from = name a; to = name b; len = e.len }) low high)
    ]

told_zip : (directed : Bool) (name : ℕ → List ℕ) (ls : List Insertion) → AllZip (IsSame directed) (map (by_names name) ls) (map (by_names name) (map (told directed) ls))
told_zip directed name [] = tt
told_zip directed name (e ∷ ls) = (told_same directed name e, told_zip directed name ls)

told_low : (directed : Bool) (n : ℕ) (e : Insertion) → IsLink n e → (told directed e).from < n
told_low true n e is = is.from
told_low false n e is = let a = is.from in let b = is.to in omega arith

-- ---- places of names
place_low : (p : List ℕ → Bool) (ws : List (List ℕ)) → list_any p ws ≡ true → position_or_len p ws < length ws
place_low p [] some = absurd cc
place_low p (w ∷ ws) some =
    elim (cases_Bool (p w)) [
      | inl here ↦ rw here (omega arith)
      | inr past ↦ rw past (omega (arith, place_low p ws (sym (ap (λ b. b || list_any p ws) past) ∙ some)))
    ]

first_place : (w : List ℕ) (ws : List (List ℕ)) → position_or_len (bytes_eq w) (first_ones (w ∷ ws)) ≡ 0
unfolding first_ones
first_place w ws = rw ((bytes_eq-Decides w w).1 refl) refl

links_within : (list : EdgeList) (names : List (List ℕ)) (word : ℕ → List ℕ) (n : ℕ) (ks : List ℕ) → list.names ≡ true → ((k : ℕ) → 0 < occurrences k ks → list_any (bytes_eq (word k)) names ≡ true)
    → (es : List Insertion) → All (back.EndsOccur ks) es → All (IsLink n) es → All (IsLink (length names)) (map (link_of list names) (map (by_names word) es))
links_within list names word n ks named found [] occur links = All-nil (IsLink (length names))
links_within list names word n ks named found (e ∷ es) occur links =
    let here = All-head (back.EndsOccur ks) e es occur in
    let low : (v : ℕ) → 0 < occurrences v ks → vertex_no list names (word v) < length names =
    λ v some. subst (λ b. cond b (position_or_len (bytes_eq (word v)) names) (unwrap_or (natural_of (word v)) 0) < length names) (sym named) (place_low (bytes_eq (word v)) names (found v some)) in
    All-cons (IsLink (length names)) (link_of list names (by_names word e)) (map (link_of list names) (map (by_names word) es))
    (record { from = low e.from here.0; to = low e.to here.1; len = (All-head (IsLink n) e es links).len })
    (links_within list names word n ks named found es (All-tail (back.EndsOccur ks) e es occur) (All-tail (IsLink n) e es links))

-- the first name is that of vertex 0
first_up : (list : EdgeList) (word : ℕ → List ℕ) → list.names ≡ true → (es : List Insertion) → FirstTwo (map (link_of list (first_ones (end_words (map (by_names word) es)))) (map (by_names word) es))
first_up list word named [] = tt
first_up list word named (e ∷ []) = tt
first_up list word named (e ∷ (f ∷ es)) =
    let w = word e.from in
    let ws = word e.to ∷ end_words (map (by_names word) (f ∷ es)) in
    let zero' : vertex_no list (first_ones (w ∷ ws)) w ≡ 0 =
    ap (λ b. cond b (position_or_len (bytes_eq w) (first_ones (w ∷ ws))) (unwrap_or (natural_of w) 0)) named ∙ first_place w ws in
    λ down. absurd (omega arith)

all_in_range : (p : ℕ → Bool) (n a : ℕ) → ((v : ℕ) → a ≤ v → v < a + n → p v ≡ true) → list_all p (range_with_len a n) ≡ true
all_in_range p zero a each = refl
all_in_range p (suc n) a each = and_from (p a) (list_all p (range_with_len (a + 1) n)) (each a (omega arith) (omega arith)) (all_in_range p n (a + 1) (λ v low high. each v (omega arith) (omega arith)))

module _ (list : EdgeList) (g : GraphOf) (sound : IsGraph g) (accepted : refusal_of_export NamedEdges g ≡ None) (named : list.names ≡ true) (asked : list.directed ≡ true → is_directed g ≡ true) (met : back.AllMet list g sound accepted named asked) where
  abbrev directed : Bool
  directed = is_directed g

  abbrev es : List Insertion
  es = written directed g

  abbrev names : List (List ℕ)
  names = first_ones (end_words (map (by_names (label_of g)) es))

  abbrev o : Outline
  o = record { id = g.id; names = names; directed = directed; links = map (link_of list names) (map (by_names (label_of g)) es) }

  said : outline_of_edges list (export_text NamedEdges g) ≡ o
  said = back.named_said list g sound accepted named asked met

  names_text : All IsText names
  names_text =
      let firsts = back.firsts list g sound accepted named asked in
      let is : names ≡ map (label_of g) firsts.0 = ap first_ones (back.words_of_ends (label_of g) es) ∙ firsts.1.words in
      subst (All IsText) (sym is)
      (All-map IsText (label_of g) firsts.0 (All-weaker (λ v. v < n_of g) (λ v. IsText (label_of g v)) (λ v inside. back.label_text list g sound accepted named asked v inside) firsts.0 (back.firsts_in list g sound accepted named asked)))

  is_outline : IsOutline o
  is_outline = record {
    id = sound.id;
    names = names_text;
    few_vertices = let small = sound.few_vertices in let count : length names ≡ n_of g = met in omega arith;
    links = links_within list names (label_of g) (n_of g) (back.ends_of_links es) named (back.found list g sound accepted named asked) es (back.ends_occur es) (back.links_in list g sound accepted named asked);
    few_arcs =
        let many : length o.links ≡ length es = length-map (map (by_names (label_of g)) es) (link_of list names) ∙ length-map es (by_names (label_of g)) in
        subst (λ m. arcs_of_links directed m ≤ 1000000) (sym many) (back.few list g sound accepted named asked);
  }

  some_links : is_directed g ≡ true → o.links ≢ []
  some_links arcs none =
      let many : length es ≡ 0 = sym (length-map (map (by_names (label_of g)) es) (link_of list names) ∙ length-map es (by_names (label_of g))) ∙ ap length none in
      some_written g sound arcs (nil_from_length (written true g) (sym (ap (λ d. length (written d g)) arcs) ∙ many))

  same_direction : is_directed (graph_of_outline o) ≡ directed
  same_direction =
      elim (cases_Bool directed) [
        | inl arcs ↦ outline_directed o is_outline arcs (first_up list (label_of g) named es) (some_links arcs) ∙ sym arcs
        | inr edges ↦ outline_undirected o is_outline edges ∙ sym edges
      ]

  told_links : map (by_names (label_of (graph_of_outline o))) o.links ≡ named_links g
  told_links =
      map_same (by_names (label_of (graph_of_outline o))) (by_names (λ v. get_or names v [])) o.links
      (λ i d inside. ap₂ (λ a b. record { from = a; to = b; len = (get_or o.links i d).len }) (label_of_outline o (get_or o.links i d).from) (label_of_outline o (get_or o.links i d).to))
      ∙ (ap (λ (p : Outline). map (by_names (λ v. get_or p.names v [])) p.links) (sym said) ∙ back.named_links list g sound accepted named asked met)

  same_links : AreSame directed (named_links g) (named_links (graph_of_outline o))
  same_links =
      let h = graph_of_outline o in
      let name = label_of h in
      let ls = map (told directed) o.links in
      let low : All (λ (e : Insertion). e.from < length names) ls =
      All-map (λ (e : Insertion). e.from < length names) (told directed) o.links (All-weaker (IsLink (length names)) (λ e. (told directed e).from < length names) (told_low directed (length names)) o.links is_outline.links) in
      let of_h : map (by_names name) (by_source (length names) ls) ≡ named_links h =
      ap (map (by_names name)) (sym (written_told o is_outline directed refl)) ∙ ap (λ d. map (by_names name) (written d h)) (sym same_direction) in
      record {
        turned = map (by_names name) ls;
        same = subst (λ xs. AllZip (IsSame directed) xs (map (by_names name) ls)) told_links (told_zip directed name o.links);
        moved = subst (IsPermutation (map (by_names name) ls)) of_h (IsPermutation-map (by_names name) ls (by_source (length names) ls) (by_source_moved (length names) ls low));
      }

  pub named_same : (h : GraphOf) → h ≡ graph_of_outline (outline_of_edges list (export_text NamedEdges g)) → (is_directed h ≡ directed) × (AreSame directed (named_links g) (named_links h))
  named_same h is =
      subst (λ k. (is_directed k ≡ directed) × (AreSame directed (named_links g) (named_links k))) (sym (is ∙ ap graph_of_outline said)) (same_direction, same_links)

  -- ---- its names stand for its vertices
  abbrev firsts : List ℕ
  firsts = (back.firsts list g sound accepted named asked).0

  first_label : (v : ℕ) → v < n_of g → (label_of (graph_of_outline o) v ≡ label_of g (get_or firsts v 0)) × (v < length firsts)
  first_label v inside =
      let x = (back.firsts list g sound accepted named asked).1 in
      let is : names ≡ map (label_of g) firsts = ap first_ones (back.words_of_ends (label_of g) es) ∙ x.words in
      let size : length names ≡ n_of g = met in
      let low : v < length firsts = omega (arith, ap length is, length-map firsts (label_of g)) in
      (label_of_outline o v ∙ (ap (λ ns. get_or ns v []) is ∙ get_or-map (label_of g) firsts v 0 [] low), low)

  plain_again : are_plain (graph_of_outline o) ≡ true
  plain_again =
      let h = graph_of_outline o in
      all_in_range (λ v. is_plain (label_of h v)) (n_of h) 0 (λ v low high.
      let inside : v < n_of g = let size : length names ≡ n_of g = met in omega (arith, high, n_of_outline o) in
      let f = first_label v inside in
      let k_low = back.firsts_in list g sound accepted named asked v 0 f.1 in
      ap is_plain f.0 ∙ below_all (λ w. is_plain (label_of g w)) (n_of g) (get_or firsts v 0) (back.names_fine list g sound accepted named asked).0 k_low)

  new_again : (v : ℕ) → v < n_of g → is_new (graph_of_outline o) v ≡ true
  new_again v inside =
      let h = graph_of_outline o in
      let f = first_label v inside in
      let x = (back.firsts list g sound accepted named asked).1 in
      ap not (list_any_none (λ w. bytes_eq (label_of h v) (label_of h w)) (range_with_len 0 v)
      (All-from_get_or (λ w. bytes_eq (label_of h v) (label_of h w) ≡ false) (range_with_len 0 v) 0 (λ i h'.
      let low : i < v = omega (arith, h', length-range_with_len 0 v) in
      let at : get_or (range_with_len 0 v) i 0 ≡ i = get_or-range_with_len 0 v i 0 low ∙ zero-add i in
      let e = first_label i (omega arith) in
      let differ : get_or firsts i 0 ≢ get_or firsts v 0 = λ same. two_places firsts i v low f.1 same (x.once (get_or firsts i 0)) in
      ap (λ w. bytes_eq (label_of h v) (label_of h w)) at
      ∙ (ap₂ (λ a b. bytes_eq a b) f.0 e.0
      ∙ (back.tests list g sound accepted named asked (get_or firsts v 0) (get_or firsts i 0) (back.firsts_in list g sound accepted named asked v 0 f.1) (back.firsts_in list g sound accepted named asked i 0 e.1)
      ∙ ne_eqb (get_or firsts i 0) (get_or firsts v 0) differ)))))

  distinct_again : are_distinct (graph_of_outline o) ≡ true
  distinct_again =
      let h = graph_of_outline o in
      all_in_range (is_new h) (n_of h) 0 (λ v low high. new_again v (let size : length names ≡ n_of g = met in omega (arith, high, n_of_outline o)))

  pub named_accepted : (h : GraphOf) → h ≡ graph_of_outline (outline_of_edges list (export_text NamedEdges g)) → refusal_of_export NamedEdges h ≡ None
  named_accepted h is =
      ap (refusal_of_export NamedEdges) (is ∙ ap graph_of_outline said)
      ∙ rw (outline_operand o, plain_again, distinct_again) refl
