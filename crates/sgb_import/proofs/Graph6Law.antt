-- What is exported in graph6 is read as a graph that is exported as the same text.
use Rattle.std.proofs.Common.{◌≡◌, ℕ, ◌<◌, ◌≤◌, ◌==◌, pos, Bool, true, false, not, ◌&&◌, ◌||◌, List, [], ◌∷◌, ◌++◌, codes, map, length, get_or, None, refl, sym, ap, ap₂, ◌∙◌, subst, arith, zero-add, inl, inr, append_assoc}
use Rattle.std.proofs.lemmas.Bool.{cases_Bool, and_from, and_parts, and_right, eqb-true, eq-eqb}
use Rattle.std.proofs.lemmas.List.{length-map, get_or-map, ext_get_or}
use Rattle.std.proofs.lemmas.List.Elements.{All-weaker}
use Rattle.std.proofs.lemmas.List.Folds.{list_any_at, list_any_none, list_any-append}
use Rattle.std.proofs.lemmas.List.FromFn.{length-range_with_len, get_or-range_with_len}
use Rattle.std.proofs.lemmas.Map.Views.{any-filter_same}
use Rattle.std.specs.List.{flat_map, list_any, range_with_len}
use Rattle.std.specs.Option.{option_or}
use Rattle.sgb_export.specs.declared.format.Format.TheVariants.{Graph6}
use Rattle.sgb_export.specs.Export.{refusal_of_export}
use Rattle.sgb_export.specs.Graph6.{column, size_bytes, triangle, packed, graph6_line, is_joined, graph6_text}
use Rattle.sgb_export.specs.Links.{is_directed, links}
use Rattle.sgb_export.specs.Simple.{is_simple}
use Rattle.sgb_export.specs.Text.{export_text}
use Rattle.sgb_graph.specs.Builder.{Insertion, insertion}
use Rattle.sgb_graph.specs.declared.refusal.Refusal.TheVariants.{BadOperand}
use Rattle.sgb_graph.specs.Edit.{refusal_unless}
use Rattle.sgb_graph.specs.Graph.{GraphOf, IsGraph, n_of}
use Rattle.sgb_import.specs.Graph6.{is_set, pairs, pair_count, edges_in, fits, graph_bytes, refusal_of_graph6, outline_of_graph6}
use Rattle.sgb_import.specs.Laws.{by_source, leaving, written}
use Rattle.sgb_import.specs.Outline.{Outline, IsOutline, graph_of_outline, numbered}
use Rattle.sgb_import.specs.Private.Pairs.{IsTriangle}
use Rattle.sgb_import.proofs.FewLinks.{few_edges}
use Rattle.sgb_import.proofs.Graph6Bits.{packed-bit, packed-six_bits}
use Rattle.sgb_import.proofs.Graph6Faults.{no_fault}
use Rattle.sgb_import.proofs.Graph6Joined.{none, pair, same_ends, edges-joined, edges-few}
use Rattle.sgb_import.proofs.Graph6Lines.{IsSizedLine, sized_line, graph_bytes-one, accepted-one, packed-fits}
use Rattle.sgb_import.proofs.Graph6Outlines.{edges-all, length-numbered, outline_sound, pairs-upward, pairs-within}
use Rattle.sgb_import.proofs.Graph6Pairs.{length-pairs-count}
use Rattle.sgb_import.proofs.Graph6Simple.{simple_found, undirected_leads}
use Rattle.sgb_import.proofs.Graph6Texts.{outline_read}
use Rattle.sgb_import.proofs.OutlineLinks.{map-flat_map, flat_map_same, written_edges, outline_undirected, n_of_outline}
use Rattle.sgb_import.proofs.Written.{upward_ordered}

any-map : {X Y : Type 0} (q : Y → Bool) (f : X → Y) (xs : List X) → list_any q (map f xs) ≡ list_any (λ x. q (f x)) xs
any-map q f [] = refl
any-map {X} {Y} q f (x ∷ xs) = ap (λ c. q (f x) || c) (any-map q f xs)

any-flat_map : {X Y : Type 0} (q : Y → Bool) (f : X → List Y) (xs : List X) → list_any q (flat_map f xs) ≡ list_any (λ x. list_any q (f x)) xs
any-flat_map q f [] = refl
any-flat_map {X} {Y} q f (x ∷ xs) = list_any-append q (f x) (flat_map f xs) ∙ ap (λ c. list_any q (f x) || c) (any-flat_map q f xs)

map-map : {X Y Z : Type 0} (h : Y → Z) (f : X → Y) (xs : List X) → map h (map f xs) ≡ map (λ x. h (f x)) xs
map-map h f [] = refl
map-map {X} {Y} {Z} h f (x ∷ xs) = ap (λ ys. h (f x) ∷ ys) (map-map h f xs)

-- ---- the triangle of a matrix, pair by pair
joined_by : (ℕ → ℕ → Bool) → Insertion → Bool
joined_by joined e = joined e.from e.to

triangle-pairs : (n : ℕ) (joined : ℕ → ℕ → Bool) → triangle n joined ≡ map (joined_by joined) (pairs n)
unfolding triangle pairs joined_by
triangle-pairs n joined =
    sym (map-flat_map (joined_by joined) (λ j. map (λ i. insertion i j (pos 1)) (range_with_len 0 j)) (range_with_len 0 n)
    ∙ flat_map_same (λ j. map (joined_by joined) (map (λ i. insertion i j (pos 1)) (range_with_len 0 j))) (column joined) (range_with_len 0 n)
    (λ j. map-map (joined_by joined) (λ i. insertion i j (pos 1)) (range_with_len 0 j)))

length-triangle : (n : ℕ) (joined : ℕ → ℕ → Bool) → length (triangle n joined) ≡ pair_count n
length-triangle n joined = ap length (triangle-pairs n joined) ∙ length-map (pairs n) (joined_by joined) ∙ length-pairs-count n

triangle-at : (n : ℕ) (joined : ℕ → ℕ → Bool) (k : ℕ) → k < pair_count n → get_or (triangle n joined) k false ≡ joined (pair n k).from (pair n k).to
unfolding pair joined_by
triangle-at n joined k h =
    ap (λ bits. get_or bits k false) (triangle-pairs n joined)
    ∙ get_or-map (joined_by joined) (pairs n) k none false (omega (arith, length-pairs-count n))

triangle-same : (n : ℕ) (joined other : ℕ → ℕ → Bool) →
    ((k : ℕ) → k < pair_count n → joined (pair n k).from (pair n k).to ≡ other (pair n k).from (pair n k).to) → triangle n joined ≡ triangle n other
triangle-same n joined other h =
    ext_get_or false (triangle n joined) (triangle n other) (length-triangle n joined ∙ sym (length-triangle n other)) (λ k l.
    let within : k < pair_count n = omega (arith, length-triangle n joined) in
    triangle-at n joined k within ∙ h k within ∙ sym (triangle-at n other k within))

-- ---- the edges that an export writes
joined-written : (g : GraphOf) (e : Insertion) → is_joined g e.from e.to ≡ list_any (same_ends e) (written false g)
unfolding is_joined
joined-written g e = sym (any-map (same_ends e) _ (links false g))

-- in the order of their lower endpoints there are the same
any-leaving : (e : Insertion) (es : List Insertion) (v : ℕ) → list_any (same_ends e) (leaving es v) ≡ ((e.from == v) && list_any (same_ends e) es)
any-leaving e es v =
    any-filter_same (same_ends e) (λ (x : Insertion). x.from == v) (e.from == v)
    (λ x same. ap (λ (m : ℕ). m == v) (eqb-true x.from e.from (and_parts _ _ same).0)) es

any-by_source : (n : ℕ) (e : Insertion) (es : List Insertion) → e.from < n → list_any (same_ends e) (by_source n es) ≡ list_any (same_ends e) es
any-by_source n e es h =
    let here = λ (v : ℕ). list_any (same_ends e) (leaving es v) in
    any-flat_map (same_ends e) (leaving es) (range_with_len 0 n)
    ∙ elim (cases_Bool (list_any (same_ends e) es)) [
      | inl some ↦
          let at : get_or (range_with_len 0 n) e.from 0 ≡ e.from = get_or-range_with_len 0 n e.from 0 h ∙ zero-add e.from in
          list_any_at here (range_with_len 0 n) e.from 0 (omega (arith, length-range_with_len 0 n))
          (ap here at ∙ any-leaving e es e.from ∙ and_from _ _ (eq-eqb e.from e.from refl) some)
          ∙ sym some
      | inr no_one ↦
          list_any_none here (range_with_len 0 n) (λ k d l. any-leaving e es (get_or (range_with_len 0 n) k d) ∙ and_right _ _ no_one) ∙ sym no_one
    ]

-- ---- what is exported
body_of : GraphOf → List ℕ
body_of g = packed (triangle (n_of g) (is_joined g))

line_of : GraphOf → List ℕ
line_of g = size_bytes (n_of g) ++ body_of g

text-line : (g : GraphOf) → export_text Graph6 g ≡ line_of g ++ codes "\n"
unfolding export_text graph6_text graph6_line line_of body_of
text-line g = sym (append_assoc (size_bytes (n_of g)) (packed (triangle (n_of g) (is_joined g))) (codes "\n"))

-- the parts of an export that is accepted
pub record IsExported (g : GraphOf) : Type 0 where
  pub sound : IsGraph g
  pub edges : is_directed g ≡ false

accepted_parts : (a b c : Bool) → option_or (refusal_unless a BadOperand None) (refusal_unless (not b) BadOperand (refusal_unless c BadOperand None)) ≡ None → b ≡ false
accepted_parts true false true h = refl
accepted_parts true false false h = refl
accepted_parts true true c h = absurd cc
accepted_parts false b c h = absurd cc

pub exported : (g : GraphOf) → IsGraph g → refusal_of_export Graph6 g ≡ None → IsExported g
exported g sound h = record { sound = sound; edges = accepted_parts _ (is_directed g) (is_simple g) h }

bit_is : (g : GraphOf) (k : ℕ) → k < pair_count (n_of g) → is_set (body_of g) k ≡ list_any (same_ends (pair (n_of g) k)) (written false g)
unfolding body_of
bit_is g k h =
    packed-bit (triangle (n_of g) (is_joined g)) k ∙ triangle-at (n_of g) (is_joined g) k h ∙ joined-written g (pair (n_of g) k)

-- ---- what is read
sized : (g : GraphOf) → IsGraph g → IsSizedLine (n_of g) (body_of g) (line_of g)
unfolding body_of line_of
sized g sound = sized_line (n_of g) (body_of g) sound.few_vertices (packed-six_bits (triangle (n_of g) (is_joined g)))

few_found : (g : GraphOf) → IsExported g → length (edges_in (n_of g) (body_of g)) ≤ 500000
few_found g x =
    omega (arith, edges-few (n_of g) (body_of g) (written false g) (bit_is g), few_edges g x.sound x.edges, x.sound.few_arcs)

full_bits : (g : GraphOf) → fits (n_of g) (body_of g) ≡ true
unfolding body_of
full_bits g = packed-fits (n_of g) (triangle (n_of g) (is_joined g)) (length-triangle (n_of g) (is_joined g))

pub text_read : (g : GraphOf) → IsExported g → refusal_of_graph6 (export_text Graph6 g) ≡ None
text_read g x =
    let s = sized g x.sound in
    ap refusal_of_graph6 (text-line g)
    ∙ accepted-one (n_of g) (body_of g) (line_of g) s
    (no_fault (line_of g) (n_of g) (body_of g)
    (record { size = s.size; n_is = sym s.n_is; body_is = sym s.body_is; few = x.sound.few_vertices }) (full_bits g) (few_found g x))

triangle_read : (g : GraphOf) → IsExported g → IsTriangle (graph_bytes (export_text Graph6 g)) (n_of g) (body_of g)
unfolding body_of
triangle_read g x =
    let s = sized g x.sound in
    let bytes : graph_bytes (export_text Graph6 g) ≡ line_of g = ap graph_bytes (text-line g) ∙ graph_bytes-one (n_of g) (body_of g) (line_of g) s in
    subst (λ bs. IsTriangle bs (n_of g) (body_of g)) (sym bytes)
    (record {
      size = sym s.n_is;
      body_is = sym s.body_is;
      few = x.sound.few_vertices;
      six_bits = packed-six_bits (triangle (n_of g) (is_joined g));
      full = full_bits g;
      few_edges = few_found g x;
    })

-- the outline that is read
found : GraphOf → Outline
found g = record { id = codes "import(graph6)"; names = numbered 0 (n_of g); directed = false; links = edges_in (n_of g) (body_of g) }

found_is : (g : GraphOf) → IsExported g → found g ≡ outline_of_graph6 (export_text Graph6 g)
unfolding found
found_is g x = outline_read (export_text Graph6 g) (n_of g) (body_of g) (edges_in (n_of g) (body_of g)) (triangle_read g x) refl

found_sound : (g : GraphOf) → IsExported g → IsOutline (found g)
found_sound g x =
    subst IsOutline (sym (found_is g x)) (outline_sound (export_text Graph6 g) (n_of g) (body_of g) (triangle_read g x))

found_n : (g : GraphOf) → n_of (graph_of_outline (found g)) ≡ n_of g
unfolding found
found_n g = n_of_outline (found g) ∙ length-numbered (n_of g)

-- its edges, those of each vertex together
found_written : (g : GraphOf) → IsExported g → written false (graph_of_outline (found g)) ≡ by_source (n_of g) (edges_in (n_of g) (body_of g))
unfolding found
found_written g x =
    let es = edges_in (n_of g) (body_of g) in
    written_edges (found g) (found_sound g x) refl
    ∙ ap₂ by_source (length-numbered (n_of g))
    (upward_ordered es (All-weaker (λ (e : Insertion). e.from < e.to) (λ (e : Insertion). e.from ≤ e.to) (λ e h. omega arith) es
    (edges-all (λ (e : Insertion). e.from < e.to) (n_of g) (body_of g) (pairs-upward (n_of g)))))

found_joined : (g : GraphOf) → IsExported g → (k : ℕ) → k < pair_count (n_of g) →
    is_joined (graph_of_outline (found g)) (pair (n_of g) k).from (pair (n_of g) k).to ≡ is_joined g (pair (n_of g) k).from (pair (n_of g) k).to
unfolding pair
found_joined g x k h =
    let e = pair (n_of g) k in
    let link = pairs-within (n_of g) k none (omega (arith, length-pairs-count (n_of g))) in
    joined-written (graph_of_outline (found g)) e ∙ ap (list_any (same_ends e)) (found_written g x)
    ∙ any-by_source (n_of g) e (edges_in (n_of g) (body_of g)) link.from
    ∙ edges-joined (n_of g) (body_of g) k h ∙ bit_is g k h ∙ sym (joined-written g e)

found_text : (g : GraphOf) → IsExported g → export_text Graph6 (graph_of_outline (found g)) ≡ export_text Graph6 g
unfolding export_text graph6_text graph6_line
found_text g x =
    let h = graph_of_outline (found g) in
    ap (λ n. graph6_line n (is_joined h)) (found_n g)
    ∙ ap (λ bits. size_bytes (n_of g) ++ (packed bits ++ codes "\n")) (triangle-same (n_of g) (is_joined h) (is_joined g) (found_joined g x))

pub text_same : (g h : GraphOf) → IsExported g → h ≡ graph_of_outline (outline_of_graph6 (export_text Graph6 g)) → export_text Graph6 h ≡ export_text Graph6 g
text_same g h x e = ap (export_text Graph6) (e ∙ ap graph_of_outline (sym (found_is g x))) ∙ found_text g x

accepted : (a b c : Bool) → refusal_unless a BadOperand None ≡ None → b ≡ false → c ≡ true →
    option_or (refusal_unless a BadOperand None) (refusal_unless (not b) BadOperand (refusal_unless c BadOperand None)) ≡ None
accepted a b c operand edges simple = rw (operand, edges, simple) refl

pub accepted_again : (g h : GraphOf) → IsExported g → h ≡ graph_of_outline (outline_of_graph6 (export_text Graph6 g)) → refusal_of_export Graph6 h ≡ None
unfolding found
accepted_again g h x e =
    let again = graph_of_outline (found g) in
    let edges : is_directed again ≡ false = outline_undirected (found g) (found_sound g x) refl in
    ap (refusal_of_export Graph6) (e ∙ ap graph_of_outline (sym (found_is g x)))
    ∙ accepted _ (is_directed again) (is_simple again) (undirected_leads again edges) edges
    (simple_found again (n_of g) (body_of g) (found_written g x))
