-- The outline of a graph in graph6 is one of which a graph can be made.
use Rattle.std.proofs.Common.{◌≡◌, ℕ, ◌+◌, ◌<◌, ◌≤◌, pos, List, length, map, All, lit≤, lit<, w64, FitsSigned, refl, sym, ap, ◌∙◌, subst, arith}
use Rattle.std.specs.Fmt.{decimal}
use Rattle.std.specs.List.{range_with_len, enumerate_from, filter}
use Rattle.std.proofs.lemmas.List.{length-map}
use Rattle.std.proofs.lemmas.List.Elements.{All-filter, All-map}
use Rattle.std.proofs.lemmas.List.FromFn.{length-range_with_len, get_or-range_with_len, length-enumerate_from, get_or-enumerate_from}
use Rattle.sgb_graph.specs.Builder.{Insertion, insertion}
use Rattle.sgb_graph.specs.Text.{IsText}
use Rattle.sgb_plan.proofs.Distincts.{All-flat_map}
use Rattle.sgb_plan.proofs.Shorts.{IsShort-decimal, text_from_short}
use Rattle.sgb_import.specs.Graph6.{is_set, pairs, edges_in, graph_bytes, size_in, body_in, outline_of_graph6}
use Rattle.sgb_import.specs.Outline.{IsLink, IsOutline, numbered}
use Rattle.sgb_import.specs.Private.Pairs.{IsTriangle}

pub All-range_with_len : (P : ℕ → Type 0) (a n : ℕ) → ((k : ℕ) → k < n → P (a + k)) → All P (range_with_len a n)
All-range_with_len P a n h k d lt =
    let within : k < n = omega (arith, length-range_with_len a n) in
    subst P (sym (get_or-range_with_len a n k d within)) (h k within)

numbers-text : (n : ℕ) → n ≤ 65535 → All IsText (numbered 0 n)
numbers-text n few =
    All-map IsText decimal (range_with_len 0 n)
    (All-range_with_len (λ m. IsText (decimal m)) 0 n (λ k h. text_from_short (lit≤ tt) (IsShort-decimal (0 + k) (omega arith))))

unit_length : FitsSigned w64 (pos 1)
unit_length = record { sfits = lit< tt }

pub pairs-within : (n : ℕ) → All (IsLink n) (pairs n)
unfolding pairs
pairs-within n =
    All-flat_map (IsLink n) (λ j. map (λ i. insertion i j (pos 1)) (range_with_len 0 j)) (range_with_len 0 n)
    (All-range_with_len (λ j. All (IsLink n) (map (λ i. insertion i j (pos 1)) (range_with_len 0 j))) 0 n (λ j h.
    All-map (IsLink n) (λ i. insertion i (0 + j) (pos 1)) (range_with_len 0 (0 + j))
    (All-range_with_len (λ i. IsLink n (insertion i (0 + j) (pos 1))) 0 (0 + j) (λ i l.
    record { from = omega arith; to = omega arith; len = unit_length }))))

enumerated : {X : Type 0} (P : X → Type 0) (a : ℕ) (xs : List X) → All P xs → All (λ (p : ℕ × X). P p.1) (enumerate_from a xs)
enumerated P a xs h k d lt =
    let within : k < length xs = omega (arith, length-enumerate_from a xs) in
    subst P (sym (ap (λ p. p.1) (get_or-enumerate_from a xs k d within))) (h k d.1 within)

-- what holds of each pair holds of each edge
pub edges-all : (P : Insertion → Type 0) (n : ℕ) (body : List ℕ) → All P (pairs n) → All P (edges_in n body)
unfolding edges_in
edges-all P n body all =
    All-map P (λ (p : ℕ × Insertion). p.1) (filter (λ (p : ℕ × Insertion). is_set body p.0) (enumerate_from 0 (pairs n)))
    (All-filter (λ (p : ℕ × Insertion). is_set body p.0) (λ (p : ℕ × Insertion). P p.1) (enumerate_from 0 (pairs n))
    (enumerated P 0 (pairs n) all))

pub pairs-upward : (n : ℕ) → All (λ e. e.from < e.to) (pairs n)
unfolding pairs
pairs-upward n =
    All-flat_map (λ (e : Insertion). e.from < e.to) (λ j. map (λ i. insertion i j (pos 1)) (range_with_len 0 j)) (range_with_len 0 n)
    (All-range_with_len (λ j. All (λ (e : Insertion). e.from < e.to) (map (λ i. insertion i j (pos 1)) (range_with_len 0 j))) 0 n (λ j h.
    All-map (λ (e : Insertion). e.from < e.to) (λ i. insertion i (0 + j) (pos 1)) (range_with_len 0 (0 + j))
    (All-range_with_len (λ i. i < 0 + j) 0 (0 + j) (λ i l. omega arith))))

edges-within : (n : ℕ) (body : List ℕ) → All (IsLink n) (edges_in n body)
edges-within n body = edges-all (IsLink n) n body (pairs-within n)

pub length-numbered : (n : ℕ) → length (numbered 0 n) ≡ n
length-numbered n = length-map (range_with_len 0 n) decimal ∙ length-range_with_len 0 n

pub outline_sound : (text : List ℕ) (n : ℕ) (body : List ℕ) → IsTriangle (graph_bytes text) n body → IsOutline (outline_of_graph6 text)
unfolding outline_of_graph6
outline_sound text n body t =
    let m = size_in (graph_bytes text) in
    let few : m ≤ 65535 = omega (arith, t.size, t.few) in
    let few_edges : length (edges_in m (body_in (graph_bytes text))) ≤ 500000 =
    subst (λ xs. length (edges_in m xs) ≤ 500000) t.body_is (subst (λ k. length (edges_in k body) ≤ 500000) t.size t.few_edges) in
    record {
      id = record { text = record { short = lit≤ tt; printable = refl }; short = lit≤ tt };
      names = numbers-text m few;
      few_vertices = omega (arith, length-numbered m);
      links = subst (λ k. All (IsLink k) (edges_in m (body_in (graph_bytes text)))) (sym (length-numbered m)) (edges-within m (body_in (graph_bytes text)));
      few_arcs = omega arith;
    }
