-- Lemmas on lists of edges that were printed: their lines, and what is read of them.
use Rattle.std.proofs.Common.{◌≡◌, ◌≢◌, ◌<◌, ◌≤◌, ◌+◌, ◌^◌, ℕ, ℤ, List, [], ◌∷◌, ◌++◌, codes, length, get_or, map, Some, None, Bool, true, false, not, ◌&&◌, ◌==◌, nat_le, cond, ◌⊎◌, inl, inr, All, FitsSigned, w64, refl, ap, ◌∙◌, arith}
use Rattle.std.specs.Fmt.{decimal, signed_decimal}
use Rattle.std.specs.List.{filter_map, list_all, slice_index, slice_index_or}
use Rattle.std.specs.Option.{option_map}
use Rattle.std.proofs.lemmas.Bool.{and_parts, leb-true, ne_eqb}
use Rattle.std.proofs.lemmas.List.Elements.{All-cons, All-head, All-nil, All-tail}
use Rattle.sgb_graph.specs.Builder.{Insertion}
use Rattle.sgb_graph.proofs.SameRows.{and_no}
use Rattle.sgb_export.specs.Dot.{kind}
use Rattle.sgb_import.specs.Edges.{edge_of, ends_of, is_comment, is_edge}
use Rattle.sgb_import.specs.Laws.{by_names}
use Rattle.sgb_import.specs.Lines.{LineOf, has_words, words}
use Rattle.sgb_import.specs.Numbers.{length_of}
use Rattle.sgb_import.specs.Outline.{IsLink}
use Rattle.sgb_import.proofs.ReadBack.{IsWord, length_of_signed, no_words, numbered_from, word_of_decimal, word_of_signed, words_first, words_last}

-- ---- the lines
-- # graph N M
abbrev pub counts_bytes : Bool → ℕ → ℕ → List ℕ
counts_bytes directed n m = codes "#" ++ (32 ∷ (kind directed ++ (32 ∷ (decimal n ++ (32 ∷ decimal m)))))

-- # id "ID"
abbrev pub id_bytes : List ℕ → List ℕ
id_bytes id = codes "# id \"" ++ (id ++ 34 ∷ [])

-- U V LEN
abbrev pub link_bytes : (ℕ → List ℕ) → Insertion → List ℕ
link_bytes word e = word e.from ++ (32 ∷ (word e.to ++ (32 ∷ signed_decimal e.len)))

abbrev pub edge_lines : (ℕ → List ℕ) → Bool → ℕ → List ℕ → List Insertion → List (List ℕ)
edge_lines word directed n id es = counts_bytes directed n (length es) ∷ (id_bytes id ∷ map (link_bytes word) es)

-- a word that begins no comment
pub record IsEnd (w : List ℕ) : Type 0 where
  pub word : IsWord w
  pub plain : get_or w 0 0 ≢ 35

pub record AreEnds (word : ℕ → List ℕ) (e : Insertion) : Type 0 where
  pub from : IsEnd (word e.from)
  pub to : IsEnd (word e.to)
  pub len : FitsSigned w64 e.len

-- ---- their words
high_bytes : (bs : List ℕ) → list_all (λ b. nat_le 33 b) bs ≡ true → All (λ b. 33 ≤ b) bs
high_bytes [] all = All-nil (λ b. 33 ≤ b)
high_bytes (b ∷ bs) all =
    let p = and_parts (nat_le 33 b) (list_all (λ c. nat_le 33 c) bs) all in
    All-cons (λ c. 33 ≤ c) b bs (leb-true 33 b p.0) (high_bytes bs p.1)

pub hash_word : IsWord (codes "#")
hash_word = record { some = omega arith; bytes = high_bytes (codes "#") refl }

pub kind_word : (directed : Bool) → IsWord (kind directed)
kind_word true = record { some = omega arith; bytes = high_bytes (codes "digraph") refl }
kind_word false = record { some = omega arith; bytes = high_bytes (codes "graph") refl }

pub counts_words : (directed : Bool) (n m : ℕ) → n < 2 ^ 64 → m < 2 ^ 64 → words (counts_bytes directed n m) ≡ codes "#" ∷ (kind directed ∷ (decimal n ∷ (decimal m ∷ [])))
counts_words directed n m small few =
    words_first (codes "#") (kind directed ++ (32 ∷ (decimal n ++ (32 ∷ decimal m)))) hash_word
    ∙ ap (λ ws. codes "#" ∷ ws) (words_first (kind directed) (decimal n ++ (32 ∷ decimal m)) (kind_word directed)
    ∙ ap (λ ws. kind directed ∷ ws) (words_first (decimal n) (decimal m) (word_of_decimal n small)
    ∙ ap (λ ws. decimal n ∷ ws) (words_last (decimal m) (word_of_decimal m few))))

pub id_words : (id : List ℕ) → words (id_bytes id) ≡ codes "#" ∷ words (codes "id \"" ++ (id ++ 34 ∷ []))
id_words id = words_first (codes "#") (codes "id \"" ++ (id ++ 34 ∷ [])) hash_word

link_words : (word : ℕ → List ℕ) (e : Insertion) → AreEnds word e → words (link_bytes word e) ≡ word e.from ∷ (word e.to ∷ (signed_decimal e.len ∷ []))
link_words word e is =
    words_first (word e.from) (word e.to ++ (32 ∷ signed_decimal e.len)) is.from.word
    ∙ ap (λ ws. word e.from ∷ ws) (words_first (word e.to) (signed_decimal e.len) is.to.word
    ∙ ap (λ ws. word e.to ∷ ws) (words_last (signed_decimal e.len) (word_of_signed e.len is.len)))

-- ---- comments and edges
pub comment_is : (l : LineOf) (w : List ℕ) (ws : List (List ℕ)) → words l.bytes ≡ w ∷ ws → is_comment l ≡ (get_or w 0 0 == 35)
comment_is l w ws is = ap (λ vs. slice_index (slice_index_or vs 0 []) 0 == 35) is

pub comment_no_edge : (l : LineOf) → is_comment l ≡ true → is_edge l ≡ false
comment_no_edge l is = ap (λ b. has_words l && not b) is ∙ and_no (has_words l)

pub no_edge_none : (l : LineOf) → is_edge l ≡ false → edge_of l ≡ None
no_edge_none l is = ap (λ b. cond b (ends_of (words l.bytes)) None) is

empty_no_edge : (k : ℕ) → is_edge (record { number = k; bytes = [] }) ≡ false
empty_no_edge k = ap (λ ws. not (length ws == 0) && not (slice_index (slice_index_or ws 0 []) 0 == 35)) no_words

-- the line of a link is an edge line, and its ends are read
pub record EdgeLine (word : ℕ → List ℕ) (l : LineOf) (e : Insertion) : Type 0 where
  pub edge : is_edge l ≡ true
  pub ends : ends_of (words l.bytes) ≡ Some (by_names word e)

three_ends : (u v w : List ℕ) (z : ℤ) → length_of w ≡ Some z → ends_of (u ∷ (v ∷ (w ∷ []))) ≡ Some (record { from = u; to = v; len = z })
unfolding ends_of
three_ends u v w z is = ap (option_map (λ y. record { from = u; to = v; len = y })) is

link_line : (word : ℕ → List ℕ) (k : ℕ) (e : Insertion) → AreEnds word e → EdgeLine word (record { number = k; bytes = link_bytes word e }) e
link_line word k e is =
    let is_words = link_words word e is in
    let plain = is.from.plain in
    record {
      edge = ap (λ ws. not (length ws == 0) && not (slice_index (slice_index_or ws 0 []) 0 == 35)) is_words ∙ ap not (ne_eqb (get_or (word e.from) 0 0) 35 plain);
      ends = ap ends_of is_words ∙ three_ends (word e.from) (word e.to) (signed_decimal e.len) e.len (length_of_signed e.len is.len);
    }

pub edge_line_of : (word : ℕ → List ℕ) (l : LineOf) (e : Insertion) → EdgeLine word l e → edge_of l ≡ Some (by_names word e)
edge_line_of word l e is = ap (λ b. cond b (ends_of (words l.bytes)) None) is.edge ∙ is.ends

-- ---- all lines
-- those of the links, and the empty one behind them
abbrev pub rest_lines : (ℕ → List ℕ) → ℕ → List Insertion → List LineOf
rest_lines word k es = numbered_from k (map (link_bytes word) es ++ [] ∷ [])

pub edges_of_rest : (word : ℕ → List ℕ) (k : ℕ) (es : List Insertion) → All (AreEnds word) es → filter_map edge_of (rest_lines word k es) ≡ map (by_names word) es
edges_of_rest word k [] all = rw (no_edge_none (record { number = k; bytes = [] }) (empty_no_edge k)) refl
edges_of_rest word k (e ∷ es) all =
    rw (edge_line_of word (record { number = k; bytes = link_bytes word e }) e (link_line word k e (All-head (AreEnds word) e es all)))
    (ap (λ xs. by_names word e ∷ xs) (edges_of_rest word (k + 1) es (All-tail (AreEnds word) e es all)))

-- a line that is no edge line, or that of a link
abbrev pub FineLine : (ℕ → List ℕ) → ℕ → LineOf → Type 0
FineLine word n l = (is_edge l ≡ false) ⊎ ((e : Insertion) × EdgeLine word l e × IsLink n e)

pub fine_rest : (word : ℕ → List ℕ) (n k : ℕ) (es : List Insertion) → All (AreEnds word) es → All (IsLink n) es → All (FineLine word n) (rest_lines word k es)
fine_rest word n k [] all links = All-cons (FineLine word n) (record { number = k; bytes = [] }) [] (inl (empty_no_edge k)) (All-nil (FineLine word n))
fine_rest word n k (e ∷ es) all links =
    let l : LineOf = record { number = k; bytes = link_bytes word e } in
    All-cons (FineLine word n) l (rest_lines word (k + 1) es)
    (inr (e, link_line word k e (All-head (AreEnds word) e es all), All-head (IsLink n) e es links))
    (fine_rest word n (k + 1) es (All-tail (AreEnds word) e es all) (All-tail (IsLink n) e es links))
