-- The text of DIMACS that an export writes is read as a graph with the same text.
use Rattle.std.proofs.Common.{Option, not, ◌≡◌, ◌≤◌, ◌+◌, ℕ, ℤ, List, [], ◌∷◌, ◌++◌, codes, length, map, None, Bool, true, false, refl, sym, ap, ap₂, subst, ◌∙◌, append_assoc}
use Rattle.std.specs.Fmt.{decimal, signed_decimal}
use Rattle.std.specs.List.{flat_map, range_with_len}
use Rattle.std.proofs.lemmas.List.{append-nil, length-map}
use Rattle.sgb_graph.specs.Builder.{Insertion, insertion}
use Rattle.sgb_graph.specs.Graph.{GraphOf, IsGraph, n_of}
use Rattle.sgb_export.specs.declared.format.Format.TheVariants.{Dimacs, Col}
use Rattle.sgb_export.specs.Dimacs.{dimacs_head, col_head}
use Rattle.sgb_export.specs.Export.{refusal_of_export}
use Rattle.sgb_export.specs.Links.{is_directed, links}
use Rattle.sgb_export.specs.Simple.{is_simple}
use Rattle.sgb_graph.specs.declared.refusal.Refusal.{Refusal}
use Rattle.sgb_graph.specs.declared.refusal.Refusal.TheVariants.{BadOperand}
use Rattle.sgb_graph.specs.Edit.{refusal_unless}
use Rattle.std.specs.Option.{option_or}
use Rattle.sgb_import.proofs.OutlineOperands.{outline_operand}
use Rattle.sgb_import.proofs.SimpleEnds.{have_simple_ends, same_simple, simple_written}
use Rattle.sgb_export.specs.Text.{export_text, listed_text, link_text, links_text}
use Rattle.sgb_import.specs.Dimacs.{outline_of_dimacs, refusal_of_dimacs}
use Rattle.sgb_import.specs.Laws.{written}
use Rattle.sgb_import.specs.Outline.{IsOutline, Outline, arcs_of_links, graph_of_outline, numbered}
use Rattle.sgb_import.proofs.DimacsOutlines.{dimacs_sound, length-numbered}
use Rattle.sgb_import.proofs.DimacsReadings.{not_refused, outline_is}
use Rattle.sgb_import.proofs.DimacsTexts.{dimacs_lines, id_bytes, link_bytes, problem_bytes, read_as}
use Rattle.sgb_import.proofs.EdgesBack.{no_vertices, printed_links}
use Rattle.sgb_import.proofs.FewLinks.{few_links}
use Rattle.sgb_import.proofs.OutlineLinks.{id_of_outline, n_of_outline, outline_undirected}
use Rattle.sgb_import.proofs.ReadBack.{text_of_lines}
use Rattle.sgb_import.proofs.Written.{length-written, links_back_as, written_within}

-- ---- the exported text, line by line
first_line : (id : List ℕ) → codes "c " ++ id ++ codes "\n" ≡ id_bytes id ++ 10 ∷ []
first_line id = simp append_assoc

sp_line : (n m : ℕ) → codes "p sp " ++ decimal n ++ codes " " ++ decimal m ++ codes "\n" ≡ problem_bytes true n m ++ 10 ∷ []
sp_line n m = simp append_assoc

col_line : (n m : ℕ) → codes "p edge " ++ decimal n ++ codes " " ++ decimal m ++ codes "\n" ≡ problem_bytes false n m ++ 10 ∷ []
col_line n m = simp append_assoc

regrouped : (a b c d e f : List ℕ) → a ++ b ++ c ++ d ++ e ++ f ≡ a ++ (b ++ c ++ d ++ e ++ f)
regrouped a b c d e f = simp append_assoc

sp_head : (id : List ℕ) (n m : ℕ)
    → codes "c " ++ id ++ codes "\n" ++ codes "p sp " ++ decimal n ++ codes " " ++ decimal m ++ codes "\n" ≡ (id_bytes id ++ 10 ∷ []) ++ (problem_bytes true n m ++ 10 ∷ [])
sp_head id n m =
    regrouped (codes "c " ++ id ++ codes "\n") (codes "p sp ") (decimal n) (codes " ") (decimal m) (codes "\n")
    ∙ ap₂ (λ x y. x ++ y) (first_line id) (sp_line n m)

edge_head : (id : List ℕ) (n m : ℕ)
    → codes "c " ++ id ++ codes "\n" ++ codes "p edge " ++ decimal n ++ codes " " ++ decimal m ++ codes "\n" ≡ (id_bytes id ++ 10 ∷ []) ++ (problem_bytes false n m ++ 10 ∷ [])
edge_head id n m =
    regrouped (codes "c " ++ id ++ codes "\n") (codes "p edge ") (decimal n) (codes " ") (decimal m) (codes "\n")
    ∙ ap₂ (λ x y. x ++ y) (first_line id) (col_line n m)

arc_line : (u v : ℕ) (z : ℤ) → codes "a " ++ decimal (u + 1) ++ codes " " ++ decimal (v + 1) ++ codes " " ++ signed_decimal z ++ codes "\n" ≡ link_bytes true (insertion u v z) ++ 10 ∷ []
arc_line u v z = simp append_assoc

edge_line : (u v : ℕ) (z : ℤ) → codes "e " ++ decimal (u + 1) ++ codes " " ++ decimal (v + 1) ++ codes "\n" ≡ link_bytes false (insertion u v z) ++ 10 ∷ []
edge_line u v z = simp append_assoc

-- a head of two lines, no vertices, and the lines of arcs or edges
put_together : (directed : Bool) (n : ℕ) (id head vertices body : List ℕ) (es : List Insertion) → head ≡ (id_bytes id ++ 10 ∷ []) ++ (problem_bytes directed n (length es) ++ 10 ∷ []) → vertices ≡ [] → body ≡ text_of_lines (map (link_bytes directed) es)
    → head ++ (vertices ++ (body ++ [])) ≡ text_of_lines (dimacs_lines directed n id es)
put_together directed n id head vertices body es head_is none body_is =
    ap₂ (λ h vs. h ++ (vs ++ (body ++ []))) head_is none
    ∙ (append_assoc (id_bytes id ++ 10 ∷ []) (problem_bytes directed n (length es) ++ 10 ∷ []) (body ++ [])
    ∙ ap (λ b. (id_bytes id ++ 10 ∷ []) ++ ((problem_bytes directed n (length es) ++ 10 ∷ []) ++ b)) (append-nil body ∙ body_is))

pub dimacs_text : (g : GraphOf) → export_text Dimacs g ≡ text_of_lines (dimacs_lines true (n_of g) g.id (written true g))
unfolding export_text listed_text links_text
dimacs_text g =
    put_together true (n_of g) g.id (dimacs_head g) (flat_map (λ v. []) (range_with_len 0 (n_of g))) (links_text Dimacs true g 0 (links true g)) (written true g)
    (sp_head g.id (n_of g) (length (links true g)) ∙ ap (λ m. (id_bytes g.id ++ 10 ∷ []) ++ (problem_bytes true (n_of g) m ++ 10 ∷ [])) (sym (length-written true g)))
    (no_vertices (range_with_len 0 (n_of g)))
    (printed_links (link_text Dimacs true g) (λ l. insertion l.from l.to l.len) (link_bytes true) (λ k l. arc_line l.from l.to l.len) 0 (links true g))

col_text_of : (g : GraphOf) (directed : Bool) → directed ≡ false
    → col_head g ++ (flat_map {X = ℕ} {A = ℕ} (λ v. []) (range_with_len 0 (n_of g)) ++ (links_text Col directed g 0 (links directed g) ++ [])) ≡ text_of_lines (dimacs_lines false (n_of g) g.id (written false g))
unfolding links_text
col_text_of g directed undirected =
    ap (λ d. col_head g ++ (flat_map {X = ℕ} {A = ℕ} (λ v. []) (range_with_len 0 (n_of g)) ++ (links_text Col d g 0 (links d g) ++ []))) undirected
    ∙ put_together false (n_of g) g.id (col_head g) (flat_map (λ v. []) (range_with_len 0 (n_of g))) (links_text Col false g 0 (links false g)) (written false g)
    (edge_head g.id (n_of g) (length (links false g)) ∙ ap (λ m. (id_bytes g.id ++ 10 ∷ []) ++ (problem_bytes false (n_of g) m ++ 10 ∷ [])) (sym (length-written false g)))
    (no_vertices (range_with_len 0 (n_of g)))
    (printed_links (link_text Col false g) (λ l. insertion l.from l.to l.len) (link_bytes false) (λ k l. edge_line l.from l.to l.len) 0 (links false g))

pub col_text : (g : GraphOf) → is_directed g ≡ false → export_text Col g ≡ text_of_lines (dimacs_lines false (n_of g) g.id (written false g))
unfolding export_text listed_text
col_text g undirected = col_text_of g (is_directed g) undirected

-- ---- what is read
read_from : (directed : Bool) (e : Insertion) → (read_as directed e).from ≡ e.from
read_from true e = refl
read_from false e = refl

read_to : (directed : Bool) (e : Insertion) → (read_as directed e).to ≡ e.to
read_to true e = refl
read_to false e = refl

-- the length of an edge is no part of its line
same_bytes : (directed : Bool) (e : Insertion) → link_bytes directed (read_as directed e) ≡ link_bytes directed e
same_bytes true e = refl
same_bytes false e = refl

same_lines : (directed : Bool) (es : List Insertion) → map (link_bytes directed) (map (read_as directed) es) ≡ map (link_bytes directed) es
same_lines directed [] = refl
same_lines directed (e ∷ es) = ap₂ (λ l ls. l ∷ ls) (same_bytes directed e) (same_lines directed es)

module _ (directed : Bool) (g : GraphOf) (sound : IsGraph g) (undirected : directed ≡ false → is_directed g ≡ false) where
  abbrev es : List Insertion
  es = written directed g

  abbrev text : List ℕ
  text = text_of_lines (dimacs_lines directed (n_of g) g.id es)

  abbrev outlined : Outline
  outlined = record { id = g.id; names = numbered 1 (n_of g); directed = directed; links = map (read_as directed) es }

  few : arcs_of_links directed (length es) ≤ 1000000
  few = few_links directed g sound undirected

  pub text_read : refusal_of_dimacs text ≡ None
  text_read = not_refused directed (n_of g) g.id es sound.id sound.few_vertices (written_within directed g sound) few

  pub text_outline : outline_of_dimacs text ≡ outlined
  text_outline = outline_is directed (n_of g) g.id es sound.id sound.few_vertices (written_within directed g sound) few

  is_outline : IsOutline outlined
  is_outline = subst IsOutline text_outline (dimacs_sound text text_read)

  pub back_undirected : directed ≡ false → is_directed (graph_of_outline outlined) ≡ false
  back_undirected edges = outline_undirected outlined is_outline edges

  same_text : text_of_lines (dimacs_lines directed (n_of g) g.id (map (read_as directed) es)) ≡ text
  same_text =
      ap₂ (λ m ls. text_of_lines (id_bytes g.id ∷ (problem_bytes directed (n_of g) m ∷ ls))) (length-map es (read_as directed)) (same_lines directed es)

  pub back_written : written directed (graph_of_outline outlined) ≡ map (read_as directed) es
  back_written = links_back_as directed (read_as directed) (read_from directed) (read_to directed) outlined g is_outline refl (length-numbered (n_of g)) refl

  pub back_lines : text_of_lines (dimacs_lines directed (n_of (graph_of_outline outlined)) (graph_of_outline outlined).id (written directed (graph_of_outline outlined))) ≡ text
  back_lines =
      let h = graph_of_outline outlined in
      let form : ℕ → List ℕ → List Insertion → List ℕ = λ n id ls. text_of_lines (dimacs_lines directed n id ls) in
      ap (λ n. form n h.id (written directed h)) (n_of_outline outlined ∙ length-numbered (n_of g))
      ∙ (ap (λ id. form (n_of g) id (written directed h)) (id_of_outline outlined)
      ∙ (ap (form (n_of g) g.id) back_written
      ∙ same_text))

-- ---- the laws
arcs_alone : (g : GraphOf) → true ≡ false → is_directed g ≡ false
arcs_alone g bad = cc

spelt_arcs : (g h : GraphOf) (sound : IsGraph g) → h ≡ graph_of_outline (outline_of_dimacs (export_text Dimacs g)) → h ≡ graph_of_outline (outlined true g sound (arcs_alone g))
spelt_arcs g h sound is = is ∙ ap graph_of_outline (ap outline_of_dimacs (dimacs_text g) ∙ text_outline true g sound (arcs_alone g))

pub dimacs_read : (g : GraphOf) → IsGraph g → refusal_of_dimacs (export_text Dimacs g) ≡ None
dimacs_read g sound = ap refusal_of_dimacs (dimacs_text g) ∙ text_read true g sound (arcs_alone g)

pub dimacs_accepted : (g h : GraphOf) → IsGraph g → h ≡ graph_of_outline (outline_of_dimacs (export_text Dimacs g)) → refusal_of_export Dimacs h ≡ None
dimacs_accepted g h sound is =
    ap (refusal_of_export Dimacs) (spelt_arcs g h sound is)
    ∙ ap (λ (r : Option Refusal). option_or r None) (outline_operand (outlined true g sound (arcs_alone g)))

pub dimacs_same : (g h : GraphOf) → IsGraph g → h ≡ graph_of_outline (outline_of_dimacs (export_text Dimacs g)) → export_text Dimacs h ≡ export_text Dimacs g
dimacs_same g h sound is =
    ap (export_text Dimacs) (spelt_arcs g h sound is)
    ∙ (dimacs_text (graph_of_outline (outlined true g sound (arcs_alone g))) ∙ (back_lines true g sound (arcs_alone g) ∙ sym (dimacs_text g)))

-- an export of edges accepts undirected graphs without loops and repeated edges
record Accepted (g : GraphOf) : Type 0 where
  edges : is_directed g ≡ false
  simple : is_simple g ≡ true

parts : (a b c : Bool) → option_or (refusal_unless a BadOperand None) (refusal_unless (not b) BadOperand (refusal_unless c BadOperand None)) ≡ None → (b ≡ false) × (c ≡ true)
parts true false true is = (refl, refl)
parts true false false is = absurd cc
parts true true c is = absurd cc
parts false b c is = absurd cc

accepted : (g : GraphOf) → refusal_of_export Col g ≡ None → Accepted g
accepted g is = let p = parts _ (is_directed g) (is_simple g) is in record { edges = p.0; simple = p.1 }

spelt_edges : (g h : GraphOf) (sound : IsGraph g) (edges : is_directed g ≡ false) → h ≡ graph_of_outline (outline_of_dimacs (export_text Col g)) → h ≡ graph_of_outline (outlined false g sound (λ e. edges))
spelt_edges g h sound edges is = is ∙ ap graph_of_outline (ap outline_of_dimacs (col_text g edges) ∙ text_outline false g sound (λ e. edges))

pub col_read : (g : GraphOf) → IsGraph g → refusal_of_export Col g ≡ None → refusal_of_dimacs (export_text Col g) ≡ None
col_read g sound is =
    let edges = (accepted g is).edges in
    ap refusal_of_dimacs (col_text g edges) ∙ text_read false g sound (λ e. edges)

all_three : (a : Option Refusal) (b c : Bool) → a ≡ None → b ≡ false → c ≡ true → option_or a (refusal_unless (not b) BadOperand (refusal_unless c BadOperand None)) ≡ None
all_three a b c operand edges simple = rw (operand, edges, simple) refl

pub col_accepted : (g h : GraphOf) → IsGraph g → refusal_of_export Col g ≡ None → h ≡ graph_of_outline (outline_of_dimacs (export_text Col g)) → refusal_of_export Col h ≡ None
col_accepted g h sound ok is =
    let edges = (accepted g ok).edges in
    let o = outlined false g sound (λ e. edges) in
    let again = graph_of_outline o in
    let simple : is_simple again ≡ true =
    simple_written again
    ∙ (ap have_simple_ends (back_written false g sound (λ e. edges))
    ∙ (same_simple (read_as false) (read_from false) (read_to false) (written false g)
    ∙ (sym (simple_written g) ∙ (accepted g ok).simple))) in
    ap (refusal_of_export Col) (spelt_edges g h sound edges is)
    ∙ all_three _ (is_directed again) (is_simple again) (outline_operand o) (back_undirected false g sound (λ e. edges) refl) simple

pub col_same : (g h : GraphOf) → IsGraph g → refusal_of_export Col g ≡ None → h ≡ graph_of_outline (outline_of_dimacs (export_text Col g)) → export_text Col h ≡ export_text Col g
col_same g h sound ok is =
    let edges = (accepted g ok).edges in
    ap (export_text Col) (spelt_edges g h sound edges is)
    ∙ (col_text (graph_of_outline (outlined false g sound (λ e. edges))) (back_undirected false g sound (λ e. edges) refl) ∙ (back_lines false g sound (λ e. edges) ∙ sym (col_text g edges)))
