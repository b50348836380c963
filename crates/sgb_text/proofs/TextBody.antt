-- The whole text, as it is written.
use Rattle.std.proofs.Common.{◌≡◌, ℕ, ◌+◌, List, [], ◌∷◌, ◌++◌, codes, drop, length, sym, ap, ◌∙◌, append_assoc, flat_map, sum_by}
use Rattle.std.specs.List.{range_with_len}
use Rattle.std.proofs.Math.Seq.{drop-append_seam}
use Rattle.sgb_graph.specs.Graph.{GraphOf, made_of}
use Rattle.sgb_graph.specs.Honest.{vertex_letters, graph_letters}
use Rattle.sgb_grammar.specs.Check.{check_of}
use Rattle.sgb_text.specs.Layout.{laid}
use Rattle.sgb_text.specs.Clean.{clean_of, dirt_in, dirt_in_entry, dirt_of}
use Rattle.sgb_text.specs.Save.{own_items, vertex_record, arc_record, header_of, body_of, check_line, text_of}
use Rattle.sgb_text.specs.Private.Page.{PageOf, with_line, with_record}
use Rattle.sgb_text.proofs.CleanGraphs.{made_clean, types_clean}
use Rattle.sgb_text.proofs.RecordLists.{record_line}

four_pieces : (a b c d e f : List ℕ) → ((((a ++ b) ++ c) ++ d) ++ e) ++ f ≡ a ++ (b ++ (c ++ (d ++ (e ++ f))))
four_pieces a b c d e f = simp append_assoc

pub body_pages : (g : GraphOf) (p q r s t u : PageOf) → p.column ≡ 0 → q ≡ with_record p (own_items (clean_of g)) → r ≡ with_line q (codes "* Vertices" ++ 10 ∷ [])
    → s ≡ with_line r (flat_map (vertex_record g.types) (clean_of g).vertices) → t ≡ with_line s (codes "* Arcs" ++ 10 ∷ [])
    → u ≡ with_line t (flat_map (arc_record (clean_of g)) (range_with_len 0 (made_of g)))
    → u ≡ with_line p (body_of (clean_of g))
unfolding body_of
body_pages g p q r s t u front a b c d e =
    let arcs = flat_map (arc_record (clean_of g)) (range_with_len 0 (made_of g)) in
    let vertices = flat_map (vertex_record g.types) (clean_of g).vertices in
    e
    ∙ ap (λ x. with_line x arcs) (d ∙ ap (λ x. with_line x (codes "* Arcs" ++ 10 ∷ [])) (c ∙ ap (λ x. with_line x vertices) (b ∙ ap (λ x. with_line x (codes "* Vertices" ++ 10 ∷ [])) (a ∙ record_line p (own_items (clean_of g)) front))))
    ∙ ap (λ t. record { text = t; column = 0 }) (four_pieces p.text (laid 0 (own_items (clean_of g))) (codes "* Vertices" ++ 10 ∷ []) vertices (codes "* Arcs" ++ 10 ∷ []) arcs)
    ∙ ap (λ k. with_line p (laid 0 (own_items (clean_of g)) ++ ((codes "* Vertices" ++ 10 ∷ []) ++ (vertices ++ ((codes "* Arcs" ++ 10 ∷ []) ++ flat_map (arc_record (clean_of g)) (range_with_len 0 k)))))) (sym (made_clean g))
    ∙ ap (λ ts. with_line p (laid 0 (own_items (clean_of g)) ++ ((codes "* Vertices" ++ 10 ∷ []) ++ (flat_map (vertex_record ts) (clean_of g).vertices ++ ((codes "* Arcs" ++ 10 ∷ []) ++ flat_map (arc_record (clean_of g)) (range_with_len 0 (made_of (clean_of g)))))))) (sym (types_clean g))

pub dirt_parts : (g : GraphOf) (own vertices arcs : ℕ) → own ≡ dirt_in (graph_letters g.types) g.fields
    → vertices ≡ sum_by (λ v. dirt_in (vertex_letters g.types) v.fields) g.vertices → arcs ≡ sum_by (dirt_in_entry g.types) g.entries
    → own + vertices + arcs ≡ dirt_of g
unfolding dirt_of
dirt_parts g own vertices arcs a b c = ap (λ n. n + vertices + arcs) a ∙ ap (λ n. dirt_in (graph_letters g.types) g.fields + n + arcs) b ∙ ap (λ n. dirt_in (graph_letters g.types) g.fields + sum_by (λ v. dirt_in (vertex_letters g.types) v.fields) g.vertices + n) c

-- the body is what stands behind the first line
pub body_behind : (g : GraphOf) (p q r : PageOf) (body : List ℕ) → p.text ≡ [] → q ≡ with_line p (header_of g ++ 10 ∷ []) → r ≡ with_line q (body_of g)
    → body ≡ drop (length q.text) r.text → body ≡ body_of g
body_behind g p q r body empty first second behind =
    behind
    ∙ ap (λ x. drop (length q.text) x.text) second
    ∙ drop-append_seam q.text (body_of g)

text_pieces : (a b c : List ℕ) → ((a ++ 10 ∷ []) ++ b) ++ c ≡ a ++ (10 ∷ (b ++ c))
text_pieces a b c = simp append_assoc

pub text_pages : (g : GraphOf) (p q r s : PageOf) (body : List ℕ) (check : ℕ) → p.text ≡ [] → q ≡ with_line p (header_of g ++ 10 ∷ []) → r ≡ with_line q (body_of g)
    → body ≡ body_of g → check ≡ check_of body → s ≡ with_line r (check_line check) → s.text ≡ text_of g
unfolding text_of
text_pages g p q r s body check empty first second same counted last =
    ap (λ x. x.text) last
    ∙ ap (λ x. x.text ++ check_line check) (second ∙ ap (λ x. with_line x (body_of g)) first)
    ∙ ap (λ t. ((t ++ (header_of g ++ 10 ∷ [])) ++ body_of g) ++ check_line check) empty
    ∙ text_pieces (header_of g) (body_of g) (check_line check)
    ∙ ap (λ k. header_of g ++ (10 ∷ (body_of g ++ check_line k))) (counted ∙ ap check_of same)
