-- A graph has one text of its facts.
use Rattle.std.proofs.Common.{◌≡◌, ℕ, List, ◌++◌, refl, ap₂, sym, ◌∙◌}
use Rattle.std.proofs.lemmas.Bool.Decides.{same_from_decides}
use Rattle.sgb_graph.specs.Graph.{GraphOf}
use Rattle.sgb_info.specs.declared.info.Facts.{Facts}
use Rattle.sgb_info.specs.Components.{HasComponents}
use Rattle.sgb_info.specs.Info.{AreFacts, IsInfo, counts_text, extremes_text, answers_text, facts_text}

module _ (g : GraphOf) (e f : Facts) (a : AreFacts g e) (b : AreFacts g f) where
  counts_same : (id : List ℕ) → counts_text id e ≡ counts_text id f
  unfolding counts_text
  counts_same id =
      rw (a.vertices ∙ sym b.vertices, a.arcs ∙ sym b.arcs, a.edges ∙ sym b.edges, a.loops ∙ sym b.loops, a.repeated ∙ sym b.repeated) refl

  extremes_same : extremes_text e ≡ extremes_text f
  unfolding extremes_text
  extremes_same =
      rw (
        a.out_least ∙ sym b.out_least,
        a.out_greatest ∙ sym b.out_greatest,
        a.in_least ∙ sym b.in_least,
        a.in_greatest ∙ sym b.in_greatest,
        a.length_least ∙ sym b.length_least,
        a.length_greatest ∙ sym b.length_greatest,
      ) refl

  answers_same : ((h : GraphOf) (c d : ℕ) → HasComponents h c → HasComponents h d → c ≡ d) → answers_text e ≡ answers_text f
  unfolding answers_text
  answers_same one =
      rw (
        one g e.components f.components a.components b.components,
        same_from_decides e.bipartite f.bipartite a.bipartite b.bipartite,
        a.honest ∙ sym b.honest,
        a.check ∙ sym b.check,
      ) refl

  facts_same : ((h : GraphOf) (c d : ℕ) → HasComponents h c → HasComponents h d → c ≡ d) → (id : List ℕ) → facts_text id e ≡ facts_text id f
  unfolding facts_text
  facts_same one id = ap₂ (λ s t. s ++ t) (counts_same id) (ap₂ (λ s t. s ++ t) extremes_same (answers_same one))

pub one_text : ((h : GraphOf) (c d : ℕ) → HasComponents h c → HasComponents h d → c ≡ d) → (g : GraphOf) (s t : List ℕ) → IsInfo g s → IsInfo g t → s ≡ t
one_text one g s t a b = a.lines ∙ (facts_same g a.facts b.facts a.of_graph b.of_graph one g.id ∙ sym b.lines)
