-- Whether a text's graph has facts, from what its reading and its facts answer.
use Rattle.std.proofs.Common.{◌≡◌, ◌∙◌, ◌⊎◌, ℕ, List, None, Some, Result, Ok, Err, ap, sym, inl, inr}
use Rattle.sgb_graph.specs.declared.refusal.Refusal.{Refusal}
use Rattle.sgb_graph.specs.declared.refusal.Refusal.TheVariants.{NoRoom}
use Rattle.sgb_graph.specs.Graph.{GraphOf}
use Rattle.sgb_graph.specs.Operand.{refusal_of_operand}
use Rattle.sgb_text.specs.declared.restoring.CheckRule.{CheckRule}
use Rattle.sgb_text.specs.Read.{read_as}
use Rattle.sgb_programs.specs.Informed.{informed, operand_in, graph_unless}

module _ (rule : CheckRule) (text : List ℕ) where
  pub text_refused : (e f : Refusal) → f ≡ e → (e ≡ NoRoom) ⊎ (read_as rule text ≡ Err e) → (f ≡ NoRoom) ⊎ (informed rule text ≡ Err f)
  unfolding informed
  text_refused e f same (inl none) = inl (same ∙ none)
  text_refused e f same (inr is) = inr (ap operand_in is ∙ ap Err (sym same))

  pub graph_refused : (g : GraphOf) (e f : Refusal) → read_as rule text ≡ Ok g → f ≡ e → (e ≡ NoRoom) ⊎ (refusal_of_operand g ≡ Some e)
      → (f ≡ NoRoom) ⊎ (informed rule text ≡ Err f)
  unfolding informed
  graph_refused g e f read same (inl none) = inl (same ∙ none)
  graph_refused g e f read same (inr is) = inr (ap operand_in read ∙ (ap (λ o. graph_unless o g) is ∙ ap Err (sym same)))

  pub graph_taken : (g : GraphOf) → read_as rule text ≡ Ok g → refusal_of_operand g ≡ None → informed rule text ≡ Ok g
  unfolding informed
  graph_taken g read is = ap operand_in read ∙ ap (λ o. graph_unless o g) is
