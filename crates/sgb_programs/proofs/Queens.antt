-- The queen's graph, and what is printed of it.
use Rattle.std.proofs.Common.{◌≡◌, ◌∙◌, ℕ, List, Option, Result, Ok, Err, false, ap, sym, subst}
use Rattle.std.proofs.lemmas.Int.{to_z-of_z}
use Rattle.std.proofs.lemmas.List.Elements.{All-get_or}
use Rattle.std.specs.Int.{w64}
use Rattle.std.specs.Prelude.{ℤ, negsuc, ◌<◌, Some, None, IsSome, IfSome, IfOk, FitsSigned, IsOkAnd}
use mir.Val.{to_z, of_z}
use Rattle.sgb_graph.specs.declared.refusal.Refusal.{Refusal}
use Rattle.sgb_graph.specs.Graph.{GraphOf, ArcOf, n_of, made_of, arc_at, IsGraph, IsArc}
use Rattle.sgb_graph.specs.Edit.{entry_at, arc_or, no_arc}
use Rattle.sgb_plan.specs.Plan.{outcome_of, IsMade}
use Rattle.sgb_make.specs.Board.{plan_of_board}
use Rattle.sgb_combine.specs.Gunion.{plan_of_gunion}
use Rattle.sgb_print.specs.Meter.{WriterUse}
use Rattle.sgb_print.specs.Print.{Prints}
use Rattle.sgb_programs.specs.Queen.{squares, united, queen_graph, queen_text}

pub queen_made : (rook bishop g : GraphOf)
    → outcome_of (plan_of_board (squares (negsuc 0))) ≡ Ok rook → outcome_of (plan_of_board (squares (negsuc 1))) ≡ Ok bishop
    → outcome_of (plan_of_gunion rook bishop (record { multi = false; directed = false })) ≡ Ok g → queen_graph ≡ Ok g
unfolding queen_graph
queen_made rook bishop g first second union =
    ap (λ o. united o (outcome_of (plan_of_board (squares (negsuc 1))))) first ∙ ap (λ o. united (Ok rook) o) second ∙ union

pub queen_answered : (rook bishop : GraphOf) (result : Result GraphOf Refusal)
    → outcome_of (plan_of_board (squares (negsuc 0))) ≡ Ok rook → outcome_of (plan_of_board (squares (negsuc 1))) ≡ Ok bishop
    → IsMade (plan_of_gunion rook bishop (record { multi = false; directed = false })) result → IfOk result (λ g. queen_graph ≡ Ok g)
queen_answered rook bishop (Ok g) first second union = queen_made rook bishop g first second union
queen_answered rook bishop (Err e) first second union = tt

pub queen_prints : {W X E : Type 0} {old new : WriterUse W} {result : Result X E} (g : GraphOf) → queen_graph ≡ Ok g
    → Prints old new result (queen_text g) → IsOkAnd queen_graph (λ h. Prints old new result (queen_text h))
queen_prints {old = old} {new} {result} g made w = subst (λ o. IsOkAnd o (λ h. Prints old new result (queen_text h))) (sym made) w

-- the length of an arc, as it is read
entry_fits : (n : ℕ) (es : List (Option ArcOf)) (o : Option ArcOf) → IsSome o → IfSome o (IsArc n es) → FitsSigned w64 (arc_or no_arc o).len
entry_fits n es None live h = cc
entry_fits n es (Some e) live h = h.len

pub length_read : (g : GraphOf) (k : ℕ) (len : ℤ) → IsGraph g → k < made_of g → IsSome (arc_at g k) → len ≡ (entry_at g k).len
    → to_z w64 (of_z w64 len) ≡ (entry_at g k).len
length_read g k len sound within live same =
    ap (λ z. to_z w64 (of_z w64 z)) same
    ∙ to_z-of_z w64 (entry_at g k).len
    (entry_fits (n_of g) g.entries (arc_at g k) live (All-get_or (λ o. IfSome o (IsArc (n_of g) g.entries)) g.entries k None within sound.arcs))
