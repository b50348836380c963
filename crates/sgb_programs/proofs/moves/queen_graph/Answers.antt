use Rattle.std.proofs.Common.{◌∙◌, ap, sym}
use Rattle.sgb_plan.specs.Plan.{outcome_of}
use Rattle.sgb_make.specs.Board.{plan_of_board}
use Rattle.sgb_programs.proofs.Queens.{queen_answered}
use Rattle.sgb_programs.proofs.moves.queen_graph.Goals as goal

pub returns : goal.returns
returns c = queen_answered _ _ _
    (ap (λ b. outcome_of (plan_of_board b)) (sym c.squares.ensures) ∙ c.in_ok-rook.ensures.made)
    (ap (λ b. outcome_of (plan_of_board b)) (sym c.squares-2.ensures) ∙ c.in_ok-bishop.ensures.made)
    c.gunion.ensures.made
