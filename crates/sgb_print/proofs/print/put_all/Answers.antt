use Rattle.std.proofs.Common.{refl}
use Rattle.sgb_print.proofs.TextPieces.{writes_piece, fails_piece, item_and_rest}
use Rattle.sgb_print.proofs.print.put_all.Goals as goal

pub returns-in_err-put : goal.returns-in_err-put
returns-in_err-put g c = fails_piece _ c.loop-piece.invariant c.in_err-put.ensures
    (item_and_rest (λ piece. piece.now) _ c.loop-piece.piece-index _ _ c.loop-piece-test.true refl) c.from_residual.ensures.0

pub loop-piece-preserved : goal.loop-piece-preserved
loop-piece-preserved g c = writes_piece c.loop-piece.invariant c.in_ok-put.ensures
    (item_and_rest (λ piece. piece.now) _ c.loop-piece.piece-index _ _ c.loop-piece-test.true refl)
