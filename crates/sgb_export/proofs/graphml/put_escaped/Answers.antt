use Rattle.std.proofs.Common.{refl}
use Rattle.sgb_print.proofs.TextPieces.{writes_none, prints_all, writes_piece, fails_piece, item_and_rest, no_rest}
use Rattle.sgb_export.specs.Graphml.{entity, escaped}
use Rattle.sgb_export.proofs.graphml.put_escaped.Goals as goal

pub loop-byte-init : goal.loop-byte-init
unfolding escaped
loop-byte-init g c = writes_none

pub returns-in_err-put_entity : goal.returns-in_err-put_entity
returns-in_err-put_entity g c = fails_piece _ c.loop-byte.invariant c.in_err-put_entity.ensures
    (item_and_rest entity _ c.loop-byte.byte-index _ _ c.loop-byte-test.true refl) c.from_residual.ensures.0

pub loop-byte-preserved : goal.loop-byte-preserved
loop-byte-preserved g c = writes_piece c.loop-byte.invariant c.in_ok-put_entity.ensures (item_and_rest entity _ c.loop-byte.byte-index _ _ c.loop-byte-test.true refl)

pub returns : goal.returns
returns g c = prints_all c.loop-byte.invariant (no_rest entity _ c.loop-byte.byte-index c.loop-byte-test.false)
