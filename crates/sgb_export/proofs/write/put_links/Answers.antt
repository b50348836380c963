use Rattle.std.proofs.Common.{arith}
use Rattle.sgb_graph.specs.Graph.{n_of}
use Rattle.sgb_print.proofs.TextPieces.{writes_none, prints_all, writes_piece, fails_piece, no_number}
use Rattle.sgb_export.specs.Links.{links, links_at}
use Rattle.sgb_export.proofs.ExportedArcs.{lines_at, lines_none}
use Rattle.sgb_export.proofs.write.put_links.Goals as goal

pub loop-v-init : goal.loop-v-init
unfolding links
loop-v-init g c = record { lines = writes_none; few = omega arith }

pub returns-in_err-count : goal.returns-in_err-count
returns-in_err-count g c = fails_piece _ c.loop-v.invariant.lines c.in_err-count.ensures.written
    (lines_at c.args.format c.args.directed c.args.graph.now c.loop-v.count c.loop-v.v (omega arith)) c.from_residual.ensures.0

pub loop-v-preserved : goal.loop-v-preserved
loop-v-preserved g c =
    let few = c.loop-v.invariant.few in
    let here = c.in_ok-count.ensures.few in record {
      lines = rw c.in_ok-count.ensures.count (writes_piece c.loop-v.invariant.lines c.in_ok-count.ensures.written
          (lines_at c.args.format c.args.directed c.args.graph.now c.loop-v.count c.loop-v.v (omega arith)));
      few = omega (arith, few, here);
    }

pub returns : goal.returns
returns g c =
    let s = c.args.graph.now in
    prints_all c.loop-v.invariant.lines
    (lines_none c.args.format c.args.directed s c.loop-v.count _ (no_number (links_at c.args.directed s) (n_of s) c.loop-v.v (omega arith)))
