use Rattle.std.proofs.Common.{arith}
use Rattle.sgb_graph.specs.Graph.{n_of}
use Rattle.sgb_print.specs.Show.{vertex_text}
use Rattle.sgb_print.proofs.TextPieces.{prints_all, writes_piece, fails_piece, number_and_rest, no_number}
use Rattle.sgb_print.proofs.show.print_vertices.Goals as goal

pub returns-in_err-print_vertex : goal.returns-in_err-print_vertex
returns-in_err-print_vertex g c = let s = c.args.graph.now in
    fails_piece _ c.loop-v.invariant c.in_err-print_vertex.ensures (number_and_rest (vertex_text s) (n_of s) c.loop-v.v (omega arith)) c.from_residual.ensures.0

pub loop-v-preserved : goal.loop-v-preserved
loop-v-preserved g c = let s = c.args.graph.now in
    writes_piece c.loop-v.invariant c.in_ok-print_vertex.ensures (number_and_rest (vertex_text s) (n_of s) c.loop-v.v (omega arith))

pub returns : goal.returns
returns g c = let s = c.args.graph.now in prints_all c.loop-v.invariant (no_number (vertex_text s) (n_of s) c.loop-v.v (omega arith))
