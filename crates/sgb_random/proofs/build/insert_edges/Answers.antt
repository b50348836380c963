use Rattle.std.proofs.Common.{arith}
use Rattle.std.proofs.lemmas.Result.{err_from_is_err_and}
use Rattle.sgb_graph.proofs.InsertionRuns.{of_start_map, of_some, of_refused, of_end, of_n}
use Rattle.sgb_random.specs.Private.Progress.{insertion_of}
use Rattle.sgb_random.proofs.RandomGraphs.{edge_at, edge_within}
use Rattle.sgb_random.proofs.build.insert_edges.Goals as goal

pub loop-edge-init : goal.loop-edge-init
loop-edge-init c = of_start_map c.args.builder.now insertion_of c.args.edges.now

pub insert_edge-requires-clause-from : goal.insert_edge-requires-clause-from
insert_edge-requires-clause-from c =
    omega (arith, of_n c.loop-edge.invariant, (edge_within c.args.edges.now c.loop-edge.edge-index c.loop-edge-test.true c.requires).0)

pub insert_edge-requires-clause-to : goal.insert_edge-requires-clause-to
insert_edge-requires-clause-to c =
    omega (arith, of_n c.loop-edge.invariant, (edge_within c.args.edges.now c.loop-edge.edge-index c.loop-edge-test.true c.requires).1)

pub returns-in_err-insert_edge : goal.returns-in_err-insert_edge
returns-in_err-insert_edge c =
    let p = err_from_is_err_and c.from_residual.result c.from_residual.ensures.1 in
    rw (p.1, p.2) (of_refused c.loop-edge-test.true (edge_at c.args.edges.now c.loop-edge.edge-index c.loop-edge-test.true) c.loop-edge.invariant c.in_err-insert_edge.ensures)

pub loop-edge-preserved : goal.loop-edge-preserved
loop-edge-preserved c =
    of_some c.loop-edge-test.true (edge_at c.args.edges.now c.loop-edge.edge-index c.loop-edge-test.true) c.loop-edge.invariant c.in_ok-insert_edge.ensures

pub returns : goal.returns
returns c = of_end (omega arith) c.loop-edge.invariant
