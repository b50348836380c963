use Rattle.std.proofs.Common.{ap, arith, length, length-append}
use Rattle.sgb_graph.specs.Graph.{n_of}
use Rattle.sgb_print.proofs.TextPieces.{number_and_rest, no_number}
use Rattle.sgb_export.specs.Links.{links, links_at}
use Rattle.sgb_export.proofs.count.count_links.Goals as goal

pub loop-v-init : goal.loop-v-init
unfolding links
loop-v-init c = record { total = omega arith; few = omega arith }

pub loop-v-preserved : goal.loop-v-preserved
loop-v-preserved c =
    let s = c.args.graph.now in
    let before = c.loop-v.invariant in
    let here = c.count_links_at-count.ensures in
    let rest = ap length (number_and_rest (links_at c.args.directed s) (n_of s) c.loop-v.v (omega arith)) in record {
      total = omega (arith, before.total, here.value, simp length-append at rest);
      few = omega (arith, before.few, here.few);
    }

pub returns : goal.returns
returns c =
    let s = c.args.graph.now in
    let total = c.loop-v.invariant.total in
    omega (arith, total, ap length (no_number (links_at c.args.directed s) (n_of s) c.loop-v.v (omega arith)))
