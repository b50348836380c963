use Rattle.std.proofs.Common.{ap, arith}
use Rattle.sgb_graph.specs.declared.graph.lay.Chained.{Chained}
use Rattle.sgb_graph.specs.Private.Lay.{any_row}
use Rattle.sgb_graph.proofs.RecordChains.{part_at}
use Rattle.sgb_graph.proofs.ArcOwners.{nexts_set}
use Rattle.sgb_graph.proofs.graph.lay.own.Goals as goal

pub returns-clause-links : goal.returns-clause-links
returns-clause-links c =
    nexts_set c.args.rows.now c.args.number.0 _
    (ap (λ (r : Chained). r.next)
    (part_at c.args.rows.now c.args.number.0 _ any_row c.index-rows-index.result (omega (arith, c.if-index-rows.false)) c.index-rows-index.is))
