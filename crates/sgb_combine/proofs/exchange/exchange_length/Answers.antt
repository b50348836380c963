use Rattle.std.proofs.Common.{rules, ◌∙◌, w64}
use Rattle.std.specs.Prelude.{IsSome}
use Rattle.std.proofs.lemmas.Int.{to_z-of_z}
use Rattle.sgb_graph.specs.Graph.{arc_at}
use Rattle.sgb_combine.proofs.LengthSwaps.{with_len_is}
use Rattle.sgb_combine.proofs.exchange.exchange_length.Goals as goal

pub returns-clause-graph : goal.returns-clause-graph
returns-clause-graph c =
    let live : IsSome (arc_at c.args.graph.now c.args.number.0) = search rules in
    c.swap_len.ensures.graph ∙ with_len_is c.args.graph.now c.args.number.0 _ c.args.len live (to_z-of_z w64 c.args.len c.ranges.len)
