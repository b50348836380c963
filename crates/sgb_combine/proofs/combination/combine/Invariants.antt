use Rattle.std.proofs.Common.{◌≡◌}
use Rattle.std.specs.List.{flat_map, range_with_len}
use Rattle.sgb_graph.specs.Graph.{n_of}
use Rattle.sgb_graph.proofs.InsertionRuns.{LeftFrom}
use Rattle.sgb_plan.specs.Plan.{with_named}
use Rattle.sgb_combine.specs.Combined.{vertices_of}
use Rattle.sgb_combine.specs.Private.Begin.{bare_builder}
use Rattle.sgb_combine.proofs.combination.combine.Given as goal

abbrev pub invariant-loop-v : goal.invariant-loop-v
invariant-loop-v g l =
    let f = g.C.Combination.insertions_at l.fn.combination in
    record {
      named : l.initial.builder ≡ with_named (bare_builder l.fn.id l.directed) (vertices_of l.graph);
      left : LeftFrom l.initial.builder (flat_map f (range_with_len 0 (n_of l.graph))) l.builder f l.v (n_of l.graph);
      same : g.C.Combination.insertions_at l.combination ≡ f;
      fits : g.C.Combination.fits l.combination (n_of l.graph);
    }
