use Rattle.sgb_graph.specs.Graph.{n_of}
use Rattle.sgb_graph.proofs.InsertionRuns.{LeftFrom}
use Rattle.sgb_combine.specs.Complement.{wanted_steps}
use Rattle.sgb_combine.proofs.Complements.{wanted_at}
use Rattle.sgb_combine.proofs.negate.insert_missing.Given as goal

abbrev pub invariant-loop-w : goal.invariant-loop-w
invariant-loop-w l =
    LeftFrom l.initial.builder (wanted_steps l.spec (n_of l.initial.builder.graph) l.vertex.0 l.lowest.spokes.items) l.builder
    (wanted_at l.spec l.vertex.0 l.lowest.spokes.items) l.w (n_of l.initial.builder.graph)
