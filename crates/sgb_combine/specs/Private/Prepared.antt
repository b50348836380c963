-- What is ready before the first draw.
use Rattle.std.specs.Prelude.{◌≡◌, ◌≤◌, length, None}
use Rattle.sgb_graph.specs.Graph.{GraphOf, made_of}
use Rattle.sgb_combine.specs.declared.prepared.Prepared.{Prepared}
use Rattle.sgb_combine.specs.declared.spec.LengthsSpec.{LengthsSpec}
use Rattle.sgb_combine.specs.Lengths.{refusal_of_arcs}

pub record IsPrepared (spec : LengthsSpec) (g : GraphOf) (p : Prepared) : Type 0 where
  pub min : p.range.min ≡ spec.min
  pub max : p.range.max ≡ spec.max
  pub whole : refusal_of_arcs spec.directed g ≡ None
  pub short : length p.id ≤ 160
  pub lengths : length p.lengths.items ≡ made_of g
