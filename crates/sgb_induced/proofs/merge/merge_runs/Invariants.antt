use Rattle.std.proofs.Common.{◌≡◌, take}
use Rattle.sgb_induced.specs.Private.Run.{IsPlaced, merged}
use Rattle.sgb_induced.proofs.merge.merge_runs.Given as goal

abbrev pub invariant-loop-run : goal.invariant-loop-run
invariant-loop-run l = record {
  runs : l.kept.items ≡ merged l.directed (take l.run-index l.runs);
  placed : IsPlaced l.directed l.places l.kept.items;
}
