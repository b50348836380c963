use Rattle.std.proofs.Common.{◌≡◌, ◌<◌, ◌^◌, take, drop}
use Rattle.std.specs.List.{sum}
use Rattle.sgb_simplex.specs.Private.Codes.{code_from}
use Rattle.sgb_simplex.proofs.coded.code_of.Given as goal

abbrev pub invariant-loop-i : goal.invariant-loop-i
invariant-loop-i l = record {
  same : code_from l.code (drop l.i l.list.bounds.items) (drop l.i l.point) ≡ code_from 0 l.list.bounds.items l.point;
  below : l.code < 2 ^ sum (take l.i l.list.bounds.items);
}
