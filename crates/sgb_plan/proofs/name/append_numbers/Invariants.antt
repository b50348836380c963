use Rattle.std.proofs.Common.{◌≡◌, ◌*◌, ◌++◌, map, take, decimal}
use Rattle.sgb_plan.specs.Private.Bytes.{IsShort}
use Rattle.sgb_plan.proofs.Joins.{behind}
use Rattle.sgb_plan.proofs.name.append_numbers.Given as goal

abbrev pub invariant-loop-part : goal.invariant-loop-part
invariant-loop-part l = record {
  written : l.bytes.items ≡ l.initial.bytes.items ++ behind 46 (map decimal (take l.part-index l.rest));
  short : IsShort (11 * l.part-index) (behind 46 (map decimal (take l.part-index l.rest)));
}
