use Rattle.std.proofs.Common.{◌≡◌, ◌++◌, map, take}
use Rattle.sgb_plan.specs.Id.{behind_commas, part_text, widest_parts}
use Rattle.sgb_plan.specs.Private.Bytes.{IsShort}
use Rattle.sgb_plan.proofs.id.append_behind_commas.Given as goal

abbrev pub invariant-loop-part : goal.invariant-loop-part
invariant-loop-part l = record {
  written : l.bytes.items ≡ l.initial.bytes.items ++ behind_commas (map part_text (take l.part-index l.parts));
  short : IsShort (widest_parts (take l.part-index l.parts)) (behind_commas (map part_text (take l.part-index l.parts)));
}
