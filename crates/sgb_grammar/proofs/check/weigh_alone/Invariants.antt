use Rattle.std.proofs.Common.{◌≡◌, ◌+◌, ◌*◌, ◌^◌, ◌≤◌, take}
use Rattle.sgb_grammar.specs.Check.{weighed}
use Rattle.sgb_grammar.proofs.check.weigh_alone.Given as goal

-- what the bytes so far weigh; it is small, since each byte's code is
abbrev pub invariant-bytes : goal.invariant-bytes
invariant-bytes l = (l.value ≡ weighed (take l.byte-index l.block)) × (l.value + 255 ≤ 255 * 2 ^ l.byte-index)
