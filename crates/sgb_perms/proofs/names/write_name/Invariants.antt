use Rattle.std.proofs.Common.{◌≡◌, map, take}
use Rattle.sgb_perms.specs.Perms.{symbol}
use Rattle.sgb_perms.proofs.names.write_name.Given as goal

abbrev pub invariant-loop-kind : goal.invariant-loop-kind
invariant-loop-kind l = l.name.items ≡ map symbol (take l.kind-index l.row)
