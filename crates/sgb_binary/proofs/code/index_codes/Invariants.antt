use Rattle.std.proofs.Common.{◌≡◌, take, map}
use Rattle.sgb_binary.specs.Private.Names.{bytes_of}
use Rattle.sgb_binary.specs.Private.Code.{codes_of}
use Rattle.sgb_binary.proofs.code.index_codes.Given as goal

abbrev pub invariant-loop-name : goal.invariant-loop-name
invariant-loop-name l = l.codes.keys ≡ codes_of (take l.name-index (map bytes_of l.names))
