use Rattle.std.proofs.Common.{◌≡◌, take}
use Rattle.sgb_binary.proofs.NameIndexes.{names_of}
use Rattle.sgb_binary.proofs.index.index_names.Given as goal

abbrev pub invariant-loop-name : goal.invariant-loop-name
invariant-loop-name l = names_of l.index.keys ≡ take l.name-index (names_of l.names)
