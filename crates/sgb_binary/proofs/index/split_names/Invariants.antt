use Rattle.std.proofs.Common.{◌≡◌, ◌-◌, ◌*◌, ◌++◌, length}
use Rattle.sgb_binary.specs.Private.Listing.{pieces}
use Rattle.sgb_binary.proofs.NameIndexes.{names_of}
use Rattle.sgb_binary.proofs.index.split_names.Given as goal

abbrev pub invariant-loop-v : goal.invariant-loop-v
invariant-loop-v l = record {
  names : names_of l.keys.items ++ pieces l.width (l.names.count - l._v) l.rest ≡ pieces l.width l.names.count l.names.letters.items;
  whole : length l.rest ≡ (l.names.count - l._v) * l.width;
}
