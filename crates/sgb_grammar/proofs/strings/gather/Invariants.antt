use Rattle.std.proofs.Common.{◌≡◌, false, length}
use Rattle.sgb_grammar.specs.Reading.{behind}
use Rattle.sgb_grammar.specs.Private.Pieces.{joined_at}
use Rattle.sgb_grammar.proofs.strings.gather.Given as goal

-- what is gathered stands before what is left
abbrev pub invariant-lines : goal.invariant-lines
invariant-lines l = joined_at false l.bytes ≡ behind l.text.items (joined_at false l.rest)

abbrev pub decreases-lines : goal.decreases-lines
decreases-lines l = length l.rest
