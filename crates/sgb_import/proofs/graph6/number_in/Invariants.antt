use Rattle.std.proofs.Common.{◌≡◌, ◌<◌, ◌^◌, take}
use Rattle.sgb_import.specs.Graph6.{number_in}
use Rattle.sgb_import.proofs.graph6.number_in.Given as goal

abbrev pub invariant-loop-digit : goal.invariant-loop-digit
invariant-loop-digit l = (l.number ≡ number_in (take l.digit-index l.digits)) × (l.number < 64 ^ l.digit-index)
