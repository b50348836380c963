use Rattle.std.proofs.Common.{◌≡◌, ◌+◌, ◌-◌, ◌*◌, ◌%◌, ◌^◌, ◌<◌, length}
use Rattle.sgb_grammar.specs.Check.{weighed}
use Rattle.sgb_grammar.proofs.check.weigh.Given as goal

-- the sum so far, with what is left of the line
abbrev pub invariant-pieces : goal.invariant-pieces
invariant-pieces l =
    ((l.fn.sum * 2 ^ length l.line + weighed l.line) % (2 ^ 30 - 83) ≡ (l.value * 2 ^ length l.rest + weighed l.rest) % (2 ^ 30 - 83)) × (l.value < 2 ^ 30 - 83)

abbrev pub decreases-pieces : goal.decreases-pieces
decreases-pieces l = length l.rest
