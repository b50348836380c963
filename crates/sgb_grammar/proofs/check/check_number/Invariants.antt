use Rattle.std.proofs.Common.{◌≡◌, ◌+◌, ◌-◌, ◌*◌, ◌%◌, ◌^◌, ◌<◌, length}
use Rattle.sgb_grammar.specs.Check.{covered, weighed, check_of}
use Rattle.sgb_grammar.proofs.check.check_number.Given as goal

-- the sum so far, with what is left, is the check number
abbrev pub invariant-lines : goal.invariant-lines
invariant-lines l =
    (check_of l.body ≡ (l.sum * 2 ^ length (covered l.rest) + weighed (covered l.rest)) % (2 ^ 30 - 83)) × (l.sum < 2 ^ 30 - 83)

abbrev pub decreases-lines : goal.decreases-lines
decreases-lines l = length l.rest
