use Rattle.std.proofs.Common.{◌≡◌, ◌+◌, ◌-◌, ◌^◌, ◌<◌, min, take, drop}
use Rattle.std.specs.Str.Parse.{digits_value}
use Rattle.sgb_grammar.specs.Number.{digits_in}
use Rattle.sgb_grammar.proofs.numbers.digits_of.Given as goal

-- all bytes so far are digits, and the value is theirs
abbrev pub invariant-digits : goal.invariant-digits
invariant-digits l =
    (digits_in l.bytes ≡ l.i + digits_in (drop l.i l.bytes)) × (l.value ≡ min (digits_value 10 (take l.i l.bytes)) (2 ^ 64 - 1)) × (l.value < 10 ^ l.i)
