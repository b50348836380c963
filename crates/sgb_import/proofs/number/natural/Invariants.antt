use Rattle.std.proofs.Common.{◌≡◌, ◌≤◌, ◌^◌, ◌-◌, drop, min}
use Rattle.std.specs.Str.{all_ascii_digits}
use Rattle.std.specs.Str.Parse.{digits_value, digits_value_after}
use Rattle.sgb_import.proofs.number.natural.Given as goal

abbrev pub invariant-loop-digit : goal.invariant-loop-digit
invariant-loop-digit l = record {
  value : min (digits_value_after 10 l.value (drop l.digit-index l.word)) (2 ^ 64 - 1) ≡ min (digits_value 10 l.word) (2 ^ 64 - 1);
  fits : l.value ≤ 2 ^ 64 - 1;
  digits : all_ascii_digits (drop l.digit-index l.word) ≡ all_ascii_digits l.word;
}
