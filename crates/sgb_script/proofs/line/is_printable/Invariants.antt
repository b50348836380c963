use Rattle.std.proofs.Common.{◌≡◌, take}
use Rattle.std.specs.List.{list_all}
use Rattle.sgb_script.specs.Line.{is_printable_byte}
use Rattle.sgb_script.proofs.line.is_printable.Given as goal

abbrev pub invariant-bytes : goal.invariant-bytes
invariant-bytes l = l.all ≡ list_all is_printable_byte (take l.byte-index l.line)
