use Rattle.std.proofs.Common.{◌≡◌, take, drop, length}
use Rattle.sgb_grammar.specs.Reading.{behind, each_at}
use Rattle.sgb_grammar.specs.Field.{field_at}
use Rattle.sgb_grammar.proofs.fields.fields.Given as goal

-- the fields so far stand before the ones that are left
abbrev pub invariant-letters : goal.invariant-letters
invariant-letters l =
    (length l.fields ≡ length l.letters)
    × (each_at field_at l.letters l.bytes ≡ behind (take l.i l.fields) (each_at field_at (drop l.i l.letters) l.rest))
