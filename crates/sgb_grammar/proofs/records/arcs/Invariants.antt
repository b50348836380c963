use Rattle.std.proofs.Common.{◌≡◌, ◌-◌, replicate}
use Rattle.sgb_grammar.specs.Reading.{behind, each_at}
use Rattle.sgb_grammar.specs.Record.{arc_at}
use Rattle.sgb_grammar.proofs.records.arcs.Given as goal

-- the records so far stand before the ones that are left
abbrev pub invariant-records : goal.invariant-records
invariant-records l =
    each_at arc_at (replicate l.count l.letters) l.bytes ≡ behind l.parts (each_at arc_at (replicate (l.count - l._i) l.letters) l.rest)
