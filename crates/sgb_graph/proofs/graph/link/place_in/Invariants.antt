use Rattle.std.proofs.Common.{◌≡◌, ◌+◌, ◌≤◌, ◌==◌, drop, length}
use Rattle.std.specs.List.{position_or_len}
use Rattle.sgb_graph.specs.Private.Arena.{numbers}
use Rattle.sgb_graph.specs.Private.Link.{number_before}
use Rattle.sgb_graph.proofs.graph.link.place_in.Given as goal

abbrev pub invariant-loop-other : goal.invariant-loop-other
invariant-loop-other l =
    (l.place + position_or_len (λ j. j == l.fn.number.0) l.other-iterator ≡ position_or_len (λ j. j == l.fn.number.0) (numbers l.slots l.fn.first))
    × (l.place + length l.other-iterator ≤ length l.slots)
    × (drop l.place (numbers l.slots l.fn.first) ≡ l.other-iterator)
    × (l.before ≡ number_before (numbers l.slots l.fn.first) l.place)
