use Rattle.std.proofs.Common.{◌≡◌, ◌++◌, map, take, drop}
use Rattle.sgb_make.specs.Private.Link.{shifted}
use Rattle.sgb_make.proofs.link.shift.Given as goal

abbrev pub invariant-loop-link : goal.invariant-loop-link
invariant-loop-link l =
    l.links ≡ map (shifted l.base) (take l.link-index l.initial.links) ++ drop l.link-index l.initial.links
