use Rattle.std.proofs.Common.{◌≡◌, take}
use Rattle.sgb_perms.specs.Private.Places.{shown_by}
use Rattle.sgb_perms.proofs.places.index_rows.Given as goal

abbrev pub invariant-loop-v : goal.invariant-loop-v
invariant-loop-v l = shown_by l.places.keys ≡ take l.v l.rows.rows
