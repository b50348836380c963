use Rattle.std.proofs.Common.{◌+◌}
use Rattle.sgb_random.proofs.PairTable.{has_room, place_around, place_at_once}
use Rattle.sgb_random.proofs.pairs.place_of.Goals as goal

pub returns-in-Some : goal.returns-in-Some
returns-in-Some c =
    place_at_once c.args.slots.now c.args.key c.first_place.result c.in-Some.place c.first_place.ensures c.requires.table c.in-Some.ensures.some

pub unreachable-requires : goal.unreachable-requires
unreachable-requires c = has_room c.args.slots.now (c.args.key + 1) c.requires.room c.in-None.ensures.none

pub returns : goal.returns
returns c =
    place_around c.args.slots.now c.args.key c.first_place.result c.in-Some-find.place c.first_place.ensures c.requires.table c.in_default.ensures.none c.in-Some-find.ensures.some
