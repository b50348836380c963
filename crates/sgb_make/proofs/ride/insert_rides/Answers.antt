use Rattle.std.proofs.Common.{◌≡◌, List, length, map, ap, sym, subst, ◌∙◌, arith}
use Rattle.std.proofs.lemmas.List.{length-map}
use Rattle.sgb_graph.specs.Builder.{Insertion, Inserts}
use Rattle.sgb_make.specs.Ride.{rides_along}
use Rattle.sgb_make.specs.Private.Link.{part_of, trips}
use Rattle.sgb_make.proofs.Links.{length-links, table_low, few_cells}
use Rattle.sgb_make.proofs.Rides.{rides_are_trips}
use Rattle.sgb_make.proofs.ride.insert_rides.Goals as goal

pub insert_trips-requires-clause-low : goal.insert_trips-requires-clause-low
insert_trips-requires-clause-low c =
    table_low c.deref.result.now c.args.sides.now c.args.steps.now 0 c.requires.parts (c.deref.ensures.value ∙ c.in_ok-link.ensures)

pub insert_trips-requires-clause-few : goal.insert_trips-requires-clause-few
insert_trips-requires-clause-few c =
    let long = length-links c.args.sides.now (map part_of c.args.steps.now) (length-map c.args.steps.now part_of ∙ c.requires.parts) in
    omega (arith, ap length (c.deref.ensures.value ∙ c.in_ok-link.ensures), long, few_cells c.args.sides.now c.requires.small)

pub insert_trips-requires-clause-count : goal.insert_trips-requires-clause-count
insert_trips-requires-clause-count c =
    let long = length-links c.args.sides.now (map part_of c.args.steps.now) (length-map c.args.steps.now part_of ∙ c.requires.parts) in
    omega (arith, ap length (c.deref.ensures.value ∙ c.in_ok-link.ensures), long, c.requires.count)

pub returns : goal.returns
returns c =
    let v = map part_of c.args.steps.now in
    let same : trips c.deref.result.now c.args.rides ≡ rides_along c.args.sides.now c.args.rides v =
    ap (λ t. trips t c.args.rides) (c.deref.ensures.value ∙ c.in_ok-link.ensures)
    ∙ sym (rides_are_trips c.args.sides.now v c.args.rides (length-map c.args.steps.now part_of ∙ c.requires.parts)) in
    subst (λ (es : List Insertion). Inserts c.args.builder.now c.insert_trips.new.builder es c.insert_trips.result) same c.insert_trips.ensures
