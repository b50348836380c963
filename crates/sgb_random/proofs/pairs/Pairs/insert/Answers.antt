use Rattle.std.proofs.Common.{subst}
use Rattle.sgb_random.specs.Private.Table.{IsPlaceOf}
use Rattle.sgb_random.proofs.PairTable.{table_put}
use Rattle.sgb_random.proofs.pairs.Pairs.insert.Goals as goal

pub invariant_of-self : goal.invariant_of-self
invariant_of-self c =
    let place = c.place_of-place.result in
    let is = subst (λ slots. IsPlaceOf slots c.args.key place) c.deref.ensures.value c.place_of-place.ensures in
    table_put c.self.inside.slots.items c.args.key place c.self.invariant is
