use Rattle.std.proofs.Common.{◌≡◌, ◌^◌, ap, min, arith}
use Rattle.sgb_binary.specs.Private.Listing.{room}
use Rattle.sgb_binary.proofs.Rows.{power_few}
use Rattle.sgb_binary.proofs.lister.room.Goals as goal

pub returns-clause-value : goal.returns-clause-value
unfolding room
returns-clause-value c =
    let same : 2 ^ c.min.result ≡ 2 ^ min c.args.height 7 = ap (λ k. 2 ^ k) c.min.ensures in
    omega (arith, same, power_few c.args.height)
