use Rattle.sgb_combine.proofs.SpokeLookup.{found_at, leading_none}
use Rattle.sgb_combine.proofs.lowest.Lowest.find.Goals as goal

pub returns-in-Some : goal.returns-in-Some
returns-in-Some c =
    let l = c.args.self.now in
    let p = c.in-Some.ensures in
    found_at l.places.items l.spokes.items c.in-Some.place c.args.to c.index.result.now l.marked p.0 p.1 c.index.ensures

pub returns-in-None : goal.returns-in-None
returns-in-None c = leading_none c.args.self.now.spokes.items c.args.to c.in-None.ensures
