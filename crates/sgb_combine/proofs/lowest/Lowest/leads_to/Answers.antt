use Rattle.std.proofs.Common.{◌∙◌}
use Rattle.sgb_combine.proofs.SpokeLookup.{stands_leads}
use Rattle.sgb_combine.proofs.lowest.Lowest.leads_to.Goals as goal

pub returns : goal.returns
returns c = c.is_some.ensures ∙ stands_leads c.args.self.now.spokes.items c.args.to c.place_of.result c.place_of.ensures
