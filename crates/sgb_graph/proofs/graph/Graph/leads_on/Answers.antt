use Rattle.std.proofs.Common.{◌∙◌, ap, sym}
use Rattle.std.specs.List.{list_all}
use Rattle.std.proofs.lemmas.List.Folds.{list_all-map}
use Rattle.sgb_graph.specs.Graph.{GraphOf}
use Rattle.sgb_graph.specs.Private.Arena.{entry_of}
use Rattle.sgb_graph.specs.Read.{leads_on}
use Rattle.sgb_graph.proofs.graph.Graph.leads_on.Goals as goal

pub returns : goal.returns
returns c =
    c.is_aimed.ensures
    ∙ (sym (list_all-map leads_on entry_of c.self.inside.slots) ∙ ap (λ (g : GraphOf). list_all leads_on g.entries) c.self.view_is)
