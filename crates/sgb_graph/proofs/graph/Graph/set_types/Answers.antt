use Rattle.std.proofs.Common.{◌∙◌, ap, subst}
use Rattle.sgb_graph.specs.Graph.{IsGraph, GraphOf}
use Rattle.sgb_graph.specs.Private.Arena.{graph_of}
use Rattle.sgb_graph.proofs.graph.Graph.set_types.Goals as goal

pub returns-clause-left : goal.returns-clause-left
returns-clause-left c =
    record {
      types = c.args.types;
      graph = subst IsGraph c.self.view_is c.self.invariant.graph;
      kept = c.replace-old.ensures.value ∙ ap (λ (g : GraphOf). g.types) c.self.view_is;
      left = ap (λ t. record (graph_of c.self.inside) { types = t }) c.replace-old.ensures.after ∙ ap (λ (g : GraphOf). record g { types = c.args.types }) c.self.view_is;
    }
