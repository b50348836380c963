use Rattle.std.proofs.Common.{ap, sym, ◌∙◌}
use Rattle.sgb_graph.specs.Same.{graph_eq, util_eq}
use Rattle.sgb_graph.specs.Private.SameLaws.{graphs_tell, values_tell}
use Rattle.sgb_graph.proofs.facts.same_law.Goals as goal

pub returns-clause-graphs : goal.returns-clause-graphs
returns-clause-graphs c = λ g h. (λ t. graphs_tell.same g h t, λ e. ap (graph_eq g) (sym e) ∙ graphs_tell.self g)

pub returns-clause-values : goal.returns-clause-values
returns-clause-values c = λ a b. (λ t. values_tell.same a b t, λ e. ap (util_eq a) (sym e) ∙ values_tell.self a)
