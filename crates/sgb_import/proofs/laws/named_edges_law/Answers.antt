use Rattle.sgb_import.proofs.NamedGraphs.{named_accepted, named_same}
use Rattle.std.proofs.Common.{ap, ap₂, get_or, [], ◌∙◌}
use Rattle.sgb_graph.specs.Graph.{label_of}
use Rattle.sgb_export.specs.declared.format.Format.TheVariants.{NamedEdges}
use Rattle.sgb_export.specs.Text.{export_text}
use Rattle.sgb_import.specs.Edges.{outline_of_edges}
use Rattle.sgb_import.specs.Laws.{by_names}
use Rattle.sgb_import.proofs.NamedBack.{met_all, named_links, named_not_refused, same_named}
use Rattle.sgb_import.proofs.NewNumbers.{map_same}
use Rattle.sgb_import.proofs.OutlineLinks.{label_of_outline}
use Rattle.sgb_import.proofs.laws.named_edges_law.Goals as goal

pub returns-clause-read : goal.returns-clause-read
returns-clause-read c = λ list g sound accepted named asked met.
    named_not_refused list g sound accepted named asked (met_all list g sound accepted named asked met)

pub returns-clause-links : goal.returns-clause-links
returns-clause-links c = λ list g h sound accepted named asked met spelt.
    let o = outline_of_edges list (export_text NamedEdges g) in
    map_same (by_names (label_of h)) (by_names (λ v. get_or o.names v [])) o.links
    (λ i d inside. ap₂ (λ a b. record { from = a; to = b; len = (get_or o.links i d).len })
    (ap (λ k. label_of k (get_or o.links i d).from) spelt.1 ∙ label_of_outline o (get_or o.links i d).from)
    (ap (λ k. label_of k (get_or o.links i d).to) spelt.1 ∙ label_of_outline o (get_or o.links i d).to))
    ∙ named_links list g sound accepted named asked (met_all list g sound accepted named asked met)

pub returns-clause-graph : goal.returns-clause-graph
returns-clause-graph c = λ list g h sound accepted named asked met spelt.
    named_same list g sound accepted named asked (met_all list g sound accepted named asked met) h spelt.1

pub returns-clause-accepted : goal.returns-clause-accepted
returns-clause-accepted c = λ list g h sound accepted named asked met spelt.
    named_accepted list g sound accepted named asked (met_all list g sound accepted named asked met) h spelt.1

pub returns-clause-same : goal.returns-clause-same
returns-clause-same c = λ list g h sound accepted named asked met spelt.
    ap (export_text NamedEdges) spelt.1 ∙ same_named list g sound accepted named asked met
