use Rattle.std.proofs.Common.{None, ap, ◌∙◌}
use Rattle.std.specs.Option.{option_or}
use Rattle.sgb_graph.specs.Operand.{refusal_of_operand}
use Rattle.sgb_import.specs.Edges.{outline_of_edges}
use Rattle.sgb_import.proofs.OutlineOperands.{outline_operand}
use Rattle.sgb_export.specs.declared.format.Format.TheVariants.{Edges}
use Rattle.sgb_export.specs.Text.{export_text}
use Rattle.sgb_import.specs.Outline.{graph_of_outline}
use Rattle.sgb_import.proofs.EdgesBack.{edges_not_refused, edges_outline, same_edges}
use Rattle.sgb_import.proofs.laws.edges_law.Goals as goal

pub returns-clause-read : goal.returns-clause-read
returns-clause-read c = edges_not_refused

pub returns-clause-accepted : goal.returns-clause-accepted
returns-clause-accepted c = λ list g h spelt.
    ap (λ k. option_or (refusal_of_operand k) None) spelt.1
    ∙ ap (λ r. option_or r None) (outline_operand (outline_of_edges list (export_text Edges g)))

pub returns-clause-same : goal.returns-clause-same
returns-clause-same c = λ list g h sound numbers asked spelt.
    ap (export_text Edges) (spelt.1 ∙ ap graph_of_outline (edges_outline list g sound numbers asked)) ∙ same_edges list g sound numbers asked
