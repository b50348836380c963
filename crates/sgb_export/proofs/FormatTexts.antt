-- Lemmas on which text a format has.
use Rattle.std.proofs.Common.{◌≡◌, ◌≢◌, refl, ap}
use Rattle.sgb_graph.specs.Graph.{GraphOf}
use Rattle.sgb_export.specs.declared.format.Format.{Format}
use Rattle.sgb_export.specs.declared.format.Format.TheVariants.{Dot, PlacedDot, Dimacs, Col, Edges, NamedEdges, Graph6, Graphml}
use Rattle.sgb_export.specs.Graph6.{graph6_text}
use Rattle.sgb_export.specs.Text.{export_text, listed_text}

pub graph6_is : (format : Format) (g : GraphOf) → format ≡ Graph6 → export_text format g ≡ graph6_text g
unfolding export_text
graph6_is format g is = ap (λ f. export_text f g) is

pub listed_is : (format : Format) (g : GraphOf) → format ≢ Graph6 → export_text format g ≡ listed_text format g
unfolding export_text
listed_is Dot g other = refl
listed_is PlacedDot g other = refl
listed_is Dimacs g other = refl
listed_is Col g other = refl
listed_is Edges g other = refl
listed_is NamedEdges g other = refl
listed_is Graph6 g other = absurd (other refl)
listed_is Graphml g other = refl
