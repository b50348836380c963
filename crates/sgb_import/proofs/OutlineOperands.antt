-- Each arc of the graph of an outline leads to a vertex.
use Rattle.std.proofs.Common.{◌≡◌, List, [], ◌∷◌, ◌++◌, Some, None, Option, Bool, true, false, ◌&&◌, refl, ap, ◌∙◌, reverse, min, max}
use Rattle.std.specs.List.{list_all}
use Rattle.std.proofs.lemmas.Bool.{and_from}
use Rattle.std.proofs.lemmas.List.Folds.{list_all-append}
use Rattle.sgb_graph.specs.declared.refusal.Refusal.TheVariants.{BadOperand}
use Rattle.sgb_graph.specs.Builder.{Insertion, inserted, with_all}
use Rattle.sgb_graph.specs.Edit.{arc_to, with_arc, with_edge, with_listed, with_entry_last, refusal_unless}
use Rattle.sgb_graph.specs.Graph.{GraphOf, ArcOf}
use Rattle.sgb_graph.specs.Operand.{refusal_of_operand}
use Rattle.sgb_graph.specs.Read.{leads_on}
use Rattle.sgb_plan.specs.Plan.{graph_of_plan}
use Rattle.sgb_import.specs.Outline.{Outline, graph_of_outline}

one_more : (es : List (Option ArcOf)) (e : Option ArcOf) → leads_on e ≡ true → list_all leads_on es ≡ true → list_all leads_on (es ++ e ∷ []) ≡ true
one_more es e leads all = list_all-append leads_on es (e ∷ []) ∙ and_from (list_all leads_on es) (leads_on e && true) all (ap (λ b. b && true) leads)

link_leads : (directed : Bool) (g : GraphOf) (e : Insertion) → list_all leads_on g.entries ≡ true → list_all leads_on (inserted directed g e).entries ≡ true
unfolding inserted with_arc with_edge with_listed with_entry_last
link_leads true g e all = one_more g.entries (Some (arc_to e.to e.len)) refl all
link_leads false g e all =
    let high = arc_to (max e.from e.to) e.len in
    let low = arc_to (min e.from e.to) e.len in
    one_more (g.entries ++ Some high ∷ []) (Some low) refl (one_more g.entries (Some high) refl all)

links_lead : (directed : Bool) (g : GraphOf) (es : List Insertion) → list_all leads_on g.entries ≡ true → list_all leads_on (with_all directed g es).entries ≡ true
unfolding with_all
links_lead directed g [] all = all
links_lead directed g (e ∷ es) all = links_lead directed (inserted directed g e) es (link_leads directed g e all)

outline_leads : (o : Outline) → list_all leads_on (graph_of_outline o).entries ≡ true
unfolding graph_of_outline graph_of_plan
outline_leads o = links_lead o.directed _ (reverse o.links) refl

pub outline_operand : (o : Outline) → refusal_of_operand (graph_of_outline o) ≡ None
outline_operand o = ap (λ b. refusal_unless b BadOperand None) (outline_leads o)
