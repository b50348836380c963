-- What an edit left and kept leads back to the graph that it met.
use Rattle.std.proofs.Common.{◌≡◌, ◌+◌, ℕ, List, [], ◌∷◌, take, None, ap, ◌∙◌, append_assoc}
use lib.Seq.{take-append_seam}
use Rattle.sgb_graph.specs.declared.field.ArcNo.{ArcNo}
use Rattle.sgb_graph.specs.declared.delta.CutArc.{CutArc}
use Rattle.sgb_graph.specs.declared.delta.GraphDelta.{GraphDelta}
use Rattle.sgb_graph.specs.declared.delta.GraphDelta.TheVariants.{NewArc, NewEdge, Cut, SetLen, SetUtil, SetLabel, SetId, SetTypes}
use Rattle.sgb_graph.specs.Graph.{GraphOf, made_of}
use Rattle.sgb_graph.specs.Edit.{without_arc, with_cut_arc}
use Rattle.sgb_graph.specs.Delta.{LeftBy, LeftByArc, LeftByEdge, LeftByCut, LeftById, LeftByTypes}
use Rattle.sgb_graph.specs.Reverted.{reverted, with_numbers}
use Rattle.sgb_graph.specs.Private.Holes.{with_hole}
use Rattle.sgb_graph.proofs.TakeOut.{found_live}
use Rattle.sgb_graph.proofs.Laws.{with_cut_arc-without_arc}
use Rattle.sgb_graph.proofs.CutLemmas.{cut_taken, revert_arc_law, revert_edge_can}
use Rattle.sgb_graph.proofs.SetLemmas.{left_len, left_label}
use Rattle.sgb_graph.proofs.UtilLemmas.{left_util}

one_hole_less : (g : GraphOf) → with_numbers (with_hole g) (made_of g) ≡ g
one_hole_less g = ap (λ es. record g { entries = es }) (take-append_seam g.entries (None ∷ []))

two_holes_less : (g : GraphOf) → with_numbers (with_hole (with_hole g)) (made_of g) ≡ g
two_holes_less g = ap (λ es. record g { entries = es })
    (ap (take (made_of g)) (append_assoc g.entries (None ∷ []) (None ∷ [])) ∙ take-append_seam g.entries (None ∷ None ∷ []))

arc_back : (g h : GraphOf) (k : ArcNo) → LeftByArc g k h → with_numbers (without_arc h k.0) k.0 ≡ g
arc_back g h k l =
    ap (λ z. with_numbers z k.0) (revert_arc_law g h k l) ∙ (ap (λ n. with_numbers (with_hole g) n.0) l.number ∙ one_hole_less g)

edge_back : (g h : GraphOf) (k : ArcNo) → LeftByEdge g k h → with_numbers (without_arc (without_arc h k.0) (k.0 + 1)) k.0 ≡ g
edge_back g h k l =
    ap (λ z. with_numbers z k.0) (revert_edge_can g h k l).law ∙ (ap (λ n. with_numbers (with_hole (with_hole g)) n.0) l.number ∙ two_holes_less g)

cut_back : (g h : GraphOf) (c : CutArc) → LeftByCut g c h → with_cut_arc h c ≡ g
cut_back g h c left =
    let can = cut_taken g h c left in
    ap (λ k. with_cut_arc k c) left.left
    ∙ (ap (with_cut_arc (without_arc g c.number.0)) left.arc ∙ with_cut_arc-without_arc g c.number.0 (found_live g c.number.0 left.graph can.live))

id_back : (g h : GraphOf) (old : List ℕ) → LeftById g old h → record h { id = old } ≡ g
id_back g h old l = ap (λ (q : GraphOf). record q { id = old }) l.left ∙ ap (λ t. record g { id = t }) l.kept

types_back : (g h : GraphOf) (old : List ℕ) → LeftByTypes g old h → record h { types = old } ≡ g
types_back g h old l = ap (λ (q : GraphOf). record q { types = old }) l.left ∙ ap (λ t. record g { types = t }) l.kept

pub reverted_is : (g h : GraphOf) (d : GraphDelta) → LeftBy g d h → reverted h d ≡ g
unfolding reverted
reverted_is g h (NewArc k) l = arc_back g h k l
reverted_is g h (NewEdge k) l = edge_back g h k l
reverted_is g h (Cut c) l = cut_back g h c l
reverted_is g h (SetLen k old) l = (left_len g h k old l).back
reverted_is g h (SetUtil p old) l = (left_util g h p old l).back
reverted_is g h (SetLabel v old) l = (left_label g h v old l).back
reverted_is g h (SetId old) l = id_back g h old l
reverted_is g h (SetTypes old) l = types_back g h old l
