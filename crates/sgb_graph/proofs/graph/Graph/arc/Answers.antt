use Rattle.std.proofs.Common.{IfSome, sym, subst}
use Rattle.sgb_graph.specs.declared.graph.read.ArcView.{ArcView}
use Rattle.sgb_graph.specs.Graph.{IsGraph, IsTip, n_of, arc_at}
use Rattle.sgb_graph.specs.Edit.{owner_of, entry_at}
use Rattle.sgb_graph.specs.Read.{ShowsEntry}
use Rattle.sgb_graph.proofs.Readers.{view_tip, entry_of_view}
use Rattle.sgb_graph.proofs.Shows.{view_is}
use Rattle.sgb_graph.proofs.graph.Graph.arc.Goals as goal

pub returns-clause-value : goal.returns-clause-value
returns-clause-value c = view_is c.self.inside c.args.self.now c.args.number.0 _ c.self.view_is c.self.invariant c.arc.ensures

pub returns-clause-tip : goal.returns-clause-tip
returns-clause-tip c =
    let g = c.args.self.now in
    let same = view_is c.self.inside g c.args.number.0 _ c.self.view_is c.self.invariant c.arc.ensures in
    subst (λ o. IfSome o (λ (a : ArcView). IsTip (n_of g) a.tip)) (sym same) (view_tip g c.args.number.0 (subst IsGraph c.self.view_is c.self.invariant.graph) c.requires)

pub returns-clause-entry : goal.returns-clause-entry
returns-clause-entry c =
    let g = c.args.self.now in
    let same = view_is c.self.inside g c.args.number.0 _ c.self.view_is c.self.invariant c.arc.ensures in
    subst (λ o. IfSome o (ShowsEntry (entry_at g c.args.number.0))) (sym same) (entry_of_view (owner_of g c.args.number.0) (arc_at g c.args.number.0))
