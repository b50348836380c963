use Rattle.std.proofs.Common.{◌<◌, All, IsSome, ap, subst}
use Rattle.std.proofs.lemmas.List.Elements.{All-tail}
use Rattle.sgb_graph.specs.Graph.{arc_at, made_of}
use Rattle.sgb_print.specs.Show.{arcs_text}
use Rattle.sgb_print.proofs.TextPieces.{writes_piece, fails_piece}
use Rattle.sgb_print.proofs.show.print_arcs.Goals as goal

pub loop-number-preserved : goal.loop-number-preserved
loop-number-preserved g c =
    let s = c.args.graph.now in record {
      written = writes_piece c.loop-number.invariant.written c.in_ok-print_arc.ensures (ap (arcs_text s) c.in-Some.ensures.steps);
      live = All-tail (λ k. IsSome (arc_at s k)) _ _ (subst (All (λ k. IsSome (arc_at s k))) c.in-Some.ensures.steps c.loop-number.invariant.live);
      within = All-tail (λ k. k < made_of s) _ _ (subst (All (λ k. k < made_of s)) c.in-Some.ensures.steps c.loop-number.invariant.within);
    }

pub returns-in_err-print_arc : goal.returns-in_err-print_arc
returns-in_err-print_arc g c =
    fails_piece _ c.loop-number.invariant.written c.in_err-print_arc.ensures (ap (arcs_text c.args.graph.now) c.in-Some.ensures.steps) c.from_residual.ensures.0
