use Rattle.std.proofs.Common.{sym, ◌∙◌, append-nil}
use Rattle.sgb_graph.specs.Edit.{entry_at, util_at}
use Rattle.sgb_print.proofs.TextPieces.{prints_behind, fails_early}
use Rattle.sgb_print.proofs.GraphPieces.{zeros_end}
use Rattle.sgb_print.proofs.show.print_arc.Goals as goal

pub returns-then-are_zeros : goal.returns-then-are_zeros
unfolding util_at
returns-then-are_zeros g c =
    let e = c.in-Some.ensures.entry in
    let zeros = rw (c.util.ensures, c.util-2.ensures) at c.are_zeros.ensures in
    rw (zeros_end (entry_at c.args.graph.now c.args.number.0).fields (sym zeros ∙ c.if-are_zeros.true)) (rw (e.tip, e.len) at c.print_arc_head.ensures)

pub returns-in_err-print_arc_head : goal.returns-in_err-print_arc_head
returns-in_err-print_arc_head g c =
    let e = c.in-Some.ensures.entry in
    fails_early _ (rw (append-nil, e.tip, e.len) at c.in_err-print_arc_head.ensures) c.from_residual.ensures.0

pub returns : goal.returns
unfolding util_at
returns g c =
    let e = c.in-Some.ensures.entry in
    prints_behind (rw (append-nil, e.tip, e.len) at c.in_ok-print_arc_head.ensures) (rw (c.util.ensures, c.util-2.ensures) at c.end_with_fields.ensures)
