use Rattle.std.proofs.Common.{sym, ◌∙◌}
use Rattle.sgb_graph.specs.Edit.{util_at}
use Rattle.sgb_print.proofs.TextPieces.{prints_none, prints_same, prints_behind, fails_early}
use Rattle.sgb_print.proofs.GraphPieces.{without_fields, with_fields}
use Rattle.sgb_print.proofs.show.print_graph_fields.Goals as goal

pub returns-then-are_zeros : goal.returns-then-are_zeros
unfolding util_at
returns-then-are_zeros g c =
    let zeros = rw (c.util.ensures, c.util-2.ensures, c.util-3.ensures, c.util-4.ensures, c.util-5.ensures, c.util-6.ensures) at c.are_zeros.ensures in
    prints_none (without_fields c.args.graph.now.fields (sym zeros ∙ c.if-are_zeros.true))

pub returns-in_err-put : goal.returns-in_err-put
unfolding util_at
returns-in_err-put g c =
    let zeros = rw (c.util.ensures, c.util-2.ensures, c.util-3.ensures, c.util-4.ensures, c.util-5.ensures, c.util-6.ensures) at c.are_zeros.ensures in
    prints_same (fails_early _ c.in_err-put.ensures c.from_residual.ensures.0) (with_fields c.args.graph.now.fields (sym zeros ∙ c.if-are_zeros.false))

pub returns : goal.returns
unfolding util_at
returns g c =
    let zeros = rw (c.util.ensures, c.util-2.ensures, c.util-3.ensures, c.util-4.ensures, c.util-5.ensures, c.util-6.ensures) at c.are_zeros.ensures in
    let fields = rw (c.util.ensures, c.util-2.ensures, c.util-3.ensures, c.util-4.ensures, c.util-5.ensures, c.util-6.ensures) at c.end_with_fields.ensures in
    prints_same (prints_behind c.in_ok-put.ensures fields) (with_fields c.args.graph.now.fields (sym zeros ∙ c.if-are_zeros.false))
