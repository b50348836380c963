use Rattle.std.proofs.Common.{◌∙◌, ap, sym, arith}
use Rattle.sgb_graph.specs.Graph.{n_of, label_of}
use Rattle.sgb_graph.proofs.PairedLemmas.{below_all_more, below_all_not}
use Rattle.sgb_export.specs.Edges.{is_plain}
use Rattle.sgb_export.proofs.names.are_plain.Goals as goal

pub returns-then-not-is_plain : goal.returns-then-not-is_plain
returns-then-not-is_plain c =
    let g = c.args.graph.now in
    sym (below_all_not (λ v. is_plain (label_of g v)) (n_of g) c.loop-v.v (omega arith)
    (sym (ap is_plain c.label.ensures.value) ∙ (sym c.is_plain.ensures ∙ c.if-not-is_plain.true)))

pub loop-v-preserved : goal.loop-v-preserved
loop-v-preserved c =
    let g = c.args.graph.now in
    below_all_more (λ v. is_plain (label_of g v)) c.loop-v.v c.loop-v.invariant
    (sym (ap is_plain c.label.ensures.value) ∙ (sym c.is_plain.ensures ∙ c.if-not-is_plain.false))
