use Rattle.std.proofs.Common.{◌∙◌, sym, arith}
use Rattle.sgb_graph.specs.Graph.{n_of}
use Rattle.sgb_graph.proofs.PairedLemmas.{below_all_more, below_all_not}
use Rattle.sgb_export.specs.Edges.{is_new}
use Rattle.sgb_export.proofs.NameIndexes.{new_is, name_more, not_true}
use Rattle.sgb_export.proofs.names.are_distinct.Goals as goal

pub returns-then-not-is_new-clause-ok : goal.returns-then-not-is_new-clause-ok
returns-then-not-is_new-clause-ok c =
    let g = c.args.graph.now in
    let v = c.loop-v.v in
    let here = new_is g v c.label.result c.loop-v.names.keys c.loop-v.invariant.keys c.label.ensures.value in
    sym (below_all_not (is_new g) (n_of g) v (omega arith) (sym here ∙ (sym c.in_ok-is_new.ensures.added ∙ c.if-not-is_new.true)))

pub loop-v-preserved : goal.loop-v-preserved
loop-v-preserved c =
    let g = c.args.graph.now in
    let v = c.loop-v.v in
    let here = new_is g v c.label.result c.loop-v.names.keys c.loop-v.invariant.keys c.label.ensures.value in
    let fresh = sym c.in_ok-is_new.ensures.added ∙ c.if-not-is_new.false in record {
      new = below_all_more (is_new g) v c.loop-v.invariant.new (sym here ∙ fresh);
      keys = name_more g v c.label.result c.loop-v.names.keys _ c.loop-v.invariant.keys c.label.ensures.value (not_true _ fresh) c.in_ok-is_new.ensures.keys;
    }
