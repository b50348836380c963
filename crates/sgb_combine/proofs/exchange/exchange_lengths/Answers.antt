use Rattle.std.proofs.Common.{rules, ap, FitsSigned, set, get_or, pos, w64, arith}
use Rattle.std.proofs.lemmas.Int.{to_z-of_z}
use Rattle.sgb_combine.proofs.LengthSwaps.{exchanged_start, exchanged_more, exchanged_graph, exchanged_lengths}
use Rattle.sgb_combine.proofs.exchange.exchange_lengths.Goals as goal

pub loop-k-init : goal.loop-k-init
loop-k-init c = exchanged_start c.args.graph.now c.args.lengths.now c.made-k-end.ensures.graph

pub loop-k-preserved : goal.loop-k-preserved
loop-k-preserved c =
    let old : FitsSigned w64 c.exchange_length.result = search rules in
    let given : FitsSigned w64 (get_or c.loop-k.lengths c.loop-k.k (pos 0)) = search rules in
    exchanged_more _ c.exchange_length.result c.requires (let low = c.loop-k-test.true in let made = c.made-k-end.ensures.value in omega arith) c.loop-k.invariant
    (to_z-of_z w64 (get_or c.loop-k.lengths c.loop-k.k (pos 0)) given)
    c.exchange_length.ensures.length c.exchange_length.ensures.graph c.exchange_length.ensures.sound
    (ap (set c.loop-k.lengths c.loop-k.k) (to_z-of_z w64 c.exchange_length.result old))

pub returns-clause-graph : goal.returns-clause-graph
returns-clause-graph c = exchanged_graph (let past = c.loop-k-test.false in let most = c.loop-k.auto.k-end in let made = c.made-k-end.ensures.value in omega arith) c.loop-k.invariant

pub returns-clause-lengths : goal.returns-clause-lengths
returns-clause-lengths c = exchanged_lengths (let past = c.loop-k-test.false in let most = c.loop-k.auto.k-end in let made = c.made-k-end.ensures.value in omega arith) c.requires c.loop-k.invariant

pub returns-clause-sound : goal.returns-clause-sound
returns-clause-sound c = c.loop-k.invariant.sound
