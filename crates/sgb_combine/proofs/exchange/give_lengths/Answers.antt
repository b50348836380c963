use Rattle.std.proofs.Common.{rules, FitsSigned, get_or, pos, w64, arith}
use Rattle.std.proofs.lemmas.Int.{to_z-of_z}
use Rattle.sgb_combine.proofs.LengthSwaps.{given_start, given_more, given_graph}
use Rattle.sgb_combine.proofs.exchange.give_lengths.Goals as goal

pub loop-k-init : goal.loop-k-init
loop-k-init c = given_start c.args.graph.now c.args.lengths.now c.made-k-end.ensures.graph

pub loop-k-preserved : goal.loop-k-preserved
loop-k-preserved c =
    let given : FitsSigned w64 (get_or c.args.lengths.now c.loop-k.k (pos 0)) = search rules in
    given_more _ (let low = c.loop-k-test.true in let made = c.made-k-end.ensures.value in omega arith) c.loop-k.invariant
    (to_z-of_z w64 (get_or c.args.lengths.now c.loop-k.k (pos 0)) given)
    c.exchange_length.ensures.graph c.exchange_length.ensures.sound

pub returns-clause-graph : goal.returns-clause-graph
returns-clause-graph c = given_graph (let past = c.loop-k-test.false in let most = c.loop-k.auto.k-end in let made = c.made-k-end.ensures.value in omega arith) c.loop-k.invariant

pub returns-clause-sound : goal.returns-clause-sound
returns-clause-sound c = c.loop-k.invariant.sound
