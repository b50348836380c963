use Rattle.std.proofs.Common.{◌∙◌, arith}
use Rattle.std.proofs.lemmas.Result.{err_from_is_err_and}
use Rattle.sgb_graph.proofs.InsertionRuns.{from_some, from_refused, from_end, from_n}
use Rattle.sgb_simplex.specs.Points.{points}
use Rattle.sgb_simplex.proofs.MoveInsertions.{pairs_begin}
use Rattle.sgb_simplex.proofs.overlap.insert_plain_pairs.Goals as goal

pub loop-v-init : goal.loop-v-init
loop-v-init c = let list = c.args.list.now in pairs_begin c.args.builder.now (points list.total list.bounds.items) c.args.size_bits list.count list.counted

pub insert_pairs_to-requires-clause-all : goal.insert_pairs_to-requires-clause-all
insert_pairs_to-requires-clause-all c = from_n c.loop-v.invariant ∙ c.requires

pub returns-in_err-insert_pairs_to : goal.returns-in_err-insert_pairs_to
returns-in_err-insert_pairs_to c =
    let p = err_from_is_err_and c.from_residual.result c.from_residual.ensures.1 in
    rw (p.1, p.2) (from_refused (omega arith) c.loop-v.invariant c.in_err-insert_pairs_to.ensures)

pub loop-v-preserved : goal.loop-v-preserved
loop-v-preserved c = from_some (omega arith) c.loop-v.invariant c.in_ok-insert_pairs_to.ensures

pub returns : goal.returns
returns c = from_end (omega arith) c.loop-v.invariant
