use Rattle.std.proofs.Common.{◌∙◌, arith}
use Rattle.std.proofs.lemmas.Result.{err_from_is_err_and}
use Rattle.sgb_graph.proofs.InsertionRuns.{from_some, from_refused, from_end, from_n}
use Rattle.sgb_simplex.specs.Points.{points}
use Rattle.sgb_simplex.proofs.MoveInsertions.{pairs_to_begin}
use Rattle.sgb_simplex.proofs.coded.insert_coded_pairs_to.Goals as goal

pub loop-u-init : goal.loop-u-init
loop-u-init c = let list = c.args.list.now in pairs_to_begin c.args.builder.now (points list.total list.bounds.items) c.args.size_bits c.args.v

pub insert_coded_pair-requires-clause-all : goal.insert_coded_pair-requires-clause-all
insert_coded_pair-requires-clause-all c = from_n c.loop-u.invariant ∙ c.requires.all

pub returns-in_err-insert_coded_pair : goal.returns-in_err-insert_coded_pair
returns-in_err-insert_coded_pair c =
    let p = err_from_is_err_and c.from_residual.result c.from_residual.ensures.1 in
    rw (p.1, p.2) (from_refused (omega arith) c.loop-u.invariant c.in_err-insert_coded_pair.ensures)

pub loop-u-preserved : goal.loop-u-preserved
loop-u-preserved c = from_some (omega arith) c.loop-u.invariant c.in_ok-insert_coded_pair.ensures

pub returns : goal.returns
returns c = from_end (omega arith) c.loop-u.invariant
