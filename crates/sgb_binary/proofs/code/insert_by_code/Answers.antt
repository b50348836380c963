use Rattle.std.proofs.Common.{◌∙◌, arith}
use Rattle.std.proofs.lemmas.List.{length-map}
use Rattle.std.proofs.lemmas.Result.{err_from_is_err_and}
use Rattle.sgb_graph.proofs.InsertionRuns.{from_some, from_refused, from_end, from_n}
use Rattle.sgb_binary.specs.Private.Names.{bytes_of}
use Rattle.sgb_binary.proofs.code.insert_by_code.Goals as goal

pub insert_from_code-requires-clause-vertices : goal.insert_from_code-requires-clause-vertices
insert_from_code-requires-clause-vertices c = from_n c.loop-v.invariant ∙ c.requires.vertices

pub returns-in_err-insert_from_code : goal.returns-in_err-insert_from_code
returns-in_err-insert_from_code c =
    let p = err_from_is_err_and c.from_residual-in_err-insert_from_code.result c.from_residual-in_err-insert_from_code.ensures.1 in
    rw (p.1, p.2) (from_refused (omega (arith, c.loop-v-test.true, length-map c.args.names.now bytes_of)) c.loop-v.invariant c.in_err-insert_from_code.ensures)

pub loop-v-preserved : goal.loop-v-preserved
loop-v-preserved c = from_some (omega (arith, c.loop-v-test.true, length-map c.args.names.now bytes_of)) c.loop-v.invariant c.in_ok-insert_from_code.ensures

pub returns : goal.returns
returns c = from_end (omega (arith, c.loop-v-test.false, length-map c.args.names.now bytes_of)) c.loop-v.invariant
