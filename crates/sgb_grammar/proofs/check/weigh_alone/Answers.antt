use Rattle.std.proofs.Common.{ap, ◌∙◌, arith}
use Rattle.std.proofs.lemmas.List.{take_all}
use Rattle.sgb_grammar.specs.Check.{weighed}
use Rattle.sgb_grammar.proofs.LineWeights.{byte_adds, byte_fits, block_fits, nothing_alone}
use Rattle.sgb_grammar.proofs.check.weigh_alone.Goals as goal

pub bytes-init : goal.bytes-init
bytes-init c = (nothing_alone, omega arith)

pub returns-clause-value : goal.returns-clause-value
returns-clause-value c = c.bytes.invariant.0 ∙ ap weighed (take_all c.bytes.byte-index c.args.block.now (omega arith))

pub returns-clause-small : goal.returns-clause-small
returns-clause-small c = block_fits c.bytes.value c.bytes.byte-index (omega (arith, c.requires)) c.bytes.invariant.1

pub bytes-preserved : goal.bytes-preserved
bytes-preserved c =
    let code = c.from.ensures ∙ c.code_of.ensures in (
      byte_adds c.bytes.value c.from.result c.args.block.now c.bytes.byte-index c.bytes-test.true c.bytes.invariant.0 code,
      byte_fits c.bytes.value c.from.result c.bytes.byte-index (omega arith) c.bytes.invariant.1,
    )
