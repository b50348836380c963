use Rattle.std.proofs.Common.{◌∙◌}
use Rattle.sgb_import.proofs.DimacsIds.{id_here, id_later, id_nowhere}
use Rattle.sgb_import.specs.Private.Cursors.{seen}
use Rattle.sgb_import.proofs.dimacs.find_id.Goals as goal

pub returns-in-Some-behind : goal.returns-in-Some-behind
returns-in-Some-behind c = id_here (seen c.in-Some.line) _ _ c.in-Some-behind.bytes.now c.in-Some.ensures.steps c.in-Some-behind.ensures ∙ c.loop-line.invariant.left

pub loop-line-preserved : goal.loop-line-preserved
loop-line-preserved c = record {
  can = tt;
  finite = tt;
  left = id_later (seen c.in-Some.line) _ _ c.in-Some.ensures.steps c.in_default.ensures ∙ c.loop-line.invariant.left;
}

pub returns : goal.returns
returns c = id_nowhere _ c.in-None.ensures.steps.0 ∙ c.loop-line.invariant.left
