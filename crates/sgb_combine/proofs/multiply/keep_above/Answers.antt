use Rattle.std.proofs.Common.{rules}
use Rattle.std.proofs.lemmas.Fn.{filter_same}
use Rattle.sgb_combine.specs.Private.Pruned.{is_above}
use Rattle.sgb_combine.proofs.multiply.keep_above.Goals as goal

pub returns : goal.returns
returns c = filter_same _ (is_above c.args.vertex.0) _ (λ x b f' k. search rules) _ _ c.retain.ensures.filtered
