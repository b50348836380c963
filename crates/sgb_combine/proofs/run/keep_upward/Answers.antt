use Rattle.std.proofs.Common.{rules}
use Rattle.std.proofs.lemmas.Fn.{filter_same}
use Rattle.sgb_combine.specs.Combined.{is_upward}
use Rattle.sgb_combine.proofs.run.keep_upward.Goals as goal

pub returns : goal.returns
returns c = filter_same _ (is_upward c.args.directed c.args.vertex.0) _ (λ x b f' k. search rules) _ _ c.retain.ensures.filtered
