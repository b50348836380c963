use Rattle.std.proofs.Common.{unwrap_or, ap, ◌∙◌}
use Rattle.sgb_import.specs.Graph6.{without_header}
use Rattle.sgb_import.proofs.Graph6Texts.{now-unwrap_or}
use Rattle.sgb_import.proofs.graph6.without_header.Goals as goal

pub returns : goal.returns
unfolding without_header
returns c =
    ap (λ b. b.now) c.unwrap_or.ensures ∙ now-unwrap_or c.behind.result c.args.line ∙ ap (λ o. unwrap_or o c.args.line.now) c.behind.ensures
