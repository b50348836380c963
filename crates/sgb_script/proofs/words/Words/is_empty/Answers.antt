use Rattle.std.proofs.Common.{◌==◌, length, ap, ◌∙◌}
use Rattle.sgb_script.specs.Private.Words.{is_nothing}
use Rattle.sgb_script.proofs.WordSplits.{blank}
use Rattle.sgb_script.proofs.words.Words.is_empty.Goals as goal

pub returns : goal.returns
returns c =
    let line = c.self.inside.rest.now in
    ap (λ k. k == length line) c.count_spaces.ensures.count ∙ blank line ∙ ap is_nothing c.self.view_is
