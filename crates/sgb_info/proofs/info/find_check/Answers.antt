use Rattle.std.proofs.Common.{ap, ◌∙◌}
use Rattle.sgb_grammar.specs.Check.{check_of}
use Rattle.sgb_text.specs.Clean.{clean_of}
use Rattle.sgb_info.proofs.CheckLines.{check_of_text}
use Rattle.sgb_info.proofs.info.find_check.Goals as goal

pub returns : goal.returns
returns c =
    let g = c.args.graph.now in
    c.check_number.ensures.value
    ∙ (ap check_of (c.as_slice.ensures ∙ c.in_ok-saved.ensures.text) ∙ check_of_text (clean_of g) (c.cleaning_law.ensures.sound g c.n.ensures.graph))
