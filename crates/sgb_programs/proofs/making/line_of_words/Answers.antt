use Rattle.std.proofs.Common.{◌∙◌, ◌++◌, ap}
use Rattle.sgb_programs.specs.Made.{front_of}
use Rattle.sgb_programs.proofs.MadeLemmas.{line_joined}
use Rattle.sgb_programs.proofs.making.line_of_words.Goals as goal

pub returns : goal.returns
returns c =
    line_joined _ _ c.args.command.now c.args.operands.now c.args.words.now
    (c.in_ok-put_front.ensures
    ∙ ap (λ t. t ++ front_of c.args.operands.now) (c.in_ok-extend_from_slice.ensures.items ∙ ap (λ t. t ++ c.args.command.now) c.new-line.ensures.items))
    c.in_ok-put_words.ensures
