use Rattle.std.proofs.Common.{◌∙◌, sym}
use Rattle.sgb_shell.proofs.UnitLines.{text_ended, text_goes_on}
use Rattle.sgb_shell.proofs.group.OpenGroup.go_on.Goals as goal

pub returns-then-is_dot : goal.returns-then-is_dot
returns-then-is_dot c u l held none i =
    text_ended u l c.args.self.now c.args.text _ _ none i (sym (c.is_dot.ensures l held) ∙ c.if-is_dot.true) c.member.ensures c.add.ensures

pub returns : goal.returns
returns c u l held none i =
    text_goes_on u l c.args.self.now c.args.text _ i (sym (c.is_dot.ensures l held) ∙ c.if-is_dot.false) (λ v has. c.take_line.ensures v l held has)
