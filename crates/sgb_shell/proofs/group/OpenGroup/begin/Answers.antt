use Rattle.std.proofs.Common.{◌∙◌, sym}
use Rattle.sgb_shell.proofs.UnitLines.{text_begun, member_added}
use Rattle.sgb_shell.proofs.group.OpenGroup.begin.Goals as goal

pub returns-then-takes_text : goal.returns-then-takes_text
returns-then-takes_text c u l held none i =
    let takes = sym (c.takes_text.ensures l held) ∙ c.if-takes_text.true in
    text_begun u l c.args.self.now _ i none takes (c.new.ensures 0 l held takes)

pub returns : goal.returns
returns c u l held none i =
    member_added u l c.args.self.now _ _ i none (sym (c.takes_text.ensures l held) ∙ c.if-takes_text.false) (c.member_of.ensures l held) c.add.ensures
