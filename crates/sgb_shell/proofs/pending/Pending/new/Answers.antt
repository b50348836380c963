use Rattle.std.proofs.Common.{◌≡◌, true, ap, refl, sym, ◌∙◌}
use Rattle.std.specs.Prelude.{◌||◌}
use Rattle.sgb_shell.specs.Unit.{takes_text, takes_members}
use Rattle.sgb_shell.proofs.pending.Pending.new.Goals as goal

pub returns-then-takes_text : goal.returns-then-takes_text
returns-then-takes_text c l held lines =
    let text : takes_text l ≡ true = sym (c.takes_text.ensures l held) ∙ c.if-takes_text.true in
    record { number = refl; lines = c.new.ensures c.args.number l held text }

pub returns : goal.returns
returns c l held lines =
    let other = sym (c.takes_text.ensures l held) ∙ c.if-takes_text.false in
    let group : takes_members l ≡ true = ap (λ b. b || takes_members l) (sym other) ∙ lines in
    record { number = refl; lines = c.new-2.ensures c.args.number l held other group }
