use Rattle.std.proofs.Common.{◌≡◌, false, Some, refl, sym, ◌∙◌, subst}
use Rattle.std.proofs.lemmas.Bool.{or_parts}
use Rattle.std.specs.Prelude.{if◌then◌else◌}
use Rattle.sgb_shell.specs.Private.Reaching.{GoesOn, Ends, Settles}
use Rattle.sgb_shell.specs.Unit.{alone, opened, takes_text, takes_members, takes_lines}
use Rattle.sgb_shell.proofs.CourseSteps.{line_does}
use Rattle.sgb_shell.proofs.unit.begin.Goals as goal

pub returns : goal.returns
returns c l held none begun =
    let other : takes_lines l ≡ false = sym (c.takes_lines.ensures l held) ∙ c.if-takes_lines.false in
    let parts = or_parts (takes_text l) (takes_members l) other in
    subst (λ b. Settles (if b then GoesOn (opened c.args.number l) else Ends (alone c.args.number l))
    c.args.journal.now c.answer_line.new.journal c.args.pending.now (Some (c.args.number, c.answer_line.result)))
    (sym other)
    (refl, none, line_does _ _ (alone c.args.number l) _ parts.0 parts.1 (c.answer_line.ensures l held begun))
