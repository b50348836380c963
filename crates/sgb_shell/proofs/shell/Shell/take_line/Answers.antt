use Rattle.std.proofs.Common.{refl, sym, subst}
use Rattle.sgb_print.specs.Print.{Prints}
use Rattle.sgb_shell.specs.Answer.{answer_text}
use Rattle.sgb_shell.specs.Private.Course.{course}
use Rattle.sgb_shell.specs.Private.Reaching.{Reached}
use Rattle.sgb_shell.proofs.Progress.{goes_on_taken, answer_taken}
use Rattle.sgb_shell.proofs.shell.Shell.take_line.Goals as goal

pub returns-in_default : goal.returns-in_default
returns-in_default g c held ls l few is reached =
    let r = subst (Reached held _ ls) (sym c.self.view_is) reached in (
      goes_on_taken held _ ls l _ _ _ _ r few c.saturating_add-self-inside.ensures (c.in_default.ensures (course r.no_room ls).pending l is r.waits r.begun),
      refl,
    )

pub returns : goal.returns
returns g c held ls l few is reached =
    let r = subst (Reached held _ ls) (sym c.self.view_is) reached in
    answer_taken held c.args.writer.now c.tell.new.writer ls l _ _ _ _ _ (c.in-Some.number, c.in-Some.answer) r c.tell.result few c.saturating_add-self-inside.ensures
    (c.in-Some.ensures (course r.no_room ls).pending l is r.waits r.begun) c.tell.ensures.refused
    (subst (λ s. Prints c.args.writer.now c.tell.new.writer c.tell.result (answer_text c.in-Some.number s c.in-Some.answer)) c.machine.ensures.value c.tell.ensures.prints)
