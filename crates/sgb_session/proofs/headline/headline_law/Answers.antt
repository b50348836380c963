use Rattle.std.proofs.Common.{◌≡◌, Some, ap, subst}
use Rattle.sgb_session.specs.Command.{step}
use Rattle.sgb_session.specs.State.{empty}
use Rattle.sgb_text.specs.Save.{text_of}
use Rattle.sgb_undo.specs.Replay.{fold}
use Rattle.sgb_session.proofs.headline.headline_law.Goals as goal

pub returns-clause-standing : goal.returns-clause-standing
returns-clause-standing c = λ events answers j sound starts lists.
    let value = subst (λ s. fold step s j.standing ≡ Some j.machine) starts sound.value in
    subst (λ cs. fold step empty cs ≡ Some j.machine) (ap (λ l. l.0) lists) value

pub returns-clause-undo : goal.returns-clause-undo
returns-clause-undo c = λ j k sound starts undoes. (
  subst (λ s. fold step s k.standing ≡ Some k.machine) starts sound.value,
  undoes.command,
  undoes.delta,
  undoes.reply,
  undoes.standing,
  undoes.accepted,
)

pub returns-clause-text : goal.returns-clause-text
returns-clause-text c = λ g rule sound honest. c.reading_law.ensures.read rule (text_of g) g (c.texts_read_back.ensures.honest g rule sound honest).accepted
