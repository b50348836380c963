use Rattle.std.proofs.Common.{◌≡◌, ◌<◌, ap, ◌∙◌, subst, sym, false, Some, Err, length}
use Rattle.sgb_script.specs.declared.command.Single.TheVariants as commands
use Rattle.sgb_session.specs.Drawing.{drawn_from}
use Rattle.sgb_session.specs.Private.Making.{AtPlace, Performs}
use Rattle.sgb_session.specs.Private.Working.{Lengthens}
use Rattle.sgb_session.specs.State.{is_spent}
use Rattle.sgb_session.specs.Table.{find}
use Rattle.sgb_session.proofs.LengthSteps.{lengths_done, lengths_refused}
use Rattle.sgb_session.proofs.EditSteps.{state, find_within}
use Rattle.sgb_session.proofs.base.Base.lengthen.Goals as goal
use Rattle.sgb_session.proofs.base.Base.lengthen.Goals.{in-Ok, in-Err}

pub returns : goal.returns
returns c =
    let d = c.self.inside.generator in
    let t = c.self.inside.table in
    let e = c.lengthen.new.generator in
    let u = c.lengthen.new.self in
    let i = c.in-Some.place in
    let name = c.args.name.now in
    let spec = c.args.spec.now in
    let seed = c.args.seed in
    let command = commands.Lengths name spec seed in
    let at : find t name ≡ Some i = sym c.find.ensures ∙ c.in-Some.is in
    let within : i < length t = find_within t name i at in
    let fresh : is_spent (drawn_from seed d) ≡ false = sym c.is_spent.ensures ∙ c.if-is_spent.false in
    let made : AtPlace (λ g h. Lengthens spec seed d e g h c.lengthen.result) t u i = c.lengthen.ensures in
    subst (λ s. Performs s (state e u) command c.match-lengthen.result) c.self.view_is
    (elim c.match-lengthen.branch [
      | in-Ok w ↦ subst (Performs (state d t) (state e u) command) (sym w.result-is)
          (lengths_done d e t u name spec seed i _ at within fresh (subst (λ r. AtPlace (λ g h. Lengthens spec seed d e g h r) t u i) w.in-Ok.is made))
      | in-Err w ↦ subst (Performs (state d t) (state e u) command) (sym (w.result-is ∙ ap Err w.refusal_of.ensures))
          (lengths_refused d e t u name spec seed i _ at fresh (subst (λ r. AtPlace (λ g h. Lengthens spec seed d e g h r) t u i) w.in-Err.is made))
    ])
