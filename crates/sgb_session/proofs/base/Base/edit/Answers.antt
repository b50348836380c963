use Rattle.std.proofs.Common.{ap, ◌∙◌, subst, sym, ◌≡◌, ◌<◌, Some, Err, length}
use Rattle.sgb_script.specs.declared.command.Single.TheVariants as commands
use Rattle.sgb_session.specs.Table.{find}
use Rattle.sgb_session.proofs.EditSteps.{state, find_within, edit_done, edit_refused}
use Rattle.sgb_session.proofs.base.Base.edit.Goals as goal
use Rattle.sgb_session.proofs.base.Base.edit.Goals.{in-Ok, in-Err}
use Rattle.sgb_session.specs.Private.Making.{Performs, AtPlace, Edits}

pub returns : goal.returns
returns c =
    let d = c.self.inside.generator in
    let t = c.self.inside.table in
    let u = c.edit.new.self in
    let i = c.in-Some.place in
    let name = c.args.name.now in
    let e = c.args.edit.now in
    let at : find t name ≡ Some i = sym c.find.ensures ∙ c.in-Some.is in
    let within : i < length t = find_within t name i at in
    let made : AtPlace (Edits e c.edit.result) t u i = c.edit.ensures in
    subst (λ s. Performs s (state d u) (commands.Edit name e) c.match-edit.result) c.self.view_is
    (elim c.match-edit.branch [
      | in-Ok w ↦ subst (Performs (state d t) (state d u) (commands.Edit name e)) (sym w.result-is)
          (edit_done d t u name e i _ at within (subst (λ r. AtPlace (Edits e r) t u i) w.in-Ok.is made))
      | in-Err w ↦ subst (Performs (state d t) (state d u) (commands.Edit name e)) (sym (w.result-is ∙ ap Err w.refusal_of.ensures))
          (edit_refused d t u name e i _ at (subst (λ r. AtPlace (Edits e r) t u i) w.in-Err.is made))
    ])
