use Rattle.std.proofs.Common.{◌≡◌, true, sym, subst}
use Rattle.std.specs.Bool.{OnTrue}
use Rattle.std.proofs.lemmas.Result.{on_ok_weaker}
use Rattle.sgb_undo.specs.Events.{lists_of, after}
use Rattle.sgb_undo.proofs.EventSteps.{OnTrue-is_ok, lists_of-undo, apply-may, undo-may, redo-may, right-sound}
use Rattle.sgb_undo.proofs.runs.perform.Goals as goal

pub returns-in-Undo-clause-accepted : goal.returns-in-Undo-clause-accepted
returns-in-Undo-clause-accepted g c =
    subst (λ e. OnTrue c.is_ok-in-Undo.result (lists_of c.undo.new.self ≡ after e (lists_of c.args.journal.now))) (sym c.in-Undo.is)
    (OnTrue-is_ok _ c.undo.result _ c.is_ok-in-Undo.ensures.value (on_ok_weaker c.undo.result lists_of-undo c.undo.ensures.ok))

pub returns-in-Apply-clause-right : goal.returns-in-Apply-clause-right
returns-in-Apply-clause-right g c =
    let e = c.apply.ensures in
    right-sound g.M.Reversible.step g.M.Reversible.may_want c.args.journal.now _ _ _ _ c.requires c.in-Apply.is c.is_ok.ensures.value
    (apply-may g.M.Reversible.step g.M.Reversible.may_want c.args.journal.now c.in-Apply.command c.apply.result e.no_room e.full e.nothing (λ r. g.M.Reversible.is_want_of_memory r ≡ true) e.refused)

pub returns-in-Undo-clause-right : goal.returns-in-Undo-clause-right
returns-in-Undo-clause-right g c =
    right-sound g.M.Reversible.step g.M.Reversible.may_want c.args.journal.now _ _ _ _ c.requires c.in-Undo.is c.is_ok-in-Undo.ensures.value
    (undo-may g.M.Reversible.step g.M.Reversible.may_want c.args.journal.now c.undo.result c.undo.ensures.nothing)

pub returns-in-Redo-clause-right : goal.returns-in-Redo-clause-right
returns-in-Redo-clause-right g c =
    let e = c.redo.ensures in
    right-sound g.M.Reversible.step g.M.Reversible.may_want c.args.journal.now _ _ _ _ c.requires c.in-Redo.is c.is_ok-in-Redo.ensures.value
    (redo-may g.M.Reversible.step g.M.Reversible.may_want c.args.journal.now c.redo.result e.nothing e.no_room e.full (λ r. g.M.Reversible.is_want_of_memory r ≡ true) e.refused)
