use Rattle.std.proofs.Common.{refl, sym, subst}
use Rattle.sgb_shell.specs.Private.Reaching.{Reached}
use Rattle.sgb_shell.proofs.Progress.{end_none, end_refused}
use Rattle.sgb_shell.proofs.shell.Shell.end.Goals as goal

pub returns-in_default : goal.returns-in_default
returns-in_default g c held ls few reached =
    (end_none held _ ls _ _ _ _ _ (sym c.in_default.ensures.value) (subst (Reached held _ ls) (sym c.self.view_is) reached), refl)

pub returns : goal.returns
returns g c held ls few reached =
    end_refused held _ _ ls c.self.inside.journal c.in-Some.unit _ _ _ _ c.refusal.result c.tell.result _ few (sym c.in-Some.ensures.value)
    (subst (Reached held _ ls) (sym c.self.view_is) reached) c.refusal.ensures c.tell.ensures.refused c.tell.ensures.prints
