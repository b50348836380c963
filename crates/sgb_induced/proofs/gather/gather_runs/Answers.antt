use Rattle.std.proofs.Common.{◌≡◌, IfOk, subst, ◌∙◌}
use Rattle.sgb_induced.specs.Private.Run.{runs_of, merged}
use Rattle.sgb_induced.proofs.gather.gather_runs.Goals as goal

pub returns-then-multi : goal.returns-then-multi
unfolding runs_of
returns-then-multi c = rw c.if-multi.true c.in_ok-runs.ensures

pub returns-else-multi : goal.returns-else-multi
unfolding runs_of
returns-else-multi c = rw c.if-multi.false (subst (λ xs. IfOk c.merge_runs.result (λ ks. ks.items ≡ merged c.args.directed xs)) (c.deref.ensures.value ∙ c.in_ok-runs.ensures) c.merge_runs.ensures)
