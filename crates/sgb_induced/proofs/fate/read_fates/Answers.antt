use Rattle.std.proofs.Common.{unwrap_or, ap, ◌∙◌}
use Rattle.sgb_induced.specs.declared.fate.Fate.TheVariants.{Copies}
use Rattle.sgb_induced.specs.Fate.{fate_at}
use Rattle.sgb_induced.proofs.Roles.{map_range_push}
use Rattle.sgb_induced.proofs.fate.read_fates.Goals as goal

pub loop-v-preserved : goal.loop-v-preserved
loop-v-preserved c =
    map_range_push (fate_at c.args.graph.now) c.loop-v.v c.unwrap_or-fate.result c.loop-v.invariant c.in_ok-push.ensures.items (c.unwrap_or-fate.ensures ∙ ap (λ o. unwrap_or o (Copies 0)) c.fate_at.ensures)
