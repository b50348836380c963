use Rattle.std.proofs.Common.{◌∙◌, sym, ap, arith, refl}
use Rattle.sgb_combine.specs.Lowest.{add_or_lower}
use Rattle.sgb_combine.proofs.LeastLengths.{lowest_more, lowest_none}
use Rattle.sgb_combine.proofs.SpokeBounds.{spoke_in, no_spoke}
use Rattle.sgb_combine.proofs.lowest.Lowest.keep.Goals as goal

pub loop-spoke-init : goal.loop-spoke-init
loop-spoke-init c = record { met = c.clear.ensures.items ∙ sym lowest_none; width = refl }

pub loop-spoke-preserved : goal.loop-spoke-preserved
loop-spoke-preserved c =
    let ss = c.args.spokes.now in
    let i = c.loop-spoke.spoke-index in
    record {
      met = c.in_ok-add.ensures.ok ∙ (ap (λ rs. add_or_lower rs (spoke_in ss i)) c.loop-spoke.invariant.met ∙ sym (lowest_more ss i (spoke_in ss i) no_spoke (omega arith) refl));
      width = c.in_ok-add.ensures.width ∙ c.loop-spoke.invariant.width;
    }
