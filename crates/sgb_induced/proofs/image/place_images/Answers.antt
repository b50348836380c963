use Rattle.std.proofs.Common.{Vec, length, ap, inr, refl, ◌∙◌, arith}
use Rattle.std.proofs.lemmas.List.FromFn.{length-map-range_with_len}
use Rattle.sgb_induced.specs.declared.image.Image.{Image}
use Rattle.sgb_induced.specs.Image.{leader}
use Rattle.sgb_induced.specs.Private.Run.{image_at, image_of}
use Rattle.sgb_induced.proofs.Roles.{map_range_push}
use Rattle.sgb_induced.proofs.ImagePlaces.{count_following, count_leading, following_image, leader_read, leading_image, too_many}
use Rattle.sgb_induced.proofs.image.place_images.Goals.{then-leader-v+else-count-next+in_ok-push, else-leader-v+in_ok-push-2}
use Rattle.sgb_induced.proofs.image.place_images.Goals as goal

pub index-leader-requires : goal.index-leader-requires
index-leader-requires c = omega (arith, ap length c.in_ok-leaders.ensures ∙ length-map-range_with_len (leader c.args.fates.now) 0 (length c.args.fates.now), c.in_ok-leaders.leaders.ok.0)

pub returns-then-count-next-clause-err : goal.returns-then-count-next-clause-err
returns-then-count-next-clause-err c =
    let leads = leader_read c.args.fates.now c.loop-v.v c.index-leader.result.now c.in_ok-leaders.ensures (omega arith) c.index-leader.ensures in
    inr (refl, too_many c.args.fates.now c.loop-v.v (omega arith) leads c.if-leader-v.true c.loop-v.invariant.next c.count_of-count.ensures c.if-count-next.true)

pub loop-v-preserved : goal.loop-v-preserved
loop-v-preserved c =
    let leads = leader_read c.args.fates.now c.loop-v.v c.index-leader.result.now c.in_ok-leaders.ensures (omega arith) c.index-leader.ensures in
    elim c.if-leader-v.branch [
      | then-leader-v+else-count-next+in_ok-push w ↦ record {
        images = ap (λ (is : Vec Image _). is.items) w.images-is ∙ map_range_push (image_of c.args.fates.now) c.loop-v.v _ c.loop-v.invariant.images w.in_ok-push.ensures.items (leading_image c.args.fates.now c.loop-v.v c.loop-v.next leads w.if-leader-v.true c.loop-v.invariant.next c.count_of-count.ensures);
        next = w.next-is ∙ count_leading c.args.fates.now c.loop-v.v leads w.if-leader-v.true c.loop-v.invariant.next c.count_of-count.ensures;
        few = omega (arith, w.next-is, c.loop-v.invariant.few, w.if-count-next.false);
      }
      | else-leader-v+in_ok-push-2 w ↦ record {
        images = ap (λ (is : Vec Image _). is.items) w.images-is ∙ map_range_push (image_of c.args.fates.now) c.loop-v.v _ c.loop-v.invariant.images w.in_ok-push-2.ensures.items (following_image c.args.fates.now c.loop-v.v (omega arith) c.loop-v.invariant.images leads w.if-leader-v.false (ap (λ (i : Image). i.start) (w.image_at.ensures ∙ ap (λ is. image_at is c.index-leader.result.now) w.deref.ensures.value)));
        next = w.next-is ∙ count_following c.args.fates.now c.loop-v.v leads w.if-leader-v.false c.loop-v.invariant.next;
        few = omega (arith, w.next-is, c.loop-v.invariant.few);
      }
    ]
