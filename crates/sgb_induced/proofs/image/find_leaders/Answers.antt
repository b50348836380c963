use Rattle.std.proofs.Common.{◌+◌, sym, subst, take, ◌∙◌, arith}
use Rattle.sgb_induced.specs.Image.{leader}
use Rattle.sgb_induced.specs.Private.Run.{IsLed}
use Rattle.sgb_induced.proofs.Roles.{map_range_push}
use Rattle.sgb_induced.proofs.Leaders.{led_copies, led_class, leader_of_copies, leader_of_led}
use Rattle.sgb_induced.proofs.image.find_leaders.Goals.{in-Copies, in-Class+in_ok-leader-in-Class}
use Rattle.sgb_induced.proofs.image.find_leaders.Goals as goal

pub loop-v-preserved : goal.loop-v-preserved
loop-v-preserved c =
    elim c.match-fates-v.branch [
      | in-Copies w ↦ record {
        leaders = map_range_push (leader c.args.fates.now) c.loop-v.v c.match-fates-v.leader c.loop-v.invariant.leaders c.in_ok-push.ensures.items (w.leader-is ∙ sym (leader_of_copies c.args.fates.now c.loop-v.v w.in-Copies.field-0 w.in-Copies.is));
        led = subst (λ m. IsLed m (take (c.loop-v.v + 1) c.args.fates.now)) (sym w.classes-is) (led_copies c.loop-v.classes c.args.fates.now c.loop-v.v w.in-Copies.field-0 c.loop-v.invariant.led w.in-Copies.is (omega arith));
      }
      | in-Class+in_ok-leader-in-Class w ↦ record {
        leaders = map_range_push (leader c.args.fates.now) c.loop-v.v c.match-fates-v.leader c.loop-v.invariant.leaders c.in_ok-push.ensures.items (w.leader-is ∙ leader_of_led c.loop-v.classes c.args.fates.now c.loop-v.v w.in-Class.class w.in_ok-leader-in-Class.leader c.loop-v.invariant.led w.in-Class.is (omega arith) w.in_ok-leader-in-Class.ensures.ok);
        led = subst (λ m. IsLed m (take (c.loop-v.v + 1) c.args.fates.now)) (sym w.classes-is) (led_class c.loop-v.classes w.join_class.new.classes c.args.fates.now c.loop-v.v w.in-Class.class w.in_ok-leader-in-Class.leader c.loop-v.invariant.led w.in-Class.is (omega arith) w.in_ok-leader-in-Class.ensures.ok w.in_ok-leader-in-Class.ensures.classes);
      }
    ]
