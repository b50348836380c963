use Rattle.std.proofs.Common.{arith}
use Rattle.std.specs.Vec.Iter.{into_iter_items}
use Rattle.sgb_undo.proofs.EventSteps.{lists-turn, answered-turn, length-turn, rest-turn, start-turn}
use Rattle.sgb_undo.proofs.runs.perform_all.Goals as goal

pub loop-event-preserved : goal.loop-event-preserved
loop-event-preserved g c =
    let i = c.loop-event.invariant in
    let pushed = c.push_reserved.ensures.items in
    record {
      can = tt;
      finite = tt;
      rest = rest-turn c.loop-event.yielded c.in-Some.event (into_iter_items c.loop-event.event-iterator) (into_iter_items c.next.new.self) c.args.events.items c.in-Some.ensures.steps.0 i.rest;
      long = length-turn c.loop-event.yielded c.in-Some.event c.loop-event.accepted.items c.push_reserved.new.self.items c.perform.result pushed i.long;
      room = omega (arith, i.room, c.in-Some.ensures.steps.1, c.push_reserved.ensures.len, c.push_reserved.ensures.capacity);
      lists = lists-turn c.args.journal.now c.loop-event.journal c.perform.new.journal c.in-Some.event c.perform.result c.loop-event.yielded c.loop-event.accepted.items c.push_reserved.new.self.items pushed i.long i.lists c.perform.ensures.accepted c.perform.ensures.same;
      right = answered-turn g.M.Reversible.step g.M.Reversible.may_want c.args.journal.now c.loop-event.journal c.in-Some.event c.perform.result c.loop-event.yielded c.loop-event.accepted.items c.push_reserved.new.self.items pushed i.long i.start i.lists i.right c.perform.ensures.right;
      start = start-turn c.args.journal.now c.loop-event.journal c.perform.new.journal c.perform.ensures.start i.start;
      sound = c.perform.ensures.sound;
    }
