use Rattle.std.proofs.Common.{rules, refl, sym, ◌∙◌}
use Rattle.sgb_graph.proofs.LoopWalks.{WalksTo, walks_next, walks_none, live_linked, within_linked}
use Rattle.sgb_graph.proofs.graph.walk.WalkIterator.next.Goals as goal

pub next_after-next-requires : goal.next_after-next-requires
next_after-next-requires c = live_linked c.self.inside.slots.now c.self.inside.next c.in-Some.number c.self.invariant (sym c.get.ensures ∙ c.in-Some.is)

pub past-self-inside-requires-clause-number : goal.past-self-inside-requires-clause-number
past-self-inside-requires-clause-number c = within_linked c.self.inside.slots.now c.self.inside.next c.in-Some.number c.self.invariant (sym c.get.ensures ∙ c.in-Some.is)

pub past-self-inside-requires-clause-linked : goal.past-self-inside-requires-clause-linked
past-self-inside-requires-clause-linked c =
    (walks_next c.self.inside.slots.now c.self.inside.directed c.self.inside.next _ c.in-Some.number c.next_after-next.result _ c.self.invariant (sym c.get.ensures ∙ c.in-Some.is) refl c.next_after-next.ensures refl).next

pub invariant_of-self : goal.invariant_of-self
invariant_of-self c =
    (walks_next c.self.inside.slots.now c.self.inside.directed c.self.inside.next _ c.in-Some.number c.next_after-next.result c.past-self-inside.result c.self.invariant (sym c.get.ensures ∙ c.in-Some.is) refl c.next_after-next.ensures c.past-self-inside.ensures).linked

pub returns-in-Some-clause-steps : goal.returns-in-Some-clause-steps
returns-in-Some-clause-steps c =
    (walks_next c.self.inside.slots.now c.self.inside.directed c.self.inside.next _ c.in-Some.number c.next_after-next.result c.past-self-inside.result c.self.invariant (sym c.get.ensures ∙ c.in-Some.is) c.self.view_is c.next_after-next.ensures c.past-self-inside.ensures).steps

pub returns-in-Some-clause-goes : goal.returns-in-Some-clause-goes
returns-in-Some-clause-goes c =
    let s : WalksTo c.self.inside.slots.now c.self.inside.directed c.next_after-next.result c.past-self-inside.result c.args.self.now c.in-Some.number =
    walks_next c.self.inside.slots.now c.self.inside.directed c.self.inside.next _ c.in-Some.number c.next_after-next.result c.past-self-inside.result c.self.invariant (sym c.get.ensures ∙ c.in-Some.is) c.self.view_is c.next_after-next.ensures c.past-self-inside.ensures in
    let shorter = s.shorter in
    search (rules, shorter)

pub returns-in-None-clause-steps : goal.returns-in-None-clause-steps
returns-in-None-clause-steps c =
    let none = walks_none c.self.inside.slots.now c.self.inside.directed c.self.inside.next _ (sym c.get.ensures ∙ c.in-None.is) c.self.view_is in
    (none, none)
