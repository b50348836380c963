use Rattle.std.proofs.Common.{sym, ap, ◌∙◌}
use Rattle.sgb_graph.specs.declared.spoke.Spoke.{Spoke}
use Rattle.sgb_combine.proofs.LeastLengths.{added, marked_lowered, marked_set, lowered_is}
use Rattle.sgb_combine.proofs.lowest.Lowest.add.Goals as goal

pub invariant_of-self : goal.invariant_of-self
invariant_of-self c =
    let l = c.args.self.now in
    let p = c.in-Some.ensures in
    record {
      marked = marked_set l.places.items l.spokes.items c.in-Some.place c.lowered.result l.marked p.0
          (λ d. ap (λ (q : Spoke). q.to) (lowered_is l.spokes.items c.in-Some.place c.index.result.now c.args.spoke c.lowered.result p.0 c.index.ensures c.lowered.ensures) ∙ (p.1 c.args.spoke ∙ sym (p.1 d)));
    }

pub returns-in-Some-clause-ok : goal.returns-in-Some-clause-ok
returns-in-Some-clause-ok c =
    let l = c.args.self.now in
    let p = c.in-Some.ensures in
    marked_lowered l.places.items l.spokes.items c.in-Some.place c.args.spoke c.lowered.result l.marked p.0 p.1
    (lowered_is l.spokes.items c.in-Some.place c.index.result.now c.args.spoke c.lowered.result p.0 c.index.ensures c.lowered.ensures)

pub returns-in-None-clause-ok : goal.returns-in-None-clause-ok
returns-in-None-clause-ok c = rw (added c.args.self.now.spokes.items c.args.spoke c.in-None.ensures) c.add_new.ensures.ok
