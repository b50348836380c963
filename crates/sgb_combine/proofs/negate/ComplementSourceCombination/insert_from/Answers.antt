use Rattle.std.proofs.Common.{◌<◌, ◌++◌, map, true, All, sym, ap, ap₂, subst, ◌∙◌}
use Rattle.sgb_graph.specs.Graph.{n_of}
use Rattle.sgb_graph.specs.Builder.{Inserts}
use Rattle.sgb_graph.specs.Operand.{spokes}
use Rattle.sgb_combine.specs.Complement.{unit_step, wanted_steps}
use Rattle.sgb_combine.proofs.SpokeBounds.{within_as}
use Rattle.sgb_combine.proofs.Complements.{ordered_below, ordered_is, wanted-lowest}
use Rattle.sgb_combine.proofs.negate.ComplementSourceCombination.insert_from.Goals as goal

pub insert_steps-requires-clause-to : goal.insert_steps-requires-clause-to
insert_steps-requires-clause-to c =
    let s = c.args.self.now in
    let n = n_of c.args.builder.now.graph in
    let read = c.deref.ensures.value ∙ (c.in_ok-read_spokes.ensures.ok ∙ ap (λ ss. ss ++ spokes true s.graph.now c.args.vertex.0) c.clear.ensures.items) in
    subst (λ ws. All (λ w. w < n) ws) (sym c.deref-then-self.ensures.value)
    (ordered_below s.spec n c.args.vertex.0 c.deref.result.now c.read_tips.new.tips.items c.put_in_order.new.numbers.items (within_as read (sym c.requires.fits.0) c.in_ok-read_spokes.ensures.within) c.in_ok-read_tips.ensures c.put_in_order.ensures)

pub returns-then-self-clause-inserts : goal.returns-then-self-clause-inserts
returns-then-self-clause-inserts c =
    let s = c.args.self.now in
    let v = c.args.vertex.0 in
    let read = c.deref.ensures.value ∙ (c.in_ok-read_spokes.ensures.ok ∙ ap (λ ss. ss ++ spokes true s.graph.now v) c.clear.ensures.items) in
    subst (λ es. Inserts c.args.builder.now c.insert_steps.new.builder es c.insert_steps.result)
    (ap (map (unit_step v)) c.deref-then-self.ensures.value
    ∙ (ordered_is s.spec (n_of c.args.builder.now.graph) v c.deref.result.now c.read_tips.new.tips.items c.put_in_order.new.numbers.items c.if-self.true (within_as read (sym c.requires.fits.0) c.in_ok-read_spokes.ensures.within) c.in_ok-read_tips.ensures c.put_in_order.ensures
    ∙ ap₂ (λ n ss. wanted_steps s.spec n v ss) (sym c.requires.fits.0) read))
    c.insert_steps.ensures

pub returns-clause-inserts : goal.returns-clause-inserts
returns-clause-inserts c =
    let s = c.args.self.now in
    let v = c.args.vertex.0 in
    let read = c.deref-2.ensures.value ∙ (c.in_ok-read_spokes.ensures.ok ∙ ap (λ ss. ss ++ spokes true s.graph.now v) c.clear.ensures.items) in
    subst (λ es. Inserts c.args.builder.now c.insert_missing.new.builder es c.insert_missing.result)
    (wanted-lowest s.spec (n_of c.args.builder.now.graph) v c.deref-2.result.now c.keep.new.self.spokes.items c.in_ok-keep.ensures.ok
    ∙ ap₂ (λ n ss. wanted_steps s.spec n v ss) (sym c.requires.fits.0) read)
    c.insert_missing.ensures
