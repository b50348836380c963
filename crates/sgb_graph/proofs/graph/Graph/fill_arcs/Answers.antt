use Rattle.std.proofs.Common.{◌≡◌, refl, sym, ap, ◌∙◌, arith, length}
use Rattle.sgb_graph.proofs.FieldValues.{arcs_filling_begins, arc_filled_more, arc_passed, arcs_filling_ends, arc_unnamed, empty_of}
use Rattle.std.proofs.lemmas.List.{length_push}
use Rattle.sgb_graph.specs.Graph.{has_arc}
use Rattle.sgb_graph.specs.Private.Fill.{with_filled_arc}
use Rattle.sgb_graph.proofs.graph.Graph.fill_arcs.Goals as goal

pub loop-part-init : goal.loop-part-init
loop-part-init c = arcs_filling_begins c.args.arcs.items c.args.self.now c.requires c.n.ensures.graph

pub returns-then-not-can_name_part-clause-err : goal.returns-then-not-can_name_part-clause-err
returns-then-not-can_name_part-clause-err c =
    let at : c.len.result ≡ length c.pop.new.self.items = c.len.ensures ∙ c.pop.new.self.ok.0 in (
      refl,
      arc_unnamed c.args.arcs.items c.loop-part.arcs.items c.pop.new.self.items c.in-Some.part c.args.self.now c.loop-part.self c.loop-part.invariant c.in-Some.ensures.items
          (ap (has_arc c.loop-part.self) (sym at) ∙ (sym c.has_arc.ensures.value ∙ c.if-has_arc.true))
          (sym c.can_name_part.ensures ∙ c.if-not-can_name_part.true),
    )

pub loop-part-preserved-then-has_arc : goal.loop-part-preserved-then-has_arc
loop-part-preserved-then-has_arc c =
    let at : c.len.result ≡ length c.pop.new.self.items = c.len.ensures ∙ c.pop.new.self.ok.0 in
    arc_filled_more c.args.arcs.items c.loop-part.arcs.items c.pop.new.self.items c.in-Some.part c.args.self.now c.loop-part.self c.fill_arc.new.self c.loop-part.invariant c.in-Some.ensures.items c.requires
    (c.fill_arc.ensures.filled ∙ ap (λ k. with_filled_arc c.loop-part.self k c.in-Some.part) at) c.fill_arc.ensures.sound

pub loop-part-preserved : goal.loop-part-preserved
loop-part-preserved c =
    let at : c.len.result ≡ length c.pop.new.self.items = c.len.ensures ∙ c.pop.new.self.ok.0 in
    arc_passed c.args.arcs.items c.loop-part.arcs.items c.pop.new.self.items c.in-Some.part c.args.self.now c.loop-part.self c.loop-part.invariant c.in-Some.ensures.items (ap (has_arc c.loop-part.self) (sym at) ∙ (sym c.has_arc.ensures.value ∙ c.if-has_arc.false))

pub returns-clause-ok : goal.returns-clause-ok
returns-clause-ok c = arcs_filling_ends c.args.arcs.items _ c.args.self.now _ c.loop-part.invariant (empty_of c.loop-part.arcs.items (omega (arith, c.loop-part.arcs.ok.0, c.in_default.ensures.cases.0)))

pub loop-part-smaller-then-has_arc : goal.loop-part-smaller-then-has_arc
loop-part-smaller-then-has_arc c = omega (arith, ap length c.in-Some.ensures.items, length_push c.pop.new.self.items c.in-Some.part)

pub loop-part-smaller : goal.loop-part-smaller
loop-part-smaller c = omega (arith, ap length c.in-Some.ensures.items, length_push c.pop.new.self.items c.in-Some.part)
