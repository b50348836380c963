use Rattle.std.proofs.Common.{ap, arith, refl, subst, ◌∙◌}
use Rattle.std.proofs.lemmas.List.{get_or_default}
use Rattle.std.proofs.lemmas.Result.{err_from_is_err_and}
use Rattle.sgb_graph.specs.declared.parts.VertexPart.{VertexPart}
use Rattle.sgb_graph.specs.Parts.{any_vertex_part}
use Rattle.sgb_graph.specs.Private.Lay.{RefusesToLay}
use Rattle.sgb_graph.proofs.ArcOwners.{owning_begins, owns_more, owns_refused, hole_left}
use Rattle.sgb_graph.proofs.graph.lay.own_chain.Goals as goal

pub loop-link-init : goal.loop-link-init
loop-link-init c = record {
  owns = owning_begins c.args.vertices.now c.args.vertex.0 c.args.rows.now c.args.holes.now _ c.requires.owns
      (ap (λ (p : VertexPart). p.first) (get_or_default c.args.vertices.now c.args.vertex.0 c.index-vertices-vertex.result any_vertex_part c.requires.vertex));
  links = refl;
}

pub returns-in_err-link-clause-err : goal.returns-in_err-link-clause-err
returns-in_err-link-clause-err c =
    let p = err_from_is_err_and c.from_residual.result c.from_residual.ensures.1 in
    rw (p.1, p.2) (subst (λ ls. RefusesToLay c.args.vertices.now ls c.in_err-link.field-0.0) c.loop-link.invariant.links
    (owns_refused c.args.vertices.now c.args.vertex c.loop-link.link c.loop-link.rows c.loop-link.holes c.in-Some.number c.loop-link.invariant.owns c.in-Some.is c.requires.vertex
    c.in_err-link.field-0.0 c.in_err-link.ensures.err))

pub overflow_sub-holes : goal.overflow_sub-holes
overflow_sub-holes c =
    omega (
      arith,
      hole_left c.args.vertices.now c.args.vertex c.loop-link.link c.loop-link.rows c.loop-link.holes c.in-Some.number c.loop-link.invariant.owns c.in-Some.is c.requires.vertex
          c.in_ok-link.ensures.low c.in_ok-link.ensures.free,
    )

pub loop-link-smaller : goal.loop-link-smaller
loop-link-smaller c =
    omega (
      arith,
      hole_left c.args.vertices.now c.args.vertex c.loop-link.link c.loop-link.rows c.loop-link.holes c.in-Some.number c.loop-link.invariant.owns c.in-Some.is c.requires.vertex
          c.in_ok-link.ensures.low c.in_ok-link.ensures.free,
    )

pub loop-link-preserved : goal.loop-link-preserved
loop-link-preserved c = record {
  owns = owns_more c.args.vertices.now c.args.vertex c.loop-link.link c.loop-link.rows c.loop-link.holes c.in-Some.number c.loop-link.invariant.owns c.in-Some.is c.requires.vertex
      c.own.new.rows c.in_ok-link.link c.in_ok-link.ensures.low c.in_ok-link.ensures.free c.in_ok-link.ensures.next c.in_ok-link.ensures.owned;
  links = c.in_ok-link.ensures.links ∙ c.loop-link.invariant.links;
}
