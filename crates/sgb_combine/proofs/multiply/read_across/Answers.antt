use Rattle.std.proofs.Common.{◌++◌, ap, ◌∙◌}
use Rattle.std.specs.List.{filter}
use Rattle.sgb_graph.specs.Operand.{spokes}
use Rattle.sgb_combine.specs.Private.Pruned.{is_above}
use Rattle.sgb_combine.proofs.GraphRows.{row_kept}
use Rattle.sgb_combine.proofs.multiply.read_across.Goals as goal

pub returns-clause-from : goal.returns-clause-from
returns-clause-from c =
    let g = c.args.graph.now in
    let v = c.args.vertex.0 in
    let read = c.in_ok-read_spokes.ensures.ok ∙ ap (λ ss. ss ++ spokes c.args.directed g v) c.clear.ensures.items in
    c.keep_upward.ensures ∙ row_kept c.args.directed c.args.directed g v c.read_spokes.new.into.items read

pub returns-clause-above : goal.returns-clause-above
returns-clause-above c =
    c.keep_above.ensures
    ∙ ap (filter (is_above c.args.vertex.0)) (c.in_ok-extend_from_slice.ensures.items ∙ (ap (λ ss. ss ++ c.deref.result.now) c.clear-2.ensures.items ∙ c.deref.ensures.value))
