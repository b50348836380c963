use Rattle.std.proofs.Common.{◌≡◌, [], ◌∷◌, ◌++◌, length, ap, ◌∙◌, arith}
use Rattle.sgb_graph.specs.Operand.{spokes}
use Rattle.sgb_combine.specs.Private.Rows.{row_of}
use Rattle.sgb_combine.proofs.GraphRows.{row_kept, rows_more}
use Rattle.sgb_combine.proofs.rows.Rows.read.Goals as goal

pub loop-v-preserved : goal.loop-v-preserved
loop-v-preserved c =
    let g = c.args.graph.now in
    let v = c.loop-v.v in
    let read = c.in_ok-read_spokes.ensures.ok ∙ ap (λ ss. ss ++ spokes c.args.directed g v) c.clear.ensures.items in
    let row = c.keep_upward.ensures ∙ row_kept c.args.all c.args.directed g v c.read_spokes.new.into.items read in
    let new = c.extend_from_slice.new.self in
    let all : c.len.result ≡ length new.items = omega (arith, new.ok.0) in
    rows_more (row_of c.args.all c.args.directed g) v c.loop-v.spokes.items c.keep_upward.new.spokes.items c.extend_from_slice.new.self.items c.loop-v.starts.items c.push.new.self.items
    c.loop-v.invariant row (c.in_ok-extend_from_slice.ensures.items ∙ ap (λ ss. c.loop-v.spokes.items ++ ss) c.deref.ensures.value)
    (c.in_ok-push.ensures.items ∙ ap (λ n. c.loop-v.starts.items ++ n ∷ []) all)
