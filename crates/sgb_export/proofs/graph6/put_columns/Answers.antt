use Rattle.std.proofs.Common.{◌<◌, ◌==◌, ◌+◌, map, ap, subst, ◌∙◌, refl, arith}
use Rattle.sgb_graph.specs.Graph.{n_of}
use Rattle.sgb_print.proofs.TextPieces.{Writes, writes_none, writes_piece, fails_piece, prints_rest, prints_same, no_number}
use Rattle.sgb_export.specs.Graph6.{column, is_joined, packed, triangle}
use Rattle.sgb_export.proofs.OtherEnds.{column_is, columns_one, joined_is}
use Rattle.sgb_export.proofs.PackedBits.{packed_is, packed_none}
use Rattle.sgb_export.proofs.graph6.put_columns.Goals as goal

pub loop-v-init : goal.loop-v-init
unfolding triangle
loop-v-init g c =
    let s = c.args.graph.now in
    let w = c.args.writer.now in
    let bits = triangle (n_of s) (is_joined s) in record {
      bits = subst (λ t. Writes w w (packed bits) t) (packed_is bits) writes_none;
      six = record { some = omega arith; few = omega arith };
      count = c.requires.marks.count;
      low = λ k d h. let zero = c.requires.marks.zero k d h in omega (arith, zero);
    }

pub returns-in_err-six : goal.returns-in_err-six
returns-in_err-six g c =
    let s = c.args.graph.now in
    let v = c.loop-v.v in
    let marks = c.mark_neighbours.new.marks in
    let within : v < n_of s = omega arith in
    let count = c.mark_neighbours.ensures.count in
    let here = ap (map (λ m. m == (v + 1))) c.split_at.ensures.front
    ∙ column_is (λ i. is_joined s i v) (v + 1) v marks (omega (arith, within, count))
    (λ w low. c.mark_neighbours.ensures.marked w ∙ joined_is s v w c.n-v-end.ensures.graph c.requires.operand c.requires.undirected within low) in
    fails_piece _ c.loop-v.invariant.bits c.in_err-six.ensures.written (columns_one s v c.loop-v.six _ _ within here refl) c.from_residual.ensures.0

pub loop-v-preserved : goal.loop-v-preserved
loop-v-preserved g c =
    let s = c.args.graph.now in
    let v = c.loop-v.v in
    let marks = c.mark_neighbours.new.marks in
    let within : v < n_of s = omega arith in
    let count = c.mark_neighbours.ensures.count in
    let here = ap (map (λ m. m == (v + 1))) c.split_at.ensures.front
    ∙ column_is (λ i. is_joined s i v) (v + 1) v marks (omega (arith, within, count))
    (λ w low. c.mark_neighbours.ensures.marked w ∙ joined_is s v w c.n-v-end.ensures.graph c.requires.operand c.requires.undirected within low) in record {
      bits = writes_piece c.loop-v.invariant.bits c.in_ok-six.ensures.written (columns_one s v c.loop-v.six c.in_ok-six.six _ within here c.in_ok-six.ensures.next);
      six = c.in_ok-six.ensures.six;
      count = count;
      low = c.mark_neighbours.ensures.low;
    }

pub returns : goal.returns
returns g c =
    let s = c.args.graph.now in
    prints_rest c.loop-v.invariant.bits (prints_same c.put_last.ensures (packed_none c.loop-v.six _ (no_number (column (is_joined s)) (n_of s) c.loop-v.v (omega arith))))
