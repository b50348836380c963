use Rattle.std.proofs.Common.{◌≡◌, vec_len, vec_capacity}
use Rattle.sgb_graph.specs.Private.Cells.{SameFields}
use Rattle.sgb_graph.proofs.graph.fields.fill_to.Given as goal

abbrev pub invariant-loop-number : goal.invariant-loop-number
invariant-loop-number l = record {
  same : SameFields l.fn.fields.items l.fields.items;
  len : vec_len l.fields ≡ l._number;
  capacity : vec_capacity l.fields ≡ vec_capacity l.fn.fields;
}
