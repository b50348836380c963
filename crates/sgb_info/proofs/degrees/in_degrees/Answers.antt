use Rattle.std.proofs.Common.{◌≡◌, replicate, length, get_or, ap, ◌∙◌, arith}
use Rattle.std.proofs.lemmas.List.{length-set, length-replicate, get_or-replicate}
use Rattle.sgb_info.proofs.DegreeCounts.{counted_none, counted_one, counted_few, counted_all}
use Rattle.sgb_info.proofs.degrees.in_degrees.Goals as goal

pub loop-number-init : goal.loop-number-init
loop-number-init c =
    let n = c.n.result in
    let zeros : c.in_ok-degrees.degrees.items ≡ replicate n 0 = c.in_ok-degrees.ensures.items_if_clones_equal (λ y same. same) in record {
      length = ap length zeros ∙ (length-replicate n 0 ∙ c.n.ensures.value);
      counted = λ v within. ap (λ ds. get_or ds v 0) zeros ∙ get_or-replicate n v 0 0 (omega (arith, within, c.n.ensures.value));
    }

pub index_mut-requires : goal.index_mut-requires
index_mut-requires c = omega (arith, c.in-Some.ensures.0, c.loop-number.invariant.length, c.loop-number.degrees.ok.0)

pub overflow_add-index_mut : goal.overflow_add-index_mut
overflow_add-index_mut c =
    let few = counted_few c.args.graph.now c.loop-number.number c.in-Some.to.0 c.loop-number.degrees.items _ c.loop-number.invariant.length c.in-Some.ensures.0
    c.loop-number.invariant.counted c.index_mut.ensures.value in
    omega (arith, few, c.made-number-end.ensures.limit)

pub loop-number-preserved-in_default : goal.loop-number-preserved-in_default
loop-number-preserved-in_default c = record {
  length = c.loop-number.invariant.length;
  counted = counted_none c.args.graph.now c.loop-number.number c.loop-number.degrees.items (omega arith) c.in_default.ensures c.loop-number.invariant.counted;
}

pub loop-number-preserved : goal.loop-number-preserved
loop-number-preserved c = record {
  length = length-set c.loop-number.degrees.items c.in-Some.to.0 _ ∙ c.loop-number.invariant.length;
  counted = counted_one c.args.graph.now c.loop-number.number c.in-Some.to c.loop-number.degrees.items _ (omega arith) c.loop-number.invariant.length c.in-Some.ensures
      c.loop-number.invariant.counted c.index_mut.ensures.value;
}

pub returns-clause-ok : goal.returns-clause-ok
returns-clause-ok c = counted_all c.args.graph.now c.loop-number.number c.loop-number.degrees.items (omega arith) c.loop-number.invariant.length c.loop-number.invariant.counted
