use Rattle.std.proofs.Common.{◌≡◌, ◌≤◌, ◌<◌, ◌+◌, length, replicate, refl, ap, ◌∙◌, arith}
use Rattle.std.specs.List.{range_with_len, sum_by}
use Rattle.std.proofs.lemmas.List.{with_items_is, length-replicate}
use Rattle.std.proofs.lemmas.List.Elements.{All-weaker, All-same, All-replicate}
use Rattle.sgb_graph.specs.Graph.{n_of, occurrences}
use Rattle.sgb_export.specs.Links.{links_at}
use Rattle.sgb_info.specs.Repeats.{tips, repeats, loops, repeated}
use Rattle.sgb_info.proofs.EdgeCounts.{sum_more, tips_length, links_sum}
use Rattle.sgb_info.proofs.TipLists.{tips_within}
use Rattle.sgb_info.proofs.repeats.count_edges.Goals as goal

pub loop-v-init : goal.loop-v-init
loop-v-init c =
    let n = c.n.result in
    let zeros : c.in_ok-last.last.items ≡ replicate n 0 = c.in_ok-last.ensures.items_if_clones_equal (λ y same. same) in record {
      count = refl;
      loops = refl;
      repeated = refl;
      few_count = omega arith;
      few_loops = omega arith;
      few_repeated = omega arith;
      width = ap length zeros ∙ (length-replicate n 0 ∙ c.n.ensures.value);
      before = All-same (λ t. t < 1) c.in_ok-last.last.items (replicate n 0) zeros (All-replicate (λ t. t < 1) n 0 (omega arith));
    }

pub count_repeats-repeated-requires-clause-within : goal.count_repeats-repeated-requires-clause-within
count_repeats-repeated-requires-clause-within c =
    let g = c.args.graph.now in
    let v = c.loop-v.v in
    let read = c.deref-in-loop-v.ensures.value ∙ c.in_ok-read_tips.ensures.tips in
    let wide : length c.deref_mut.result.now ≡ n_of g = ap length c.deref_mut.ensures.value ∙ c.loop-v.invariant.width in
    All-weaker (λ t. t < n_of g) (λ t. t < length c.deref_mut.result.now) (λ t low. omega (arith, low, wide)) c.deref-in-loop-v.result.now
    (All-same (λ t. t < n_of g) c.deref-in-loop-v.result.now (tips c.args.directed g v) read
    (tips_within c.args.directed g v c.n.ensures.graph (omega (arith, c.loop-v-test.true, c.n-v-end.ensures.value))))

pub loop-v-preserved : goal.loop-v-preserved
loop-v-preserved c =
    let d = c.args.directed in
    let g = c.args.graph.now in
    let v = c.loop-v.v in
    let so_far = c.loop-v.invariant in
    let few = c.in_ok-read_tips.ensures.few in
    let read = c.deref.ensures.value ∙ c.in_ok-read_tips.ensures.tips in
    let again = c.deref-in-loop-v.ensures.value ∙ c.in_ok-read_tips.ensures.tips in
    let long = ap length c.in_ok-read_tips.ensures.tips in
    let items = with_items_is c.loop-v.last c.count_repeats-repeated.new.last (omega (arith, c.count_repeats-repeated.ensures.width, c.deref_mut.ensures.len)) in record {
      count = omega (arith, so_far.count, sum_more (λ w. length (links_at d g w)) v, c.len.ensures, c.read_tips.new.into.ok.0, long, tips_length d g v);
      loops = omega (arith, so_far.loops, sum_more (λ w. occurrences w (tips d g w)) v, c.count_equal-loops.ensures.value, ap (occurrences v) read);
      repeated = omega (arith, so_far.repeated, sum_more (λ w. repeats (tips d g w)) v, c.count_repeats-repeated.ensures.value, ap repeats again);
      few_count = omega (arith, so_far.few_count, few, c.len.ensures, c.read_tips.new.into.ok.0, long);
      few_loops = omega (arith, so_far.few_loops, few, c.count_equal-loops.ensures.few, ap length read);
      few_repeated = omega (arith, so_far.few_repeated, few, c.count_repeats-repeated.ensures.few, ap length again);
      width = ap length items ∙ (c.count_repeats-repeated.ensures.width ∙ (ap length c.deref_mut.ensures.value ∙ so_far.width));
      before = All-same (λ t. t < v + 1 + 1) _ c.count_repeats-repeated.new.last items
          (All-weaker (λ t. t ≤ v + 1) (λ t. t < v + 1 + 1) (λ t most. omega (arith, most)) c.count_repeats-repeated.new.last c.count_repeats-repeated.ensures.behind);
    }

pub returns-clause-count : goal.returns-clause-count
returns-clause-count c =
    let d = c.args.directed in
    let g = c.args.graph.now in
    let end : c.loop-v.v ≡ n_of g = omega (arith, c.loop-v.auto.v-end, c.loop-v-test.false, c.n-v-end.ensures.value) in
    c.loop-v.invariant.count ∙ (ap (λ n. sum_by (λ w. length (links_at d g w)) (range_with_len 0 n)) end ∙ links_sum d g)

pub returns-clause-loops : goal.returns-clause-loops
unfolding loops
returns-clause-loops c =
    let d = c.args.directed in
    let g = c.args.graph.now in
    let end : c.loop-v.v ≡ n_of g = omega (arith, c.loop-v.auto.v-end, c.loop-v-test.false, c.n-v-end.ensures.value) in
    c.loop-v.invariant.loops ∙ ap (λ n. sum_by (λ w. occurrences w (tips d g w)) (range_with_len 0 n)) end

pub returns-clause-repeated : goal.returns-clause-repeated
unfolding repeated
returns-clause-repeated c =
    let d = c.args.directed in
    let g = c.args.graph.now in
    let end : c.loop-v.v ≡ n_of g = omega (arith, c.loop-v.auto.v-end, c.loop-v-test.false, c.n-v-end.ensures.value) in
    c.loop-v.invariant.repeated ∙ ap (λ n. sum_by (λ w. repeats (tips d g w)) (range_with_len 0 n)) end
