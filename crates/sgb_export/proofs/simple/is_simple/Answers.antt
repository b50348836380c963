use Rattle.std.proofs.Common.{◌≡◌, ◌≤◌, ◌+◌, false, ◌&&◌, replicate, length, drop, Bool, All, ap, sym, subst, ◌∙◌, arith, refl}
use Rattle.std.specs.List.{flat_map, range_with_len}
use Rattle.std.proofs.lemmas.List.{with_items_is}
use Rattle.sgb_graph.specs.Graph.{n_of}
use Rattle.sgb_print.proofs.TextPieces.{no_number}
use Rattle.sgb_export.specs.Links.{links, links_at}
use Rattle.sgb_export.specs.Simple.{are_simple, is_simple}
use Rattle.sgb_export.proofs.SimpleEdges.{zeros_count, zeros_low, simple_more, simple_none}
use Rattle.sgb_export.proofs.simple.is_simple.Goals as goal

pub loop-v-init : goal.loop-v-init
unfolding is_simple links
loop-v-init c =
    let zeros : c.in_ok-marks.marks.items ≡ replicate c.n.result 0 = c.in_ok-marks.ensures.items_if_clones_equal (λ y same. same) in record {
      same = refl;
      count = zeros_count c.n.result c.in_ok-marks.marks.items zeros ∙ c.n.ensures.value;
      low = zeros_low c.n.result c.in_ok-marks.marks.items zeros;
    }

pub loop-v-preserved : goal.loop-v-preserved
loop-v-preserved c =
    let v = c.loop-v.v in
    let rest : Bool = are_simple (flat_map (links_at false c.args.graph.now) (drop (v + 1) (range_with_len 0 (n_of c.args.graph.now)))) in
    let items = with_items_is c.loop-v.marks c.is_simple_at.new.marks (omega (arith, c.is_simple_at.ensures.count, c.loop-v.invariant.count, c.deref_mut.ensures.len, ap length c.deref_mut.ensures.value)) in record {
      same = c.loop-v.invariant.same ∙ (simple_more c.args.graph.now v (omega arith) ∙ ap (λ b. b && rest) (sym c.is_simple_at.ensures.value ∙ c.if-not-is_simple_at.false));
      count = ap length items ∙ c.is_simple_at.ensures.count;
      low = subst (All (λ m. m ≤ v + 1)) (sym items) c.is_simple_at.ensures.low;
    }

pub returns-then-not-is_simple_at-clause-ok : goal.returns-then-not-is_simple_at-clause-ok
returns-then-not-is_simple_at-clause-ok c =
    let v = c.loop-v.v in
    let rest : Bool = are_simple (flat_map (links_at false c.args.graph.now) (drop (v + 1) (range_with_len 0 (n_of c.args.graph.now)))) in
    sym (c.loop-v.invariant.same ∙ (simple_more c.args.graph.now v (omega arith) ∙ ap (λ b. b && rest) (sym c.is_simple_at.ensures.value ∙ c.if-not-is_simple_at.true)))

pub returns-clause-ok : goal.returns-clause-ok
returns-clause-ok c =
    let g = c.args.graph.now in
    sym (c.loop-v.invariant.same ∙ simple_none _ (no_number (links_at false g) (n_of g) c.loop-v.v (omega arith)))
