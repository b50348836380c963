use Rattle.std.proofs.Common.{◌≡◌, ◌<◌, ◌+◌, ◌++◌, ◌∷◌, [], map, rules, arith, ap, sym, subst, ◌∙◌, refl}
use Rattle.sgb_import.specs.Graph6.{pair_count}
use Rattle.sgb_import.specs.Private.Outlined.{insertion_of}
use Rattle.sgb_import.specs.Private.Pairs.{AreRead}
use Rattle.sgb_import.proofs.Graph6Edges.{AreRead-set, AreRead-unset}
use Rattle.sgb_import.proofs.Graph6Pairs.{fits-within, edges_below-none, edges_below-all}
use Rattle.sgb_import.proofs.graph6.read_edges.Goals as goal
use Rattle.sgb_import.proofs.graph6.read_edges.Goals.{then-is_set+in_ok-push, else-is_set}

pub loop-k-init : goal.loop-k-init
loop-k-init c = record {
  place = record { order = omega arith; place = refl; small = omega arith };
  edges = ap (map insertion_of) c.new-links.ensures.items ∙ sym (edges_below-none c.args.size c.args.body.now);
}

pub is_set-requires-clause-within : goal.is_set-requires-clause-within
is_set-requires-clause-within c =
    omega (arith, fits-within c.args.size c.args.body.now c.requires.fits, c.pair_count-k-end.ensures.count)

pub loop-k-preserved : goal.loop-k-preserved
loop-k-preserved c =
    let within : c.loop-k.k < pair_count c.args.size = omega (arith, c.pair_count-k-end.ensures.count) in
    let next = c.next-pair.ensures c.loop-k.k c.loop-k.invariant.place in
    elim c.if-is_set.branch [
      | then-is_set+in_ok-push w ↦
          let items : c.if-is_set.links.items ≡ c.loop-k.links.items ++ w.edge.result ∷ [] = search rules in
          subst (AreRead c.args.size c.args.body.now (c.loop-k.k + 1) c.next-pair.result) (sym items)
          (AreRead-set c.args.size c.args.body.now c.loop-k.k c.loop-k.pair c.next-pair.result c.loop-k.links.items w.edge.result
          c.loop-k.invariant within (search rules) w.edge.ensures next)
      | else-is_set w ↦
          let items : c.if-is_set.links.items ≡ c.loop-k.links.items = search rules in
          subst (AreRead c.args.size c.args.body.now (c.loop-k.k + 1) c.next-pair.result) (sym items)
          (AreRead-unset c.args.size c.args.body.now c.loop-k.k c.loop-k.pair c.next-pair.result c.loop-k.links.items c.loop-k.invariant within (search rules) next)
    ]

pub returns : goal.returns
returns c = c.loop-k.invariant.edges ∙ edges_below-all c.args.size c.args.body.now c.loop-k.k (omega (arith, c.pair_count-k-end.ensures.count))
