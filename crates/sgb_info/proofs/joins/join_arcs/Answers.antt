use Rattle.std.proofs.Common.{All, arith}
use Rattle.std.proofs.lemmas.List.Elements.{All-weaker}
use borrow.Author.Count.{below_more}
use Rattle.sgb_graph.specs.Graph.{arcs_of}
use Rattle.sgb_info.specs.Private.Classes.{IsPut}
use Rattle.sgb_info.proofs.ClassLemmas.{joins_none, joins_then, put_kept}
use Rattle.sgb_info.proofs.joins.join_arcs.Goals as goal

pub loop-v-init : goal.loop-v-init
loop-v-init c = record {
  joins = joins_none c.args.graph.now c.args.gap c.args.classes.now;
  put = λ u lt. absurd (omega arith);
}

pub join_arcs_of-requires-clause-room : goal.join_arcs_of-requires-clause-room
join_arcs_of-requires-clause-room c = omega (arith, c.requires.room, c.loop-v.invariant.joins.len)

pub loop-v-preserved : goal.loop-v-preserved
loop-v-preserved c =
    let g = c.args.graph.now in
    let gap = c.args.gap in
    let before = c.loop-v.invariant in
    let ms = c.join_arcs_of.new.classes in record {
      joins = joins_then g gap _ _ _ before.joins c.join_arcs_of.ensures.joins;
      put = below_more (λ u. All (IsPut g gap u ms) (arcs_of g u)) _
          (λ u lt. All-weaker (IsPut g gap u c.loop-v.classes) (IsPut g gap u ms) (put_kept g gap u c.loop-v.classes ms c.join_arcs_of.ensures.joins) (arcs_of g u) (before.put u lt))
          c.join_arcs_of.ensures.put;
    }

pub returns : goal.returns
returns c = record {
  joins = c.loop-v.invariant.joins;
  put = λ u lt. c.loop-v.invariant.put u (omega (arith, lt));
}
