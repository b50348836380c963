use Rattle.std.proofs.Common.{rules, FitsSigned, w64, ap, sym, ◌∙◌, arith}
use Rattle.std.specs.Int.{int_min, int_max}
use Rattle.std.specs.List.{reduce}
use Rattle.std.proofs.lemmas.Int.{to_z-of_z}
use Rattle.sgb_info.specs.Private.Extremes.{extended}
use Rattle.sgb_info.proofs.LengthFolds.{met_all, best_none, best_one}
use Rattle.sgb_info.proofs.lengths.find_lengths.Goals as goal

pub loop-number-preserved-in_default : goal.loop-number-preserved-in_default
loop-number-preserved-in_default c =
    let g = c.args.graph.now in
    let none = sym c.in_default.is ∙ c.arc.ensures.value in record {
      least = best_none int_min g c.loop-number.number (omega arith) c.loop-number.least none c.loop-number.invariant.least;
      greatest = best_none int_max g c.loop-number.number (omega arith) c.loop-number.greatest none c.loop-number.invariant.greatest;
    }

pub loop-number-preserved : goal.loop-number-preserved
loop-number-preserved c =
    let g = c.args.graph.now in
    let fits : FitsSigned w64 c.in-Some.arc.len = search rules in
    let low : FitsSigned w64 c.lower.result = search rules in
    let high : FitsSigned w64 c.higher.result = search rules in
    let len = to_z-of_z w64 c.in-Some.arc.len fits in record {
      least = best_one int_min g c.loop-number.number (omega arith) c.loop-number.least c.in-Some.arc _ c.in-Some.ensures.value c.loop-number.invariant.least
          (to_z-of_z w64 c.lower.result low ∙ (c.lower.ensures ∙ ap (extended int_min c.loop-number.least) len));
      greatest = best_one int_max g c.loop-number.number (omega arith) c.loop-number.greatest c.in-Some.arc _ c.in-Some.ensures.value c.loop-number.invariant.greatest
          (to_z-of_z w64 c.higher.result high ∙ (c.higher.ensures ∙ ap (extended int_max c.loop-number.greatest) len));
    }

pub returns-clause-least : goal.returns-clause-least
returns-clause-least c = c.loop-number.invariant.least ∙ ap (reduce int_min) (met_all c.args.graph.now c.loop-number.number (omega arith))

pub returns-clause-greatest : goal.returns-clause-greatest
returns-clause-greatest c = c.loop-number.invariant.greatest ∙ ap (reduce int_max) (met_all c.args.graph.now c.loop-number.number (omega arith))
