use Rattle.std.proofs.Common.{◌≤◌, ◌<◌, length, get_or, refl, ◌∙◌, arith}
use Rattle.std.proofs.lemmas.List.{length-set}
use Rattle.std.proofs.lemmas.List.Elements.{All-weaker, All-set}
use Rattle.sgb_info.proofs.Turns.{marks_start, marks_again, marks_first, repeats_again, repeats_first, repeats_all}
use Rattle.sgb_info.proofs.repeats.count_repeats.Goals as goal

pub loop-number-init : goal.loop-number-init
loop-number-init c = record {
  count = refl;
  few = omega arith;
  width = refl;
  behind = All-weaker (λ t. t < c.args.turn) (λ t. t ≤ c.args.turn) (λ t less. omega (arith, less)) c.args.last.now c.requires.before;
  marks = marks_start c.args.numbers.now c.args.turn c.args.last.now c.requires.before;
}

pub loop-number-preserved-then-last-number : goal.loop-number-preserved-then-last-number
loop-number-preserved-then-last-number c =
    let ks = c.args.numbers.now in
    let i = c.loop-number.number-index in
    let before = c.loop-number.invariant in
    let low = c.requires.within i 0 c.loop-number-test.true in
    let inside : get_or ks i 0 < length c.loop-number.last = omega (arith, low, before.width) in record {
      count = repeats_again ks i c.args.turn c.loop-number.last c.loop-number-test.true before.marks inside c.loop-number.count c.if-last-number.true before.count;
      few = omega (arith, before.few);
      width = before.width;
      behind = before.behind;
      marks = marks_again ks i c.args.turn c.loop-number.last c.loop-number-test.true before.marks inside c.if-last-number.true;
    }

pub loop-number-preserved : goal.loop-number-preserved
loop-number-preserved c =
    let ks = c.args.numbers.now in
    let i = c.loop-number.number-index in
    let before = c.loop-number.invariant in
    let low = c.requires.within i 0 c.loop-number-test.true in
    let inside : get_or ks i 0 < length c.loop-number.last = omega (arith, low, before.width) in record {
      count = repeats_first ks i c.args.turn c.loop-number.last c.loop-number-test.true before.marks inside c.loop-number.count c.if-last-number.false before.count;
      few = omega (arith, before.few);
      width = length-set c.loop-number.last _ c.args.turn ∙ before.width;
      behind = All-set (λ t. t ≤ c.args.turn) c.loop-number.last _ c.args.turn (omega arith) before.behind;
      marks = marks_first ks i c.args.turn c.loop-number.last c.loop-number-test.true before.marks inside;
    }

pub returns-clause-value : goal.returns-clause-value
returns-clause-value c =
    let index = c.loop-number.auto.number-index-end in
    c.loop-number.invariant.count ∙ repeats_all c.args.numbers.now c.loop-number.number-index (omega arith)
