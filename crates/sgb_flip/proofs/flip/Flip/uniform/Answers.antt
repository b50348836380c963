use Rattle.std.proofs.Common.{◌+◌, ◌%◌, ◌∙◌, ap, arith, subst, sym}
use Rattle.sgb_flip.specs.Generator.{IsGenerator, after, limit}
use Rattle.sgb_flip.proofs.Draws.{after-after, after-none}
use Rattle.sgb_flip.proofs.Uniforms.{IsUniform-found, IsUniform-only, refused_more, some_uniform}
use Rattle.sgb_flip.proofs.flip.Flip.uniform.Goals as goal

pub loop-refused-init : goal.loop-refused-init
loop-refused-init c =
    let is : IsGenerator c.args.self.now = subst IsGenerator c.self.view_is c.self.invariant in
    record {
      generator = is;
      first = is;
      now = sym (after-none c.args.self.now is);
      refused = λ i h. absurd (omega arith);
    }

pub loop-refused-preserved : goal.loop-refused-preserved
unfolding limit
loop-refused-preserved c = record {
  generator = c.next-number.ensures.generator;
  first = c.loop-refused.invariant.first;
  now = c.next-number.ensures.rest ∙ ap (λ g. after g 1) c.loop-refused.invariant.now ∙ after-after c.args.self.now c.loop-refused.refused 1;
  refused = refused_more c.args.self.now c.loop-refused.self (limit c.args.m) c.loop-refused.refused c.next-number.result c.loop-refused.invariant.first c.loop-refused.invariant.now c.next-number.ensures.number c.if-number-limit.false c.loop-refused.invariant.refused;
}

pub returns-then-number-limit-clause-relation : goal.returns-then-number-limit-clause-relation
unfolding limit
returns-then-number-limit-clause-relation c =
    IsUniform-found c.args.self.now c.loop-refused.self c.next-number.new.self c.args.m c.loop-refused.refused c.next-number.result c.loop-refused.invariant.first c.loop-refused-test.true c.loop-refused.invariant.refused c.loop-refused.invariant.now c.next-number.ensures.number c.next-number.ensures.rest c.if-number-limit.true

pub returns-then-number-limit-clause-value : goal.returns-then-number-limit-clause-value
returns-then-number-limit-clause-value c =
    (IsUniform-only c.args.self.now c.args.m (c.next-number.result % c.args.m) (c.loop-refused.refused + 1) c.next-number.new.self (returns-then-number-limit-clause-relation c)).value_is

pub returns-then-number-limit-clause-draws : goal.returns-then-number-limit-clause-draws
returns-then-number-limit-clause-draws c =
    (IsUniform-only c.args.self.now c.args.m (c.next-number.result % c.args.m) (c.loop-refused.refused + 1) c.next-number.new.self (returns-then-number-limit-clause-relation c)).draws_is

pub returns-then-number-limit-clause-rest : goal.returns-then-number-limit-clause-rest
returns-then-number-limit-clause-rest c =
    (IsUniform-only c.args.self.now c.args.m (c.next-number.result % c.args.m) (c.loop-refused.refused + 1) c.next-number.new.self (returns-then-number-limit-clause-relation c)).rest_is

pub unreachable-requires : goal.unreachable-requires
unreachable-requires c =
    some_uniform c.args.self.now c.args.m c.loop-refused.invariant.first c.requires.positive c.requires.small
    (record { refused = λ i h. c.loop-refused.invariant.refused i (omega arith) })
