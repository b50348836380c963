use Rattle.std.proofs.Common.{◌≡◌, ℕ, ◌<◌, ◌≤◌}
use Rattle.sgb_flip.specs.Generator.{IsGenerator, after, drawn, limit}
use Rattle.sgb_flip.proofs.flip.Flip.uniform.Given as goal

abbrev pub invariant-loop-refused : goal.invariant-loop-refused
invariant-loop-refused l = record {
  generator : IsGenerator l.self;
  first : IsGenerator l.initial.self;
  now : l.self ≡ after l.initial.self l.refused;
  refused : (i : ℕ) → i < l.refused → limit l.m ≤ drawn l.initial.self i;
}
