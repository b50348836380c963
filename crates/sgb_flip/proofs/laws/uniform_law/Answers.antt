use Rattle.std.proofs.Common.{ℕ, ap, ap₂, ◌∙◌}
use Rattle.sgb_flip.specs.Generator.{Generator, Uniform, uniform}
use Rattle.sgb_flip.proofs.Uniforms.{IsThatUniform, IsUniform-only, IsUniform-uniform, some_uniform}
use Rattle.sgb_flip.proofs.laws.uniform_law.Goals as goal

pub returns-clause-some : goal.returns-clause-some
returns-clause-some c = some_uniform

pub returns-clause-holds : goal.returns-clause-holds
returns-clause-holds c = IsUniform-uniform

-- a uniform number is its three fields
abbrev fields : ℕ → ℕ → Generator → Uniform
fields value draws rest = record { value = value; draws = draws; rest = rest }

pub returns-clause-only : goal.returns-clause-only
returns-clause-only c w m value draws rest is =
    let that : IsThatUniform w m value draws rest = IsUniform-only w m value draws rest is in
    ap₂ (λ v d. fields v d rest) that.value_is that.draws_is
    ∙ ap (λ r. fields (uniform w m).value (uniform w m).draws r) that.rest_is
