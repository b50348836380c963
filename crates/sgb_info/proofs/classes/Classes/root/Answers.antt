use Rattle.std.proofs.Common.{◌≡◌, ◌<◌, length, get_or, sym, ap, ◌∙◌, arith}
use Rattle.sgb_info.specs.Private.Forest.{roots}
use Rattle.sgb_info.proofs.ForestLemmas.{length_roots, roots_at}
use Rattle.sgb_info.proofs.classes.Classes.root.Goals as goal

pub climb-requires-clause-within : goal.climb-requires-clause-within
climb-requires-clause-within c =
    let is : roots c.self.inside.parents.items ≡ c.args.self.now = c.self.view_is in
    omega (arith, ap length is, ap length c.deref_mut.ensures.value, length_roots c.self.inside.parents.items)

pub returns-clause-value : goal.returns-clause-value
returns-clause-value c =
    let ps = c.deref_mut.result.now in
    let is : roots ps ≡ c.args.self.now = ap roots c.deref_mut.ensures.value ∙ c.self.view_is in
    let within : c.args.number < length ps = omega (arith, ap length is, length_roots ps) in
    c.climb.ensures.value ∙ (sym (roots_at ps c.args.number within) ∙ ap (λ rs. get_or rs c.args.number 0) is)
