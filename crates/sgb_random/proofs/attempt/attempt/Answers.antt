use Rattle.std.proofs.Common.{◌+◌, refl, ap₂, subst}
use Rattle.std.proofs.lemmas.Result.{on_ok_weaker}
use Rattle.sgb_random.specs.Random.{Course}
use Rattle.sgb_random.specs.Private.Progress.{IsIndexed}
use Rattle.sgb_random.proofs.AttemptOutcomes.{attempted_is, indexed_drawn}
use Rattle.sgb_random.proofs.DrawCounts.{follows_two, follows_then}
use Rattle.sgb_random.proofs.attempt.attempt.Goals as goal

pub returns-clause-ok : goal.returns-clause-ok
returns-clause-ok c = λ a k indexed.
    let s = c.args.spec.now in
    let from = c.uniform-from in
    let to = c.uniform-to in
    let draws = from.result.draws + to.result.draws in
    let drawn : Course = record { insertions = k.insertions; made = k.made; draws = k.draws + draws; rest = to.new.self } in
    on_ok_weaker c.try_pair.result
    (λ is.
    subst (λ (x : Course). IsIndexed s a x c.try_pair.new.progress c.try_pair.new.flip)
    (attempted_is s k c.args.n from.result.value to.result.value draws c.args.flip.now from.new.self to.new.self
    indexed.kept.rest c.requires.size from.ensures.value from.ensures.rest to.ensures.value to.ensures.rest (ap₂ (λ i j. i + j) from.ensures.draws to.ensures.draws))
    is)
    (c.try_pair.ensures.ok a drawn (indexed_drawn draws to.new.self indexed refl refl refl refl refl refl))

pub returns-clause-follows : goal.returns-clause-follows
returns-clause-follows c =
    let from = c.uniform-from in
    let to = c.uniform-to in
    follows_then
    (follows_two c.args.progress.now.draws from.result.draws to.result.draws from.ensures.relation.rest_is to.ensures.relation.rest_is)
    c.try_pair.ensures.follows
