use Rattle.std.proofs.Common.{refl, map, sym, ap, subst, ◌∙◌}
use Rattle.sgb_graph.specs.Graph.{n_of}
use Rattle.sgb_graph.specs.Builder.{along, Inserts}
use Rattle.sgb_combine.specs.Gunion.{run_of}
use Rattle.sgb_combine.proofs.WalkedSpokes.{both_candidates}
use Rattle.sgb_combine.proofs.SpokeBounds.{within_as, candidates_within}
use Rattle.sgb_combine.proofs.Unions.{union_is}
use Rattle.sgb_combine.proofs.unite.UnionSourceCombination.insert_from.Goals as goal

pub insert_spokes-requires-clause-to : goal.insert_spokes-requires-clause-to
insert_spokes-requires-clause-to c =
    let s = c.args.self.now in
    let read = both_candidates s.spec.directed s.first.now s.second.now c.args.vertex.0 (n_of s.first.now) _ _ _ refl c.in_ok-read.ensures.mine (c.deref.ensures.value ∙ c.in_ok-read.ensures.theirs) c.in_ok-extend_from_slice.ensures.items in
    within_as (c.deref-then-self.ensures.value ∙ read) (sym c.requires.fits.0) (candidates_within s.spec.directed s.first.now s.second.now c.args.vertex.0)

pub returns-then-self-clause-inserts : goal.returns-then-self-clause-inserts
returns-then-self-clause-inserts c =
    let s = c.args.self.now in
    let read = both_candidates s.spec.directed s.first.now s.second.now c.args.vertex.0 (n_of s.first.now) _ _ _ refl c.in_ok-read.ensures.mine (c.deref.ensures.value ∙ c.in_ok-read.ensures.theirs) c.in_ok-extend_from_slice.ensures.items in
    subst (λ es. Inserts c.args.builder.now c.insert_spokes.new.builder es c.insert_spokes.result)
    (ap (λ m. map (along c.args.vertex.0) (run_of m c.deref-then-self.result.now)) (sym c.if-self.true)
    ∙ union_is s.spec s.first.now s.second.now c.args.vertex.0 c.deref-then-self.result.now (c.deref-then-self.ensures.value ∙ read))
    c.insert_spokes.ensures

pub keep-requires : goal.keep-requires
keep-requires c =
    let s = c.args.self.now in
    let read = both_candidates s.spec.directed s.first.now s.second.now c.args.vertex.0 (n_of s.first.now) _ _ _ refl c.in_ok-read.ensures.mine (c.deref.ensures.value ∙ c.in_ok-read.ensures.theirs) c.in_ok-extend_from_slice.ensures.items in
    within_as (c.deref-2.ensures.value ∙ read) (c.requires.fits.1 ∙ sym c.requires.fits.0) (candidates_within s.spec.directed s.first.now s.second.now c.args.vertex.0)

pub returns-clause-inserts : goal.returns-clause-inserts
returns-clause-inserts c =
    let s = c.args.self.now in
    let read = both_candidates s.spec.directed s.first.now s.second.now c.args.vertex.0 (n_of s.first.now) _ _ _ refl c.in_ok-read.ensures.mine (c.deref.ensures.value ∙ c.in_ok-read.ensures.theirs) c.in_ok-extend_from_slice.ensures.items in
    subst (λ es. Inserts c.args.builder.now c.insert_spokes-2.new.builder es c.insert_spokes-2.result)
    (ap (map (along c.args.vertex.0)) (c.spokes.ensures ∙ c.in_ok-keep.ensures.ok)
    ∙ (ap (λ m. map (along c.args.vertex.0) (run_of m c.deref-2.result.now)) (sym c.if-self.false)
    ∙ union_is s.spec s.first.now s.second.now c.args.vertex.0 c.deref-2.result.now (c.deref-2.ensures.value ∙ read)))
    c.insert_spokes-2.ensures
