use Rattle.std.proofs.Common.{true, sym, ap, subst, ◌∙◌}
use Rattle.sgb_graph.specs.Graph.{n_of}
use Rattle.sgb_graph.specs.Builder.{Inserts}
use Rattle.sgb_graph.specs.Operand.{spokes}
use Rattle.sgb_combine.specs.Lowest.{lowest}
use Rattle.sgb_combine.proofs.Joint.{intersection_is}
use Rattle.sgb_combine.proofs.SpokeBounds.{within_as, passed_within}
use Rattle.sgb_combine.proofs.intersect.IntersectionSourceCombination.insert_from.Goals as goal

pub keep-requires : goal.keep-requires
keep-requires c =
    let s = c.args.self.now in
    within_as (c.deref.ensures.value ∙ c.in_ok-read.ensures.mine) (c.requires.fits.2 ∙ sym c.requires.fits.1)
    (passed_within s.directed (n_of s.first.now) c.args.vertex.0 (spokes true s.first.now c.args.vertex.0))

pub keep-requires-2 : goal.keep-requires-2
keep-requires-2 c =
    let s = c.args.self.now in
    within_as (c.deref-2.ensures.value ∙ c.in_ok-read.ensures.theirs) (c.requires.fits.3 ∙ sym c.requires.fits.1)
    (passed_within s.directed (n_of s.first.now) c.args.vertex.0 (spokes true s.second.now c.args.vertex.0))

pub returns-clause-inserts : goal.returns-clause-inserts
returns-clause-inserts c =
    let s = c.args.self.now in
    let mine = c.spokes.ensures ∙ (c.in_ok-keep.ensures.ok ∙ ap lowest (c.deref.ensures.value ∙ c.in_ok-read.ensures.mine)) in
    let theirs = c.in_ok-keep-2.ensures.ok ∙ ap lowest (c.deref-2.ensures.value ∙ c.in_ok-read.ensures.theirs) in
    subst (λ es. Inserts c.args.builder.now c.insert_joints.new.builder es c.insert_joints.result)
    (intersection_is s.directed s.first.now s.second.now c.args.vertex.0 _ _ c.requires.fits.0 mine theirs)
    c.insert_joints.ensures
