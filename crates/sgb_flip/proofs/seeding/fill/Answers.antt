use Rattle.std.proofs.Common.{◌≡◌, ℕ, ◌+◌, ◌-◌, ◌*◌, ◌%◌, ◌≤◌, arith, refl, set, sym, ap, ap₂, ◌∙◌, subst}
use Rattle.sgb_flip.specs.Generator.{rotated, rotated_by, seed_term}
use Rattle.sgb_flip.specs.Sequence.{difference}
use Rattle.sgb_flip.proofs.Seeds.{ArePlaced, IsSeeding-only, IsSeeding-placed, placed_more, placed_none, rotated_by-more, seed_term-more}
use Rattle.sgb_flip.proofs.seeding.fill.Goals as goal

pub loop-j-init : goal.loop-j-init
unfolding rotated_by seed_term
loop-j-init c = record {
  place = refl;
  placed = placed_none c.args.number c.args.words.now c.requires.count;
  turned = refl;
  before = refl;
  term = refl;
  turned_small = c.requires.small;
  before_small = c.requires.small;
  term_small = omega arith;
}

pub loop-j-preserved : goal.loop-j-preserved
loop-j-preserved c =
    let x : ℕ = c.args.number in
    let j : ℕ = c.loop-j._j in
    let was : j + 1 - 1 ≡ j = omega arith in
    let one : 1 ≤ j = omega arith in
    let turned : c.rotated_once-turned.result ≡ rotated_by x j =
    c.rotated_once-turned.ensures.turned ∙ ap rotated c.loop-j.invariant.turned ∙ sym (rotated_by-more x j one)
    in
    let apart : c.difference_of.result ≡ difference (seed_term x (j - 1)) (seed_term x j) =
    c.difference_of.ensures.value ∙ ap₂ difference c.loop-j.invariant.before c.loop-j.invariant.term
    in
    let place : 21 * j % 55 ≡ c.loop-j.place = sym c.loop-j.invariant.place in
    record {
      place = c.moved_on-place.ensures.value ∙ omega (arith, place);
      placed = subst
          (λ (k : ℕ). ArePlaced x (j + 1) (set c.loop-j.words (k - 1) c.loop-j.term))
          place
          (placed_more x j c.loop-j.term c.loop-j.words one c.loop-j-test.true c.loop-j.invariant.term c.loop-j.invariant.placed);
      turned = turned ∙ ap (λ n. rotated_by x n) (sym was);
      before = c.loop-j.invariant.term ∙ ap (λ n. seed_term x n) (sym was);
      term = c.difference_of-next.ensures.value ∙ ap₂ difference apart turned ∙ sym (seed_term-more x j one);
      turned_small = c.rotated_once-turned.ensures.small;
      before_small = c.loop-j.invariant.term_small;
      term_small = c.difference_of-next.ensures.small;
    }

pub returns : goal.returns
returns c =
    let end : c.loop-j._j ≡ 55 = omega arith in
    let placed : ArePlaced c.args.number 55 c.loop-j.words = subst (λ (j : ℕ). ArePlaced c.args.number j c.loop-j.words) end c.loop-j.invariant.placed in
    record {
      filled = IsSeeding-only c.args.number c.loop-j.words c.loop-j.invariant.placed.count (IsSeeding-placed c.args.number c.loop-j.words placed);
    }
