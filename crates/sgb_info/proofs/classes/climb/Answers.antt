use Rattle.std.proofs.Common.{◌≡◌, ◌≤◌, get_or, sym, ap, subst, ◌∙◌, arith}
use Rattle.std.proofs.lemmas.List.{length-set}
use Rattle.sgb_info.proofs.ForestLemmas.{forest_set, grand_most, grand_root, root_itself, roots_at, roots_halved}
use Rattle.sgb_info.proofs.classes.climb.Goals as goal

pub loop-parents-preserved : goal.loop-parents-preserved
loop-parents-preserved c =
    let ps = c.loop-parents.parents in
    let v = c.loop-parents.number in
    let before = c.loop-parents.invariant in
    let less : get_or ps v 0 ≤ v = before.forest v before.within in
    let still = grand_most ps before.forest v before.within in
    let within = before.within in
    let grand = get_or ps (get_or ps v 0) 0 in
    let long = length-set ps v grand in record {
      forest = forest_set ps before.forest v grand within (omega (arith, less, still));
      within = omega (arith, less, still, long, within);
      same = roots_halved ps before.forest v within ∙ before.same;
      root = subst (λ rs. get_or rs grand 0 ≡ get_or rs v 0) before.same (grand_root ps before.forest v within) ∙ before.root;
    }

pub returns : goal.returns
returns c =
    let ps = c.loop-parents.parents in
    let v = c.loop-parents.number in
    let at_end = c.loop-parents.invariant in record {
      value = sym (root_itself ps v c.loop-parents-test.false)
          ∙ (sym (roots_at ps v at_end.within)
          ∙ (ap (λ rs. get_or rs v 0) at_end.same ∙ (at_end.root ∙ roots_at c.args.parents.now c.args.number c.requires.within)));
      same = at_end.same;
      forest = at_end.forest;
    }
