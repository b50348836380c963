use Rattle.std.proofs.Common.{◌<◌, ◌==◌, All, eqb, sym, ap, subst, ◌∙◌}
use Rattle.std.specs.List.Sorted.{IsStrictlyIncreasing}
use Rattle.std.proofs.lemmas.List.Filters.{dedup_is, All-dedup}
use Rattle.std.proofs.lemmas.List.Sorted.{All-permutation, list_any-IsPermutation}
use Rattle.std.proofs.lemmas.Map.Keys.{IsStrictlyIncreasing-dedup}
use Rattle.sgb_combine.proofs.AscendingNumbers.{is_one, is_one-dedup}
use Rattle.sgb_combine.proofs.negate.put_in_order.Goals as goal

pub returns : goal.returns
returns c =
    let start = c.args.numbers.now.items in
    let sorted = c.sort_unstable.new.self.items in
    let is = dedup_is eqb sorted c.dedup.new.self.items c.dedup.ensures.filtered in
    record {
      rising = subst IsStrictlyIncreasing (sym is) (IsStrictlyIncreasing-dedup sorted c.sort_unstable.ensures.sorted);
      same = λ w. ap (is_one w) is ∙ (is_one-dedup w sorted ∙ sym (list_any-IsPermutation (λ x. x == w) start sorted c.sort_unstable.ensures.permutation));
      below = λ n all. subst (λ ms. All (λ x. x < n) ms) (sym is) (All-dedup eqb (λ x. x < n) sorted (All-permutation (λ x. x < n) start sorted c.sort_unstable.ensures.permutation all));
    }
