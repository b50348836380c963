use Rattle.std.proofs.Common.{rules, ◌≡◌, ◌≤◌, All, length, sym, ap, subst, ◌∙◌, arith}
use Rattle.std.specs.List.{flat_map}
use Rattle.sgb_simplex.specs.Points.{points}
use Rattle.sgb_simplex.specs.Private.Counts.{IsTable}
use Rattle.sgb_simplex.proofs.list.PointList.new.Goals as goal

pub invariant_of-result : goal.invariant_of-result
invariant_of-result c =
    let same : c.in_ok-bounds.bounds.items ≡ c.args.bounds.now = search rules in
    record {
      narrow = omega (arith, c.requires.narrow, ap length same, c.in_ok-bounds.bounds.ok.0);
      bounded = subst (All (λ b. b ≤ 65535)) (sym same) c.requires.bounded;
      table = subst (λ b. IsTable b c.args.total c.in_ok-rows.rows.items) (sym same) c.in_ok-rows.ensures;
      listed = c.in_ok-coordinates.ensures ∙ ap (λ b. flat_map (λ t. t) (points c.args.total b)) (sym same);
      counted = c.requires.count ∙ ap (λ b. length (points c.args.total b)) (sym same);
      few = c.requires.few;
    }
