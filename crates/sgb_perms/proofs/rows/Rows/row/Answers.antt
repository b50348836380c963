use Rattle.std.proofs.Common.{◌≡◌, ◌+◌, ◌-◌, ◌*◌, take, drop, ap₂, ◌∙◌, arith}
use Rattle.sgb_perms.proofs.Pieces.{end_within, end_small, row_shown}
use Rattle.sgb_perms.proofs.rows.Rows.row.Goals as goal

pub overflow_mul-start : goal.overflow_mul-start
overflow_mul-start c = omega (arith, end_small c.self.inside c.args.self.now c.args.place c.self.view_is c.self.invariant c.requires)

pub overflow_add-result : goal.overflow_add-result
overflow_add-result c = omega (arith, end_small c.self.inside c.args.self.now c.args.place c.self.view_is c.self.invariant c.requires)

pub slice_bounds-result-end : goal.slice_bounds-result-end
slice_bounds-result-end c =
    let within = end_within c.self.inside c.args.self.now c.args.place c.self.view_is c.self.invariant c.requires in
    omega (arith, c.deref.ensures.len, c.deref.ensures.value)

pub returns-clause-value : goal.returns-clause-value
returns-clause-value c =
    let start = c.args.place * c.self.inside.width in
    let long : start + c.self.inside.width - start ≡ c.self.inside.width = omega arith in
    ap₂ (λ n ks. take n (drop start ks)) long c.deref.ensures.value
    ∙ row_shown c.self.inside c.args.self.now c.args.place c.self.view_is c.requires
