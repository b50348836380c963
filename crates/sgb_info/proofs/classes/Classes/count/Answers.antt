use Rattle.std.proofs.Common.{◌≡◌, length, sym, ap, subst, ◌∙◌, arith}
use Rattle.sgb_info.specs.Private.Forest.{IsForest, roots}
use Rattle.sgb_info.specs.Private.Classes.{IsClasses, least_of_each, least_below}
use Rattle.sgb_info.proofs.ForestLemmas.{classes_of, least_no, least_yes, length_roots}
use Rattle.sgb_info.proofs.classes.Classes.count.Goals as goal
use Rattle.sgb_info.proofs.classes.Classes.count.Goals.{then-parent-v, else-parent-v}

pub loop-v-preserved : goal.loop-v-preserved
loop-v-preserved c =
    let ps = c.deref-parent-items.result.now in
    let ls = c.args.self.now in
    let v = c.loop-v.v in
    let forest : IsForest ps = subst IsForest (sym c.deref-parent-items.ensures.value) c.self.invariant in
    let is : roots ps ≡ ls = ap roots c.deref-parent-items.ensures.value ∙ c.self.view_is in
    let before = c.loop-v.invariant.value in
    let few = c.loop-v.invariant.few in
    elim c.if-parent-v.branch [
      | then-parent-v w ↦
          let more = least_yes ps ls v forest is (omega arith) w.if-parent-v.true in
          let one = w.count-is in
          record { value = omega (arith, before, more, one); few = omega (arith, few, one) }
      | else-parent-v w ↦
          let more = least_no ps ls v forest is (omega arith) w.if-parent-v.false in
          let none = w.count-is in
          record { value = omega (arith, before, more, none); few = omega (arith, few, none) }
    ]

pub returns-clause-value : goal.returns-clause-value
unfolding least_of_each
returns-clause-value c =
    let ps = c.deref-parent-items.result.now in
    let is : roots ps ≡ c.args.self.now = ap roots c.deref-parent-items.ensures.value ∙ c.self.view_is in
    let all : c.loop-v.v ≡ length c.args.self.now = omega (arith, ap length is, length_roots ps) in
    c.loop-v.invariant.value ∙ ap (λ k. length (least_below c.args.self.now k)) all

pub returns-clause-limit : goal.returns-clause-limit
returns-clause-limit c =
    let ps = c.deref-parent-items.result.now in
    let is : roots ps ≡ c.args.self.now = ap roots c.deref-parent-items.ensures.value ∙ c.self.view_is in
    omega (arith, c.loop-v.invariant.few, ap length is, length_roots ps)

pub returns-clause-classes : goal.returns-clause-classes
returns-clause-classes c = subst IsClasses c.self.view_is (classes_of c.self.inside.parents.items c.self.invariant)
