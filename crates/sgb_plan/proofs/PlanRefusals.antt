-- Lemmas on the refusals that come before a plan: what is answered, and that want of memory is none of them.
use Rattle.std.proofs.Common.{◌≡◌, ◌≤◌, length, Option, Some, None, Bool, true, false, Result, Ok, Err, sym, ap, subst, ◌∙◌}
use Rattle.std.specs.Option.{option_or}
use Rattle.std.specs.Prelude.{IsErrAnd}
use Rattle.sgb_graph.specs.declared.refusal.Refusal.{Refusal}
use Rattle.sgb_graph.specs.declared.refusal.Refusal.TheVariants.{NoRoom, BadSpecs, BadOperand}
use Rattle.sgb_graph.specs.Edit.{refusal_unless}
use Rattle.sgb_graph.specs.Graph.{GraphOf}
use Rattle.sgb_plan.specs.Plan.{Plan, IsMade, MayAllocate, plan_unless}
use Rattle.sgb_plan.proofs.Plans.{refused_before}

-- ---- there is one, which is answered
pub answered : (x : Result Plan Refusal) (r : Result GraphOf Refusal) {e : Refusal} → IsErrAnd r (λ q. q ≡ e) → IsMade x (Err e) → IsMade x r
answered x (Ok g) is made = absurd is
answered x (Err q) is made = subst (λ e. IsMade x (Err e)) (sym is) made

pub refused : (o : Option Refusal) (p : Plan) (r : Result GraphOf Refusal) {e : Refusal} → IsErrAnd r (λ q. q ≡ e) → o ≡ Some e → IsMade (plan_unless o p) r
refused None p r is some = absurd cc
refused (Some q) p r {e} is some =
    let same : e ≡ q = cc in
    answered (Err q) r (subst (λ x. IsErrAnd r (λ y. y ≡ x)) same is) (refused_before q)

pub never_answered : {o : Option Refusal} (r : Result GraphOf Refusal) {e : Refusal} → (o ≡ Some NoRoom → ⊥) → IsErrAnd r (λ q. q ≡ e) → o ≡ Some e → r ≡ Err NoRoom → ⊥
never_answered (Ok g) never is some room = absurd is
never_answered (Err q) {e} never is some room =
    let same : e ≡ NoRoom = cc in
    never (some ∙ ap (λ x. Some x) same)

-- ---- there is none
pub planned : (o : Option Refusal) (p : Plan) (r : Result GraphOf Refusal) → o ≡ None → IsMade (Ok p) r → IsMade (plan_unless o p) r
planned None p r none is = is
planned (Some q) p r none is = absurd cc

pub may_allocate : (o : Option Refusal) (p : Plan) → o ≡ None → length p.vertices ≤ 65535 → MayAllocate (plan_unless o p)
may_allocate None p none few = few
may_allocate (Some q) p none few = absurd cc

-- ---- none is want of memory
pub never_operand : (ok : Bool) → refusal_unless ok BadOperand None ≡ Some NoRoom → ⊥
never_operand true is = absurd cc
never_operand false is = absurd cc

pub never_specs : (ok : Bool) (o : Option Refusal) → (o ≡ Some NoRoom → ⊥) → refusal_unless ok BadSpecs o ≡ Some NoRoom → ⊥
never_specs true o never is = never is
never_specs false o never is = absurd cc

pub never_or : (a b : Option Refusal) → (a ≡ Some NoRoom → ⊥) → (b ≡ Some NoRoom → ⊥) → option_or a b ≡ Some NoRoom → ⊥
never_or None b never_a never_b is = never_b is
never_or (Some q) b never_a never_b is = never_a is
