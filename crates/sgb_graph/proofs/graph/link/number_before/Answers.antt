use Rattle.std.proofs.Common.{◌≡◌, ℕ, zero, suc, ◌-◌, ◌≢◌, List, Option, Some, None, option_map, slice_get, arith, refl, ap, ◌∙◌}
use Rattle.std.proofs.lemmas.Iterator.Consumers.{nth_from_yields_List, YieldsList-from_first}
use Rattle.sgb_graph.specs.declared.field.ArcNo.{ArcNo}
use Rattle.sgb_graph.specs.Private.Arena.{numbers}
use Rattle.sgb_graph.specs.Field.{arc_no}
use Rattle.sgb_graph.specs.Private.Link.{number_before}
use Rattle.sgb_graph.proofs.graph.link.number_before.Goals as goal

nth_is : (r : Option ArcNo) (ks : List ℕ) (i : ℕ) → i ≢ 0 → option_map (λ k. k.0) r ≡ slice_get ks (i - 1) → r ≡ number_before ks i
nth_is r ks zero not_first e = absurd (not_first refl)
nth_is None ks (suc i) not_first e = ap (option_map arc_no) (e ∙ ap (slice_get ks) (omega arith))
nth_is (Some k) ks (suc i) not_first e = ap (option_map arc_no) (e ∙ ap (slice_get ks) (omega arith))

pub returns : goal.returns
returns c =
    nth_is c.nth.result (numbers c.args.slots.now c.args.first) c.args.place c.if-place-eq0.false
    (nth_from_yields_List c.nth.result c.nth.new.self _ c.nth.ensures.ran (YieldsList-from_first (λ k. k.0) (λ ks. ks) (numbers c.args.slots.now c.args.first) c.new.ensures))
