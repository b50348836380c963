use Rattle.std.proofs.Common.{◌≡◌, ◌∷◌, [], ℕ, pos, List, Bool, get_or, refl, sym, ap, ap₂, ◌∙◌}
use Rattle.sgb_graph.specs.Builder.{insertion}
use Rattle.sgb_simplex.specs.Points.{points}
use Rattle.sgb_simplex.specs.Overlap.{overlap, has_size, is_partner}
use Rattle.sgb_simplex.proofs.MoveInsertions.{none_inserted, some_inserted}
use Rattle.sgb_simplex.proofs.overlap.insert_pair.Goals as goal

partner : (all : List (List ℕ)) (bits u v : ℕ) (p q : List ℕ) (s : ℕ) (r : Bool) → r ≡ has_size bits s → s ≡ overlap p q → p ≡ get_or all u [] → q ≡ get_or all v [] → is_partner all bits v u ≡ r
partner all bits u v p q s r asked size first second =
    sym (asked ∙ (ap (has_size bits) size ∙ ap₂ (λ x y. has_size bits (overlap x y)) first second))

pub returns-then-not-has_size : goal.returns-then-not-has_size
returns-then-not-has_size c =
    let list = c.args.list.now in
    let all : List (List ℕ) = points list.total list.bounds.items in
    none_inserted c.args.builder.now (is_partner all c.args.size_bits c.args.v c.args.u) (insertion c.args.u c.args.v (pos 1) ∷ [])
    (partner all c.args.size_bits c.args.u c.args.v c.point.result.now c.point-2.result.now c.overlap.result c.has_size.result c.has_size.ensures c.overlap.ensures c.point.ensures.value c.point-2.ensures.value ∙ c.if-not-has_size.true)

pub returns : goal.returns
returns c =
    let list = c.args.list.now in
    let all : List (List ℕ) = points list.total list.bounds.items in
    some_inserted c.args.builder.now c.insert.new.self (is_partner all c.args.size_bits c.args.v c.args.u) (insertion c.args.u c.args.v (pos 1) ∷ []) (insertion c.args.u c.args.v (pos 1) ∷ []) c.insert.result
    (partner all c.args.size_bits c.args.u c.args.v c.point.result.now c.point-2.result.now c.overlap.result c.has_size.result c.has_size.ensures c.overlap.ensures c.point.ensures.value c.point-2.ensures.value ∙ c.if-not-has_size.false)
    refl c.insert.ensures.value
