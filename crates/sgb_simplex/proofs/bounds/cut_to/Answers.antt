use Rattle.std.proofs.Common.{◌≡◌, ◌++◌, ◌∷◌, [], ℕ, List, length, get_or, map, min, take, sym, ap, ◌∙◌, arith}
use Rattle.std.proofs.lemmas.List.{take_more_set, take_more, take_all, map-append}
use Rattle.sgb_simplex.proofs.bounds.cut_to.Goals as goal

pub loop-i-preserved : goal.loop-i-preserved
loop-i-preserved c =
    let i : ℕ = c.loop-i.i in
    let xs : List ℕ = c.args.list.now in
    let f : ℕ → ℕ = λ b. min b c.args.n in
    let last : c.min.result ≡ f (get_or xs i 0) = omega arith in
    take_more_set c.loop-i.places i c.min.result (omega arith)
    ∙ (ap (λ l. l ++ c.min.result ∷ []) c.loop-i.invariant
    ∙ (ap (λ y. map f (take i xs) ++ y ∷ []) last
    ∙ sym (ap (map f) (take_more xs i 0 (omega arith)) ∙ map-append f (take i xs) (get_or xs i 0 ∷ []))))

pub returns : goal.returns
returns c =
    let all : c.loop-i.i ≡ length c.args.list.now = omega arith in
    ap (λ k. take k c.loop-i.places) (sym all) ∙ (c.loop-i.invariant ∙ ap (map (λ b. min b c.args.n)) (take_all c.loop-i.i c.args.list.now (omega arith)))
