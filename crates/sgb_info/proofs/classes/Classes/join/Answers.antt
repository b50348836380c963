use Rattle.std.proofs.Common.{◌≡◌, get_or, set, min, max, ap, ap₂, ◌∙◌, arith}
use Rattle.sgb_info.specs.Private.Forest.{roots}
use Rattle.sgb_info.proofs.ForestLemmas.{high_within, joined_roots}
use Rattle.sgb_info.proofs.classes.Classes.join.Goals as goal

pub index_mut-requires : goal.index_mut-requires
index_mut-requires c =
    let is : roots c.self.inside.parents.items ≡ c.args.self.now = c.self.view_is ∙ (c.root-b.ensures.same ∙ c.root-a.ensures.same) in
    let x = c.root-a.result in
    let y = c.root-b.result in
    let y_is : y ≡ get_or c.args.self.now c.args.b 0 = c.root-b.ensures.value ∙ ap (λ l. get_or l c.args.b 0) c.root-a.ensures.same in
    let high : c.max.result ≡ max x y = c.max.ensures in
    let below = high_within c.self.inside.parents.items c.args.self.now c.self.invariant is c.args.a c.args.b x y c.requires.a c.requires.b c.root-a.ensures.value y_is in
    omega (arith, below, high, c.self.inside.parents.ok.0)

pub returns : goal.returns
returns c =
    let is : roots c.self.inside.parents.items ≡ c.args.self.now = c.self.view_is ∙ (c.root-b.ensures.same ∙ c.root-a.ensures.same) in
    let x = c.root-a.result in
    let y = c.root-b.result in
    let y_is : y ≡ get_or c.args.self.now c.args.b 0 = c.root-b.ensures.value ∙ ap (λ l. get_or l c.args.b 0) c.root-a.ensures.same in
    let high : c.max.result ≡ max x y = c.max.ensures in
    let low : c.min.result ≡ min x y = c.min.ensures in
    ap₂ (λ h l. roots (set c.self.inside.parents.items h l)) high low
    ∙ joined_roots c.self.inside.parents.items c.args.self.now c.self.invariant is c.args.a c.args.b x y c.requires.a c.requires.b c.root-a.ensures.value y_is
