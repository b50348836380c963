use Rattle.std.proofs.Common.{◌≡◌, ◌∙◌, ap, sym, refl, Bool, true, false, ◌&&◌}
use Rattle.sgb_graph.proofs.Cells.{honest_is}
use Rattle.sgb_graph.proofs.graph.Graph.is_honest.Goals as goal

last_decides : (x y z : Bool) → x ≡ true → y ≡ true → z ≡ (x && y && z)
last_decides x y z one two = sym (ap (λ b. b && y && z) one ∙ ap (λ b. true && b && z) two)

second_decides : (x y z : Bool) → x ≡ true → y ≡ false → false ≡ (x && y && z)
second_decides x y z one two = sym (ap (λ b. b && y && z) one ∙ ap (λ b. true && b && z) two)

pub returns : goal.returns
returns c =
    let a = c.self.inside in
    last_decides c.are_allowed.result c.is_honest.result c.is_honest-2.result c.if-not-are_allowed.false c.if-not-is_honest.false
    ∙ honest_is a c.args.self.now c.letters-letters.result.now _ _ _ _ a.vertices a.slots _ _ _ c.self.view_is c.letters-letters.ensures.value
    c.split_at.ensures.front c.split_at.ensures.back c.split_at-2.ensures.front c.split_at-2.ensures.back refl refl
    c.are_allowed.ensures c.is_honest.ensures c.is_honest-2.ensures

pub returns-then-not-is_honest : goal.returns-then-not-is_honest
returns-then-not-is_honest c =
    let a = c.self.inside in
    second_decides c.are_allowed.result c.is_honest.result _ c.if-not-are_allowed.false c.if-not-is_honest.true
    ∙ honest_is a c.args.self.now c.letters-letters.result.now _ _ _ _ a.vertices a.slots _ _ _ c.self.view_is c.letters-letters.ensures.value
    c.split_at.ensures.front c.split_at.ensures.back c.split_at-2.ensures.front c.split_at-2.ensures.back refl refl
    c.are_allowed.ensures c.is_honest.ensures refl
