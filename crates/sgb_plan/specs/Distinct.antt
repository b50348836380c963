-- Lists whose elements differ.
use Rattle.std.specs.Prelude.{◌≢◌, List}
use Rattle.std.specs.List.{AllPairs}

-- no element stands at two places
abbrev pub Distinct : {X : Type 0} → List X → Type 0
Distinct xs = AllPairs (λ x y. x ≢ y) xs
