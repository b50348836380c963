-- Lists that are chosen element by element.
use Rattle.std.specs.Prelude.{List, [], ◌∷◌, map}
use Rattle.std.specs.List.{flat_map}

-- one element of each list, in lexicographic order
unfoldable pub choices : {X : Type 0} → List (List X) → List (List X)
choices [] = [] ∷ []
choices (xs ∷ xss) = flat_map (λ x. map (λ c. x ∷ c) (choices xss)) xs
