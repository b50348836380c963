-- The signs of a vector, and the vectors whose first parts are given.
use Rattle.std.specs.Prelude.{◌+◌, ◌==◌, ℕ, zero, suc, ℤ, pos, negsuc, List, [], ◌∷◌, ◌++◌, map, replicate, Bool, true, if◌then◌else◌}
use Rattle.std.specs.List.{flat_map, filter, range_with_len}
use Rattle.sgb_graph.specs.Builder.{Insertion}
use Rattle.sgb_make.specs.declared.side.Side.{Side}
use Rattle.sgb_make.specs.Choice.{choices}
use Rattle.sgb_make.specs.Ride.{rides_along}
use Rattle.sgb_make.specs.Vector.{squares, vectors_of}

-- the vectors of these absolute values; once a part other than 0 was seen, each part takes both signs
unfoldable pub signings : List ℕ → Bool → List (List ℤ)
signings [] seen = [] ∷ []
signings (zero ∷ parts) seen = map (λ v. pos 0 ∷ v) (signings parts seen)
signings (suc a ∷ parts) seen =
    map (λ v. pos (suc a) ∷ v) (signings parts true) ++ (if seen then map (λ v. negsuc a ∷ v) (signings parts true) else [])

-- the insertions of the vectors that begin with v and go on with these absolute values
unfoldable pub along_signings : List Side → Bool → List ℤ → List ℕ → Bool → List Insertion
along_signings sides rides v parts seen = flat_map (λ w. rides_along sides rides (v ++ w)) (signings parts seen)

-- d parts of at most this, whose squares have this sum
unfoldable pub parts_below : ℕ → ℕ → ℕ → List (List ℕ)
parts_below most d left = filter (λ parts. squares parts == left) (choices (replicate d (range_with_len 0 (most + 1))))

-- the insertions of the vectors whose absolute values begin with these, and go on with d whose squares have this sum
abbrev pub along_vectors : List Side → Bool → List ℕ → List Insertion
along_vectors sides rides parts = flat_map (rides_along sides rides) (vectors_of parts)

unfoldable pub along_parts : List Side → Bool → ℕ → List ℕ → ℕ → ℕ → List Insertion
along_parts sides rides most begun d left =
    flat_map (λ parts. along_vectors sides rides (begun ++ parts)) (parts_below most d left)
