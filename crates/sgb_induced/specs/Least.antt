-- Insertions of which each pair of ends keeps the first, with the least length.
use Rattle.std.specs.Prelude.{◌≡◌, ◌==◌, ◌&&◌, not, ℕ, ℤ, List, [], ◌∷◌, map, fold, Bool, min, max, if◌then◌else◌}
use Rattle.std.specs.Int.{int_min}
use Rattle.std.specs.List.{filter}
use Rattle.sgb_graph.specs.Builder.{Insertion, insertion}

-- the vertices that an insertion joins; of an edge the smaller is named first
abbrev pub first_end : Bool → Insertion → ℕ
first_end directed e = if directed then e.from else min e.from e.to

abbrev pub last_end : Bool → Insertion → ℕ
last_end directed e = if directed then e.to else max e.from e.to

abbrev pub same_ends : Bool → Insertion → Insertion → Bool
same_ends directed e f = (first_end directed e == first_end directed f) && (last_end directed e == last_end directed f)

-- the insertion with the smaller length of the two
abbrev pub lowered : Insertion → Insertion → Insertion
lowered e f = insertion e.from e.to (int_min e.len f.len)

-- an insertion comes last, or lowers the one with its ends
unfoldable pub add_or_lower : Bool → List Insertion → Insertion → List Insertion
add_or_lower directed [] f = f ∷ []
add_or_lower directed (e ∷ es) f = if same_ends directed e f then lowered e f ∷ es else e ∷ add_or_lower directed es f

-- one insertion for each pair of ends
abbrev pub least : Bool → List Insertion → List Insertion
least directed = fold (add_or_lower directed) []

-- what `least` gives, without its steps: each insertion with no earlier one of its ends, with the least length of those
-- with its ends; so it does not matter in which order lengths come at the same ends
unfoldable pub firsts : Bool → List Insertion → List Insertion
firsts directed [] = []
firsts directed (e ∷ es) = e ∷ filter (λ f. not (same_ends directed e f)) (firsts directed es)

abbrev pub lengths_at : Bool → List Insertion → Insertion → List ℤ
lengths_at directed es e = map (λ f. f.len) (filter (same_ends directed e) es)

abbrev pub shortest : Bool → List Insertion → Insertion → Insertion
shortest directed es e = insertion e.from e.to (fold int_min e.len (lengths_at directed es e))

abbrev pub LeastLaw : Bool → Type 0
LeastLaw directed = (es : List Insertion) → least directed es ≡ map (shortest directed es) (firsts directed es)
