-- Arrangements of a multiset, their vectors, and the order in which they are listed.
use Rattle.std.specs.Prelude.{◌≡◌, ◌<◌, ◌+◌, ◌-◌, ◌*◌, ◌==◌, ℕ, All, zero, suc, List, [], ◌∷◌, length, map, drop, swap, slice_index, sum, filter, flat_map, nat_lt, nat_le, Bool, if◌then◌else◌}
use Rattle.std.specs.Cmp.Lexicographic.{pointwise}
use Rattle.std.specs.List.{range_with_len}

-- the lists of n numbers below `below`, in lexicographic order
unfoldable pub words : ℕ → ℕ → List (List ℕ)
words below zero = [] ∷ []
words below (suc n) = flat_map (λ x. map (λ w. x ∷ w) (words below n)) (range_with_len 0 below)

-- two lists of numbers are the same
abbrev pub same_list : List ℕ → List ℕ → Bool
same_list = pointwise ◌==◌

-- how many elements pass
abbrev pub count : (ℕ → Bool) → List ℕ → ℕ
count test a = length (filter test a)

-- how often each of so many kinds, from this one on, stands in a list
unfoldable pub counts_from : ℕ → ℕ → List ℕ → List ℕ
counts_from kind kinds a = map (λ k. count (λ y. y == k) a) (range_with_len kind kinds)

-- an arrangement has count j of each kind j, and nothing else
pub record IsArrangement (counts a : List ℕ) : Type 0 where
  pub kinds : All (λ x. x < length counts) a
  pub counted : counts_from 0 (length counts) a ≡ counts

-- the arrangements, each once
unfoldable pub all_arrangements : List ℕ → List (List ℕ)
all_arrangements counts =
    filter (λ a. same_list (counts_from 0 (length counts) a) counts) (words (length counts) (sum counts))

-- for each copy of the kind, from left to right, how many elements of smaller kinds stand to its right
unfoldable pub smaller_right : ℕ → List ℕ → List ℕ
smaller_right kind [] = []
smaller_right kind (x ∷ a) =
    if x == kind then count (λ y. nat_lt y kind) a ∷ smaller_right kind a else smaller_right kind a

-- the vector of a list: those of each of so many kinds, from this one on
unfoldable pub vector_from : ℕ → ℕ → List ℕ → List ℕ
vector_from kind kinds a = flat_map (λ k. smaller_right k a) (range_with_len kind kinds)

-- the vector of an arrangement has those of all kinds but 0, of which none is smaller
abbrev pub vector_of : List ℕ → List ℕ → List ℕ
vector_of counts a = vector_from 1 (length counts - 1) a

-- the lists that may be a vector, with a sum of at most `most`, in lexicographic order
unfoldable pub vectors : List ℕ → ℕ → List (List ℕ)
vectors counts most = filter (λ v. nat_le (sum v) most) (words (sum counts) (sum (drop 1 counts)))

-- the arrangements with at most so many inversions, which are the sum of the vector, in the order of their vectors
unfoldable pub arrangements : List ℕ → ℕ → List (List ℕ)
arrangements counts most =
    flat_map (λ v. filter (λ a. same_list (vector_of counts a) v) (all_arrangements counts)) (vectors counts most)

-- the greatest number of inversions, where so many elements are smaller than those counted here: each two elements of
-- different kinds are one
unfoldable pub greatest_from : ℕ → List ℕ → ℕ
greatest_from smaller [] = 0
greatest_from smaller (c ∷ counts) = smaller * c + greatest_from (smaller + c) counts

-- an element is greater than the one behind it
abbrev pub is_descent : List ℕ → ℕ → Bool
is_descent a place = nat_lt (slice_index a (place + 1)) (slice_index a place)

-- the places of such elements, from the left
unfoldable pub descents : List ℕ → List ℕ
descents a = filter (is_descent a) (range_with_len 0 (length a - 1))

-- an element and the one behind it exchanged
abbrev pub exchanged : List ℕ → ℕ → List ℕ
exchanged a place = swap a place (place + 1)
