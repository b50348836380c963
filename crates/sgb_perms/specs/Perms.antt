-- The graph of the arrangements of a multiset, as it is planned.
use Rattle.std.specs.Prelude.{◌==◌, ℕ, ℤ, pos, unsigned_abs, int_le, nat_lt, nat_le, List, [], ◌∷◌, ◌++◌, length, map, sum, slice_index, slice_index_or, flat_map, codes, decimal, Bool, ◌&&◌, ◌||◌, Result, Ok, Err, if◌then◌else◌}
use Rattle.std.specs.Fmt.{signed_decimal}
use Rattle.std.specs.List.{position_or_len, range_with_len}
use Rattle.sgb_graph.specs.declared.refusal.Refusal.{Refusal}
use Rattle.sgb_graph.specs.declared.refusal.Refusal.TheVariants.{BadSpecs}
use Rattle.sgb_graph.specs.New.{six_zeros}
use Rattle.sgb_graph.specs.Builder.{Insertion, insertion}
use Rattle.sgb_plan.specs.Id.{id_of, flag_text}
use Rattle.sgb_plan.specs.Listing.{listed, shown}
use Rattle.sgb_plan.specs.Plan.{Named, Plan, no_letters}
use Rattle.sgb_perms.specs.declared.spec.PermsSpec.{PermsSpec}
use Rattle.sgb_perms.specs.Arrangement.{same_list, arrangements, greatest_from, descents, exchanged}

abbrev pub numbers_of : PermsSpec → List ℤ
numbers_of s = s.n0 ∷ s.n1 ∷ s.n2 ∷ s.n3 ∷ s.n4 ∷ []

-- how many elements there are of each kind; behind an end of -d there are d + 1 kinds
abbrev pub counts_of : PermsSpec → List ℕ
counts_of s = listed 1 (numbers_of s)

-- there is an element of kind 0, and there are at most 16 kinds and 255 elements
abbrev pub are_allowed : ℤ → ℤ → List ℕ → Bool
are_allowed n0 max_inv counts =
    int_le (pos 1) n0 && int_le (pos 0) max_inv && nat_le (length counts) 16 && nat_le (sum counts) 255

-- no limit, and one that is too large, become the greatest number of inversions
abbrev pub most_of : List ℕ → ℕ → ℕ
most_of counts limit =
    if limit == 0 || nat_lt (greatest_from 0 counts) limit then greatest_from 0 counts else limit

-- a kind's character
abbrev pub symbol : ℕ → ℕ
symbol kind = slice_index (codes "0123456789ABCDEF") kind

abbrev pub name_of : List ℕ → List ℕ
name_of a = map symbol a

abbrev pub row_vertex : List ℕ → Named
row_vertex a = record { label = name_of a; fields = six_zeros }

-- the arrangement of a vertex, and the vertex of an arrangement
abbrev pub row_at : List (List ℕ) → ℕ → List ℕ
row_at rows v = slice_index_or rows v []

abbrev pub place_of : List (List ℕ) → List ℕ → ℕ
place_of rows a = position_or_len (same_list a) rows

-- an exchange leads to a vertex from the one with these two elements exchanged
abbrev pub exchange : List (List ℕ) → ℕ → List ℕ → ℕ → Insertion
exchange rows v a place = insertion (place_of rows (exchanged a place)) v (pos 1)

-- those that lead to a vertex, from the left
unfoldable pub exchanges_of : List (List ℕ) → ℕ → List ℕ → List Insertion
exchanges_of rows v a = map (exchange rows v a) (descents a)

unfoldable pub exchanges : List (List ℕ) → List Insertion
exchanges rows = flat_map (λ v. exchanges_of rows v (row_at rows v)) (range_with_len 0 (length rows))

-- the numbers behind the end of their list are shown as 0, and the most inversions in place of their limit
abbrev pub perms_id : PermsSpec → ℕ → List ℕ
perms_id s most =
    id_of (codes "perms")
    (map signed_decimal (shown (numbers_of s)) ++ decimal most ∷ flag_text s.directed ∷ [])

unfoldable pub perms_plan : PermsSpec → ℕ → List (List ℕ) → Plan
perms_plan s most rows = record {
  id = perms_id s most;
  types = no_letters;
  vertices = map row_vertex rows;
  directed = s.directed;
  insertions = exchanges rows;
}

unfoldable pub plan_of_perms : PermsSpec → Result Plan Refusal
plan_of_perms s =
    let counts : List ℕ = counts_of s in
    let most : ℕ = most_of counts (unsigned_abs s.max_inv) in
    if are_allowed s.n0 s.max_inv counts then Ok (perms_plan s most (arrangements counts most)) else Err BadSpecs
