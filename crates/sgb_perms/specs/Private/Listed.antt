-- How the arrangements are listed: kind after kind, each copy is inserted among the smaller elements.
use Rattle.std.specs.Prelude.{◌+◌, ◌-◌, ℕ, zero, suc, min, List, [], ◌∷◌, length, insert, flat_map}
use Rattle.std.specs.List.{range_with_len}

-- a copy of the kind with so many elements behind it
abbrev pub placed : List ℕ → ℕ → ℕ → List ℕ
placed row kind x = insert row (length row - x) kind

-- copies of the kind are inserted, each with no more elements behind it than the one before, and with at most `left`
-- together; then `next` goes on with what is left
unfoldable pub copies_from : ℕ → ℕ → (ℕ → List ℕ → List (List ℕ)) → ℕ → ℕ → List ℕ → List (List ℕ)
copies_from zero kind next right left row = next left row
copies_from (suc n) kind next right left row =
    flat_map (λ x. copies_from n kind next x (left - x) (placed row kind x)) (range_with_len 0 (min right left + 1))

-- the same for each of the kinds from this one on, with these counts
unfoldable pub rows_from : ℕ → List ℕ → ℕ → List ℕ → List (List ℕ)
rows_from kind [] left row = row ∷ []
rows_from kind (c ∷ counts) left row = copies_from c kind (rows_from (kind + 1) counts) (length row) left row
