-- How the items of a record are laid in lines of at most 79 bytes.
use Rattle.std.specs.Prelude.{ℕ, zero, suc, ◌+◌, ◌-◌, ◌==◌, ◌&&◌, nat_lt, not, Bool, true, false, List, [], ◌∷◌, ◌++◌, take, drop, length, if◌then◌else◌}

-- an item that is longer than a line: each line but the last has 78 bytes of it, a backslash and a newline
unfoldable pub cut : ℕ → List ℕ → List ℕ
cut zero bs = bs
cut (suc m) bs = if nat_lt 79 (length bs) then take 78 bs ++ 92 ∷ 10 ∷ cut m (drop 78 bs) else bs

-- how many of n bytes stand in the last of those lines
unfoldable pub last_width : ℕ → ℕ → ℕ
last_width zero n = n
last_width (suc m) n = if nat_lt 79 n then last_width m (n - 78) else n

-- the line has no room for so many bytes more; an empty one takes any item
abbrev pub is_past : ℕ → ℕ → Bool
is_past column width = not (column == 0) && nat_lt 79 (column + width)

-- an item from this column on, and the column behind it
abbrev pub break_before : ℕ → ℕ → List ℕ
break_before column width = if is_past column width then 10 ∷ [] else []

abbrev pub placed_at : ℕ → List ℕ → List ℕ
placed_at column item = break_before column (length item) ++ cut (length item) item

abbrev pub column_behind : ℕ → ℕ → ℕ
column_behind column width = (if is_past column width then 0 else column) + last_width width width

-- a comma stands behind an item that another follows
abbrev pub comma_if : Bool → List ℕ → List ℕ
comma_if more word = if more then word ++ 44 ∷ [] else word

abbrev pub is_followed : List (List ℕ) → Bool
is_followed [] = false
is_followed (w ∷ ws) = true

-- the items of a record from this column on, with its newline
unfoldable pub laid : ℕ → List (List ℕ) → List ℕ
laid column [] = 10 ∷ []
laid column (w ∷ ws) =
    let item = comma_if (is_followed ws) w in
    placed_at column item ++ laid (column_behind column (length item)) ws
