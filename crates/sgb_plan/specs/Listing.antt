-- Lists that stand for longer ones: the first number that is not above 0 ends them, and says how they go on.
use Rattle.std.specs.Prelude.{◌+◌, ◌%◌, ◌==◌, ℕ, suc, ℤ, pos, negsuc, unsigned_abs, int_lt, nat_le, List, [], ◌∷◌, length, map, drop, get_or, Bool, if◌then◌else◌}
use Rattle.std.specs.List.{prefix_len, range_with_len}

abbrev pub is_positive : ℤ → Bool
is_positive n = int_lt (pos 0) n

-- how many numbers stand before the end
abbrev pub leading : List ℤ → ℕ
leading ns = prefix_len is_positive ns

-- how many numbers are listed, by what the end is: 0 and no end list those before it, -d lists d, and `more`
abbrev pub count_from : ℕ → ℕ → List ℤ → ℕ
count_from more before [] = before
count_from more before (pos n ∷ behind) = before
count_from more before (negsuc d ∷ behind) = suc d + more

-- and nothing is listed where nothing stands before the end
abbrev pub count_of : ℕ → List ℤ → ℕ
count_of more ns = if leading ns == 0 then 0 else count_from more (leading ns) (drop (leading ns) ns)

-- number i of those before the end, which are counted again and again
abbrev pub listed_at : List ℤ → ℕ → ℕ
listed_at ns i = unsigned_abs (get_or ns (i % leading ns) (pos 0))

-- the numbers before the end, repeated or cut to as many as are listed
unfoldable pub listed : ℕ → List ℤ → List ℕ
listed more ns = map (listed_at ns) (range_with_len 0 (count_of more ns))

-- the number at place i, as ids show it: the numbers behind the end become 0
abbrev pub shown_at : List ℤ → ℕ → ℤ
shown_at ns i = if nat_le i (leading ns) then get_or ns i (pos 0) else pos 0

unfoldable pub shown : List ℤ → List ℤ
shown ns = map (shown_at ns) (range_with_len 0 (length ns))
