-- Numbers as words spell them.
use Rattle.std.specs.Prelude.{ℕ, ◌^◌, ◌==◌, nat_lt, nat_le, not, ◌&&◌, if◌then◌else◌, List, [], ◌∷◌, length, ℤ, pos, neg_ℤ, Option, None, Some, option_and_then}
use Rattle.std.specs.Str.{all_ascii_digits}
use Rattle.std.specs.Str.Parse.{digits_value}

-- digits alone, one or more
unfoldable pub natural_of : List ℕ → Option ℕ
natural_of ds = if not (length ds == 0) && all_ascii_digits ds then Some (digits_value 10 ds) else None

-- digits, and a minus before them or none, of a number that fits in 64 bits
unfoldable pub length_of : List ℕ → Option ℤ
length_of [] = None
length_of (c ∷ cs) =
    if c == 45
    then option_and_then (λ n. if nat_le n (2 ^ 63) then Some (neg_ℤ (pos n)) else None) (natural_of cs)
    else option_and_then (λ n. if nat_lt n (2 ^ 63) then Some (pos n) else None) (natural_of (c ∷ cs))
