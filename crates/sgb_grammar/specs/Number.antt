-- Numbers: one digit or more, and a minus before them where one is allowed.
use Rattle.std.specs.Prelude.{ℕ, ◌^◌, ◌==◌, nat_lt, nat_le, List, take, drop, codes, ℤ, pos, neg_ℤ, Option, None, Some, option_and_then, if◌then◌else◌}
use Rattle.std.specs.List.{prefix_len}
use Rattle.std.specs.Char.{is_ascii_digit}
use Rattle.std.specs.Str.Parse.{digits_value}
use Rattle.sgb_grammar.specs.Reading.{after}

-- how many digits the bytes begin with
abbrev pub digits_in : List ℕ → ℕ
digits_in bs = prefix_len is_ascii_digit bs

-- the number that these digits spell, leading zeros or not
unfoldable pub digits_at : List ℕ → Option (ℕ × List ℕ)
digits_at bs = if digits_in bs == 0 then None else Some (digits_value 10 (take (digits_in bs) bs), drop (digits_in bs) bs)

-- the number has a place in 64 bits with its sign
abbrev pub count_of : ℕ × List ℕ → Option (ℕ × List ℕ)
count_of p = if nat_lt p.0 (2 ^ 63) then Some p else None

abbrev pub positive_of : ℕ × List ℕ → Option (ℤ × List ℕ)
positive_of p = if nat_lt p.0 (2 ^ 63) then Some (pos p.0, p.1) else None

abbrev pub negative_of : ℕ × List ℕ → Option (ℤ × List ℕ)
negative_of p = if nat_le p.0 (2 ^ 63) then Some (neg_ℤ (pos p.0), p.1) else None

-- digits alone
unfoldable pub count_at : List ℕ → Option (ℕ × List ℕ)
count_at bs = option_and_then count_of (digits_at bs)

-- digits, and a minus before them or none
abbrev pub signed_at : Option (List ℕ) → List ℕ → Option (ℤ × List ℕ)
signed_at None bs = option_and_then positive_of (digits_at bs)
signed_at (Some ds) bs = option_and_then negative_of (digits_at ds)

unfoldable pub number_at : List ℕ → Option (ℤ × List ℕ)
number_at bs = signed_at (after (codes "-") bs) bs
