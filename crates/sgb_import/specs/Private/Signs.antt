-- The two halves of `length_of`.
use Rattle.std.specs.Prelude.{ℕ, ◌^◌, nat_lt, nat_le, if◌then◌else◌, List, ℤ, pos, neg_ℤ, Option, None, Some, option_and_then}
use Rattle.sgb_import.specs.Numbers.{natural_of}

-- digits alone
abbrev pub positive_of : List ℕ → Option ℤ
positive_of ds = option_and_then (λ n. if nat_lt n (2 ^ 63) then Some (pos n) else None) (natural_of ds)

-- what they spell behind a minus
abbrev pub negated_of : ℕ → Option ℤ
negated_of n = if nat_le n (2 ^ 63) then Some (neg_ℤ (pos n)) else None

abbrev pub negative_of : List ℕ → Option ℤ
negative_of ds = option_and_then negated_of (natural_of ds)
