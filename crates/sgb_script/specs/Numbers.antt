-- The numbers of a line.
use Rattle.std.specs.Prelude.{ℕ, ◌-◌, ◌^◌, ◌==◌, nat_lt, nat_le, Bool, true, not, ◌&&◌, if◌then◌else◌, List, [], ◌∷◌, length, min, ℤ, pos, negsuc, neg_ℤ, Option, None, Some, option_and_then}
use Rattle.std.specs.Str.{all_ascii_digits}
use Rattle.std.specs.Str.Parse.{digits_value}
use Rattle.sgb_graph.specs.declared.field.VertexNo.{VertexNo}
use Rattle.sgb_graph.specs.declared.field.ArcNo.{ArcNo}

-- the number that digits spell, one digit or more
unfoldable pub natural_of : List ℕ → Option ℕ
natural_of ds = if not (length ds == 0) && all_ascii_digits ds then Some (digits_value 10 ds) else None

-- the number that bytes spell, digits and a minus before them, where it fits in 64 bits
unfoldable pub number_of : List ℕ → Option ℤ
number_of [] = None
number_of (c ∷ cs) =
    if c == 45
    then option_and_then (λ n. if nat_le n (2 ^ 63) then Some (neg_ℤ (pos n)) else None) (natural_of cs)
    else option_and_then (λ n. if nat_lt n (2 ^ 63) then Some (pos n) else None) (natural_of (c ∷ cs))

-- the k of Vk or Ak, which fits in 63 bits
unfoldable pub index_of : List ℕ → Option ℤ
index_of ds = option_and_then (λ n. if nat_lt n (2 ^ 63) then Some (pos n) else None) (natural_of ds)

-- digits alone, of a number below 2^64
unfoldable pub bits_of : List ℕ → Option ℕ
bits_of ds = option_and_then (λ n. if nat_lt n (2 ^ 64) then Some n else None) (natural_of ds)

-- 0 is no, and every other number yes
abbrev pub is_yes : ℤ → Bool
is_yes (pos n) = not (n == 0)
is_yes (negsuc n) = true

-- a number as one of 32 bits; what is none of them becomes the greatest
abbrev pub in_32_bits : ℤ → ℕ
in_32_bits (pos n) = min n (2 ^ 32 - 1)
in_32_bits (negsuc n) = 2 ^ 32 - 1

abbrev pub vertex_no : ℤ → VertexNo
vertex_no z = record { 0 = in_32_bits z }

abbrev pub arc_no : ℤ → ArcNo
arc_no z = record { 0 = in_32_bits z }
