-- Bits that are packed one after another, as the writer of graph6 does.
use Rattle.std.specs.Prelude.{◌≤◌, ◌+◌, ◌*◌, ◌/◌, ◌==◌, ℕ, List, [], ◌∷◌, ◌++◌, Bool, if◌then◌else◌}
use Rattle.sgb_export.specs.declared.graph6.Six.{Six}
use Rattle.sgb_export.specs.Graph6.{digit}

-- whatever bits are to come, six bits stay below 64
pub record IsSix (s : Six) : Type 0 where
  pub some : 1 ≤ s.weight
  pub few : s.value + 2 * s.weight ≤ 64

-- before the first bit of a byte
abbrev pub new_six : Six
new_six = record { value = 0; weight = 32 }

-- one bit more, which may complete the byte
abbrev pub value_with : Six → Bool → ℕ
value_with s b = s.value + s.weight * digit b

abbrev pub six_with : Six → Bool → Six
six_with s b = if s.weight == 1 then new_six else record { value = value_with s b; weight = s.weight / 2 }

abbrev pub byte_with : Six → Bool → List ℕ
byte_with s b = if s.weight == 1 then (63 + value_with s b) ∷ [] else []

-- more bits, and the bytes that they complete
unfoldable pub six_after : Six → List Bool → Six
six_after s [] = s
six_after s (b ∷ bits) = six_after (six_with s b) bits

unfoldable pub bytes_with : Six → List Bool → List ℕ
bytes_with s [] = []
bytes_with s (b ∷ bits) = byte_with s b ++ bytes_with (six_with s b) bits

-- the byte that is begun
abbrev pub last_byte : Six → List ℕ
last_byte s = if s.weight == 32 then [] else (63 + s.value) ∷ []
