-- What is kept of a line while its bytes come.
use Rattle.std.specs.Prelude.{◌≡◌, ℕ, ◌<◌, ◌==◌, Bool, false, nat_lt, slice_index, List, length, take, drop}
use Rattle.std.specs.List.{list_all}
use Rattle.sgb_shell.specs.Unit.{unindented}

-- six bytes from the first that is no space, and whether only spaces follow them
pub record LineFront : Type 0 where
  pub bytes : List ℕ
  pub ends : Bool

-- its first 8,192 bytes, whether there are more, and how it begins
pub record HeldLine : Type 0 where
  pub bytes : List ℕ
  pub is_long : Bool
  pub first : LineFront

abbrev pub front_of : List ℕ → LineFront
front_of line = record { bytes = take 6 (unindented line); ends = list_all (λ b. b == 32) (drop 6 (unindented line)) }

abbrev pub is_above : List ℕ → Bool
is_above line = nat_lt 8192 (length line)

unfoldable pub held_line : List ℕ → HeldLine
held_line line = record { bytes = take 8192 line; is_long = is_above line; first = front_of line }

-- the bytes begin with this line, and a newline behind it
pub record IsFirstLine (line bytes : List ℕ) : Type 0 where
  pub within : length line < length bytes
  pub front : line ≡ take (length line) bytes
  pub newline : slice_index bytes (length line) ≡ 10
  pub plain : (k : ℕ) → k < length line → (slice_index bytes k == 10) ≡ false

-- the bytes have no newline
abbrev pub HasNoNewline : List ℕ → Type 0
HasNoNewline bytes = (k : ℕ) → k < length bytes → (slice_index bytes k == 10) ≡ false
