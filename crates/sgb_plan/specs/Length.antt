-- Lengths that are drawn from a range.
use Rattle.std.specs.Prelude.{◌+◌, ◌^◌, ◌+ℤ◌, ◌-ℤ◌, ℕ, ℤ, pos, unsigned_abs, int_le, nat_lt, Option, None, if◌then◌else◌}
use Rattle.std.specs.Ordering.{int_eq}
use Rattle.sgb_flip.specs.Generator.{Generator, Uniform, uniform}
use Rattle.sgb_graph.specs.declared.refusal.Refusal.{Refusal}
use Rattle.sgb_graph.specs.declared.refusal.Refusal.TheVariants.{TooLarge, LengthRange}
use Rattle.sgb_graph.specs.Edit.{refusal_unless}

-- how far min and max are apart
abbrev pub width : ℤ → ℤ → ℕ
width min max = unsigned_abs (max -ℤ min)

-- the first refusal of the lengths from min to max: there are none, or min and max are 2 ^ 31 apart or more
abbrev pub refusal_of_range : ℤ → ℤ → Option Refusal
refusal_of_range min max =
    refusal_unless (int_le min max) TooLarge
    (refusal_unless (nat_lt (width min max) (2 ^ 31)) LengthRange None)

-- a length, how many draws it took, and the generator after them
pub record LengthDraw : Type 0 where
  pub len : ℤ
  pub draws : ℕ
  pub rest : Generator

-- so far above min as a uniform number says
abbrev pub length_above : ℤ → Uniform → LengthDraw
length_above min u = record { len = min +ℤ pos u.value; draws = u.draws; rest = u.rest }

-- a length from min to max: min without a draw where they are equal, and else a uniform one
unfoldable pub drawn_length : ℤ → ℤ → Generator → LengthDraw
drawn_length min max w =
    if int_eq min max then record { len = min; draws = 0; rest = w }
    else length_above min (uniform w (width min max + 1))
