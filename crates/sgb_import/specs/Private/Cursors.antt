-- What the cursors of a text have left.
use Rattle.std.specs.Prelude.{◌≡◌, ◌+◌, ◌≤◌, ◌==◌, ◌^◌, ℕ, List, [], ◌∷◌, ◌++◌, map, length, All, false, Option, None, Some, MatchOption, ⊤}
use Rattle.std.specs.Option.{option_map_or}
use Rattle.std.specs.List.{slice_split, enumerate_from}
use Rattle.sgb_import.specs.Lines.{LineOf, without_return}
use Rattle.sgb_import.specs.declared.lines.Line.{Line}
use Rattle.sgb_import.specs.declared.lines.Lines.TheInside.{Inside}
use denote.Ref.{Bor}

-- a line of the program, which borrows its bytes from the text
abbrev pub seen : Line → LineOf
seen l = record { number = l.number; bytes = l.bytes.now }

-- the lines of a text whose first has this number
unfoldable pub lines_from : ℕ → List ℕ → List LineOf
lines_from number text = map (λ p. record { number = p.0; bytes = without_return p.1 }) (enumerate_from number (slice_split (λ b. b == 10) text))

abbrev pub lines_left : Inside → List LineOf
lines_left l = option_map_or (λ rest. lines_from l.number rest.now) l.rest []

-- the number of no line that is left wraps
abbrev pub IsNumbered : Inside → Type 0
IsNumbered l = MatchOption l.rest ⊤ (λ rest. l.number + length rest.now ≤ 2 ^ 63)

-- the bytes before the first newline, and those behind it if there is one
abbrev pub Parts : List ℕ → List ℕ → Option (Bor (List ℕ)) → Type 0
Parts text line None = (text ≡ line) × All (λ b. (b == 10) ≡ false) line
Parts text line (Some rest) = (text ≡ line ++ 10 ∷ rest.now) × All (λ b. (b == 10) ≡ false) line
