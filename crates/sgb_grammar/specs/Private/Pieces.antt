-- Strings in pieces, as lines end inside them.
use Rattle.std.specs.Prelude.{◌≡◌, ◌<◌, ◌==◌, ◌||◌, not, ℕ, Bool, true, false, List, [], ◌∷◌, length, Option, Some, None, if◌then◌else◌}
use Rattle.std.specs.List.{list_all}
use Rattle.sgb_graph.specs.Text.{is_text_byte}
use Rattle.sgb_grammar.specs.Reading.{behind}
use Rattle.sgb_grammar.specs.String.{within}
use Rattle.sgb_grammar.specs.declared.strings.Piece.{Piece}
use Rattle.sgb_grammar.specs.declared.strings.Piece.TheVariants.{Last, Broken}
use Rattle.sgb_grammar.specs.declared.strings.Ending.{Ending}
use Rattle.sgb_grammar.specs.declared.strings.Ending.TheVariants as endings

-- what stands inside quotes, whatever its bytes are; with `true` behind a backslash, where the line must end
unfoldable pub joined_at : Bool → List ℕ → Option (List ℕ × List ℕ)
joined_at true [] = None
joined_at true (c ∷ cs) = if c == 10 then joined_at false cs else None
joined_at false [] = None
joined_at false (c ∷ cs) =
    if c == 34 then Some ([], cs)
    else (if c == 92 then joined_at true cs
    else behind (c ∷ []) (joined_at false cs))

-- it is a text, of so many bytes at most
abbrev pub text_within : ℕ → List ℕ × List ℕ → Option (List ℕ × List ℕ)
text_within limit p = if list_all is_text_byte p.0 then within limit p else None

-- a run that the closing quote or the line's end follows
abbrev pub Splits : Option Piece → List ℕ → Type 0
Splits None bs = joined_at false bs ≡ None
Splits (Some (Last run rest)) bs = joined_at false bs ≡ Some (run.now, rest.now)
Splits (Some (Broken run rest)) bs = (joined_at false bs ≡ behind run.now (joined_at false rest.now)) × (length rest.now < length bs)

-- what ends a run
abbrev pub Ends : Option Ending → List ℕ → Type 0
Ends None bs = joined_at false bs ≡ None
Ends (Some (endings.Quote rest)) bs = joined_at false bs ≡ Some ([], rest.now)
Ends (Some (endings.Line rest)) bs = (joined_at false bs ≡ joined_at false rest.now) × (length rest.now < length bs)

-- neither a quote nor a backslash, one of which ends a run
abbrev pub goes_on : ℕ → Bool
goes_on c = not (c == 34 || c == 92)
