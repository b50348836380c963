-- Strings: texts between double quotes. Inside one a line may end behind a backslash.
use Rattle.std.specs.Prelude.{ℕ, ◌==◌, nat_le, Bool, true, false, List, [], ◌∷◌, length, Option, Some, None, option_and_then, if◌then◌else◌}
use Rattle.sgb_graph.specs.Text.{is_text_byte}
use Rattle.sgb_grammar.specs.Reading.{after, behind}

-- the text up to the closing quote; with `true` behind a backslash, where the line must end
unfoldable pub inside_at : Bool → List ℕ → Option (List ℕ × List ℕ)
inside_at true [] = None
inside_at true (c ∷ cs) = if c == 10 then inside_at false cs else None
inside_at false [] = None
inside_at false (c ∷ cs) =
    if c == 34 then Some ([], cs)
    else (if c == 92 then inside_at true cs
    else (if is_text_byte c then behind (c ∷ []) (inside_at false cs) else None))

-- a text of so many bytes at most
abbrev pub within : ℕ → List ℕ × List ℕ → Option (List ℕ × List ℕ)
within limit p = if nat_le (length p.0) limit then Some p else None

unfoldable pub text_at : ℕ → List ℕ → Option (List ℕ × List ℕ)
text_at limit bs = option_and_then (λ inside. option_and_then (within limit) (inside_at false inside)) (after (34 ∷ []) bs)
