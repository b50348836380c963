-- The first line of a saved text.
use Rattle.std.specs.Prelude.{ℕ, ◌==◌, ◌&&◌, Bool, true, List, [], ◌∷◌, take, drop, length, codes, Option, Some, None, if◌then◌else◌}
use Rattle.std.specs.List.{list_all}
use Rattle.sgb_graph.specs.Types.{is_letter}
use Rattle.sgb_grammar.specs.declared.header.Header.{Header}
use Rattle.sgb_grammar.specs.Reading.{◌>>=◌, after}
use Rattle.sgb_grammar.specs.Number.{count_at}

-- fourteen letters
unfoldable pub letters_at : List ℕ → Option (List ℕ × List ℕ)
letters_at bs = if length (take 14 bs) == 14 && list_all is_letter (take 14 bs) then Some (take 14 bs, drop 14 bs) else None

-- how many vertices, and how many arcs
unfoldable pub counts_at : List ℕ → Option ((ℕ × ℕ) × List ℕ)
counts_at bs = do
  n ← count_at bs
  rest ← after (codes "V,") n.1
  a ← count_at rest
  end ← after (codes "A)") a.1
  Some ((n.0, a.0), end)

-- the line ends here, or the text does
abbrev pub ends_line : List ℕ → Bool
ends_line [] = true
ends_line (c ∷ cs) = c == 10

-- the line's letters and counts; what follows is its end
unfoldable pub header_at : List ℕ → Option (Header × List ℕ)
header_at bs = do
  rest ← after (codes "* GraphBase graph (util_types ") bs
  types ← letters_at rest
  rest' ← after (codes ",") types.1
  counts ← counts_at rest'
  if ends_line counts.1 then Some (record { types = types.0; vertices = counts.0.0; arcs = counts.0.1 }, counts.1) else None
