-- The words of a line.
use Rattle.std.specs.Prelude.{ℕ, ◌==◌, nat_le, Bool, false, not, ◌&&◌, ◌||◌, if◌then◌else◌, List, [], ◌∷◌, ◌++◌, map, length, filter, slice_index, Option, None, Some}
use Rattle.std.specs.Option.{option_map}
use Rattle.std.specs.List.{slice_split, list_any}

-- a word, or what stands between two quotes
pub data Word : Type 0 where
  Plain : List ℕ → Word
  Quoted : List ℕ → Word

-- the runs of bytes other than the space
abbrev pub plain_words : List ℕ → List Word
plain_words bytes = map Plain (filter (λ w. not (length w == 0)) (slice_split (λ b. b == 32) bytes))

abbrev pub begins_with_space : List ℕ → Bool
begins_with_space bytes = slice_index bytes 0 == 32

abbrev pub ends_with_space : List ℕ → Bool
ends_with_space [] = false
ends_with_space (b ∷ []) = b == 32
ends_with_space (b ∷ c ∷ cs) = ends_with_space (c ∷ cs)

-- a text between quotes: at most 4,095 bytes, and no backslash
abbrev pub is_quotable : List ℕ → Bool
is_quotable t = nat_le (length t) 4095 && not (list_any (λ b. b == 92) t)

-- What stands outside and inside the quotes, in turns. A quoted text begins where a word can, and behind it comes a
-- space or the end.
abbrev pub words_in : List (List ℕ) → Option (List Word)
words_in [] = None
words_in (p ∷ []) = Some (plain_words p)
words_in (p ∷ t ∷ []) = None
words_in (p ∷ t ∷ q ∷ more) =
    if (length p == 0 || ends_with_space p) && is_quotable t && (begins_with_space q || (length q == 0 && length more == 0))
    then option_map (λ ws. plain_words p ++ Quoted t ∷ ws) (words_in (q ∷ more))
    else None

unfoldable pub words_of : List ℕ → Option (List Word)
words_of line = words_in (slice_split (λ b. b == 34) line)
