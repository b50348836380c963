-- The lines of a text, from the first on.
use Rattle.std.proofs.Common.{◌≡◌, ℕ, ◌+◌, ◌-◌, true, false, ◌==◌, List, [], ◌∷◌, ◌++◌, length, take, Option, Some, None, refl, sym, ap, ◌∙◌, arith, map, get_or, Bor}
use Rattle.std.specs.List.{enumerate_from, All}
use Rattle.std.specs.Option.{option_map_or}
use Rattle.std.proofs.lemmas.List.Splits.{slice_split_at, slice_split_none}
use Rattle.sgb_import.specs.Lines.{LineOf, lines, without_return}
use Rattle.sgb_import.specs.Private.Cursors.{lines_from, Parts}

pub lines_is : (text : List ℕ) → lines_from 1 text ≡ lines text
unfolding lines lines_from
lines_is text = refl

abbrev pub line : ℕ → List ℕ → LineOf
line number bytes = record { number = number; bytes = without_return bytes }

last_line : (number : ℕ) (text : List ℕ) → All (λ b. (b == 10) ≡ false) text → lines_from number text ≡ line number text ∷ []
unfolding lines_from
last_line number text plain = ap (λ parts. map (λ p. line p.0 p.1) (enumerate_from number parts)) (slice_split_none (λ b. b == 10) text plain)

first_line : (number : ℕ) (front rest : List ℕ) → All (λ b. (b == 10) ≡ false) front → lines_from number (front ++ 10 ∷ rest) ≡ line number front ∷ lines_from (number + 1) rest
unfolding lines_from
first_line number front rest plain = ap (λ parts. map (λ p. line p.0 p.1) (enumerate_from number parts)) (slice_split_at (λ b. b == 10) front 10 rest plain refl)

pub next_line : (number : ℕ) (text front : List ℕ) (rest : Option (Bor (List ℕ))) → Parts text front rest → lines_from number text ≡ line number front ∷ option_map_or (λ r. lines_from (number + 1) r.now) rest []
next_line number text front None parts = ap (lines_from number) parts.0 ∙ last_line number front parts.1
next_line number text front (Some rest) parts = ap (lines_from number) parts.0 ∙ first_line number front rest.now parts.1

pub next_left : (number : ℕ) (left : Option (Bor (List ℕ))) (text : Bor (List ℕ)) (front bytes : List ℕ) (rest : Option (Bor (List ℕ))) → left ≡ Some text → Parts text.now front rest → bytes ≡ without_return front
    → option_map_or (λ r. lines_from number r.now) left [] ≡ record { number = number; bytes = bytes } ∷ option_map_or (λ r. lines_from (number + 1) r.now) rest []
next_left number left text front bytes rest left_is parts bytes_is =
    ap (λ l. option_map_or (λ (r : Bor (List ℕ)). lines_from number r.now) l []) left_is
    ∙ next_line number text.now front rest parts
    ∙ sym (ap (λ b. record { number = number; bytes = b } ∷ option_map_or (λ (r : Bor (List ℕ)). lines_from (number + 1) r.now) rest []) bytes_is)

-- ---- the return at the end
last_return : (b : ℕ) (bs : List ℕ) → (get_or (b ∷ bs) (length bs) 0 == 13) ≡ true → take (length bs) (b ∷ bs) ≡ without_return (b ∷ bs)
last_return b [] last = rw last refl
last_return b (c ∷ cs) last = ap (λ t. b ∷ t) (last_return c cs last)

no_return : (b : ℕ) (bs : List ℕ) → (get_or (b ∷ bs) (length bs) 0 == 13) ≡ false → b ∷ bs ≡ without_return (b ∷ bs)
no_return b [] last = rw last refl
no_return b (c ∷ cs) last = ap (λ t. b ∷ t) (no_return c cs last)

one_less : (b : ℕ) (bs : List ℕ) → length (b ∷ bs) - 1 ≡ length bs
one_less b bs = omega arith

pub with_return : (bs : List ℕ) → (get_or bs (length bs - 1) 0 == 13) ≡ true → take (length bs - 1) bs ≡ without_return bs
with_return [] last = refl
with_return (b ∷ bs) last = rw (one_less b bs) (last_return b bs (rw (one_less b bs) at last))

pub without : (bs : List ℕ) → (get_or bs (length bs - 1) 0 == 13) ≡ false → bs ≡ without_return bs
without [] last = refl
without (b ∷ bs) last = no_return b bs (rw (one_less b bs) at last)
