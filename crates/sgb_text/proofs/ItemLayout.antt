-- What is laid of items is read as the items, wherever lines end.
use Rattle.std.proofs.Common.{◌≡◌, ℕ, ℤ, zero, suc, ◌^◌, ◌<◌, ◌≤◌, ◌==◌, Bool, true, false, nat_lt, List, [], ◌∷◌, ◌++◌, take, drop, length, Option, Some, pos, negsuc, refl, sym, ap, ◌∙◌, inl, inr, arith, append_assoc, length-append, FitsSigned, w64, if◌then◌else◌}
use Rattle.std.specs.List.{list_all}
use Rattle.std.specs.Fmt.{decimal, signed_decimal}
use Rattle.std.specs.Str.Parse.{AllDigits}
use Rattle.std.proofs.lemmas.Bool.{cases_Bool, ne_eqb}
use Rattle.sgb_graph.specs.Text.{is_text_byte}
use Rattle.sgb_grammar.specs.Reading.{◌>>=◌}
use Rattle.sgb_grammar.specs.Number.{digits_in, number_at, count_at}
use Rattle.sgb_grammar.specs.String.{text_at}
use Rattle.sgb_grammar.specs.Field.{after_break, comma_at}
use Rattle.sgb_text.specs.Layout.{cut, is_past, break_before, placed_at, column_behind, comma_if, is_followed, laid}
use Rattle.sgb_text.specs.Save.{quoted}
use Rattle.sgb_text.proofs.Cuts.{cut_short}
use Rattle.sgb_text.proofs.Digits.{count_spelled, number_spelled, digit_start, decimal_digits, decimal_some, decimal_short, signed_short}
use Rattle.sgb_text.proofs.Quotes.{text_cut}

-- an item with its comma, and with what follows it
abbrev pub item_of : List ℕ → List (List ℕ) → List ℕ
item_of w ws = comma_if (is_followed ws) w

abbrev pub from_item : ℕ → List ℕ → List (List ℕ) → List ℕ → List ℕ
from_item column w ws rest = cut (length (item_of w ws)) (item_of w ws) ++ (laid column ws ++ rest)

-- what stands behind an item: a comma and those that follow, or the record's end
abbrev pub behind_item : ℕ → List (List ℕ) → List ℕ → List ℕ
behind_item column [] rest = 10 ∷ rest
behind_item column (w ∷ ws) rest = 44 ∷ (laid column (w ∷ ws) ++ rest)

-- the reader reads x of the item
abbrev pub IsRead : {A : Type 0} → (List ℕ → Option (A × List ℕ)) → List ℕ → A → Type 0
IsRead r w x = (ws : List (List ℕ)) (column : ℕ) (rest : List ℕ) → r (from_item column w ws rest) ≡ Some (x, behind_item column ws rest)

pub then_read : {A B : Type 0} (o : Option A) (x : A) (f : A → Option B) (y : Option B) → o ≡ Some x → f x ≡ y → (o >>= f) ≡ y
then_read o x f y e h = ap (λ p. p >>= f) e ∙ h

pub read_as : {A B : Type 0} (r : List ℕ → Option (A × List ℕ)) (f : A × List ℕ → Option (B × List ℕ)) (w : List ℕ) (x : A) (y : B)
    → ((rest : List ℕ) → f (x, rest) ≡ Some (y, rest)) → IsRead r w x → IsRead (λ bs. r bs >>= f) w y
read_as r f w x y same read ws column rest = ap (λ p. p >>= f) (read ws column rest) ∙ same (behind_item column ws rest)

-- ---- items within a line
pub short_item : {A : Type 0} (r : List ℕ → Option (A × List ℕ)) (w : List ℕ) (x : A) → length w ≤ 78
    → ((rest : List ℕ) → digits_in rest ≡ 0 → r (w ++ rest) ≡ Some (x, rest)) → IsRead r w x
unfolding laid
short_item r w x short read [] column rest =
    ap (λ bs. r (bs ++ 10 ∷ rest)) (cut_short (length w) w (omega arith)) ∙ read (10 ∷ rest) refl
short_item r w x short read (v ∷ vs) column rest =
    ap (λ bs. r (bs ++ (laid column (v ∷ vs) ++ rest))) (cut_short (length (w ++ 44 ∷ [])) (w ++ 44 ∷ []) (omega (arith, length-append w (44 ∷ []))))
    ∙ ap r (append_assoc w (44 ∷ []) (laid column (v ∷ vs) ++ rest))
    ∙ read (44 ∷ (laid column (v ∷ vs) ++ rest)) refl

pub count_item : (n : ℕ) → n < 2 ^ 63 → IsRead count_at (decimal n) n
count_item n small = short_item count_at (decimal n) n (omega (arith, decimal_short n (omega arith))) (λ rest none. count_spelled n rest small none)

pub number_item : (z : ℤ) → FitsSigned w64 z → IsRead number_at (signed_decimal z) z
number_item z fits = short_item number_at (signed_decimal z) z (omega (arith, signed_short z fits)) (λ rest none. number_spelled z rest fits none)

-- ---- texts
quoted_more : (t : List ℕ) → (34 ∷ (t ++ 34 ∷ [])) ++ 44 ∷ [] ≡ 34 ∷ (t ++ 34 ∷ 44 ∷ [])
quoted_more t = ap (λ bs. 34 ∷ bs) (append_assoc t (34 ∷ []) (44 ∷ []))

pub text_item : (limit : ℕ) (t : List ℕ) → list_all is_text_byte t ≡ true → length t ≤ limit → IsRead (text_at limit) (quoted t) t
unfolding laid
text_item limit t all few [] column rest = text_cut limit (length (quoted t)) t [] (10 ∷ rest) all few (omega arith)
text_item limit t all few (v ∷ vs) column rest =
    ap (λ bs. text_at limit (cut (length bs) bs ++ (laid column (v ∷ vs) ++ rest))) (quoted_more t)
    ∙ text_cut limit (length (34 ∷ (t ++ 34 ∷ 44 ∷ []))) t (44 ∷ []) (laid column (v ∷ vs) ++ rest) all few (omega arith)

-- ---- commas
pub record Starts (w : List ℕ) : Type 0 where
  pub first : ℕ
  pub others : List ℕ
  pub whole : w ≡ first ∷ others
  pub same_line : (first == 10) ≡ false

cut_starts : (m c : ℕ) (cs : List ℕ) → (c == 10) ≡ false → Starts (cut m (c ∷ cs))
unfolding cut
cut_starts zero c cs h = record { first = c; others = cs; whole = refl; same_line = h }
cut_starts (suc m) c cs h = elim (cases_Bool (nat_lt 79 (suc (length cs)))) [
  | inl long ↦ record { first = c; others = take 77 cs ++ 92 ∷ 10 ∷ cut m (drop 77 cs); whole = rw long refl; same_line = h }
  | inr short ↦ record { first = c; others = cs; whole = rw short refl; same_line = h }
]

starts_same : (v w : List ℕ) → v ≡ w → Starts v → Starts w
starts_same v w e s = record { first = s.first; others = s.others; whole = sym e ∙ s.whole; same_line = s.same_line }

starts_more : (w rest : List ℕ) → Starts w → Starts (w ++ rest)
starts_more w rest s = record { first = s.first; others = s.others ++ rest; whole = ap (λ bs. bs ++ rest) s.whole; same_line = s.same_line }

starts_item : (w : List ℕ) (b : Bool) → Starts w → Starts (comma_if b w)
starts_item w true s = starts_more w (44 ∷ []) s
starts_item w false s = s

starts_cut : (w : List ℕ) → Starts w → Starts (cut (length w) w)
starts_cut w s =
    starts_same (cut (length w) (s.first ∷ s.others)) (cut (length w) w) (ap (cut (length w)) (sym s.whole)) (cut_starts (length w) s.first s.others s.same_line)

no_break : (b : Bool) (bs : List ℕ) → Starts bs → after_break ((if b then 10 ∷ [] else []) ++ bs) ≡ bs
no_break true bs s = refl
no_break false bs s = ap after_break s.whole ∙ kept s.first s.others s.same_line ∙ sym s.whole
  where
    kept : (c : ℕ) (cs : List ℕ) → (c == 10) ≡ false → after_break (c ∷ cs) ≡ c ∷ cs
    kept c cs h = rw h refl

comma_first : (bs : List ℕ) → comma_at (44 ∷ bs) ≡ Some (after_break bs)
unfolding comma_at
comma_first bs = refl

laid_first : (column : ℕ) (w : List ℕ) (ws : List (List ℕ)) (rest : List ℕ)
    → laid column (w ∷ ws) ++ rest ≡ break_before column (length (item_of w ws)) ++ from_item (column_behind column (length (item_of w ws))) w ws rest
unfolding laid
laid_first column w ws rest =
    let item = item_of w ws in
    let others = laid (column_behind column (length item)) ws in
    append_assoc (placed_at column item) others rest
    ∙ append_assoc (break_before column (length item)) (cut (length item) item) (others ++ rest)

pub comma_item : (column : ℕ) (w : List ℕ) (ws : List (List ℕ)) (rest : List ℕ) → Starts w
    → comma_at (behind_item column (w ∷ ws) rest) ≡ Some (from_item (column_behind column (length (item_of w ws))) w ws rest)
comma_item column w ws rest s =
    let item = item_of w ws in
    let next = column_behind column (length item) in
    comma_first (laid column (w ∷ ws) ++ rest)
    ∙ ap (λ bs. Some (after_break bs)) (laid_first column w ws rest)
    ∙ ap Some (no_break (is_past column (length item)) (from_item next w ws rest)
    (starts_more (cut (length item) item) (laid next ws ++ rest) (starts_cut item (starts_item w (is_followed ws) s))))

-- the first item of a record
pub first_item : (w : List ℕ) (ws : List (List ℕ)) (rest : List ℕ) → laid 0 (w ∷ ws) ++ rest ≡ from_item (column_behind 0 (length (item_of w ws))) w ws rest
first_item w ws rest = laid_first 0 w ws rest

pub starts_quoted : (t : List ℕ) → Starts (quoted t)
starts_quoted t = record { first = 34; others = t ++ 34 ∷ []; whole = refl; same_line = refl }

starts_digits : (ds : List ℕ) → AllDigits 10 ds → 0 < length ds → Starts ds
starts_digits [] d some = absurd (omega arith)
starts_digits (c ∷ cs) d some = record { first = c; others = cs; whole = refl; same_line = ne_eqb c 10 (λ e. absurd (omega (arith, digit_start c cs d))) }

pub starts_count : (n : ℕ) → n < 2 ^ 64 → Starts (decimal n)
starts_count n small = starts_digits (decimal n) (decimal_digits n small) (decimal_some n small)

pub starts_number : (z : ℤ) → FitsSigned w64 z → Starts (signed_decimal z)
starts_number (pos n) fits = let small : n < 2 ^ 63 = fits.sfits in starts_count n (omega arith)
starts_number (negsuc n) fits = record { first = 45; others = decimal (suc n); whole = refl; same_line = refl }
