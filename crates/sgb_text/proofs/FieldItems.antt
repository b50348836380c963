-- What is laid of a record's fields is read as the fields.
use Rattle.std.proofs.Common.{◌≡◌, ◌≢◌, ◌⊎◌, ℕ, ℤ, pos, suc, ◌^◌, ◌<◌, ◌≤◌, ◌==◌, Bool, true, false, List, [], ◌∷◌, ◌++◌, map, zip, length, codes, Option, Some, None, refl, sym, ap, ◌∙◌, inl, inr, arith, subst, FitsSigned, w64, All, true≢false, int_eq, option_and_then, if◌then◌else◌}
use Rattle.std.specs.List.{list_all}
use Rattle.std.specs.Fmt.{decimal, signed_decimal, digits}
use Rattle.std.proofs.lemmas.Bool.{cases_Bool, eqb-true, and_parts, ne_eqb}
use Rattle.std.proofs.lemmas.Bool.Decides.{Decides-int_eq}
use Rattle.std.proofs.lemmas.List.Elements.{All-tail}
use Rattle.sgb_graph.specs.declared.field.VertexNo.{VertexNo}
use Rattle.sgb_graph.specs.declared.field.ArcNo.{ArcNo}
use Rattle.sgb_graph.specs.declared.field.Tip.{Tip}
use Rattle.sgb_graph.specs.declared.field.Tip.TheVariants as tips
use Rattle.sgb_graph.specs.declared.field.Util.{Util}
use Rattle.sgb_graph.specs.declared.field.Util.TheVariants.{Zero, Int, Vertex, Arc, Text}
use Rattle.sgb_graph.specs.Text.{IsText}
use Rattle.sgb_graph.specs.Types.{is_letter}
use Rattle.sgb_graph.specs.Honest.{is_allowed, are_allowed}
use Rattle.sgb_graph.specs.Edit.{stored}
use Rattle.sgb_grammar.specs.Reading.{◌>>=◌, behind, each_at}
use Rattle.sgb_grammar.specs.Number.{number_at}
use Rattle.sgb_grammar.specs.String.{text_at}
use Rattle.sgb_grammar.specs.Field.{index_at, link_at, tip_at, vertex_value_at, arc_value_at, value_at, field_at, fields_at, comma_at, some_arc, some_tip, some_integer, some_vertex, some_arc_value, some_text}
use Rattle.sgb_text.specs.Layout.{column_behind}
use Rattle.sgb_text.specs.Save.{quoted, link_text, tip_text, value_text, field_item, field_items}
use Rattle.sgb_text.proofs.Digits.{index_spelled, decimal_short}
use Rattle.sgb_text.proofs.ItemLayout.{item_of, from_item, behind_item, IsRead, then_read, read_as, short_item, number_item, text_item, comma_item, Starts, starts_quoted, starts_number}

-- a value whose text fits: what it names has a place in 32 bits
abbrev pub IsGood : Util → Type 0
IsGood Zero = Unit {0}
IsGood (Int z) = (z ≢ pos 0) × FitsSigned w64 z
IsGood (Vertex v) = v.0 < 2 ^ 32
IsGood (Arc a) = a.0 < 2 ^ 32
IsGood (Text t) = (t ≢ []) × IsText t

-- the value as it is read, which is stored as the value
abbrev pub raw : ℕ → Util → Util
raw letter Zero = if letter == 73 then Int (pos 0) else (if letter == 83 then Text [] else Zero)
raw letter (Int z) = Int z
raw letter (Vertex v) = Vertex v
raw letter (Arc a) = Arc a
raw letter (Text t) = Text t

abbrev pub raws : List ℕ → List Util → List Util
raws letters us = map (λ p. raw p.1 p.0) (zip us letters)

int_zero : (z : ℤ) → z ≢ pos 0 → int_eq z (pos 0) ≡ false
int_zero z ne = elim (cases_Bool (int_eq z (pos 0))) [
  | inl same ↦ absurd (ne ((Decides-int_eq z (pos 0)).0 same))
  | inr other ↦ other
]

text_some : (t : List ℕ) → t ≢ [] → stored (Text t) ≡ Text t
text_some [] ne = absurd (ne refl)
text_some (c ∷ cs) ne = some_length (length cs)
  where
    some_length : (n : ℕ) → (if suc n == 0 then Zero else Text (c ∷ cs)) ≡ Text (c ∷ cs)
    some_length n = rw (ne_eqb (suc n) 0 (λ e. absurd (omega arith))) refl

stored_raw : (l : ℕ) (u : Util) → IsGood u → stored (raw l u) ≡ u
stored_raw l Zero good = elim (cases_Bool (l == 73)) [
  | inl number ↦ rw number refl
  | inr other ↦ elim (cases_Bool (l == 83)) [
    | inl text ↦ rw (other, text) refl
    | inr neither ↦ rw (other, neither) refl
  ]
]
stored_raw l (Int z) good = rw (int_zero z good.0) refl
stored_raw l (Vertex v) good = refl
stored_raw l (Arc a) good = refl
stored_raw l (Text t) good = text_some t good.0

pub stored_raws : (ls : List ℕ) (us : List Util) → length us ≡ length ls → All IsGood us → us ≡ map stored (raws ls us)
stored_raws [] [] same good = refl
stored_raws [] (u ∷ us) same good = absurd (omega arith)
stored_raws (l ∷ ls) [] same good = absurd (omega arith)
stored_raws (l ∷ ls) (u ∷ us) same good =
    ap (λ x. x ∷ us) (sym (stored_raw l u (good 0 u (omega arith))))
    ∙ ap (λ xs. stored (raw l u) ∷ xs) (stored_raws ls us (omega arith) (All-tail IsGood u us good))

-- ---- letters
letter_view : (l : ℕ) → is_letter l ≡ true → (l == 90) ≡ false → (l ≡ 73) ⊎ ((l ≡ 86) ⊎ ((l ≡ 65) ⊎ (l ≡ 83)))
letter_view l letter some = elim (cases_Bool (l == 73)) [
  | inl i ↦ inl (eqb-true l 73 i)
  | inr not_i ↦ elim (cases_Bool (l == 86)) [
    | inl v ↦ inr (inl (eqb-true l 86 v))
    | inr not_v ↦ elim (cases_Bool (l == 83)) [
      | inl s ↦ inr (inr (inr (eqb-true l 83 s)))
      | inr not_s ↦ inr (inr (inl (eqb-true l 65 (rw (some, not_i, not_v, not_s) at letter))))
    ]
  ]
]

-- ---- what V and A name
numbered : (mark n : ℕ) → n < 2 ^ 32 → length (mark ∷ decimal n) ≤ 78
numbered mark n small = omega (arith, decimal_short n (omega arith))

vertex_first : (bs : List ℕ) → vertex_value_at (86 ∷ bs) ≡ (index_at bs >>= some_vertex)
unfolding vertex_value_at
vertex_first bs = refl

vertex_item : (v : VertexNo) → v.0 < 2 ^ 32 → IsRead vertex_value_at (86 ∷ decimal v.0) (Vertex v)
vertex_item v small =
    short_item vertex_value_at (86 ∷ decimal v.0) (Vertex v) (numbered 86 v.0 small)
    (λ rest none. vertex_first (decimal v.0 ++ rest) ∙ ap (λ p. p >>= some_vertex) (index_spelled v.0 rest small none))

vertex_zero : IsRead vertex_value_at (codes "0") Zero
unfolding vertex_value_at
vertex_zero = short_item vertex_value_at (codes "0") Zero (omega arith) (λ rest none. refl)

vertex_one : IsRead vertex_value_at (codes "1") (Int (pos 1))
unfolding vertex_value_at
vertex_one = short_item vertex_value_at (codes "1") (Int (pos 1)) (omega arith) (λ rest none. refl)

arc_first : (bs : List ℕ) → arc_value_at (65 ∷ bs) ≡ (index_at bs >>= some_arc_value)
unfolding arc_value_at
arc_first bs = refl

arc_item : (a : ArcNo) → a.0 < 2 ^ 32 → IsRead arc_value_at (65 ∷ decimal a.0) (Arc a)
arc_item a small =
    short_item arc_value_at (65 ∷ decimal a.0) (Arc a) (numbered 65 a.0 small)
    (λ rest none. arc_first (decimal a.0 ++ rest) ∙ ap (λ p. p >>= some_arc_value) (index_spelled a.0 rest small none))

arc_zero : IsRead arc_value_at (codes "0") Zero
unfolding arc_value_at
arc_zero = short_item arc_value_at (codes "0") Zero (omega arith) (λ rest none. refl)

arc_one : IsRead arc_value_at (codes "1") (Int (pos 1))
unfolding arc_value_at
arc_one = short_item arc_value_at (codes "1") (Int (pos 1)) (omega arith) (λ rest none. refl)

link_first : (bs : List ℕ) → link_at (65 ∷ bs) ≡ (index_at bs >>= some_arc)
unfolding link_at
link_first bs = refl

-- the arcs that a link may name
abbrev pub IsGoodLink : Option ArcNo → Type 0
IsGoodLink None = Unit {0}
IsGoodLink (Some k) = k.0 < 2 ^ 32

link_none : IsRead link_at (codes "0") None
unfolding link_at
link_none = short_item link_at (codes "0") None (omega arith) (λ rest none. refl)

pub link_item : (link : Option ArcNo) → IsGoodLink link → IsRead link_at (link_text link) link
link_item None good = link_none
link_item (Some k) small =
    short_item link_at (65 ∷ decimal k.0) (Some k) (numbered 65 k.0 small)
    (λ rest none. link_first (decimal k.0 ++ rest) ∙ ap (λ p. p >>= some_arc) (index_spelled k.0 rest small none))

abbrev pub IsGoodTip : Tip → Type 0
IsGoodTip tips.Zero = Unit {0}
IsGoodTip tips.One = Unit {0}
IsGoodTip (tips.To v) = v.0 < 2 ^ 32

tip_first : (bs : List ℕ) → tip_at (86 ∷ bs) ≡ (index_at bs >>= some_tip)
unfolding tip_at
tip_first bs = refl

tip_zero : IsRead tip_at (codes "0") tips.Zero
unfolding tip_at
tip_zero = short_item tip_at (codes "0") tips.Zero (omega arith) (λ rest none. refl)

tip_one : IsRead tip_at (codes "1") tips.One
unfolding tip_at
tip_one = short_item tip_at (codes "1") tips.One (omega arith) (λ rest none. refl)

pub tip_item : (tip : Tip) → IsGoodTip tip → IsRead tip_at (tip_text tip) tip
tip_item tips.Zero good = tip_zero
tip_item tips.One good = tip_one
tip_item (tips.To v) small =
    short_item tip_at (86 ∷ decimal v.0) (tips.To v) (numbered 86 v.0 small)
    (λ rest none. tip_first (decimal v.0 ++ rest) ∙ ap (λ p. p >>= some_tip) (index_spelled v.0 rest small none))

-- ---- values
integer_item : (z : ℤ) → FitsSigned w64 z → IsRead (λ bs. number_at bs >>= some_integer) (signed_decimal z) (Int z)
integer_item z fits = read_as number_at some_integer (signed_decimal z) z (Int z) (λ rest. refl) (number_item z fits)

string_item : (t : List ℕ) → IsText t → IsRead (λ bs. text_at 4095 bs >>= some_text) (quoted t) (Text t)
string_item t text = read_as (text_at 4095) some_text (quoted t) t (Text t) (λ rest. refl) (text_item 4095 t text.printable text.short)

abbrev Value : ℕ → Util → Type 0
Value l u = IsRead (value_at l) (value_text l u) (raw l u)

decimal_zero : decimal 0 ≡ codes "0"
unfolding digits
decimal_zero = refl

decimal_one : decimal 1 ≡ codes "1"
unfolding digits
decimal_one = refl

number_value : (u : Util) → is_allowed 73 u ≡ true → IsGood u → Value 73 u
number_value Zero allowed good = subst (λ (w : List ℕ). IsRead (value_at 73) w (Int (pos 0))) decimal_zero (integer_item (pos 0) (record { sfits = omega arith }))
number_value (Int z) allowed good = integer_item z good.1
number_value (Vertex v) allowed good = absurd (true≢false (sym allowed))
number_value (Arc a) allowed good = absurd (true≢false (sym allowed))
number_value (Text t) allowed good = absurd (true≢false (sym allowed))

one_value : (z : ℤ) → int_eq z (pos 1) ≡ true → z ≡ pos 1
one_value z h = (Decides-int_eq z (pos 1)).0 h

vertex_value : (u : Util) → is_allowed 86 u ≡ true → IsGood u → Value 86 u
vertex_value Zero allowed good = vertex_zero
vertex_value (Int z) allowed good = subst (λ (y : ℤ). Value 86 (Int y)) (sym (one_value z allowed)) (subst (λ (w : List ℕ). IsRead vertex_value_at w (Int (pos 1))) (sym decimal_one) vertex_one)
vertex_value (Vertex v) allowed good = vertex_item v good
vertex_value (Arc a) allowed good = absurd (true≢false (sym allowed))
vertex_value (Text t) allowed good = absurd (true≢false (sym allowed))

arc_value : (u : Util) → is_allowed 65 u ≡ true → IsGood u → Value 65 u
arc_value Zero allowed good = arc_zero
arc_value (Int z) allowed good = subst (λ (y : ℤ). Value 65 (Int y)) (sym (one_value z allowed)) (subst (λ (w : List ℕ). IsRead arc_value_at w (Int (pos 1))) (sym decimal_one) arc_one)
arc_value (Vertex v) allowed good = absurd (true≢false (sym allowed))
arc_value (Arc a) allowed good = arc_item a good
arc_value (Text t) allowed good = absurd (true≢false (sym allowed))

text_value : (u : Util) → is_allowed 83 u ≡ true → IsGood u → Value 83 u
text_value Zero allowed good = string_item [] (record { short = omega arith; printable = refl })
text_value (Int z) allowed good = absurd (true≢false (sym allowed))
text_value (Vertex v) allowed good = absurd (true≢false (sym allowed))
text_value (Arc a) allowed good = absurd (true≢false (sym allowed))
text_value (Text t) allowed good = string_item t good.1

abbrev Reads_value : ℕ → Util → Type 0
Reads_value l u = is_allowed l u ≡ true → Value l u

value_item : (l : ℕ) (u : Util) → is_letter l ≡ true → (l == 90) ≡ false → is_allowed l u ≡ true → IsGood u → Value l u
value_item l u letter some allowed good = elim (letter_view l letter some) [
  | inl i ↦ subst (λ (k : ℕ). Reads_value k u) (sym i) (λ h. number_value u h good) allowed
  | inr (inl v) ↦ subst (λ (k : ℕ). Reads_value k u) (sym v) (λ h. vertex_value u h good) allowed
  | inr (inr (inl a)) ↦ subst (λ (k : ℕ). Reads_value k u) (sym a) (λ h. arc_value u h good) allowed
  | inr (inr (inr s)) ↦ subst (λ (k : ℕ). Reads_value k u) (sym s) (λ h. text_value u h good) allowed
]

-- ---- how a value starts
mark_starts : (mark : ℕ) (ds : List ℕ) → (mark == 10) ≡ false → Starts (mark ∷ ds)
mark_starts mark ds h = record { first = mark; others = ds; whole = refl; same_line = h }

zero_starts : (b : Bool) → Starts (if b then quoted [] else codes "0")
zero_starts true = starts_quoted []
zero_starts false = mark_starts 48 [] refl

value_starts : (l : ℕ) (u : Util) → IsGood u → Starts (value_text l u)
value_starts l Zero good = zero_starts (l == 83)
value_starts l (Int z) good = starts_number z good.1
value_starts l (Vertex v) good = mark_starts 86 (decimal v.0) refl
value_starts l (Arc a) good = mark_starts 65 (decimal a.0) refl
value_starts l (Text t) good = starts_quoted t

pub link_starts : (link : Option ArcNo) → Starts (link_text link)
link_starts None = mark_starts 48 [] refl
link_starts (Some k) = mark_starts 65 (decimal k.0) refl

-- ---- fields
field_none : (l : ℕ) (bs : List ℕ) → (l == 90) ≡ true → field_at l bs ≡ Some (Zero, bs)
unfolding field_at
field_none l bs none = rw none refl

field_some : (l : ℕ) (bs : List ℕ) → (l == 90) ≡ false → field_at l bs ≡ (comma_at bs >>= value_at l)
unfolding field_at
field_some l bs some = rw some refl

each_next : (l : ℕ) (ls : List ℕ) (bs : List ℕ) (u : Util) (rest : List ℕ) (us : List Util) (end : List ℕ) → field_at l bs ≡ Some (u, rest)
    → fields_at ls rest ≡ Some (us, end) → fields_at (l ∷ ls) bs ≡ Some (u ∷ us, end)
unfolding each_at
each_next l ls bs u rest us end first others =
    ap (option_and_then (λ p. behind (p.0 ∷ []) (each_at field_at ls p.1))) first ∙ ap (behind (u ∷ [])) others

each_none : (bs : List ℕ) → fields_at [] bs ≡ Some ([], bs)
unfolding each_at
each_none bs = refl

zero_only : (u : Util) → is_allowed 90 u ≡ true → u ≡ Zero
zero_only Zero allowed = refl
zero_only (Int z) allowed = absurd (true≢false (sym allowed))
zero_only (Vertex v) allowed = absurd (true≢false (sym allowed))
zero_only (Arc a) allowed = absurd (true≢false (sym allowed))
zero_only (Text t) allowed = absurd (true≢false (sym allowed))

raw_none : (l : ℕ) (u : Util) → (l == 90) ≡ true → is_allowed l u ≡ true → Zero ≡ raw l u
raw_none l u none allowed =
    let it = eqb-true l 90 none in
    sym (ap (λ k. raw k u) it ∙ ap (raw 90) (zero_only u (ap (λ k. is_allowed k u) (sym it) ∙ allowed)))

pub fields_read : (ls : List ℕ) (us : List Util) (column : ℕ) (rest : List ℕ) → length us ≡ length ls → list_all is_letter ls ≡ true → are_allowed ls us ≡ true → All IsGood us
    → fields_at ls (behind_item column (field_items ls us) rest) ≡ Some (raws ls us, 10 ∷ rest)
fields_read [] [] column rest same letters allowed good = each_none (10 ∷ rest)
fields_read [] (u ∷ us) column rest same letters allowed good = absurd (omega arith)
fields_read (l ∷ ls) [] column rest same letters allowed good = absurd (omega arith)
fields_read (l ∷ ls) (u ∷ us) column rest same letters allowed good =
    let letter = and_parts (is_letter l) (list_all is_letter ls) letters in
    let fits = and_parts (is_allowed l u) (are_allowed ls us) allowed in
    let others = All-tail IsGood u us good in
    let here = good 0 u (omega arith) in
    elim (cases_Bool (l == 90)) [
      | inl none ↦
          ap (λ items. fields_at (l ∷ ls) (behind_item column (items ++ field_items ls us) rest)) (no_item l u none)
          ∙ each_next l ls (behind_item column (field_items ls us) rest) (raw l u) (behind_item column (field_items ls us) rest) (raws ls us) (10 ∷ rest)
          (field_none l (behind_item column (field_items ls us) rest) none ∙ ap (λ x. Some (x, behind_item column (field_items ls us) rest)) (raw_none l u none fits.0))
          (fields_read ls us column rest (omega arith) letter.1 fits.1 others)
      | inr some ↦
          let w = value_text l u in
          let ws = field_items ls us in
          let next = column_behind column (length (item_of w ws)) in
          ap (λ items. fields_at (l ∷ ls) (behind_item column (items ++ field_items ls us) rest)) (one_item l u some)
          ∙ each_next l ls (behind_item column (w ∷ ws) rest) (raw l u) (behind_item next ws rest) (raws ls us) (10 ∷ rest)
          (field_some l (behind_item column (w ∷ ws) rest) some
          ∙ then_read (comma_at (behind_item column (w ∷ ws) rest)) (from_item next w ws rest) (value_at l) _ (comma_item column w ws rest (value_starts l u here))
          (value_item l u letter.0 some fits.0 here ws next rest))
          (fields_read ls us next rest (omega arith) letter.1 fits.1 others)
    ]
  where
    no_item : (l : ℕ) (u : Util) → (l == 90) ≡ true → field_item l u ≡ []
    no_item l u none = rw none refl

    one_item : (l : ℕ) (u : Util) → (l == 90) ≡ false → field_item l u ≡ value_text l u ∷ []
    one_item l u some = rw some refl
