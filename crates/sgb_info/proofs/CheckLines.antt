-- The check number of a whole text is that of its records, since its first line and its last begin with a star.
use Rattle.std.proofs.Common.{◌≡◌, ◌<◌, ◌+◌, ◌-◌, ◌%◌, ◌^◌, ◌==◌, ℕ, List, [], ◌∷◌, ◌++◌, codes, length, Bool, true, not, inl, inr, refl, sym, ap, subst, ◌∙◌, arith, append_assoc}
use Rattle.std.specs.Fmt.{decimal}
use Rattle.std.specs.List.{flat_map, list_all, range_with_len}
use Rattle.std.proofs.lemmas.Bool.{cases_Bool, and_parts, and_from, not-true, eqb-true, ne_eqb}
use Rattle.std.proofs.lemmas.Fmt.{decimal_by_steps}
use Rattle.std.proofs.lemmas.Grind.{flat_map-append}
use Rattle.std.proofs.lemmas.List.{append-nil}
use Rattle.std.proofs.lemmas.List.Folds.{list_all-append}
use Rattle.sgb_graph.specs.Graph.{GraphOf, IsGraph, n_of, made_of}
use Rattle.sgb_graph.specs.Types.{is_letter}
use Rattle.sgb_grammar.specs.Check.{lines_of, with_first, counted, covered, weighed, check_of}
use Rattle.sgb_text.specs.Layout.{laid, placed_at, column_behind, comma_if, is_followed}
use Rattle.sgb_text.specs.Save.{own_items, vertex_record, arc_record, header_of, body_of, check_line, text_of}

-- ---- bytes that are no newline
abbrev is_plain : List ℕ → Bool
is_plain = list_all (λ b. not (b == 10))

plain_append : (xs ys : List ℕ) → is_plain xs ≡ true → is_plain ys ≡ true → is_plain (xs ++ ys) ≡ true
plain_append xs ys p q = list_all-append (λ b. not (b == 10)) xs ys ∙ and_from (is_plain xs) (is_plain ys) p q

plain_digit : (d : ℕ) → is_plain ((48 + d) ∷ []) ≡ true
plain_digit d = rw (ne_eqb (48 + d) 10 (λ e. omega (arith, e))) refl

plain_decimal : (n : ℕ) → n < 2 ^ 64 → is_plain (decimal n) ≡ true
plain_decimal = decimal_by_steps (λ n ds. is_plain ds ≡ true) (λ n low. plain_digit n)
    (λ n ds more plain. plain_append ds ((48 + n % 10) ∷ []) plain (plain_digit (n % 10)))

letter_plain : (c : ℕ) → is_letter c ≡ true → not (c == 10) ≡ true
letter_plain c letter =
    elim (cases_Bool (c == 10)) [
      | inl newline ↦ absurd (let wrong : is_letter 10 ≡ true = subst (λ d. is_letter d ≡ true) (eqb-true c 10 newline) letter in cc)
      | inr other ↦ ap not other
    ]

letters_plain : (ts : List ℕ) → list_all is_letter ts ≡ true → is_plain ts ≡ true
letters_plain [] letters = refl
letters_plain (c ∷ ts) letters =
    let both = and_parts (is_letter c) (list_all is_letter ts) letters in
    and_from (not (c == 10)) (is_plain ts) (letter_plain c both.0) (letters_plain ts both.1)

-- ---- a line that begins with a star
line_first : (l rest : List ℕ) → is_plain l ≡ true → lines_of (l ++ 10 ∷ rest) ≡ (l ++ 10 ∷ []) ∷ lines_of rest
unfolding lines_of
line_first [] rest plain = refl
line_first (b ∷ l) rest plain =
    let both = and_parts (not (b == 10)) (is_plain l) plain in
    let other = not-true (b == 10) both.0 in
    rw other (ap (with_first b) (line_first l rest both.1))

star_first : (l rest : List ℕ) → is_plain l ≡ true → covered ((42 ∷ l) ++ 10 ∷ rest) ≡ covered rest
unfolding covered
star_first l rest plain = ap (flat_map counted) (line_first (42 ∷ l) rest plain)

-- ---- a text that ends with a newline
abbrev Ended : List ℕ → Type 0
Ended xs = (zs : List ℕ) × (xs ≡ zs ++ 10 ∷ [])

record Lined (xs : List ℕ) : Type 0 where
  first : List ℕ
  rest : List (List ℕ)
  lines : (ys : List ℕ) → lines_of (xs ++ ys) ≡ (first ∷ rest) ++ lines_of ys

lined_end : (zs : List ℕ) → Lined (zs ++ 10 ∷ [])
unfolding lines_of
lined_end [] = record { first = 10 ∷ []; rest = []; lines = λ ys. refl }
lined_end (b ∷ zs) =
    let more = lined_end zs in
    elim (cases_Bool (b == 10)) [
      | inl newline ↦ record { first = 10 ∷ []; rest = more.first ∷ more.rest; lines = λ ys. rw newline (ap (λ ls. (10 ∷ []) ∷ ls) (more.lines ys)) }
      | inr other ↦ record { first = b ∷ more.first; rest = more.rest; lines = λ ys. rw other (ap (with_first b) (more.lines ys)) }
    ]

covered_behind : (xs ys : List ℕ) (l : Lined xs) → covered (xs ++ ys) ≡ flat_map counted (l.first ∷ l.rest) ++ covered ys
unfolding covered
covered_behind xs ys l = ap (flat_map counted) (l.lines ys) ∙ flat_map-append counted (l.first ∷ l.rest) (lines_of ys)

covered_nothing : covered [] ≡ []
unfolding covered lines_of
covered_nothing = refl

star_last : (xs l : List ℕ) → Ended xs → is_plain l ≡ true → covered (xs ++ ((42 ∷ l) ++ 10 ∷ [])) ≡ covered xs
star_last xs l ended plain =
    let lined = subst Lined (sym ended.1) (lined_end ended.0) in
    covered_behind xs ((42 ∷ l) ++ 10 ∷ []) lined
    ∙ (ap (λ c. flat_map counted (lined.first ∷ lined.rest) ++ c) (star_first l [] plain)
    ∙ (sym (covered_behind xs [] lined) ∙ ap covered (append-nil xs)))

-- ---- the records
ended_behind : (xs ys : List ℕ) → Ended ys → Ended (xs ++ ys)
ended_behind xs ys e = (xs ++ e.0, ap (λ t. xs ++ t) e.1 ∙ sym (append_assoc xs e.0 (10 ∷ [])))

laid_ended : (ws : List (List ℕ)) (column : ℕ) → Ended (laid column ws)
unfolding laid
laid_ended [] column = ([], refl)
laid_ended (w ∷ ws) column =
    let item = comma_if (is_followed ws) w in
    let behind = column_behind column (length item) in
    ended_behind (placed_at column item) (laid behind ws) (laid_ended ws behind)

each_ended : {X : Type 0} (f : X → List ℕ) → ((x : X) → Ended (f x)) → (start : List ℕ) → Ended start → (xs : List X) → Ended (start ++ flat_map f xs)
each_ended f each start e [] = (e.0, append-nil start ∙ e.1)
each_ended f each start e (x ∷ xs) = ended_behind start _ (each_ended f each (f x) (each x) xs)

arc_ended : (g : GraphOf) (k : ℕ) → Ended (arc_record g k)
unfolding arc_record
arc_ended g k = laid_ended _ 0

body_ended : (g : GraphOf) → Ended (body_of g)
unfolding body_of
body_ended g =
    ended_behind (laid 0 (own_items g)) _ (ended_behind (codes "* Vertices" ++ 10 ∷ []) _ (ended_behind (flat_map (vertex_record g.types) g.vertices) _
    (each_ended (arc_record g) (arc_ended g) (codes "* Arcs" ++ 10 ∷ []) (codes "* Arcs", refl) (range_with_len 0 (made_of g)))))

-- ---- the text
check_small : (bs : List ℕ) → check_of bs < 2 ^ 64
unfolding check_of
check_small bs = omega arith

same_check : (bs cs : List ℕ) → covered bs ≡ covered cs → check_of bs ≡ check_of cs
unfolding check_of
same_check bs cs same = ap (λ b. weighed b % (2 ^ 30 - 83)) same

-- the first line behind its star
abbrev behind_star : GraphOf → List ℕ
behind_star g = codes " GraphBase graph (util_types " ++ (g.types ++ (codes "," ++ (decimal (n_of g) ++ (codes "V," ++ (decimal (made_of g) ++ codes "A)")))))

header_plain : (g : GraphOf) → IsGraph g → is_plain (behind_star g) ≡ true
header_plain g sound =
    let d = decimal (made_of g) ++ codes "A)" in
    let c = codes "V," ++ d in
    let b = decimal (n_of g) ++ c in
    let a = codes "," ++ b in
    plain_append (codes " GraphBase graph (util_types ") (g.types ++ a) refl
    (plain_append g.types a (letters_plain g.types sound.types.letters)
    (plain_append (codes ",") b refl
    (plain_append (decimal (n_of g)) c (plain_decimal (n_of g) (omega (arith, sound.few_vertices)))
    (plain_append (codes "V,") d refl
    (plain_append (decimal (made_of g)) (codes "A)") (plain_decimal (made_of g) (omega (arith, sound.few_arcs))) refl)))))

covered_text : (g : GraphOf) (c : ℕ) → IsGraph g → c < 2 ^ 64 → covered (header_of g ++ (10 ∷ (body_of g ++ check_line c))) ≡ covered (body_of g)
covered_text g c sound small =
    star_first (behind_star g) (body_of g ++ check_line c) (header_plain g sound)
    ∙ (ap (λ t. covered (body_of g ++ t)) (sym (append_assoc (codes "* Checksum ") (decimal c) (10 ∷ [])))
    ∙ star_last (body_of g) (codes " Checksum " ++ decimal c) (body_ended g) (plain_append (codes " Checksum ") (decimal c) refl (plain_decimal c small)))

pub check_of_text : (g : GraphOf) → IsGraph g → check_of (text_of g) ≡ check_of (body_of g)
unfolding text_of
check_of_text g sound = same_check _ (body_of g) (covered_text g (check_of (body_of g)) sound (check_small (body_of g)))
