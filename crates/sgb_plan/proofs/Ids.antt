-- Lemmas on ids as they are put together.
use Rattle.std.proofs.Common.{◌≡◌, ◌≤◌, ◌+◌, ◌-◌, ◌/◌, ℕ, List, [], ◌∷◌, ◌++◌, length, codes, nat_le, if◌then◌else◌, IsTrue, inl, inr, refl, sym, ap, ◌∙◌, arith, append_assoc, length-append}
use Rattle.std.specs.List.{list_all, join_with_byte}
use Rattle.std.proofs.lemmas.Bool.{cases_Bool, leb-true, le-leb}
use Rattle.sgb_graph.specs.Text.{IsText, is_text_byte}
use Rattle.sgb_plan.specs.Id.{id_of, id_of_one, id_of_two, most_of_two, room_beside, behind_commas, shortened}
use Rattle.sgb_plan.specs.Private.Bytes.{IsShort}
use Rattle.sgb_plan.proofs.Joins.{join-cons}
use Rattle.sgb_plan.proofs.Shorts.{IsShort-append, IsShort-more, IsShort-as, IsShort-exact, IsShort-shortened}

-- what stands before the parts, and after them
word_short : (word : List ℕ) → IsTrue (list_all is_text_byte word) → IsShort (length word + 1) (word ++ codes "(")
word_short word printable =
    let begin : IsShort (length word) word = record { short = omega arith; printable = printable } in
    let open_bracket : IsShort 1 (codes "(") = record { short = omega arith; printable = refl } in
    IsShort-append begin open_bracket

-- ---- one part in front
-- as it is written, with the parts behind commas and the parenthesis written before
id_front : (word x : List ℕ) (ps : List (List ℕ)) → ((word ++ codes "(") ++ x) ++ (behind_commas ps ++ codes ")") ≡ id_of word (x ∷ ps)
id_front word x ps =
    let joined : x ++ behind_commas ps ≡ join_with_byte 44 (x ∷ ps) = sym (join-cons 44 x ps) in
    append_assoc (word ++ codes "(") x (behind_commas ps ++ codes ")")
    ∙ (ap (λ r. (word ++ codes "(") ++ r) (sym (append_assoc x (behind_commas ps) (codes ")")) ∙ ap (λ j. j ++ codes ")") joined)
    ∙ sym (append_assoc (word ++ codes "(") (join_with_byte 44 (x ∷ ps)) (codes ")")))

length-id_front : (word x : List ℕ) (ps : List (List ℕ)) → length (id_of word (x ∷ ps)) ≡ length word + 1 + length x + length (behind_commas ps ++ codes ")")
length-id_front word x ps =
    let all : length (id_of word (x ∷ ps)) ≡ length (((word ++ codes "(") ++ x) ++ (behind_commas ps ++ codes ")")) = ap length (sym (id_front word x ps)) in
    omega (arith, all, length-append ((word ++ codes "(") ++ x) (behind_commas ps ++ codes ")"), length-append (word ++ codes "(") x, length-append word (codes "("))

pub wrote_one : (word g : List ℕ) (ps : List (List ℕ)) {end opened cut all : List ℕ} {room : ℕ} → end ≡ behind_commas ps ++ codes ")" → room ≡ 160 - (length word + 1 + length end)
    → opened ≡ word ++ codes "(" → cut ≡ opened ++ shortened room g → all ≡ cut ++ end → all ≡ id_of_one word g ps
wrote_one word g ps {end} {opened} {cut} {all} {room} ends left opens cuts whole =
    let size : length end ≡ length (behind_commas ps ++ codes ")") = ap length ends in
    let beside : room ≡ room_beside (id_of word ([] ∷ ps)) = omega (arith, left, size, length-id_front word [] ps) in
    whole
    ∙ (ap (λ t. t ++ end) (cuts ∙ ap (λ t. t ++ shortened room g) opens)
    ∙ (ap (λ t. ((word ++ codes "(") ++ shortened room g) ++ t) ends
    ∙ (id_front word (shortened room g) ps ∙ ap (λ n. id_of word (shortened n g ∷ ps)) beside)))

pub short_one : (word g : List ℕ) {most room : ℕ} {end opened cut all : List ℕ} → IsTrue (list_all is_text_byte word) → IsText g → IsShort most end → length word + 1 + most ≤ 156 → room ≡ 160 - (length word + 1 + length end)
    → opened ≡ word ++ codes "(" → cut ≡ opened ++ shortened room g → all ≡ cut ++ end → IsShort 160 all
short_one word g {most} {room} {end} {opened} {cut} {all} printable text ends fits left opens cuts whole =
    let few : length end ≤ most = ends.short in
    let some : 4 ≤ room = omega (arith, few, fits, left) in
    let front : IsShort (length word + 1) opened = IsShort-as (word_short word printable) (sym opens) in
    let middle : IsShort (length word + 1 + room) cut = IsShort-as (IsShort-append front (IsShort-shortened room g some text.printable)) (sym cuts) in
    let full : IsShort (length word + 1 + room + length end) all = IsShort-as (IsShort-append middle (IsShort-exact ends)) (sym whole) in
    IsShort-more (omega (arith, few, fits, left)) full

-- ---- two parts in front
inner : (x y : List ℕ) (ps : List (List ℕ)) → ((x ++ codes ",") ++ y) ++ (behind_commas ps ++ codes ")") ≡ join_with_byte 44 (x ∷ y ∷ ps) ++ codes ")"
inner x y ps =
    sym (append_assoc ((x ++ codes ",") ++ y) (behind_commas ps) (codes ")"))
    ∙ ap (λ t. t ++ codes ")") (append_assoc (x ++ codes ",") y (behind_commas ps)
    ∙ (append_assoc x (codes ",") (y ++ behind_commas ps) ∙ ap (λ t. x ++ (44 ∷ t)) (sym (join-cons 44 y ps))))

id_fronts : (word x y : List ℕ) (ps : List (List ℕ)) → ((((word ++ codes "(") ++ x) ++ codes ",") ++ y) ++ (behind_commas ps ++ codes ")") ≡ id_of word (x ∷ y ∷ ps)
id_fronts word x y ps =
    ap (λ t. t ++ (behind_commas ps ++ codes ")")) (ap (λ t. t ++ y) (append_assoc (word ++ codes "(") x (codes ",")) ∙ append_assoc (word ++ codes "(") (x ++ codes ",") y)
    ∙ (append_assoc (word ++ codes "(") ((x ++ codes ",") ++ y) (behind_commas ps ++ codes ")")
    ∙ (ap (λ t. (word ++ codes "(") ++ t) (inner x y ps) ∙ sym (append_assoc (word ++ codes "(") (join_with_byte 44 (x ∷ y ∷ ps)) (codes ")"))))

length-id_fronts : (word x y : List ℕ) (ps : List (List ℕ)) → length (id_of word (x ∷ y ∷ ps)) ≡ length word + 2 + length x + length y + length (behind_commas ps ++ codes ")")
length-id_fronts word x y ps =
    let all : length (id_of word (x ∷ y ∷ ps)) ≡ length (((((word ++ codes "(") ++ x) ++ codes ",") ++ y) ++ (behind_commas ps ++ codes ")")) = ap length (sym (id_fronts word x y ps)) in
    omega (
      arith,
      all,
      length-append ((((word ++ codes "(") ++ x) ++ codes ",") ++ y) (behind_commas ps ++ codes ")"),
      length-append (((word ++ codes "(") ++ x) ++ codes ",") y,
      length-append ((word ++ codes "(") ++ x) (codes ","),
      length-append (word ++ codes "(") x,
      length-append word (codes "("),
    )

pub wrote_two : (word g h : List ℕ) (ps : List (List ℕ)) {end opened cut comma cuts_both all : List ℕ} {room most : ℕ} → end ≡ behind_commas ps ++ codes ")" → room ≡ 160 - (length word + 2 + length end) → most ≡ most_of_two room g h
    → opened ≡ word ++ codes "(" → cut ≡ opened ++ shortened most g → comma ≡ cut ++ codes "," → cuts_both ≡ comma ++ shortened most h → all ≡ cuts_both ++ end → all ≡ id_of_two word g h ps
wrote_two word g h ps {end} {opened} {cut} {comma} {cuts_both} {all} {room} {most} ends left half opens cuts commas both whole =
    let size : length end ≡ length (behind_commas ps ++ codes ")") = ap length ends in
    let beside : room ≡ room_beside (id_of word ([] ∷ [] ∷ ps)) = omega (arith, left, size, length-id_fronts word [] [] ps) in
    let halves : most ≡ most_of_two (room_beside (id_of word ([] ∷ [] ∷ ps))) g h = half ∙ ap (λ r. most_of_two r g h) beside in
    whole
    ∙ (ap (λ t. t ++ end) (both ∙ ap (λ t. t ++ shortened most h) (commas ∙ ap (λ t. t ++ codes ",") (cuts ∙ ap (λ t. t ++ shortened most g) opens)))
    ∙ (ap (λ t. ((((word ++ codes "(") ++ shortened most g) ++ codes ",") ++ shortened most h) ++ t) ends
    ∙ (id_fronts word (shortened most g) (shortened most h) ps ∙ ap (λ n. id_of word (shortened n g ∷ shortened n h ∷ ps)) halves)))

-- a text that fits stays as long
length-shortened : (n : ℕ) (t : List ℕ) → length t ≤ n → length (shortened n t) ≡ length t
length-shortened n t h = rw (le-leb (length t) n h) refl

-- where the two fit the room as they are, or each the half of it
most_fits : (room : ℕ) (g h : List ℕ) → IsTrue (list_all is_text_byte g) → IsTrue (list_all is_text_byte h) → 8 ≤ room → (n : ℕ) → n ≡ most_of_two room g h → (4 ≤ n) × (length (shortened n g) + length (shortened n h) ≤ room)
most_fits room g h good fine enough n is =
    elim (cases_Bool (nat_le (length g + length h) room)) [
      | inl fits ↦
          let whole : n ≡ room = is ∙ ap (λ b. if b then room else room / 2) fits in
          let both : length g + length h ≤ room = leb-true (length g + length h) room fits in
          (omega arith, omega (arith, length-shortened n g (omega arith), length-shortened n h (omega arith)))
      | inr long ↦
          let half : n ≡ room / 2 = is ∙ ap (λ b. if b then room else room / 2) long in
          (omega arith, omega (arith, (IsShort-shortened n g (omega arith) good).short, (IsShort-shortened n h (omega arith) fine).short))
    ]

pub short_two : (word g h : List ℕ) {widest room most : ℕ} {end opened cut comma cuts_both all : List ℕ} → IsTrue (list_all is_text_byte word) → IsText g → IsText h → IsShort widest end → length word + 2 + widest ≤ 152
    → room ≡ 160 - (length word + 2 + length end) → most ≡ most_of_two room g h
    → opened ≡ word ++ codes "(" → cut ≡ opened ++ shortened most g → comma ≡ cut ++ codes "," → cuts_both ≡ comma ++ shortened most h → all ≡ cuts_both ++ end → IsShort 160 all
short_two word g h {widest} {room} {most} {end} {opened} {cut} {comma} {cuts_both} {all} printable text texts ends fits left half opens cuts commas both whole =
    let few : length end ≤ widest = ends.short in
    let enough : 8 ≤ room = omega (arith, few, fits, left) in
    let sizes = most_fits room g h text.printable texts.printable enough most half in
    let first : IsShort (length (shortened most g)) (shortened most g) = IsShort-exact (IsShort-shortened most g sizes.0 text.printable) in
    let second : IsShort (length (shortened most h)) (shortened most h) = IsShort-exact (IsShort-shortened most h sizes.0 texts.printable) in
    let front : IsShort (length word + 1) opened = IsShort-as (word_short word printable) (sym opens) in
    let one : IsShort (length word + 1 + length (shortened most g)) cut = IsShort-as (IsShort-append front first) (sym cuts) in
    let between : IsShort 1 (codes ",") = record { short = omega arith; printable = refl } in
    let apart : IsShort (length word + 1 + length (shortened most g) + 1) comma = IsShort-as (IsShort-append one between) (sym commas) in
    let two : IsShort (length word + 1 + length (shortened most g) + 1 + length (shortened most h)) cuts_both = IsShort-as (IsShort-append apart second) (sym both) in
    let full : IsShort (length word + 1 + length (shortened most g) + 1 + length (shortened most h) + length end) all = IsShort-as (IsShort-append two (IsShort-exact ends)) (sym whole) in
    IsShort-more (omega (arith, few, fits, left, sizes.1)) full
