-- Tables of lengths: in one into which lengths were drawn, each arc has the length that is chosen for it.
use Rattle.std.proofs.Common.{◌≡◌, ◌≢◌, ◌<◌, ◌≤◌, ◌+◌, ◌-◌, ◌==◌, ℕ, ℤ, pos, List, [], ◌∷◌, ◌++◌, length, set, get_or, map, Bool, true, false, cond, Option, Some, None, is_some, sym, ap, subst, ◌∙◌, refl, arith, inl, inr, append_assoc}
use Rattle.std.proofs.lemmas.Bool.{cases_Bool, cases_lt, eqb-true, eqb-false, eq-eqb, ne_eqb, lt-ltb, le-ltb}
use Rattle.std.proofs.lemmas.List.{append-nil, length-append, length-set, get_or-set_same, get_or-set_other, get_or_append_left, get_or_push}
use Rattle.std.proofs.lemmas.List.Folds.{position_or_len_push}
use Rattle.std.proofs.lemmas.List.FromFn.{fill_by_all, get_or-map-range_with_len, length-map-range_with_len}
use Rattle.std.proofs.lemmas.List.Sums.{sum_by-append}
use Rattle.std.specs.List.{range_with_len}
use Rattle.sgb_flip.specs.Generator.{Generator}
use Rattle.sgb_graph.specs.Graph.{GraphOf, ArcOf, IsGraph, made_of, has_arc, arc_at, occurrences}
use Rattle.sgb_graph.specs.Paired.{is_paired}
use Rattle.sgb_graph.proofs.Counts.{occurs_no, occurs_yes}
use Rattle.sgb_plan.specs.Length.{drawn_length}
use Rattle.sgb_combine.specs.Drawing.{Draws, drawing, drawn, with_one, place_in, source_of, chosen, chosen_lengths}
use Rattle.sgb_combine.specs.Lengths.{with_length, lengthened_at, with_lengths, refusal_of_arcs}
use Rattle.sgb_combine.specs.Private.Table.{written, with_draw, drawn_over}
use Rattle.sgb_combine.proofs.DrawCounts.{draws_once}
use Rattle.sgb_combine.proofs.Drawn.{drawn-none, drawn-more, length-drawn}
use Rattle.sgb_combine.proofs.EdgeHalves.{half_silent}
use Rattle.sgb_combine.proofs.Sources.{has_source, paired_of}

-- ---- places in a list with one number more
place_absent : (ks : List ℕ) (k : ℕ) → occurrences k ks ≡ 0 → place_in ks k ≡ length ks
place_absent [] k none = refl
place_absent (j ∷ ks) k none =
    elim (cases_Bool (j == k)) [
      | inl e ↦ absurd (omega (arith, none, occurs_yes k j ks (eqb-true j k e)))
      | inr e ↦ rw e (omega (arith, place_absent ks k (omega (arith, none, occurs_no k j ks (eqb-false j k e)))))
    ]

place_push : (ks : List ℕ) (k j : ℕ) (same : Bool) → (k == j) ≡ same → place_in (ks ++ k ∷ []) j ≡ cond (place_in ks j == length ks) (length ks + cond same 0 1) (place_in ks j)
place_push ks k j same is =
    position_or_len_push (λ i. i == j) ks k
    ∙ ap (λ b. cond (place_in ks j == length ks) (length ks + cond b 0 1) (place_in ks j)) is

-- of the number itself, and of one that is not in the list
own_place : (ks : List ℕ) (k : ℕ) → occurrences k ks ≡ 0 → place_in (ks ++ k ∷ []) k ≡ length ks
own_place ks k none =
    place_push ks k k true (eq-eqb k k refl)
    ∙ (ap (λ b. cond b (length ks + 0) (place_in ks k)) (eq-eqb (place_in ks k) (length ks) (place_absent ks k none)) ∙ omega arith)

absent_place : (ks : List ℕ) (k j : ℕ) → k ≢ j → occurrences j ks ≡ 0 → place_in (ks ++ k ∷ []) j ≡ length ks + 1
absent_place ks k j other none =
    place_push ks k j false (ne_eqb k j other)
    ∙ ap (λ b. cond b (length ks + 1) (place_in ks j)) (eq-eqb (place_in ks j) (length ks) (place_absent ks j none))

-- of another number that is in the list
place_kept : (ks : List ℕ) (k j : ℕ) → k ≢ j → place_in ks j < length ks → place_in (ks ++ k ∷ []) j ≡ place_in ks j
place_kept ks k j other inside =
    let apart : place_in ks j ≢ length ks = λ e. omega (arith, e, inside) in
    place_push ks k j false (ne_eqb k j other)
    ∙ ap (λ b. cond b (length ks + 1) (place_in ks j)) (ne_eqb (place_in ks j) (length ks) apart)

place_before : (ks : List ℕ) (k j : ℕ) → k ≢ j → place_in (ks ++ k ∷ []) j < length ks + 1 → (place_in ks j < length ks) × (place_in (ks ++ k ∷ []) j ≡ place_in ks j)
place_before ks k j other inside =
    let push = place_push ks k j false (ne_eqb k j other) in
    elim (cases_Bool (place_in ks j == length ks)) [
      | inl e ↦
          let past = push ∙ ap (λ b. cond b (length ks + 1) (place_in ks j)) e in
          absurd (omega (arith, past, inside))
      | inr e ↦
          let same : place_in (ks ++ k ∷ []) j ≡ place_in ks j = push ∙ ap (λ b. cond b (length ks + 1) (place_in ks j)) e in
          let apart : place_in ks j ≢ length ks = eqb-false (place_in ks j) (length ks) e in
          let low : place_in ks j < length ks = elim (cases_lt (place_in ks j) (length ks)) [ inl h ↦ h | inr h ↦ absurd (apart (omega (arith, h, same, inside))) ] in
          (low, same)
    ]

-- ---- sources in a list with one number more
source_yes : (ks : List ℕ) (j : ℕ) → place_in ks j < length ks → source_of false ks j ≡ place_in ks j
unfolding source_of
source_yes ks j inside = rw (lt-ltb (place_in ks j) (length ks) inside) refl

source_no : (ks : List ℕ) (j : ℕ) → length ks ≤ place_in ks j → source_of false ks j ≡ place_in ks (j - 1)
unfolding source_of
source_no ks j past = rw (le-ltb (place_in ks j) (length ks) past) refl

source_all : (ks : List ℕ) (j : ℕ) → source_of true ks j ≡ place_in ks j
unfolding source_of
source_all ks j = refl

length_push : (ks : List ℕ) (k : ℕ) → length (ks ++ k ∷ []) ≡ length ks + 1
length_push ks k = length-append ks (k ∷ [])

own_source : (directed : Bool) (ks : List ℕ) (k : ℕ) → occurrences k ks ≡ 0 → source_of directed (ks ++ k ∷ []) k ≡ length ks
own_source true ks k none = source_all (ks ++ k ∷ []) k ∙ own_place ks k none
own_source false ks k none =
    source_yes (ks ++ k ∷ []) k (omega (arith, own_place ks k none, length_push ks k)) ∙ own_place ks k none

half_source : (ks : List ℕ) (k j : ℕ) → j ≡ k + 1 → occurrences k ks ≡ 0 → occurrences (k + 1) ks ≡ 0 → source_of false (ks ++ k ∷ []) j ≡ length ks
half_source ks k j next none silent =
    let other : k ≢ j = λ e. omega (arith, e, next) in
    let absent = absent_place ks k j other (ap (λ i. occurrences i ks) next ∙ silent) in
    let before : j - 1 ≡ k = omega (arith, next) in
    source_no (ks ++ k ∷ []) j (omega (arith, absent, length_push ks k))
    ∙ (ap (place_in (ks ++ k ∷ [])) before ∙ own_place ks k none)

abbrev HasSource : Bool → List ℕ → ℕ → ℕ → Type 0
HasSource directed ks k j = (source_of directed ks j < length ks) × (source_of directed (ks ++ k ∷ []) j ≡ source_of directed ks j)

other_before : (k j : ℕ) → j ≢ k → j ≢ k + 1 → k ≢ j - 1
other_before k j other apart e =
    elim (cases_lt 0 j) [ inl some ↦ apart (omega (arith, e, some)) | inr none ↦ other (omega (arith, e, none)) ]

source_kept : (directed : Bool) (ks : List ℕ) (k j : ℕ) → j ≢ k → (directed ≡ false → j ≢ k + 1) → source_of directed (ks ++ k ∷ []) j < length ks + 1 → HasSource directed ks k j
source_kept true ks k j other apart inside =
    let own = place_before ks k j (λ e. other (sym e)) (subst (λ i. i < length ks + 1) (source_all (ks ++ k ∷ []) j) inside) in
    (subst (λ i. i < length ks) (sym (source_all ks j)) own.0, source_all (ks ++ k ∷ []) j ∙ (own.1 ∙ sym (source_all ks j)))
source_kept false ks k j other apart inside =
    let len = length_push ks k in
    let turned : k ≢ j = λ e. other (sym e) in
    elim (cases_lt (place_in (ks ++ k ∷ []) j) (length (ks ++ k ∷ []))) [
      | inl draws ↦
          let own = place_before ks k j turned (omega (arith, draws, len)) in
          (subst (λ i. i < length ks) (sym (source_yes ks j own.0)) own.0, source_yes (ks ++ k ∷ []) j draws ∙ (own.1 ∙ sym (source_yes ks j own.0)))
      | inr silent ↦
          let is = source_no (ks ++ k ∷ []) j silent in
          let half = place_before ks k (j - 1) (other_before k j other (apart refl)) (subst (λ i. i < length ks + 1) is inside) in
          let past : length ks ≤ place_in ks j =
          elim (cases_lt (place_in ks j) (length ks)) [
            | inl low ↦ absurd (omega (arith, low, silent, len, place_kept ks k j turned low))
            | inr high ↦ high
          ] in
          (subst (λ i. i < length ks) (sym (source_no ks j past)) half.0, is ∙ (half.1 ∙ sym (source_no ks j past)))
    ]

-- ---- tables
-- these arcs have drawn, and each that has its length from one of them has it
pub record Told (directed : Bool) (min max : ℤ) (w : Generator) (made : ℕ) (ks : List ℕ) (t : Draws) : Type 0 where
  pub count : t.draws ≡ (drawn min max w (length ks)).draws
  pub rest : t.rest ≡ (drawn min max w (length ks)).rest
  pub long : length t.lens ≡ made
  pub told : (j : ℕ) → j < made → source_of directed ks j < length ks → get_or t.lens j (pos 0) ≡ get_or (drawn min max w (length ks)).lens (source_of directed ks j) (pos 0)

told_start : (directed : Bool) (min max : ℤ) (w : Generator) (olds : List ℤ) → Told directed min max w (length olds) [] (record { lens = olds; draws = 0; rest = w })
told_start directed min max w olds = record {
  count = ap (λ d. d.draws) (sym (drawn-none min max w));
  rest = ap (λ d. d.rest) (sym (drawn-none min max w));
  long = refl;
  told = λ j low inside. absurd (omega (arith, inside));
}

length-written : (directed : Bool) (lens : List ℤ) (k : ℕ) (len : ℤ) → length (written directed lens k len) ≡ length lens
length-written true lens k len = length-set lens k len
length-written false lens k len = length-set (set lens k len) (k + 1) len ∙ length-set lens k len

written_own : (directed : Bool) (lens : List ℤ) (k : ℕ) (len : ℤ) → k < length lens → get_or (written directed lens k len) k (pos 0) ≡ len
written_own true lens k len low = get_or-set_same lens k len (pos 0) low
written_own false lens k len low =
    let other : k ≢ k + 1 = λ e. omega (arith, e) in
    get_or-set_other (set lens k len) (k + 1) k len (pos 0) other ∙ get_or-set_same lens k len (pos 0) low

written_half : (lens : List ℤ) (k j : ℕ) (len : ℤ) → j ≡ k + 1 → j < length lens → get_or (written false lens k len) j (pos 0) ≡ len
written_half lens k j len next low =
    ap (λ i. get_or (written false lens k len) i (pos 0)) next
    ∙ get_or-set_same (set lens k len) (k + 1) len (pos 0) (omega (arith, low, next, length-set lens k len))

written_other : (directed : Bool) (lens : List ℤ) (k j : ℕ) (len : ℤ) → j ≢ k → (directed ≡ false → j ≢ k + 1) → get_or (written directed lens k len) j (pos 0) ≡ get_or lens j (pos 0)
written_other true lens k j len other apart = get_or-set_other lens k j len (pos 0) other
written_other false lens k j len other apart =
    get_or-set_other (set lens k len) (k + 1) j len (pos 0) (apart refl) ∙ get_or-set_other lens k j len (pos 0) other

-- what one arc more finds: the lengths, with its own behind the others
record Next (min max : ℤ) (w : Generator) (ks : List ℕ) (k : ℕ) (t : Draws) : Type 0 where
  lens : (drawn min max w (length (ks ++ k ∷ []))).lens ≡ (drawn min max w (length ks)).lens ++ (drawn_length min max t.rest).len ∷ []
  draws : (drawn min max w (length (ks ++ k ∷ []))).draws ≡ (drawn min max w (length ks)).draws + (drawn_length min max t.rest).draws
  rest : (drawn min max w (length (ks ++ k ∷ []))).rest ≡ (drawn_length min max t.rest).rest

next_is : (min max : ℤ) (w : Generator) (ks : List ℕ) (k : ℕ) (t : Draws) → t.rest ≡ (drawn min max w (length ks)).rest → Next min max w ks k t
unfolding with_one
next_is min max w ks k t rest =
    let d = drawn min max w (length ks) in
    let more = ap (drawn min max w) (length_push ks k) ∙ drawn-more min max w (length ks) in
    let here : drawn_length min max d.rest ≡ drawn_length min max t.rest = ap (drawn_length min max) (sym rest) in
    record {
      lens = ap (λ x. x.lens) more ∙ ap (λ x. d.lens ++ x.len ∷ []) here;
      draws = ap (λ x. x.draws) more ∙ ap (λ x. d.draws + x.draws) here;
      rest = ap (λ x. x.rest) more ∙ ap (λ x. x.rest) here;
    }

at_last : (lens : List ℤ) {all : List ℤ} {n i : ℕ} (len : ℤ) → all ≡ lens ++ len ∷ [] → length lens ≡ n → i ≡ n → get_or all i (pos 0) ≡ len
at_last lens {all} {n} {i} len is long here =
    ap (λ ls. get_or ls i (pos 0)) is ∙ get_or_push lens len (pos 0) i (long ∙ sym here)

at_first : (lens : List ℤ) {all : List ℤ} {n i : ℕ} (len : ℤ) → all ≡ lens ++ len ∷ [] → length lens ≡ n → i < n → get_or all i (pos 0) ≡ get_or lens i (pos 0)
at_first lens {all} {n} {i} len is long low =
    ap (λ ls. get_or ls i (pos 0)) is ∙ get_or_append_left lens (len ∷ []) (pos 0) i (omega (arith, long, low))

told_other : {directed : Bool} {min max : ℤ} {w : Generator} {made : ℕ} {ks : List ℕ} {t : Draws} (k j : ℕ) → Told directed min max w made ks t → j < made → j ≢ k → (directed ≡ false → j ≢ k + 1)
    → source_of directed (ks ++ k ∷ []) j < length ks + 1
    → get_or (written directed t.lens k (drawn_length min max t.rest).len) j (pos 0) ≡ get_or (drawn min max w (length (ks ++ k ∷ []))).lens (source_of directed (ks ++ k ∷ []) j) (pos 0)
told_other {directed} {min} {max} {w} {made} {ks} {t} k j x low other apart inside =
    let kept = source_kept directed ks k j other apart inside in
    let next = next_is min max w ks k t x.rest in
    written_other directed t.lens k j (drawn_length min max t.rest).len other apart
    ∙ (x.told j low kept.0
    ∙ (sym (at_first _ _ next.lens (length-drawn min max w (length ks)) kept.0)
    ∙ ap (λ i. get_or (drawn min max w (length (ks ++ k ∷ []))).lens i (pos 0)) (sym kept.1)))

-- the length of arc j after arc k
abbrev ToldAt : Bool → ℤ → ℤ → Generator → List ℕ → Draws → ℕ → ℕ → Type 0
ToldAt directed min max w ks t k j =
    get_or (written directed t.lens k (drawn_length min max t.rest).len) j (pos 0)
    ≡ get_or (drawn min max w (length (ks ++ k ∷ []))).lens (source_of directed (ks ++ k ∷ []) j) (pos 0)

told_own : {directed : Bool} {min max : ℤ} {w : Generator} {made : ℕ} {ks : List ℕ} {t : Draws} (k j : ℕ) → Told directed min max w made ks t → j ≡ k → k < made → occurrences k ks ≡ 0 → ToldAt directed min max w ks t k j
told_own {directed} {min} {max} {w} {made} {ks} {t} k j x same low none =
    let next = next_is min max w ks k t x.rest in
    let len : ℤ = (drawn_length min max t.rest).len in
    let here : source_of directed (ks ++ k ∷ []) j ≡ length ks = ap (source_of directed (ks ++ k ∷ [])) same ∙ own_source directed ks k none in
    ap (λ i. get_or (written directed t.lens k len) i (pos 0)) same
    ∙ (written_own directed t.lens k len (omega (arith, low, x.long)) ∙ sym (at_last _ _ next.lens (length-drawn min max w (length ks)) here))

told_half : {min max : ℤ} {w : Generator} {made : ℕ} {ks : List ℕ} {t : Draws} (k j : ℕ) → Told false min max w made ks t → j ≡ k + 1 → j < made → occurrences k ks ≡ 0 → occurrences (k + 1) ks ≡ 0 → ToldAt false min max w ks t k j
told_half {min} {max} {w} {made} {ks} {t} k j x half low none silent =
    let next = next_is min max w ks k t x.rest in
    written_half t.lens k j (drawn_length min max t.rest).len half (omega (arith, low, x.long))
    ∙ sym (at_last _ _ next.lens (length-drawn min max w (length ks)) (half_source ks k j half none silent))

told_at : (directed : Bool) {min max : ℤ} {w : Generator} {made : ℕ} {ks : List ℕ} {t : Draws} (k j : ℕ) → occurrences k ks ≡ 0 → (directed ≡ false → occurrences (k + 1) ks ≡ 0) → Told directed min max w made ks t → j < made
    → source_of directed (ks ++ k ∷ []) j < length ks + 1 → ToldAt directed min max w ks t k j
told_at true k j none silent x low inside =
    elim (cases_Bool (j == k)) [
      | inl own ↦ let same = eqb-true j k own in told_own k j x same (omega (arith, low, same)) none
      | inr other ↦ told_other k j x low (eqb-false j k other) (λ e. cc) inside
    ]
told_at false k j none silent x low inside =
    elim (cases_Bool (j == k)) [
      | inl own ↦ let same = eqb-true j k own in told_own k j x same (omega (arith, low, same)) none
      | inr other ↦
          elim (cases_Bool (j == k + 1)) [
            | inl half ↦ told_half k j x (eqb-true j (k + 1) half) low none (silent refl)
            | inr apart ↦ told_other k j x low (eqb-false j k other) (λ e. eqb-false j (k + 1) apart) inside
          ]
    ]

told_more : {directed : Bool} {min max : ℤ} {w : Generator} {made : ℕ} {ks : List ℕ} {t : Draws} (k : ℕ) → occurrences k ks ≡ 0 → (directed ≡ false → occurrences (k + 1) ks ≡ 0) → Told directed min max w made ks t
    → Told directed min max w made (ks ++ k ∷ []) (with_draw directed min max t k)
unfolding with_draw
told_more {directed} {min} {max} {w} {made} {ks} {t} k none silent x =
    let next = next_is min max w ks k t x.rest in
    let len : ℤ = (drawn_length min max t.rest).len in
    record {
      count = ap (λ n. n + (drawn_length min max t.rest).draws) x.count ∙ sym next.draws;
      rest = sym next.rest;
      long = length-written directed t.lens k len ∙ x.long;
      told = λ j low inside. told_at directed k j none silent x low (omega (arith, inside, length_push ks k));
    }

-- all that draw: none twice, and where edges are meant not the one that is numbered next
pub told_all : {directed : Bool} {min max : ℤ} {w : Generator} {made : ℕ} (all done rest : List ℕ) (t : Draws) → done ++ rest ≡ all → ((k : ℕ) → occurrences k all ≤ 1) → (directed ≡ false → (k : ℕ) → 0 < occurrences k all → occurrences (k + 1) all ≡ 0)
    → Told directed min max w made done t → Told directed min max w made all (drawn_over directed min max t rest)
told_all {directed} {min} {max} {w} {made} all done [] t same once silent x =
    subst (λ ks. Told directed min max w made ks t) (sym (append-nil done) ∙ same) x
told_all {directed} {min} {max} {w} {made} all done (k ∷ rest) t same once silent x =
    let both : (i : ℕ) → occurrences i all ≡ occurrences i done + occurrences i (k ∷ rest) =
    λ i. ap (occurrences i) (sym same) ∙ sum_by-append (λ y. cond (y == i) 1 0) done (k ∷ rest) in
    let here = occurs_yes k k rest refl in
    told_all all (done ++ k ∷ []) rest (with_draw directed min max t k) (append_assoc done (k ∷ []) rest ∙ same) once silent
    (told_more k (omega (arith, both k, here, once k)) (λ edges. omega (arith, both (k + 1), silent edges k (omega (arith, both k, here)))) x)

-- ---- the graph with the lengths of a table
hole_same : (o : Option ArcOf) (x y : ℤ) → is_some o ≡ false → with_length o x ≡ with_length o y
hole_same None x y hole = refl
hole_same (Some e) x y hole = absurd cc

entry_same : (directed : Bool) (min max : ℤ) (w : Generator) (g : GraphOf) (t : Draws) (k : ℕ) → IsGraph g → refusal_of_arcs directed g ≡ None → Told directed min max w (made_of g) (drawing directed g) t → k < made_of g
    → lengthened_at g t.lens k ≡ lengthened_at g (chosen_lengths directed (drawing directed g) (drawn min max w (length (drawing directed g))).lens (made_of g)) k
unfolding chosen_lengths
entry_same directed min max w g t k sound whole x low =
    let ks : List ℕ = drawing directed g in
    let lens : List ℤ = (drawn min max w (length ks)).lens in
    let there = get_or-map-range_with_len (chosen directed ks lens) 0 (made_of g) k k (pos 0) low (omega arith) in
    elim (cases_Bool (has_arc g k)) [
      | inl live ↦ ap (with_length (arc_at g k)) (x.told k low (has_source directed g k sound whole live) ∙ sym there)
      | inr hole ↦ hole_same (arc_at g k) (get_or t.lens k (pos 0)) _ hole
    ]

pub lengths_same : (directed : Bool) (min max : ℤ) (w : Generator) (g : GraphOf) (t : Draws) → IsGraph g → refusal_of_arcs directed g ≡ None → Told directed min max w (made_of g) (drawing directed g) t
    → with_lengths g t.lens ≡ with_lengths g (chosen_lengths directed (drawing directed g) (drawn min max w (length (drawing directed g))).lens (made_of g))
unfolding with_lengths
lengths_same directed min max w g t sound whole x =
    let m : ℕ = made_of g in
    let f : ℕ → Option ArcOf = lengthened_at g t.lens in
    let h : ℕ → Option ArcOf = lengthened_at g (chosen_lengths directed (drawing directed g) (drawn min max w (length (drawing directed g))).lens (made_of g)) in
    ap (λ es. record g { entries = es }) (
    fill_by_all h (map f (range_with_len 0 m)) m None (length-map-range_with_len f 0 m)
    (λ k low. get_or-map-range_with_len f 0 m k k None low (omega arith) ∙ entry_same directed min max w g t k sound whole x low))

silent_of : (directed : Bool) (g : GraphOf) → IsGraph g → refusal_of_arcs directed g ≡ None → directed ≡ false → (k : ℕ) → 0 < occurrences k (drawing directed g) → occurrences (k + 1) (drawing directed g) ≡ 0
silent_of true g sound whole edges k some = absurd cc
silent_of false g sound whole edges k some = half_silent g k sound (paired_of (is_paired g) whole) some

-- a table into which the arcs of a graph drew
pub told_graph : (directed : Bool) (min max : ℤ) (w : Generator) (g : GraphOf) (olds : List ℤ) → IsGraph g → refusal_of_arcs directed g ≡ None → length olds ≡ made_of g
    → Told directed min max w (made_of g) (drawing directed g) (drawn_over directed min max (record { lens = olds; draws = 0; rest = w }) (drawing directed g))
told_graph directed min max w g olds sound whole count =
    let silent : (directed ≡ false → (k : ℕ) → 0 < occurrences k (drawing directed g) → occurrences (k + 1) (drawing directed g) ≡ 0) = silent_of directed g sound whole in
    told_all (drawing directed g) [] (drawing directed g) (record { lens = olds; draws = 0; rest = w }) refl (λ k. draws_once directed g k sound) silent
    (subst (λ m. Told directed min max w m [] (record { lens = olds; draws = 0; rest = w })) count (told_start directed min max w olds))
