-- Lemmas on rows that are looked up.
use Rattle.std.proofs.Common.{◌≡◌, ◌≢◌, ◌<◌, ◌≤◌, ◌+◌, ℕ, List, [], ◌∷◌, ◌++◌, length, get_or, take, drop, map, Bool, true, false, ◌==◌, Some, not, All, inl, inr, refl, sym, ap, ap₂, subst, ◌∙◌, arith}
use Rattle.std.specs.List.{list_any, position, position_or_len, slice_get}
use Rattle.std.specs.Option.{unwrap_or}
use Rattle.std.proofs.lemmas.Bool.{false≢true, cases_Bool, cases_lt, lt-ltb, le-ltb, eq-eqb, ne_eqb}
use Rattle.std.proofs.lemmas.Option.{slice_get_within, get_or_from_slice_get}
use Rattle.std.proofs.lemmas.List.{map-append, length-map, take_all, take_more, length-take-le, get_or-take, get_or_default, get_or-map, drop_more, at_drop_all}
use Rattle.std.proofs.lemmas.List.Elements.{All-head, All-tail}
use Rattle.std.proofs.lemmas.List.Sums.{prefix_len-le-length, position_or_len_is, passes_at_first}
use Rattle.std.proofs.lemmas.List.Folds.{list_any_at}
use Rattle.std.proofs.lemmas.List.Quantifiers.{all_pairs_push}
use denote.Ref.{Bor}
use Rattle.indexmap.specs.IndexSet.{insert_key}
use Rattle.sgb_plan.specs.Distinct.{Distinct}
use Rattle.sgb_plan.proofs.Distincts.{position_or_len-map}
use Rattle.sgb_perms.specs.Arrangement.{same_list}
use Rattle.sgb_perms.specs.Perms.{place_of}
use Rattle.sgb_perms.specs.Private.Places.{shown_by, with_digit, word_of, IsWordsOf}
use Rattle.sgb_perms.proofs.Arrangements.{same_from_test}

-- the comparison by which keys are looked up
abbrev pub same_key : Bor (List ℕ) → Bor (List ℕ) → Bool
same_key j k = same_list j.now k.now

none_same : (k : Bor (List ℕ)) (ks : List (Bor (List ℕ))) → All (λ row. row ≢ k.now) (shown_by ks) → list_any (same_key k) ks ≡ false
none_same k [] differ = refl
none_same k (j ∷ ks) differ =
    let rest = none_same k ks (All-tail (λ row. row ≢ k.now) j.now (shown_by ks) differ) in
    elim (cases_Bool (same_key k j)) [
      | inl same ↦ absurd (All-head (λ row. row ≢ k.now) j.now (shown_by ks) differ (sym (same_from_test k.now j.now same)))
      | inr other ↦ rw other rest
    ]

-- the rows up to one are keys; this one goes last
pub key_more : (rows : List (List ℕ)) (i : ℕ) (k : Bor (List ℕ)) (ks after : List (Bor (List ℕ))) → Distinct rows → i < length rows → k.now ≡ get_or rows i [] → shown_by ks ≡ take i rows → after ≡ insert_key same_key ks k → shown_by after ≡ take (i + 1) rows
key_more rows i k ks after apart less is shown put =
    let fresh : list_any (same_key k) ks ≡ false =
    none_same k ks
    (subst (All (λ row. row ≢ k.now)) (sym shown)
    (λ j d below same.
    let low : j < i = omega (arith, length-take-le i rows (omega arith)) in
    apart j i d low less (sym (get_or-take i rows j d low) ∙ (same ∙ (is ∙ get_or_default rows i [] d less))))) in
    ap shown_by put
    ∙ rw fresh (map-append (λ (x : Bor (List ℕ)). x.now) ks (k ∷ [])
    ∙ (ap₂ (λ xs y. xs ++ y ∷ []) shown is ∙ sym (take_more rows i [] less)))

position_or_end : {X : Type 0} (p : X → Bool) (xs : List X) → unwrap_or (position p xs) (length xs) ≡ position_or_len p xs
position_or_end p xs =
    let most : position_or_len p xs ≤ length xs = prefix_len-le-length (λ x. not (p x)) xs in
    elim (cases_lt (position_or_len p xs) (length xs)) [
      | inl less ↦ rw (lt-ltb (position_or_len p xs) (length xs) less) refl
      | inr past ↦ rw (le-ltb (position_or_len p xs) (length xs) past) (omega arith)
    ]

pub found : (row : List ℕ) (keys : List (Bor (List ℕ))) → unwrap_or (position (λ (k : Bor (List ℕ)). same_list row k.now) keys) (length keys) ≡ place_of (shown_by keys) row
found row keys =
    position_or_end (λ (k : Bor (List ℕ)). same_list row k.now) keys
    ∙ sym (position_or_len-map (same_list row) (λ (k : Bor (List ℕ)). k.now) keys)

-- ---- by words
pub word_none : (row : List ℕ) (i : ℕ) → length row ≤ i → word_of (drop i row) ≡ 0
unfolding word_of
word_none row i past = at_drop_all word_of row i past

pub word_more : (word : ℕ) (row : List ℕ) (i : ℕ) → i < length row → word ≡ word_of (drop (i + 1) row) → with_digit word (get_or row i 0) ≡ word_of (drop i row)
unfolding word_of
word_more word row i less is = ap (λ w. with_digit w (get_or row i 0)) is ∙ sym (ap word_of (drop_more row i 0 less))

-- the words of the rows up to one
pub record IsWordsTo (rows : List (List ℕ)) (i : ℕ) (words : List ℕ) : Type 0 where
  pub held : words ≡ map word_of (take i rows)
  pub apart : Distinct words

pub words_none : (rows : List (List ℕ)) (words : List ℕ) → words ≡ [] → IsWordsTo rows 0 words
words_none rows words none = record {
  held = none;
  apart = λ i j d low within same. absurd (omega (arith, within, ap length none));
}

-- the word of this row is not among them, and goes last
pub words_more : (rows : List (List ℕ)) (words after : List ℕ) (i word : ℕ) → i < length rows → word ≡ word_of (get_or rows i []) → IsWordsTo rows i words → true ≡ not (list_any (λ k. word == k) words) → after ≡ insert_key ◌==◌ words word → IsWordsTo rows (i + 1) after
words_more rows words after i word less is known added put =
    let fresh : list_any (λ k. word == k) words ≡ false =
    elim (cases_Bool (list_any (λ k. word == k) words)) [
      | inl old ↦ absurd (false≢true (sym (added ∙ ap not old)))
      | inr new ↦ new
    ] in
    let grown : after ≡ words ++ word ∷ [] = put ∙ rw fresh refl in
    record {
      held =
          grown
          ∙ (ap₂ (λ xs y. xs ++ y ∷ []) known.held is
          ∙ (sym (map-append word_of (take i rows) (get_or rows i [] ∷ []))
          ∙ ap (map word_of) (sym (take_more rows i [] less))));
      apart =
          subst Distinct (sym grown)
          (all_pairs_push (λ x y. x ≢ y) words word known.apart
          (λ k d low same. false≢true
          (sym fresh ∙ list_any_at (λ j. word == j) words k d low (eq-eqb word (get_or words k d) (sym same)))));
    }

pub words_all : (rows : List (List ℕ)) (words : List ℕ) (i : ℕ) → length rows ≤ i → IsWordsTo rows i words → IsWordsOf rows words
words_all rows words i all known = record { are = known.held ∙ ap (map word_of) (take_all i rows all); apart = known.apart }

-- of words of which no two are the same each is found where it stands
word_here : (words : List ℕ) (word p : ℕ) → Distinct words → p < length words → get_or words p 0 ≡ word → position_or_len (λ k. word == k) words ≡ p
word_here words word p apart less here =
    position_or_len_is (λ k. word == k) words p 0 (omega (arith, less))
    (λ k low. ne_eqb word (get_or words k 0) (λ same. apart k p 0 low less (sym same ∙ sym here)))
    (λ within. eq-eqb word (get_or words p 0) (sym here))

-- a row that is listed is found by its word
word_leads : (rows : List (List ℕ)) (words : List ℕ) (row : List ℕ) → IsWordsOf rows words → place_of rows row < length rows → position_or_len (λ k. word_of row == k) words ≡ place_of rows row
word_leads rows words row known within =
    let p = place_of rows row in
    let long : length words ≡ length rows = ap length known.are ∙ length-map rows word_of in
    let here : row ≡ get_or rows p [] = same_from_test row (get_or rows p []) (passes_at_first (same_list row) rows [] within) in
    let mine : word_of row ≡ get_or words p 0 =
    ap word_of here ∙ (sym (get_or-map word_of rows p [] 0 within) ∙ ap (λ ws. get_or ws p 0) (sym known.are)) in
    word_here words (word_of row) p known.apart (omega (arith, within, long)) (sym mine)

pub word_found : (rows : List (List ℕ)) (words : List ℕ) (row : List ℕ) (word : ℕ) → IsWordsOf rows words → place_of rows row < length rows → word ≡ word_of row → unwrap_or (position (λ k. word == k) words) (length words) ≡ place_of rows row
word_found rows words row word known within is =
    position_or_end (λ k. word == k) words
    ∙ (ap (λ w. position_or_len (λ k. w == k) words) is ∙ word_leads rows words row known within)

-- a guess that is right
pub word_guessed : (rows : List (List ℕ)) (words : List ℕ) (row : List ℕ) (word guess : ℕ) → IsWordsOf rows words → place_of rows row < length rows → word ≡ word_of row → slice_get words guess ≡ Some word → guess ≡ place_of rows row
word_guessed rows words row word guess known within is stands =
    sym (word_here words word guess known.apart (slice_get_within words guess word stands) (get_or_from_slice_get words guess word 0 stands))
    ∙ (ap (λ w. position_or_len (λ k. w == k) words) is ∙ word_leads rows words row known within)
