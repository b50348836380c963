-- Lemmas on the names of a list of edges: words as they first appear, and numbers.
use Rattle.std.proofs.Common.{◌≡◌, ◌<◌, ◌≤◌, ◌+◌, ◌==◌, ◌||◌, ◌^◌, ℕ, zero, suc, List, [], ◌∷◌, ◌++◌, length, get_or, map, take, filter, All, Bool, true, false, not, cond, eqb, nat_le, inl, inr, refl, sym, ap, ap₂, subst, ◌∙◌, arith, length-append}
use Rattle.std.specs.Borrow.{Bor}
use Rattle.std.specs.Fmt.{decimal}
use Rattle.std.specs.List.{list_any, list_all, position_or_len, range_with_len}
use Rattle.std.specs.Str.{bytes_eq}
use Rattle.std.specs.Cmp.Lexicographic.{pointwise}
use Rattle.std.proofs.lemmas.Bool.{and_parts, cases_Bool, eq-eqb, leb-true, ne_eqb}
use Rattle.std.proofs.lemmas.List.{append-nil, map-append, take-append-le, take_at, take_all, take_more, get_or_append_left, get_or_at}
use Rattle.std.proofs.lemmas.List.Elements.{All-push, filter-append}
use Rattle.std.proofs.lemmas.List.Folds.{list_any-append, position_or_len_push}
use Rattle.std.proofs.lemmas.List.FromFn.{get_or-map-range_with_len, length-map-range_with_len}
use Rattle.std.proofs.lemmas.Slice.Eq.{bytes_eq-Decides}
use Rattle.indexmap.specs.IndexSet.{insert_key}
use Rattle.sgb_graph.specs.Sound.{is_text}
use Rattle.sgb_graph.specs.Text.{IsText, is_text_byte}
use Rattle.sgb_plan.proofs.Distincts.{position_or_len-map}
use Rattle.sgb_plan.proofs.Shorts.{IsShort-decimal}
use Rattle.sgb_import.specs.Edges.{first_ones, word_at}
use Rattle.sgb_import.specs.Outline.{numbered}
use Rattle.sgb_import.specs.Private.EdgesRead.{with_name}
use Rattle.sgb_import.specs.Private.Outlined.{bytes_of}

-- ---- numbers
pub length-numbered : (first n : ℕ) → length (numbered first n) ≡ n
length-numbered first n = length-map-range_with_len decimal first n

decimal_text : (n : ℕ) → n < 2 ^ 32 → IsText (decimal n)
decimal_text n h = let s = IsShort-decimal n h in record { short = omega (arith, s.short); printable = s.printable }

-- numbers are texts
pub numbered_text : (first n : ℕ) → first + n ≤ 2 ^ 32 → All IsText (numbered first n)
numbered_text first n h i d below =
    let low : i < n = omega (arith, below, length-numbered first n) in
    subst IsText (sym (get_or-map-range_with_len decimal first n i (first + i) d low refl)) (decimal_text (first + i) (omega arith))

-- ---- an index of words
any_shown : (w : List ℕ) (ks : List (Bor (List ℕ))) → list_any (λ (k : Bor (List ℕ)). pointwise ◌==◌ w k.now) ks ≡ list_any (bytes_eq w) (map bytes_of ks)
any_shown w [] = refl
any_shown w (k ∷ ks) = ap (λ b. bytes_eq w k.now || b) (any_shown w ks)

pub name_added : (ks after : List (Bor (List ℕ))) (k : Bor (List ℕ)) → after ≡ insert_key (λ a b. pointwise ◌==◌ (bytes_of a) (bytes_of b)) ks k
    → map bytes_of after ≡ with_name (map bytes_of ks) k.now
name_added ks after k put =
    ap (map bytes_of) put
    ∙ elim (cases_Bool (list_any (bytes_eq k.now) (map bytes_of ks))) [
      | inl there ↦ rw (any_shown k.now ks ∙ there, there) refl
      | inr new ↦ rw (any_shown k.now ks ∙ new, new) (map-append bytes_of ks (k ∷ []))
    ]

pub name_place : (ks : List (Bor (List ℕ))) (w : List ℕ) → position_or_len (λ k. pointwise ◌==◌ w (bytes_of k)) ks ≡ position_or_len (bytes_eq w) (map bytes_of ks)
name_place ks w = sym (position_or_len-map (bytes_eq w) bytes_of ks)

-- ---- words as they first appear
is_new : List (List ℕ) → ℕ → Bool
is_new ws i = not (list_any (bytes_eq (word_at ws i)) (take i ws))

range_more : (a n : ℕ) → range_with_len a (n + 1) ≡ range_with_len a n ++ (a + n) ∷ []
range_more a zero = let same : a ≡ a + 0 = omega arith in ap (λ k. k ∷ []) same
range_more a (suc n) =
    let one : suc n + 1 ≡ suc (n + 1) = omega arith in
    let last : (a + 1) + n ≡ a + suc n = omega arith in
    ap (range_with_len a) one
    ∙ ap (λ ks. a ∷ ks) (range_more (a + 1) n ∙ ap (λ k. range_with_len (a + 1) n ++ k ∷ []) last)

-- what passes the test is the same, and is shown the same
same_over : {X : Type 0} (f g : ℕ → X) (p q : ℕ → Bool) (a n : ℕ) → ((k : ℕ) → a ≤ k → k < a + n → f k ≡ g k) → ((k : ℕ) → a ≤ k → k < a + n → p k ≡ q k)
    → map f (filter p (range_with_len a n)) ≡ map g (filter q (range_with_len a n))
same_over f g p q a zero shown tested = refl
same_over f g p q a (suc n) shown tested =
    let rest : map f (filter p (range_with_len (a + 1) n)) ≡ map g (filter q (range_with_len (a + 1) n)) =
    same_over f g p q (a + 1) n (λ k low high. shown k (omega arith) (omega arith)) (λ k low high. tested k (omega arith) (omega arith)) in
    let same : f a ≡ g a = shown a (omega arith) (omega arith) in
    let test : p a ≡ q a = tested a (omega arith) (omega arith) in
    elim (cases_Bool (q a)) [
      | inl yes_it ↦ rw (test ∙ yes_it, yes_it) (ap₂ (λ x xs. x ∷ xs) same rest)
      | inr no_it ↦ rw (test ∙ no_it, no_it) rest
    ]

-- a word more
abbrev added : List (List ℕ) → List ℕ → List (List ℕ)
added ws w = cond (not (list_any (bytes_eq w) ws)) (w ∷ []) []

shown_one : (ws zs : List (List ℕ)) (w : List ℕ) (n : ℕ) → word_at zs n ≡ w → take n zs ≡ ws → map (word_at zs) (filter (λ i. not (list_any (bytes_eq (word_at zs i)) (take i zs))) (n ∷ [])) ≡ added ws w
shown_one ws zs w n is before =
    let test : not (list_any (bytes_eq (word_at zs n)) (take n zs)) ≡ not (list_any (bytes_eq w) ws) = ap₂ (λ x xs. not (list_any (bytes_eq x) xs)) is before in
    elim (cases_Bool (not (list_any (bytes_eq w) ws))) [
      | inl new ↦ rw (test ∙ new, new) (ap (λ x. x ∷ []) is)
      | inr old ↦ rw (test ∙ old, old) refl
    ]

first_ones-added : (ws : List (List ℕ)) (w : List ℕ) → first_ones (ws ++ w ∷ []) ≡ first_ones ws ++ added ws w
unfolding first_ones
first_ones-added ws w =
    let zs : List (List ℕ) = ws ++ w ∷ [] in
    let n : ℕ = length ws in
    let more : length zs ≡ n + 1 = length-append ws (w ∷ []) in
    let test : ℕ → Bool = λ i. not (list_any (bytes_eq (word_at zs i)) (take i zs)) in
    ap (λ k. map (word_at zs) (filter test (range_with_len 0 k))) more
    ∙ (ap (λ ks. map (word_at zs) (filter test ks)) (range_more 0 n)
    ∙ (ap (map (word_at zs)) (filter-append test (range_with_len 0 n) ((0 + n) ∷ []))
    ∙ (map-append (word_at zs) (filter test (range_with_len 0 n)) (filter test ((0 + n) ∷ []))
    ∙ ap₂ (λ xs ys. xs ++ ys)
    (same_over (word_at zs) (word_at ws) test (λ i. not (list_any (bytes_eq (word_at ws i)) (take i ws))) 0 n
    (λ k low high. get_or_append_left ws (w ∷ []) [] k (omega arith))
    (λ k low high. ap₂ (λ x xs. not (list_any (bytes_eq x) xs)) (get_or_append_left ws (w ∷ []) [] k (omega arith)) (take-append-le k ws (w ∷ []) (omega arith))))
    (shown_one ws zs w (0 + n) (get_or_at ws w [] [] (0 + n) (omega arith)) (take_at ws (w ∷ []) (0 + n) (omega arith))))))

first_ones-nil : first_ones [] ≡ []
unfolding first_ones
first_ones-nil = refl

or_nothing : (b : Bool) → (b || false) ≡ b
or_nothing true = refl
or_nothing false = refl

or_other : (a b c : Bool) → (c ≡ true → a ≡ true) → (a || (c || false)) ≡ a
or_other true b c h = refl
or_other false b true h = sym (h refl)
or_other false b false h = refl

-- they are the same words
any_first : (w : List ℕ) (n : ℕ) (ws : List (List ℕ)) → n ≤ length ws → list_any (bytes_eq w) (first_ones (take n ws)) ≡ list_any (bytes_eq w) (take n ws)
any_first w zero ws h = ap (list_any (bytes_eq w)) first_ones-nil
any_first w (suc n) ws h =
    let t : List (List ℕ) = take n ws in
    let y : List ℕ = get_or ws n [] in
    let one : suc n ≡ n + 1 = omega arith in
    let taken : take (suc n) ws ≡ t ++ y ∷ [] = ap (λ k. take k ws) one ∙ take_more ws n [] (omega arith) in
    let before : list_any (bytes_eq w) (first_ones t) ≡ list_any (bytes_eq w) t = any_first w n ws (omega arith) in
    ap (λ xs. list_any (bytes_eq w) (first_ones xs)) taken
    ∙ (ap (list_any (bytes_eq w)) (first_ones-added t y)
    ∙ (list_any-append (bytes_eq w) (first_ones t) (added t y)
    ∙ (ap (λ b. b || list_any (bytes_eq w) (added t y)) before
    ∙ (elim (cases_Bool (list_any (bytes_eq y) t)) [
      | inl old ↦ rw old (or_nothing (list_any (bytes_eq w) t) ∙ sym (or_other (list_any (bytes_eq w) t) true (bytes_eq w y)
          (λ same. ap (λ x. list_any (bytes_eq x) t) ((bytes_eq-Decides w y).0 same) ∙ old)))
      | inr new ↦ rw new refl
    ]
    ∙ (sym (list_any-append (bytes_eq w) t (y ∷ []))
    ∙ ap (list_any (bytes_eq w)) (sym taken))))))

any_first_ones : (w : List ℕ) (ws : List (List ℕ)) → list_any (bytes_eq w) (first_ones ws) ≡ list_any (bytes_eq w) ws
any_first_ones w ws =
    let all : take (length ws) ws ≡ ws = take_all (length ws) ws (omega arith) in
    ap (λ xs. list_any (bytes_eq w) (first_ones xs)) (sym all) ∙ (any_first w (length ws) ws (omega arith) ∙ ap (list_any (bytes_eq w)) all)

pub first_ones-more : (ws : List (List ℕ)) (w : List ℕ) → first_ones (ws ++ w ∷ []) ≡ with_name (first_ones ws) w
first_ones-more ws w =
    first_ones-added ws w
    ∙ elim (cases_Bool (list_any (bytes_eq w) ws)) [
      | inl old ↦ rw (any_first_ones w ws ∙ old, old) (append-nil (first_ones ws))
      | inr new ↦ rw (any_first_ones w ws ∙ new, new) refl
    ]

-- ---- the place of a name
none_before : {X : Type 0} (p : X → Bool) (xs : List X) → list_any p xs ≡ false → position_or_len p xs ≡ length xs
none_before p [] none = refl
none_before p (x ∷ xs) none =
    elim (cases_Bool (p x)) [
      | inl here ↦ absurd (let bad : true ≡ false = rw here at none in cc)
      | inr other ↦ (let rest : list_any p xs ≡ false = rw other at none in
          rw other (let more : 1 + position_or_len p xs ≡ suc (length xs) = omega (arith, none_before p xs rest) in more))
    ]

some_before : {X : Type 0} (p : X → Bool) (xs : List X) → list_any p xs ≡ true → position_or_len p xs < length xs
some_before p [] some = absurd cc
some_before p (x ∷ xs) some =
    elim (cases_Bool (p x)) [
      | inl here ↦ rw here (omega arith)
      | inr other ↦ (let rest : list_any p xs ≡ true = rw other at some in
          rw other (omega (arith, some_before p xs rest)))
    ]

itself : (w : List ℕ) → bytes_eq w w ≡ true
itself w = (bytes_eq-Decides w w).1 refl

pub length-with_name : (ns : List (List ℕ)) (w : List ℕ) → length ns ≤ length (with_name ns w)
length-with_name ns w =
    elim (cases_Bool (list_any (bytes_eq w) ns)) [
      | inl old ↦ rw old (omega arith)
      | inr new ↦ rw new (omega (arith, length-append ns (w ∷ [])))
    ]

-- a name keeps its place
pub place_kept : (p : List ℕ → Bool) (ns : List (List ℕ)) (w : List ℕ) → position_or_len p ns < length ns → position_or_len p (with_name ns w) ≡ position_or_len p ns
place_kept p ns w low =
    elim (cases_Bool (list_any (bytes_eq w) ns)) [
      | inl old ↦ rw old refl
      | inr new ↦ (let ne : eqb (position_or_len p ns) (length ns) ≡ false = ne_eqb (position_or_len p ns) (length ns) (omega arith) in
          rw new (position_or_len_push p ns w ∙ rw ne refl))
    ]

-- the place of a new name is last
pub place_same : (ns : List (List ℕ)) (w : List ℕ) → position_or_len (bytes_eq w) (with_name ns w) ≡ position_or_len (bytes_eq w) ns
place_same ns w =
    elim (cases_Bool (list_any (bytes_eq w) ns)) [
      | inl old ↦ rw old refl
      | inr new ↦ (let end : position_or_len (bytes_eq w) ns ≡ length ns = none_before (bytes_eq w) ns new in
          let at_end : eqb (position_or_len (bytes_eq w) ns) (length ns) ≡ true = eq-eqb (position_or_len (bytes_eq w) ns) (length ns) end in
          rw new (position_or_len_push (bytes_eq w) ns w ∙ rw (at_end, itself w) (let last : length ns + 0 ≡ position_or_len (bytes_eq w) ns = omega (arith, end) in last)))
    ]

pub place_low : (ns : List (List ℕ)) (w : List ℕ) → position_or_len (bytes_eq w) (with_name ns w) < length (with_name ns w)
place_low ns w =
    elim (cases_Bool (list_any (bytes_eq w) ns)) [
      | inl old ↦ rw old (some_before (bytes_eq w) ns old)
      | inr new ↦ (let end : position_or_len (bytes_eq w) ns ≡ length ns = none_before (bytes_eq w) ns new in
          let there : position_or_len (bytes_eq w) (with_name ns w) ≡ position_or_len (bytes_eq w) ns = place_same ns w in
          let longer : length (with_name ns w) ≡ length ns + 1 = rw new (length-append ns (w ∷ [])) in
          omega (arith, end, there, longer))
    ]

-- ---- texts
pub text_of_test : (t : List ℕ) → is_text t ≡ true → IsText t
text_of_test t is =
    let p = and_parts (nat_le (length t) 4095) (list_all is_text_byte t) is in
    record { short = leb-true (length t) 4095 p.0; printable = p.1 }

pub with_text : (ns : List (List ℕ)) (w : List ℕ) → is_text w ≡ true → All IsText ns → All IsText (with_name ns w)
with_text ns w is all =
    elim (cases_Bool (list_any (bytes_eq w) ns)) [
      | inl old ↦ rw old all
      | inr new ↦ rw new (All-push IsText ns w all (text_of_test w is))
    ]
