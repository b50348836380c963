-- The endless sequence: its recurrence, its shifts, and its one way backward.
use Rattle.std.proofs.Common.{◌≡◌, ℕ, zero, suc, ◌+◌, ◌-◌, ◌^◌, ◌<◌, ◌≤◌, ⊎_elim, List, length, get_or, refl, sym, ap, ap₂, ◌∙◌, subst, arith, le-leb}
use Rattle.std.proofs.lemmas.Bool.{cases_lt, lt-leb}
use Rattle.std.proofs.lemmas.List.{ext_get_or}
use Rattle.std.proofs.lemmas.List.FromFn.{get_or-map-range_with_len, length-map-range_with_len}
use Rattle.sgb_flip.specs.Generator.{AreSmall}
use Rattle.sgb_flip.specs.Sequence.{difference, joined, term_within, term, terms_after, IsSequence}

-- ---- one difference
pub difference-below : (a b : ℕ) → difference a b < 2 ^ 31
unfolding difference
difference-below a b = omega arith

pub joined-below : (a b : ℕ) → joined a b < 2 ^ 31
unfolding joined
joined-below a b = omega arith

-- what was taken off can be put back
pub joined-difference : (a b : ℕ) → a < 2 ^ 31 → b < 2 ^ 31 → joined (difference a b) b ≡ a
unfolding difference joined
joined-difference a b p q = omega arith

pub difference-joined : (a b : ℕ) → a < 2 ^ 31 → b < 2 ^ 31 → difference (joined a b) b ≡ a
unfolding difference joined
difference-joined a b p q = omega arith

-- ---- the recurrence
pub term_within-low : (steps : ℕ) (words : List ℕ) (n : ℕ) → n ≤ 55 → term_within steps words n ≡ get_or words (n - 1) 0
unfolding term_within
term_within-low zero words n h = refl
term_within-low (suc steps) words n h = rw (le-leb n 55 h)

term_within-high : (steps : ℕ) (words : List ℕ) (n : ℕ) → 55 < n → term_within (suc steps) words n ≡ difference (term_within steps words (n - 55)) (term_within steps words (n - 24))
unfolding term_within
term_within-high steps words n h = rw (lt-leb n 55 h)

-- a larger bound of the recursion gives the same term
term_within-enough : (words : List ℕ) (a b n : ℕ) → n ≤ a + 55 → n ≤ b + 55 → term_within a words n ≡ term_within b words n
term_within-enough words zero b n p q =
    term_within-low zero words n (omega arith) ∙ sym (term_within-low b words n (omega arith))
term_within-enough words (suc a) zero n p q =
    term_within-low (suc a) words n (omega arith) ∙ sym (term_within-low zero words n (omega arith))
term_within-enough words (suc a) (suc b) n p q =
    ⊎_elim
    (λ (high : 55 < n).
    term_within-high a words n high
    ∙ ap₂ difference (term_within-enough words a b (n - 55) (omega arith) (omega arith)) (term_within-enough words a b (n - 24) (omega arith) (omega arith))
    ∙ sym (term_within-high b words n high))
    (λ (low : n ≤ 55). term_within-low (suc a) words n low ∙ sym (term_within-low (suc b) words n low))
    (cases_lt 55 n)

pub term-low : (words : List ℕ) (n : ℕ) → n ≤ 55 → term words n ≡ get_or words (n - 1) 0
unfolding term
term-low words n h = term_within-low n words n h

pub term-high : (words : List ℕ) (n : ℕ) → 55 < n → term words n ≡ difference (term words (n - 55)) (term words (n - 24))
unfolding term
term-high words n h =
    term_within-enough words n (suc n) n (omega arith) (omega arith)
    ∙ term_within-high n words n h
    ∙ ap₂ difference (term_within-enough words n (n - 55) (n - 55) (omega arith) (omega arith)) (term_within-enough words n (n - 24) (n - 24) (omega arith) (omega arith))

pub term-more : (words : List ℕ) (n : ℕ) → 0 < n → term words (n + 55) ≡ difference (term words n) (term words (n + 31))
term-more words n h =
    let less : n + 55 - 55 ≡ n = omega arith in
    let near : n + 55 - 24 ≡ n + 31 = omega arith in
    term-high words (n + 55) (omega arith) ∙ ap₂ (λ i j. difference (term words i) (term words j)) less near

-- two sequences of the recurrence that begin alike are alike
pub same_sequence : (c d : ℕ → ℕ)
    → ((n : ℕ) → 55 < n → c n ≡ difference (c (n - 55)) (c (n - 24)))
    → ((n : ℕ) → 55 < n → d n ≡ difference (d (n - 55)) (d (n - 24)))
    → ((n : ℕ) → 1 ≤ n → n ≤ 55 → c n ≡ d n)
    → (bound n : ℕ) → n ≤ bound → 1 ≤ n → c n ≡ d n
same_sequence c d more more' first zero n small one = absurd (omega arith)
same_sequence c d more more' first (suc bound) n small one =
    ⊎_elim
    (λ (high : 55 < n).
    more n high
    ∙ ap₂ difference (same_sequence c d more more' first bound (n - 55) (omega arith) (omega arith)) (same_sequence c d more more' first bound (n - 24) (omega arith) (omega arith))
    ∙ sym (more' n high))
    (λ (low : n ≤ 55). first n one low)
    (cases_lt 55 n)

pub IsSequence-term : (words : List ℕ) → IsSequence words (term words)
IsSequence-term words = record {
  first = λ i one low. term-low words i low;
  more = λ n high. term-high words n high;
}

pub IsSequence-only : (words : List ℕ) (c : ℕ → ℕ) → IsSequence words c → (n : ℕ) → 1 ≤ n → c n ≡ term words n
IsSequence-only words c is n one =
    same_sequence c (term words) is.more (λ k high. term-high words k high)
    (λ k low high. is.first k low high ∙ sym (term-low words k high)) n n (omega arith) one

-- ---- 55 terms from a place on
pub length-terms_after : (words : List ℕ) (s : ℕ) → length (terms_after words s) ≡ 55
unfolding terms_after
length-terms_after words s = length-map-range_with_len (λ i. term words (s + i)) 1 55

pub get_or-terms_after : (words : List ℕ) (s k : ℕ) → k < 55 → get_or (terms_after words s) k 0 ≡ term words (s + (k + 1))
unfolding terms_after
get_or-terms_after words s k h =
    get_or-map-range_with_len (λ i. term words (s + i)) 1 55 k (k + 1) 0 h (omega arith)

-- a list of these 55 terms
pub same-terms_after : (words : List ℕ) (s : ℕ) (xs : List ℕ) → length xs ≡ 55 → ((k : ℕ) → k < 55 → get_or xs k 0 ≡ term words (s + (k + 1))) → xs ≡ terms_after words s
same-terms_after words s xs count each =
    ext_get_or 0 xs (terms_after words s) (count ∙ sym (length-terms_after words s))
    (λ k h. let lt : k < 55 = omega arith in each k lt ∙ sym (get_or-terms_after words s k lt))

pub terms_after-none : (words : List ℕ) → length words ≡ 55 → terms_after words 0 ≡ words
terms_after-none words count =
    sym (same-terms_after words 0 words count
    (λ k h. let back : 0 + (k + 1) - 1 ≡ k = omega arith in ap (λ i. get_or words i 0) (sym back) ∙ sym (term-low words (0 + (k + 1)) (omega arith))))

pub term-terms_after : (words : List ℕ) (s n : ℕ) → 0 < n → term (terms_after words s) n ≡ term words (s + n)
term-terms_after words s n h =
    same_sequence (term (terms_after words s)) (λ i. term words (s + i))
    (λ k high. term-high (terms_after words s) k high)
    (λ k high.
    let far : s + k - 55 ≡ s + (k - 55) = omega arith in
    let near : s + k - 24 ≡ s + (k - 24) = omega arith in
    term-high words (s + k) (omega arith) ∙ ap₂ (λ i j. difference (term words i) (term words j)) far near)
    (λ k one low.
    let same : k - 1 + 1 ≡ k = omega arith in
    term-low (terms_after words s) k low
    ∙ get_or-terms_after words s (k - 1) (omega arith)
    ∙ ap (λ i. term words (s + i)) same)
    n n (omega arith) h

pub terms_after-terms_after : (words : List ℕ) (s t : ℕ) → terms_after (terms_after words s) t ≡ terms_after words (s + t)
terms_after-terms_after words s t =
    same-terms_after words (s + t) (terms_after (terms_after words s) t) (length-terms_after (terms_after words s) t)
    (λ k h.
    let turn : s + (t + (k + 1)) ≡ s + t + (k + 1) = omega arith in
    get_or-terms_after (terms_after words s) t k h
    ∙ term-terms_after words s (t + (k + 1)) (omega arith)
    ∙ ap (λ i. term words i) turn)

-- ---- each term is below 2 ^ 31
pub term-below : (words : List ℕ) → length words ≡ 55 → AreSmall words → (n : ℕ) → 0 < n → term words n < 2 ^ 31
term-below words count small n h =
    ⊎_elim
    (λ (high : 55 < n).
    subst (λ (x : ℕ). x < 2 ^ 31) (sym (term-high words n high)) (difference-below (term words (n - 55)) (term words (n - 24))))
    (λ (low : n ≤ 55).
    subst (λ (x : ℕ). x < 2 ^ 31) (sym (term-low words n low)) (small (n - 1) (omega arith)))
    (cases_lt 55 n)

pub AreSmall-terms_after : (words : List ℕ) (s : ℕ) → length words ≡ 55 → AreSmall words → AreSmall (terms_after words s)
AreSmall-terms_after words s count small k h =
    let lt : k < 55 = omega (arith, length-terms_after words s) in
    subst (λ (x : ℕ). x < 2 ^ 31) (sym (get_or-terms_after words s k lt)) (term-below words count small (s + (k + 1)) (omega arith))

-- ---- backward
-- a term is told by two later ones
pub term_before : (words : List ℕ) → length words ≡ 55 → AreSmall words → (n : ℕ) → 0 < n → term words n ≡ joined (term words (n + 55)) (term words (n + 31))
term_before words count small n h =
    sym (ap (λ x. joined x (term words (n + 31))) (term-more words n h)
    ∙ joined-difference (term words n) (term words (n + 31)) (term-below words count small n h) (term-below words count small (n + 31) (omega arith)))

-- two lists of words whose terms agree behind some place agree in each term before it
pub terms_agree : (v w : List ℕ) → length v ≡ 55 → AreSmall v → length w ≡ 55 → AreSmall w
    → (s : ℕ) → ((n : ℕ) → s < n → term v n ≡ term w n) → (n : ℕ) → 0 < n → term v n ≡ term w n
terms_agree v w count small count' small' zero late n h = late n h
terms_agree v w count small count' small' (suc s) late n h =
    terms_agree v w count small count' small' s
    (λ k behind.
    term_before v count small k (omega arith)
    ∙ ap₂ joined (late (k + 55) (omega arith)) (late (k + 31) (omega arith))
    ∙ sym (term_before w count' small' k (omega arith)))
    n h

pub same_words : (v w : List ℕ) → length v ≡ 55 → AreSmall v → length w ≡ 55 → AreSmall w
    → (s : ℕ) → terms_after v s ≡ terms_after w s → v ≡ w
same_words v w count small count' small' s same =
    let late : (n : ℕ) → s < n → term v n ≡ term w n =
    λ n behind.
    let split : s + (n - s) ≡ n = omega arith in
    ap (λ i. term v i) (sym split)
    ∙ sym (term-terms_after v s (n - s) (omega arith))
    ∙ ap (λ ws. term ws (n - s)) same
    ∙ term-terms_after w s (n - s) (omega arith)
    ∙ ap (λ i. term w i) split
    in
    let begin : terms_after v 0 ≡ terms_after w 0 =
    same-terms_after w 0 (terms_after v 0) (length-terms_after v 0)
    (λ k h. get_or-terms_after v 0 k h ∙ terms_agree v w count small count' small' s late (0 + (k + 1)) (omega arith))
    in
    sym (terms_after-none v count) ∙ begin ∙ terms_after-none w count'
