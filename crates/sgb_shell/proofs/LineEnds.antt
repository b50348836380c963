-- How a script's lines grow, byte by byte.
use Rattle.std.proofs.Common.{◌≡◌, ℕ, ◌+◌, ◌≤◌, false, ◌==◌, List, [], ◌∷◌, ◌++◌, length, refl, sym, ap, ◌∙◌, arith, inl, inr, length-append}
use Rattle.std.proofs.lemmas.Bool.{cases_Bool}
use Rattle.std.specs.List.{onto_first}
use Rattle.sgb_shell.specs.Lines.{all_but_last, last_part, parts, whole_lines, unfinished, lines}
use Rattle.sgb_shell.proofs.CourseSteps.{all_but_last-push}

last_part-push : (ps : List (List ℕ)) (p : List ℕ) → last_part (ps ++ p ∷ []) ≡ p
last_part-push [] p = refl
last_part-push (q ∷ []) p = refl
last_part-push (q ∷ r ∷ rs) p = last_part-push (r ∷ rs) p

-- a list of parts is never empty
abbrev IsSome : List (List ℕ) → Type 0
IsSome [] = ⊥
IsSome (p ∷ ps) = Unit {0}

onto_first-some : (x : ℕ) (ps : List (List ℕ)) → IsSome (onto_first x ps)
onto_first-some x [] = tt
onto_first-some x (p ∷ ps) = tt

parts-some : (s : List ℕ) → IsSome (parts s)
parts-some [] = tt
parts-some (x ∷ s) = elim (cases_Bool (x == 10)) [
  | inl newline ↦ rw newline tt
  | inr other ↦ rw other (onto_first-some x (parts s))
]

front-last : (ps : List (List ℕ)) → IsSome ps → ps ≡ all_but_last ps ++ last_part ps ∷ []
front-last [] some = absurd some
front-last (p ∷ []) some = refl
front-last (p ∷ q ∷ qs) some = ap (λ l. p ∷ l) (front-last (q ∷ qs) tt)

pub parts-split : (s : List ℕ) → parts s ≡ whole_lines s ++ unfinished s ∷ []
parts-split s = front-last (parts s) (parts-some s)

-- the last part goes on by a byte
abbrev longer : ℕ → List (List ℕ) → List (List ℕ)
longer b ps = all_but_last ps ++ (last_part ps ++ b ∷ []) ∷ []

longer-cons : (b : ℕ) (p : List ℕ) (ps : List (List ℕ)) → IsSome ps → longer b (p ∷ ps) ≡ p ∷ longer b ps
longer-cons b p [] some = absurd some
longer-cons b p (q ∷ qs) some = refl

longer-onto_first : (b x : ℕ) (ps : List (List ℕ)) → IsSome ps → longer b (onto_first x ps) ≡ onto_first x (longer b ps)
longer-onto_first b x [] some = absurd some
longer-onto_first b x (p ∷ []) some = refl
longer-onto_first b x (p ∷ q ∷ qs) some = refl

onto_first-append : (x : ℕ) (ps qs : List (List ℕ)) → IsSome ps → onto_first x (ps ++ qs) ≡ onto_first x ps ++ qs
onto_first-append x [] qs some = absurd some
onto_first-append x (p ∷ ps) qs some = refl

parts-newline : (s : List ℕ) → parts (s ++ 10 ∷ []) ≡ parts s ++ [] ∷ []
parts-newline [] = refl
parts-newline (x ∷ s) = elim (cases_Bool (x == 10)) [
  | inl newline ↦ rw newline (ap (λ ps. [] ∷ ps) (parts-newline s))
  | inr other ↦ rw other (ap (onto_first x) (parts-newline s) ∙ onto_first-append x (parts s) ([] ∷ []) (parts-some s))
]

parts-byte : (s : List ℕ) (b : ℕ) → (b == 10) ≡ false → parts (s ++ b ∷ []) ≡ longer b (parts s)
parts-byte [] b other = rw other refl
parts-byte (x ∷ s) b other = elim (cases_Bool (x == 10)) [
  | inl newline ↦ rw newline (ap (λ ps. [] ∷ ps) (parts-byte s b other) ∙ sym (longer-cons b [] (parts s) (parts-some s)))
  | inr letter ↦ rw letter (ap (onto_first x) (parts-byte s b other) ∙ sym (longer-onto_first b x (parts s) (parts-some s)))
]

pub whole-newline : (s : List ℕ) → whole_lines (s ++ 10 ∷ []) ≡ whole_lines s ++ unfinished s ∷ []
whole-newline s = ap all_but_last (parts-newline s) ∙ all_but_last-push (parts s) [] ∙ parts-split s

pub unfinished-newline : (s : List ℕ) → unfinished (s ++ 10 ∷ []) ≡ []
unfinished-newline s = ap last_part (parts-newline s) ∙ last_part-push (parts s) []

pub whole-byte : (s : List ℕ) (b : ℕ) → (b == 10) ≡ false → whole_lines (s ++ b ∷ []) ≡ whole_lines s
whole-byte s b other = ap all_but_last (parts-byte s b other) ∙ all_but_last-push (whole_lines s) (unfinished s ++ b ∷ [])

pub unfinished-byte : (s : List ℕ) (b : ℕ) → (b == 10) ≡ false → unfinished (s ++ b ∷ []) ≡ unfinished s ++ b ∷ []
unfinished-byte s b other = ap last_part (parts-byte s b other) ∙ last_part-push (whole_lines s) (unfinished s ++ b ∷ [])

-- there is a byte for each whole line
length-onto_first : (x : ℕ) (ps : List (List ℕ)) → IsSome ps → length (onto_first x ps) ≡ length ps
length-onto_first x [] some = absurd some
length-onto_first x (p ∷ ps) some = refl

length-parts : (s : List ℕ) → length (parts s) ≤ length s + 1
length-parts [] = omega arith
length-parts (x ∷ s) = elim (cases_Bool (x == 10)) [
  | inl newline ↦ rw newline (omega (arith, length-parts s))
  | inr other ↦ rw (other, length-onto_first x (parts s) (parts-some s)) (omega (arith, length-parts s))
]

pub length-whole_lines : (s : List ℕ) → length (whole_lines s) ≤ length s
length-whole_lines s = omega (arith, length-parts s, ap length (parts-split s), length-append (whole_lines s) (unfinished s ∷ []))

pub length-lines : (s : List ℕ) → length (lines s) ≤ length s + 1
length-lines s = elim (cases_Bool (length (unfinished s) == 0)) [
  | inl none ↦ rw none (omega (arith, length-whole_lines s))
  | inr some ↦ rw some (length-parts s)
]
