-- What stands between the quotes of a printable line is a text.
use Rattle.std.proofs.Common.{◌≡◌, ℕ, Bool, true, false, not, ◌&&◌, ◌==◌, nat_le, List, [], ◌∷◌, length, take, drop, refl, sym, ap, ◌∙◌, inl, inr, take-append-drop}
use Rattle.std.specs.List.{list_all, list_any, prefix_len}
use Rattle.std.proofs.lemmas.Bool.{cases_Bool, leb-true, and_parts, and_from, or_parts}
use Rattle.std.proofs.lemmas.List.Folds.{list_all-append}
use Rattle.sgb_graph.specs.Text.{IsText, is_text_byte}
use Rattle.sgb_script.specs.Words.{is_quotable}
use Rattle.sgb_script.specs.Line.{is_printable_byte}
use Rattle.sgb_script.proofs.WordSplits.{take-one_more}

parts : (n : ℕ) (xs : List ℕ) → list_all is_printable_byte xs ≡ true → (list_all is_printable_byte (take n xs) ≡ true) × (list_all is_printable_byte (drop n xs) ≡ true)
parts n xs all =
    and_parts (list_all is_printable_byte (take n xs)) (list_all is_printable_byte (drop n xs))
    (sym (list_all-append is_printable_byte (take n xs) (drop n xs)) ∙ ap (list_all is_printable_byte) (take-append-drop n xs) ∙ all)

pub printable_behind : (xs rest : List ℕ) (n : ℕ) → rest ≡ drop n xs → list_all is_printable_byte xs ≡ true → list_all is_printable_byte rest ≡ true
printable_behind xs rest n is all = ap (list_all is_printable_byte) is ∙ (parts n xs all).1

not_true : (b : Bool) → not b ≡ true → b ≡ false
not_true true h = sym h
not_true false h = refl

-- printable bytes up to the quote, with no backslash among them
inside : (xs : List ℕ) → list_all is_printable_byte xs ≡ true
    → let t = take (prefix_len (λ b. not (b == 34)) xs) xs in list_any (λ b. b == 92) t ≡ false → list_all is_text_byte t ≡ true
inside [] all none = refl
inside (x ∷ xs) all none = elim (cases_Bool (x == 34)) [
  | inl quote ↦ rw quote refl
  | inr other ↦ (
      let here = and_parts (is_printable_byte x) (list_all is_printable_byte xs) all in
      let n = prefix_len (λ b. not (b == 34)) xs in
      let none_here = rw (other, take-one_more n x xs) at none in
      let apart = or_parts (x == 92) (list_any (λ b. b == 92) (take n xs)) none_here in
      rw (other, take-one_more n x xs)
      (and_from (is_text_byte x) (list_all is_text_byte (take n xs))
      (and_from (is_printable_byte x && not (x == 34)) (not (x == 92)) (and_from (is_printable_byte x) (not (x == 34)) here.0 (ap not other)) (ap not apart.0))
      (inside xs here.1 apart.1)))
]

pub text_is : (xs text : List ℕ) (n : ℕ) → n ≡ prefix_len (λ b. not (b == 34)) xs → text ≡ take n xs → list_all is_printable_byte xs ≡ true → is_quotable text ≡ true → IsText text
text_is xs text n count front all good =
    let same : text ≡ take (prefix_len (λ b. not (b == 34)) xs) xs = front ∙ ap (λ k. take k xs) count in
    let both = and_parts (nat_le (length text) 4095) (not (list_any (λ b. b == 92) text)) good in
    record {
      short = leb-true (length text) 4095 both.0;
      printable = ap (list_all is_text_byte) same ∙ inside xs all (sym (ap (list_any (λ b. b == 92)) same) ∙ not_true _ both.1);
    }
