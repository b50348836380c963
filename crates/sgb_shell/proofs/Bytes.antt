-- How a run goes on by the bytes of a read.
use Rattle.std.proofs.Common.{zero, suc, ◌≤◌, append_assoc, append-nil, get_or, drop, take-append-drop, take-add, add-one, eq-eqb, ◌^◌, inl, inr, ◌≡◌, ℕ, ◌+◌, ◌<◌, true, false, ◌==◌, List, [], ◌∷◌, ◌++◌, length, take, Option, Result, Ok, Err, refl, sym, ap, ◌∙◌, subst, arith, length-append}
use Rattle.std.proofs.lemmas.Bool.{cases_Bool, eqb-true, ne_eqb, leb-true, le-ltb}
use Rattle.std.proofs.lemmas.List.{take_all, take_more}
use Rattle.std.specs.Prelude.{slice_index, nat_le, ◌&&◌}
use Rattle.memchr.specs.Find.{NoneBefore, Passes, is_byte}
use Rattle.sgb_print.specs.Meter.{WriterUse}
use Rattle.sgb_shell.specs.Private.Holding.{IsFirstLine, HasNoNewline, held_line, is_above}
use Rattle.sgb_shell.specs.Lines.{whole_lines, unfinished, lines}
use Rattle.sgb_shell.specs.Private.Reaching.{ShellView, ReaderView, Reached, Stopped, StoppedAtEnd, Progress, Finishes, Concludes, TakesLine, ended_lines}
use Rattle.sgb_shell.proofs.Progress.{stopped-append, stopped-earlier, stopped_earlier}
use Rattle.sgb_shell.proofs.LineBytes.{left_true, right_true}
use Rattle.sgb_shell.proofs.LineEnds.{parts-split, whole-newline, unfinished-newline, whole-byte, unfinished-byte, length-whole_lines}

-- ---- the end of the script

pub no_bytes : (l : List ℕ) → (length l == 0) ≡ true → l ≡ []
no_bytes [] e = refl
no_bytes (x ∷ l) e = absurd (omega (arith, eqb-true (length (x ∷ l)) 0 e))

pub ended_line : {W X E : Type 0} (held : Option (List ℕ)) (w w' : WriterUse W) (script : List ℕ) (s : ShellView) (result : Result X E)
    → (length (unfinished script) == 0) ≡ false → Finishes held w w' (whole_lines script) (whole_lines script ++ unfinished script ∷ []) s result
    → Finishes held w w' (whole_lines script) (lines script) s result
ended_line held w w' script s result some f =
    let all : lines script ≡ whole_lines script ++ unfinished script ∷ [] = rw some (parts-split script) in
    subst (λ ls. Finishes held w w' (whole_lines script) ls s result) (sym all) f

pub ended_none : (held now : Option (List ℕ)) (script : List ℕ) (r : ReaderView) → Progress held now script r → (length (unfinished script) == 0) ≡ true → Reached held now (lines script) r.shell
ended_none held now script r p none =
    let all : lines script ≡ whole_lines script = rw none refl in
    subst (λ ls. Reached held now ls r.shell) (sym all) p.reached

-- the last line stands behind the whole ones
lines-behind : (script : List ℕ) → (rest : List (List ℕ)) × (lines script ≡ whole_lines script ++ rest)
lines-behind script = elim (cases_Bool (length (unfinished script) == 0)) [
  | inl none ↦ ([], rw none (sym (append-nil (whole_lines script))))
  | inr some ↦ (unfinished script ∷ [], rw some (parts-split script))
]

pub ended_unit : {W X E : Type 0} (held : Option (List ℕ)) (w middle w' : WriterUse W) (script : List ℕ) (s : ShellView) (result : Result X E)
    → middle.failed ≡ w.failed → Concludes held middle w' (lines script) (lines script) s result
    → Concludes held w w' (whole_lines script) (lines script) s result
ended_unit held w middle w' script s (Ok x) same c = (c.0, c.1 ∙ same)
ended_unit held w middle w' script s (Err e) same c =
    let behind = lines-behind script in
    (stopped_earlier held w'.held (whole_lines script) behind.0 (lines script) (subst (λ ls. StoppedAtEnd held w'.held ls (lines script)) behind.1 c.0), c.1)

-- ---- one byte after another

one_more : (script bytes : List ℕ) (i : ℕ) → i < length bytes → (script ++ take i bytes) ++ get_or bytes i 0 ∷ [] ≡ script ++ take (i + 1) bytes
one_more script bytes i within = append_assoc script (take i bytes) (get_or bytes i 0 ∷ []) ∙ ap (λ t. script ++ t) (sym (take_more bytes i 0 within))

-- further bytes finish further lines
whole-extends : (script more : List ℕ) → (rest : List (List ℕ)) × (whole_lines (script ++ more) ≡ whole_lines script ++ rest)
whole-extends script [] = ([], ap whole_lines (append-nil script) ∙ sym (append-nil (whole_lines script)))
whole-extends script (b ∷ more) =
    let rest = whole-extends (script ++ b ∷ []) more in
    let same : whole_lines (script ++ b ∷ more) ≡ whole_lines (script ++ b ∷ []) ++ rest.0 = ap whole_lines (sym (append_assoc script (b ∷ []) more)) ∙ rest.1 in
    elim (cases_Bool (b == 10)) [
      | inl newline ↦ (
        unfinished script ∷ rest.0,
        same
            ∙ ap (λ ls. ls ++ rest.0) (ap (λ c. whole_lines (script ++ c ∷ [])) (eqb-true b 10 newline) ∙ whole-newline script)
            ∙ append_assoc (whole_lines script) (unfinished script ∷ []) rest.0,
      )
      | inr other ↦ (rest.0, same ∙ ap (λ ls. ls ++ rest.0) (whole-byte script b other))
    ]

-- ---- the front of the bytes

-- the bytes from a place on stand behind those before it
pub split_script : (script bytes : List ℕ) (i : ℕ) (rest : List ℕ) → rest ≡ drop i bytes → (script ++ take i bytes) ++ rest ≡ script ++ bytes
split_script script bytes i rest same =
    ap (λ r. (script ++ take i bytes) ++ r) same ∙ append_assoc script (take i bytes) (drop i bytes) ∙ ap (λ t. script ++ t) (take-append-drop i bytes)

pub rest_failed : (held now : Option (List ℕ)) (script bytes : List ℕ) (i : ℕ) (rest : List ℕ) → rest ≡ drop i bytes
    → Stopped held now (whole_lines (script ++ take i bytes)) (whole_lines ((script ++ take i bytes) ++ rest)) → Stopped held now (whole_lines script) (whole_lines (script ++ bytes))
rest_failed held now script bytes i rest same s =
    let first = whole-extends script (take i bytes) in
    let all = subst (λ t. Stopped held now (whole_lines (script ++ take i bytes)) (whole_lines t)) (split_script script bytes i rest same) s in
    stopped-earlier held now (whole_lines script) first.0 (whole_lines (script ++ bytes)) (subst (λ ls. Stopped held now ls (whole_lines (script ++ bytes))) first.1 all)

pub front_taken : (held now : Option (List ℕ)) (script bytes : List ℕ) (i n : ℕ) (rest : List ℕ) → rest ≡ drop i bytes → (r : ReaderView)
    → Progress held now ((script ++ take i bytes) ++ take n rest) r → Progress held now (script ++ take (i + n) bytes) r
front_taken held now script bytes i n rest same r p =
    let more : (script ++ take i bytes) ++ take n rest ≡ script ++ take (i + n) bytes =
    append_assoc script (take i bytes) (take n rest) ∙ ap (λ t. script ++ t) (ap (λ r. take i bytes ++ take n r) same ∙ sym (take-add i n bytes)) in
    subst (λ s. Progress held now s r) more p

front_failed : (held now : Option (List ℕ)) (script bytes : List ℕ) (n : ℕ)
    → Stopped held now (whole_lines script) (whole_lines (script ++ take n bytes)) → Stopped held now (whole_lines script) (whole_lines (script ++ bytes))
front_failed held now script bytes n s =
    let more = whole-extends (script ++ take n bytes) (drop n bytes) in
    subst (Stopped held now (whole_lines script)) (sym more.1 ∙ ap whole_lines (split_script script bytes n (drop n bytes) refl))
    (stopped-append held now (whole_lines script) (whole_lines (script ++ take n bytes)) more.0 s)

-- ---- a line that lies whole in the bytes

pub first_line_at : (bytes line : List ℕ) (k : ℕ) → NoneBefore (Passes (is_byte 10) bytes) 0 (length bytes) k → Passes (is_byte 10) bytes k
    → line ≡ take k bytes → length line ≡ k → IsFirstLine line bytes
first_line_at bytes line k none found same size = record {
  within = let high = none.high in omega arith;
  front = same ∙ ap (λ n. take n bytes) (sym size);
  newline = ap (slice_index bytes) size ∙ eqb-true (slice_index bytes k) 10 found;
  plain = λ j below. ne_eqb (slice_index bytes j) 10 (λ e. none.before j (omega arith) (omega arith) (eq-eqb (slice_index bytes j) 10 e));
}

-- bytes without a newline finish no line
bytes_held : (script bytes : List ℕ) (n : ℕ) → n ≤ length bytes → ((k : ℕ) → k < n → (slice_index bytes k == 10) ≡ false)
    → (whole_lines (script ++ take n bytes) ≡ whole_lines script) × (unfinished (script ++ take n bytes) ≡ unfinished script ++ take n bytes)
bytes_held script bytes zero within plain = (ap whole_lines (append-nil script), ap unfinished (append-nil script) ∙ sym (append-nil (unfinished script)))
bytes_held script bytes (suc n) within plain =
    let before = bytes_held script bytes n (omega arith) (λ k below. plain k (omega arith)) in
    let s = script ++ take n bytes in
    let b = get_or bytes n 0 in
    let other : (b == 10) ≡ false = plain n (omega arith) in
    let here : n < length bytes = omega arith in
    let longer : s ++ b ∷ [] ≡ script ++ take (suc n) bytes = one_more script bytes n here ∙ ap (λ k. script ++ take k bytes) (add-one n) in
    let front : take n bytes ++ b ∷ [] ≡ take (suc n) bytes = sym (take_more bytes n 0 here) ∙ ap (λ k. take k bytes) (add-one n) in (
      ap whole_lines (sym longer) ∙ whole-byte s b other ∙ before.0,
      ap unfinished (sym longer) ∙ unfinished-byte s b other ∙ ap (λ u. u ++ b ∷ []) before.1 ∙ append_assoc (unfinished script) (take n bytes) (b ∷ []) ∙ ap (λ t. unfinished script ++ t) front,
    )

-- the bytes are held behind what was unfinished
pub bytes_taken : (held now : Option (List ℕ)) (script bytes : List ℕ) (n : ℕ) (r r' : ReaderView) → n ≡ length bytes → HasNoNewline bytes
    → r'.shell ≡ r.shell → ((l : List ℕ) → r.line ≡ held_line l → r'.line ≡ held_line (l ++ bytes)) → Progress held now script r
    → Progress held now (script ++ take n bytes) r'
bytes_taken held now script bytes n r r' all none same more p =
    let b = bytes_held script bytes n (omega arith) (λ k below. none k (omega arith)) in
    let whole : take n bytes ≡ bytes = take_all n bytes (omega arith) in record {
      reached = subst (λ ls. Reached held now ls r'.shell) (sym b.0) (subst (Reached held now (whole_lines script)) (sym same) p.reached);
      holds = more (unfinished script) p.holds ∙ ap (λ t. held_line (unfinished script ++ t)) (sym whole) ∙ ap held_line (sym b.1);
    }

-- what is unfinished has its end in the bytes
module _ (script bytes line : List ℕ) (first : IsFirstLine line bytes) where
  line_end : (script ++ take (length line) bytes) ++ 10 ∷ [] ≡ script ++ take (length line + 1) bytes
  line_end = ap (λ b. (script ++ take (length line) bytes) ++ b ∷ []) (sym first.newline) ∙ one_more script bytes (length line) first.within

  line_whole : whole_lines (script ++ take (length line + 1) bytes) ≡ ended_lines script line
  line_whole =
      let within = first.within in
      let s = script ++ take (length line) bytes in
      let b = bytes_held script bytes (length line) (omega arith) first.plain in
      ap whole_lines (sym line_end) ∙ whole-newline s ∙ ap (λ ls. ls ++ unfinished s ∷ []) b.0
      ∙ ap (λ l. whole_lines script ++ l ∷ []) (b.1 ∙ ap (λ t. unfinished script ++ t) (sym first.front))

  pub line_taken : (held now : Option (List ℕ)) (r : ReaderView) → r.line ≡ held_line [] → Reached held now (ended_lines script line) r.shell
      → Progress held now (script ++ take (length line + 1) bytes) r
  line_taken held now r empty reached = record {
    reached = subst (λ ls. Reached held now ls r.shell) (sym line_whole) reached;
    holds = empty ∙ ap held_line (sym (ap unfinished (sym line_end) ∙ unfinished-newline (script ++ take (length line) bytes)));
  }

  pub line_failed : (held now : Option (List ℕ)) → Stopped held now (whole_lines script) (ended_lines script line) → Stopped held now (whole_lines script) (whole_lines (script ++ bytes))
  line_failed held now s = front_failed held now script bytes (length line + 1) (subst (Stopped held now (whole_lines script)) (sym line_whole) s)

pub few_lines : (script : List ℕ) → length script < 2 ^ 32 → length (whole_lines script) < 2 ^ 32
few_lines script few = omega (arith, length-whole_lines script)

pub few_before : (script bytes : List ℕ) → length (script ++ bytes) < 2 ^ 32 → length script < 2 ^ 32
few_before script bytes few = omega (arith, length-append script bytes)

-- the end of a line is all of it, and short
pub whole_taken : {W X E : Type 0} (held : Option (List ℕ)) (w w' : WriterUse W) (script end : List ℕ) (r : ReaderView) (s : ShellView) (result : Result X E)
    → (length (unfinished script) == 0 && nat_le (length end) 8192) ≡ true → Progress held w.held script r
    → ((l : List ℕ) → (end ≡ l) × (is_above l ≡ false) → Reached held w.held (whole_lines script) r.shell → Finishes held w w' (whole_lines script) (whole_lines script ++ l ∷ []) s result)
    → TakesLine held w w' script end (record { shell = s; line = r.line }) result
whole_taken held w w' script end r s result whole p takes =
    let none = no_bytes (unfinished script) (left_true (length (unfinished script) == 0) (nat_le (length end) 8192) whole) in
    let same : end ≡ unfinished script ++ end = ap (λ u. u ++ end) (sym none) in
    let short : is_above end ≡ false = le-ltb 8192 (length end) (leb-true (length end) 8192 (right_true (length (unfinished script) == 0) (nat_le (length end) 8192) whole)) in record {
      line = p.holds ∙ ap held_line none;
      finishes = takes (unfinished script ++ end) (same, ap is_above (sym same) ∙ short) p.reached;
    }
