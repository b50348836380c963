-- What is kept of a line, byte by byte.
use Rattle.std.proofs.Common.{◌≡◌, ℕ, zero, suc, ◌+◌, ◌<◌, ◌≤◌, Bool, true, false, ◌==◌, not, cond, List, [], ◌∷◌, ◌++◌, length, take, drop, None, min, inl, inr, refl, sym, ap, ◌∙◌, arith, length-append, length-take}
use Rattle.std.proofs.Math.Numerals.{one-add}
use Rattle.std.proofs.lemmas.Bool.{cases_Bool, and_right, or_left, ne_eqb, eqb-true, lt-ltb, le-ltb, ltb-true, ltb-false}
use Rattle.std.proofs.Math.Bool.{and_assoc, and-true}
use Rattle.std.proofs.lemmas.List.{take_all, drop_all, take-append-le, drop-append-le}
use Rattle.std.proofs.lemmas.List.Folds.{list_all-append}
use Rattle.std.proofs.lemmas.List.Sums.{take_while-cons}
use Rattle.std.specs.Prelude.{◌&&◌, ◌||◌, codes, nat_lt}
use Rattle.std.specs.List.{prefix_len, take_while, list_all}
use Rattle.std.specs.Str.{bytes_eq}
use Rattle.sgb_script.specs.Line.{line_of, is_printable_byte}
use Rattle.sgb_shell.specs.Unit.{unindented, takes_text, takes_members, is_dot, is_end}
use Rattle.sgb_shell.specs.Private.Holding.{LineFront, HeldLine, front_of, held_line, is_above}

-- ---- how it begins

abbrev is_space : ℕ → Bool
is_space b = b == 32

abbrev is_leading : List ℕ → ℕ → Bool
is_leading bytes byte = length bytes == 0 && byte == 32

abbrev longer : List ℕ → ℕ → List ℕ
longer bytes byte = cond (is_leading bytes byte) bytes (bytes ++ byte ∷ [])

none-kept : (n : ℕ) (line : List ℕ) → (length (take (suc n) line) == 0) ≡ (length line == 0)
none-kept n [] = refl
none-kept n (x ∷ line) = ne_eqb _ 0 (λ e. absurd (omega arith)) ∙ sym (ne_eqb (length (x ∷ line)) 0 (λ e. absurd (omega arith)))

longer-cons : (x : ℕ) (xs : List ℕ) (byte : ℕ) → longer (x ∷ xs) byte ≡ x ∷ (xs ++ byte ∷ [])
longer-cons x xs byte = rw (ne_eqb (length (x ∷ xs)) 0 (λ e. absurd (omega arith))) refl

unindented-space : (x : ℕ) (xs : List ℕ) → (x == 32) ≡ true → unindented (x ∷ xs) ≡ unindented xs
unindented-space x xs space = rw space (ap (λ k. drop k (x ∷ xs)) (one-add (prefix_len is_space xs)))

unindented-other : (x : ℕ) (xs : List ℕ) → (x == 32) ≡ false → unindented (x ∷ xs) ≡ x ∷ xs
unindented-other x xs other = rw other refl

unindented-push : (line : List ℕ) (byte : ℕ) → unindented (line ++ byte ∷ []) ≡ longer (unindented line) byte
unindented-push [] byte = elim (cases_Bool (byte == 32)) [
  | inl space ↦ rw space refl
  | inr other ↦ rw other refl
]
unindented-push (x ∷ xs) byte = elim (cases_Bool (x == 32)) [
  | inl space ↦ unindented-space x (xs ++ byte ∷ []) space ∙ unindented-push xs byte ∙ ap (λ t. longer t byte) (sym (unindented-space x xs space))
  | inr other ↦ unindented-other x (xs ++ byte ∷ []) other ∙ sym (longer-cons x xs byte) ∙ ap (λ t. longer t byte) (sym (unindented-other x xs other))
]

-- what is kept of a line that begins so
abbrev kept_of : List ℕ → LineFront
kept_of t = record { bytes = take 6 t; ends = list_all is_space (drop 6 t) }

leading-kept : (t : List ℕ) (byte : ℕ) → is_leading (take 6 t) byte ≡ is_leading t byte
leading-kept [] byte = refl
leading-kept (x ∷ t) byte = ap (λ b. b && byte == 32) (none-kept 5 (x ∷ t))

front-longer : (line : List ℕ) (kept : LineFront) (byte : ℕ) (leads : Bool) → kept ≡ front_of line → is_leading kept.bytes byte ≡ leads
    → front_of (line ++ byte ∷ []) ≡ kept_of (cond leads (unindented line) (unindented line ++ byte ∷ []))
front-longer line kept byte leads same e =
    let t = unindented line in
    ap kept_of (unindented-push line byte)
    ∙ ap (λ b. kept_of (cond b t (t ++ byte ∷ []))) (sym (leading-kept t byte) ∙ ap (λ k. is_leading k.bytes byte) (sym same) ∙ e)

pub first_leading : (line : List ℕ) (kept : LineFront) (byte : ℕ) → kept ≡ front_of line → is_leading kept.bytes byte ≡ true → kept ≡ front_of (line ++ byte ∷ [])
first_leading line kept byte same leads = same ∙ sym (front-longer line kept byte true same leads)

abbrev pub viewed : List ℕ → Bool → LineFront
viewed bytes ends = record { bytes = bytes; ends = ends }

same_front : (bytes bytes' : List ℕ) (ends ends' : Bool) → bytes ≡ bytes' → ends ≡ ends' → ◌≡◌ {A = LineFront} (record { bytes = bytes; ends = ends }) (record { bytes = bytes'; ends = ends' })
same_front bytes bytes' ends ends' p q = rw (p, q) refl

pub first_full : (line bytes : List ℕ) (ends : Bool) (byte : ℕ) → ◌≡◌ {A = LineFront} (record { bytes = bytes; ends = ends }) (front_of line) → is_leading bytes byte ≡ false → 6 ≤ length bytes
    → ◌≡◌ {A = LineFront} (record { bytes = bytes; ends = ends && byte == 32 }) (front_of (line ++ byte ∷ []))
first_full line bytes ends byte same leads full =
    let t = unindented line in
    let kept : bytes ≡ take 6 t = ap (λ k. k.bytes) same in
    let long : 6 ≤ length t = omega (arith, ap length kept, length-take 6 t) in
    same_front _ _ _ _ (kept ∙ sym (take-append-le 6 t (byte ∷ []) long))
    (ap (λ k. k.ends && byte == 32) same ∙ ap (λ b. list_all is_space (drop 6 t) && b) (sym (and-true (byte == 32)))
    ∙ sym (list_all-append is_space (drop 6 t) (byte ∷ [])) ∙ ap (list_all is_space) (sym (drop-append-le 6 t (byte ∷ []) long)))
    ∙ sym (front-longer line (record { bytes = bytes; ends = ends }) byte false same leads)

pub first_pushed : (line bytes : List ℕ) (ends : Bool) (byte : ℕ) → ◌≡◌ {A = LineFront} (record { bytes = bytes; ends = ends }) (front_of line) → is_leading bytes byte ≡ false → length bytes < 6
    → ◌≡◌ {A = LineFront} (record { bytes = bytes ++ byte ∷ []; ends = ends }) (front_of (line ++ byte ∷ []))
first_pushed line bytes ends byte same leads few =
    let t = unindented line in
    let kept : bytes ≡ take 6 t = ap (λ k. k.bytes) same in
    let short : length t < 6 = omega (arith, ap length kept, length-take 6 t) in
    let more : length (t ++ byte ∷ []) ≡ length t + 1 = length-append t (byte ∷ []) in
    same_front _ _ _ _ (ap (λ k. k ++ byte ∷ []) (kept ∙ take_all 6 t (omega arith)) ∙ sym (take_all 6 (t ++ byte ∷ []) (omega arith)))
    (ap (λ k. k.ends) same ∙ ap (list_all is_space) (drop_all 6 t (omega arith) ∙ sym (drop_all 6 (t ++ byte ∷ []) (omega arith))))
    ∙ sym (front-longer line (record { bytes = bytes; ends = ends }) byte false same leads)

pub not_true : (b : Bool) → not b ≡ true → b ≡ false
not_true true e = cc
not_true false e = refl

pub left_true : (a b : Bool) → (a && b) ≡ true → a ≡ true
left_true true b e = refl
left_true false b e = cc

pub right_true : (a b : Bool) → (a && b) ≡ true → b ≡ true
right_true true b e = e
right_true false b e = cc

-- a word is the first run where it stands alone, or a space ends it
word_first : (w t : List ℕ) → list_all (λ b. not (b == 32)) w ≡ true
    → (bytes_eq (take (suc (length w)) t) w || bytes_eq (take (suc (length w)) t) (w ++ 32 ∷ [])) ≡ bytes_eq (take_while (λ b. not (b == 32)) t) w
word_first [] [] plain = refl
word_first [] (x ∷ t) plain = elim (cases_Bool (x == 32)) [
  | inl space ↦ rw (take_while-cons, space) refl
  | inr other ↦ rw (take_while-cons, other) refl
]
word_first (y ∷ w) [] plain = refl
word_first (y ∷ w) (x ∷ t) plain = elim (cases_Bool (x == y)) [
  | inl same ↦
      let other : (x == 32) ≡ false = ap (λ b. b == 32) (eqb-true x y same) ∙ not_true (y == 32) (left_true (not (y == 32)) _ plain) in
      rw (take_while-cons, other, same) (word_first w t (right_true (not (y == 32)) _ plain))
  | inr other ↦ elim (cases_Bool (x == 32)) [
    | inl space ↦ rw (take_while-cons, space, other) refl
    | inr letter ↦ rw (take_while-cons, letter, other) refl
  ]
]

-- fewer of the first bytes
fewer_kept : (n : ℕ) (t : List ℕ) → take n (take (suc n) t) ≡ take n t
fewer_kept zero t = refl
fewer_kept (suc n) [] = refl
fewer_kept (suc n) (x ∷ t) = ap (λ l. x ∷ l) (fewer_kept n t)

pub text_taken : (line : List ℕ) (kept : LineFront) → kept ≡ front_of line → (bytes_eq (take 5 kept.bytes) (codes "load") || bytes_eq (take 5 kept.bytes) (codes "load ")) ≡ takes_text line
unfolding takes_text
text_taken line kept same =
    ap (λ k. bytes_eq (take 5 k.bytes) (codes "load") || bytes_eq (take 5 k.bytes) (codes "load ")) same
    ∙ ap (λ k. bytes_eq k (codes "load") || bytes_eq k (codes "load ")) (fewer_kept 5 (unindented line))
    ∙ word_first (codes "load") (unindented line) refl

pub members_taken : (line : List ℕ) (kept : LineFront) → kept ≡ front_of line → (bytes_eq kept.bytes (codes "group") || bytes_eq kept.bytes (codes "group ")) ≡ takes_members line
unfolding takes_members
members_taken line kept same =
    ap (λ k. bytes_eq k.bytes (codes "group") || bytes_eq k.bytes (codes "group ")) same ∙ word_first (codes "group") (unindented line) refl

end_word : (t : List ℕ) → take 3 (take 6 t) ≡ take 3 t
end_word [] = refl
end_word (a ∷ []) = refl
end_word (a ∷ b ∷ []) = refl
end_word (a ∷ b ∷ c ∷ t) = refl

blank_split : (n : ℕ) (t : List ℕ) → (list_all is_space (take n t) && list_all is_space (drop n t)) ≡ list_all is_space t
blank_split zero t = refl
blank_split (suc n) [] = refl
blank_split (suc n) (x ∷ t) = and_assoc (is_space x) (list_all is_space (take n t)) (list_all is_space (drop n t)) ∙ ap (λ b. is_space x && b) (blank_split n t)

blank_behind : (t : List ℕ) → (list_all is_space (drop 3 (take 6 t)) && list_all is_space (drop 6 t)) ≡ list_all is_space (drop 3 t)
blank_behind [] = refl
blank_behind (a ∷ []) = refl
blank_behind (a ∷ b ∷ []) = refl
blank_behind (a ∷ b ∷ c ∷ t) = blank_split 3 t

abbrev pub ends_as : LineFront → Bool
ends_as k = (bytes_eq (take 3 k.bytes) (codes "end") && list_all (λ b. b == 32) (drop 3 k.bytes)) && k.ends

pub end_taken : (line : List ℕ) (kept : LineFront) → kept ≡ front_of line → ends_as kept ≡ is_end line
unfolding is_end
end_taken line kept same =
    let t = unindented line in
    ap ends_as same
    ∙ and_assoc (bytes_eq (take 3 (take 6 t)) (codes "end")) (list_all is_space (drop 3 (take 6 t))) (list_all is_space (drop 6 t))
    ∙ ap (λ w. bytes_eq w (codes "end") && (list_all is_space (drop 3 (take 6 t)) && list_all is_space (drop 6 t))) (end_word t)
    ∙ ap (λ b. bytes_eq (take 3 t) (codes "end") && b) (blank_behind t)

-- ---- its first bytes

-- what is kept of it has its length, up to 8,192
length-kept : (kept line : List ℕ) → kept ≡ take 8192 line → length kept ≡ min 8192 (length line)
length-kept kept line same = ap length same ∙ length-take 8192 line

same_held : (bytes bytes' : List ℕ) (long long' : Bool) (first first' : LineFront) → bytes ≡ bytes' → long ≡ long' → first ≡ first'
    → ◌≡◌ {A = HeldLine} (record { bytes = bytes; is_long = long; first = first }) (record { bytes = bytes'; is_long = long'; first = first' })
same_held bytes bytes' long long' first first' p q r = rw (p, q, r) refl

module _ (line kept : List ℕ) (is_long : Bool) (first : LineFront) (byte : ℕ) where
  pub held_kept : (kept' : List ℕ) (first' : LineFront) → ◌≡◌ {A = HeldLine} (record { bytes = kept; is_long = is_long; first = first }) (held_line line) → length kept < 8192
      → kept' ≡ kept ++ byte ∷ [] → first' ≡ front_of (line ++ byte ∷ [])
      → ◌≡◌ {A = HeldLine} (record { bytes = kept'; is_long = is_long; first = first' }) (held_line (line ++ byte ∷ []))
  unfolding held_line
  held_kept kept' first' held room more begins =
      let bytes : kept ≡ take 8192 line = ap (λ h. h.bytes) held in
      let long : is_long ≡ is_above line = ap (λ h. h.is_long) held in
      let short : length line < 8192 = omega (arith, length-kept kept line bytes) in
      let longer : length (line ++ byte ∷ []) ≡ length line + 1 = length-append line (byte ∷ []) in
      same_held _ _ _ _ _ _
      (more ∙ ap (λ l. l ++ byte ∷ []) (bytes ∙ take_all 8192 line (omega arith)) ∙ sym (take_all 8192 (line ++ byte ∷ []) (omega arith)))
      (long ∙ le-ltb 8192 (length line) (omega arith) ∙ sym (le-ltb 8192 (length (line ++ byte ∷ [])) (omega arith)))
      begins

  pub held_full : (first' : LineFront) → ◌≡◌ {A = HeldLine} (record { bytes = kept; is_long = is_long; first = first }) (held_line line) → 8192 ≤ length kept
      → first' ≡ front_of (line ++ byte ∷ [])
      → ◌≡◌ {A = HeldLine} (record { bytes = kept; is_long = true; first = first' }) (held_line (line ++ byte ∷ []))
  unfolding held_line
  held_full first' held full begins =
      let bytes : kept ≡ take 8192 line = ap (λ h. h.bytes) held in
      let long : 8192 ≤ length line = omega (arith, length-kept kept line bytes) in
      let longer : length (line ++ byte ∷ []) ≡ length line + 1 = length-append line (byte ∷ []) in
      same_held _ _ _ _ _ _
      (bytes ∙ sym (take-append-le 8192 line (byte ∷ []) long))
      (sym (lt-ltb 8192 (length (line ++ byte ∷ [])) (omega arith)))
      begins

pub held_none : (bytes : List ℕ) (first : LineFront) → bytes ≡ [] → first ≡ front_of [] → ◌≡◌ {A = HeldLine} (record { bytes = bytes; is_long = false; first = first }) (held_line [])
unfolding held_line
held_none bytes first p q = rw (p, q) refl

-- ---- what is asked of it

not_dot : (bytes : List ℕ) → 1 < length bytes → bytes_eq bytes (codes ".") ≡ false
not_dot [] more = absurd (omega arith)
not_dot (x ∷ []) more = absurd (omega arith)
not_dot (x ∷ y ∷ bytes) more = and_right (x == 46) false refl

dot-kept : (line : List ℕ) → bytes_eq (take 8192 line) (codes ".") ≡ bytes_eq line (codes ".")
dot-kept line = elim (cases_Bool (is_above line)) [
  | inl above ↦
      let long : 8192 < length line = ltb-true 8192 (length line) above in
      not_dot (take 8192 line) (omega (arith, length-take 8192 line)) ∙ sym (not_dot line (omega arith))
  | inr short ↦
      let fits : length line ≤ 8192 = ltb-false 8192 (length line) short in
      ap (λ k. bytes_eq k (codes ".")) (take_all 8192 line fits)
]

module _ (line kept : List ℕ) (is_long : Bool) (first : LineFront) (held : ◌≡◌ {A = HeldLine} (record { bytes = kept; is_long = is_long; first = first }) (held_line line)) where
  pub held_first : first ≡ front_of line
  unfolding held_line
  held_first = ap (λ h. h.first) held

  pub held_long : is_long ≡ is_above line
  unfolding held_line
  held_long = ap (λ h. h.is_long) held

  pub held_bytes : kept ≡ take 8192 line
  unfolding held_line
  held_bytes = ap (λ h. h.bytes) held

  pub held_whole : is_long ≡ false → kept ≡ line
  held_whole short =
      let fits : length line ≤ 8192 = ltb-false 8192 (length line) (sym held_long ∙ short) in held_bytes ∙ take_all 8192 line fits

  pub held_empty : (length kept == 0) ≡ (length line == 0)
  held_empty = ap (λ k. length k == 0) held_bytes ∙ none-kept 8191 line

  pub held_dot : bytes_eq kept (codes ".") ≡ is_dot line
  held_dot = ap (λ k. bytes_eq k (codes ".")) held_bytes ∙ dot-kept line

-- a long line asks for nothing
pub long_line : (line : List ℕ) → is_above line ≡ true → line_of line ≡ None
unfolding line_of
long_line line above = rw (or_left (nat_lt 8192 (length line)) (not (list_all is_printable_byte line)) above) refl
