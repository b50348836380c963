-- Long items in lines.
use Rattle.std.proofs.Common.{◌≡◌, ℕ, zero, suc, ◌+◌, ◌-◌, ◌<◌, ◌≤◌, false, nat_lt, ◌==◌, if◌then◌else◌, Result, Ok, Err, OnOk, List, [], ◌∷◌, ◌++◌, take, drop, length, refl, sym, ap, ◌∙◌, inl, inr, arith, append_assoc, length-append, length-drop, length-take, take-append-drop, subst}
use Rattle.std.proofs.lemmas.Bool.{cases_Bool, eqb-true, ltb-true, ltb-false, lt-ltb, le-ltb}
use Rattle.std.proofs.Math.Seq.{take-append_seam, drop-append_seam}
use Rattle.sgb_text.specs.Layout.{cut, last_width, is_past}
use Rattle.sgb_text.specs.Private.Page.{PageOf, with_bytes, with_cut, with_line, with_item}

-- more lines than there are bytes change nothing
pub cut_enough : (m k : ℕ) (bs : List ℕ) → length bs ≤ m → length bs ≤ k → cut m bs ≡ cut k bs
unfolding cut
cut_enough zero zero bs a b = refl
cut_enough zero (suc k) bs a b = rw (le-ltb 79 (length bs) (omega arith)) refl
cut_enough (suc m) zero bs a b = rw (le-ltb 79 (length bs) (omega arith)) refl
cut_enough (suc m) (suc k) bs a b = elim (cases_Bool (nat_lt 79 (length bs))) [
  | inl long ↦
      let size = length-drop 78 bs in
      rw long (ap (λ cs. take 78 bs ++ 92 ∷ 10 ∷ cs) (cut_enough m k (drop 78 bs) (omega (arith, ltb-true 79 (length bs) long)) (omega (arith, ltb-true 79 (length bs) long))))
  | inr short ↦ rw short refl
]

pub last_enough : (m k n : ℕ) → n ≤ m → n ≤ k → last_width m n ≡ last_width k n
unfolding last_width
last_enough zero zero n a b = refl
last_enough zero (suc k) n a b = rw (le-ltb 79 n (omega arith)) refl
last_enough (suc m) zero n a b = rw (le-ltb 79 n (omega arith)) refl
last_enough (suc m) (suc k) n a b = elim (cases_Bool (nat_lt 79 n)) [
  | inl long ↦ rw long (last_enough m k (n - 78) (omega (arith, ltb-true 79 n long)) (omega (arith, ltb-true 79 n long)))
  | inr short ↦ rw short refl
]

-- an item within a line
pub cut_short : (m : ℕ) (bs : List ℕ) → length bs ≤ 79 → cut m bs ≡ bs
unfolding cut
cut_short zero bs h = refl
cut_short (suc m) bs h = rw (le-ltb 79 (length bs) h) refl

pub last_short : (m n : ℕ) → n ≤ 79 → last_width m n ≡ n
unfolding last_width
last_short zero n h = refl
last_short (suc m) n h = rw (le-ltb 79 n h) refl

-- the first line of a long one
cut_long : (m : ℕ) (bs : List ℕ) → 79 < length bs → length bs ≤ m → cut m bs ≡ take 78 bs ++ 92 ∷ 10 ∷ cut (length (drop 78 bs)) (drop 78 bs)
unfolding cut
cut_long zero bs h e = absurd (omega arith)
cut_long (suc m) bs h e =
    let size = length-drop 78 bs in
    rw (lt-ltb 79 (length bs) h) (ap (λ cs. take 78 bs ++ 92 ∷ 10 ∷ cs) (cut_enough m (length (drop 78 bs)) (drop 78 bs) (omega arith) (omega arith)))

last_long : (m n : ℕ) → 79 < n → n ≤ m → last_width m n ≡ last_width (n - 78) (n - 78)
unfolding last_width
last_long zero n h e = absurd (omega arith)
last_long (suc m) n h e = rw (lt-ltb 79 n h) (last_enough m (n - 78) (n - 78) (omega arith) (omega arith))

last_within : (m n : ℕ) → n ≤ m → last_width m n ≤ 79
unfolding last_width
last_within zero n h = omega arith
last_within (suc m) n h = elim (cases_Bool (nat_lt 79 n)) [
  | inl long ↦ rw long (last_within m (n - 78) (omega (arith, ltb-true 79 n long)))
  | inr short ↦ rw short (omega (arith, ltb-false 79 n short))
]

-- an item whose first n bytes make its first line
pub cut_front : (first rest : List ℕ) → length first ≡ 78 → 79 < length (first ++ rest)
    → cut (length (first ++ rest)) (first ++ rest) ≡ first ++ 92 ∷ 10 ∷ cut (length rest) rest
cut_front first rest size long =
    let front : take 78 (first ++ rest) ≡ first = ap (λ n. take n (first ++ rest)) (sym size) ∙ take-append_seam first rest in
    let back : drop 78 (first ++ rest) ≡ rest = ap (λ n. drop n (first ++ rest)) (sym size) ∙ drop-append_seam first rest in
    cut_long (length (first ++ rest)) (first ++ rest) long (omega arith)
    ∙ ap (λ cs. cs ++ 92 ∷ 10 ∷ cut (length (drop 78 (first ++ rest))) (drop 78 (first ++ rest))) front
    ∙ ap (λ cs. first ++ 92 ∷ 10 ∷ cut (length cs) cs) back

pub last_front : (first rest : List ℕ) → length first ≡ 78 → 79 < length (first ++ rest)
    → last_width (length (first ++ rest)) (length (first ++ rest)) ≡ last_width (length rest) (length rest)
last_front first rest size long =
    let n = length (first ++ rest) in
    let less : n - 78 ≡ length rest = omega (arith, length-append first rest) in
    last_long n n long (omega arith) ∙ ap (λ k. last_width k k) less

-- ---- the loop over the lines of a long item

-- what is written, and what is left with its end
pub record Cutting (old new bytes rest tail : List ℕ) : Type 0 where
  pub text : new ++ cut (length (rest ++ tail)) (rest ++ tail) ≡ old ++ cut (length (bytes ++ tail)) (bytes ++ tail)
  pub width : last_width (length (rest ++ tail)) (length (rest ++ tail)) ≡ last_width (length (bytes ++ tail)) (length (bytes ++ tail))
  pub few : length rest ≤ 4095

pub begins_cutting : (text bytes tail : List ℕ) → length bytes ≤ 4095 → Cutting text text bytes bytes tail
begins_cutting text bytes tail h = record { text = refl; width = refl; few = h }

pub cuts_line : (text text' text'' bytes rest part behind tail : List ℕ) → Cutting text text' bytes rest tail
    → 79 < length rest + length tail → length tail ≤ 2 → part ≡ take 78 rest → behind ≡ drop 78 rest
    → text'' ≡ (text' ++ part) ++ (92 ∷ 10 ∷ []) → Cutting text text'' bytes behind tail
cuts_line text text' text'' bytes rest part behind tail c long small front back more =
    let whole : part ++ behind ≡ rest = rw (front, back) (take-append-drop 78 rest) in
    let size : length part ≡ 78 = ap length front ∙ (omega (arith, length-take 78 rest)) in
    let same : part ++ (behind ++ tail) ≡ rest ++ tail = sym (append_assoc part behind tail) ∙ ap (λ bs. bs ++ tail) whole in
    let big : 79 < length (part ++ (behind ++ tail)) = subst (λ (bs : List ℕ). 79 < length bs) (sym same) (omega (arith, length-append rest tail)) in
    record {
      text =
          ap (λ t. t ++ cut (length (behind ++ tail)) (behind ++ tail)) more
          ∙ (simp append_assoc)
          ∙ ap (λ t. text' ++ t) (sym (cut_front part (behind ++ tail) size big))
          ∙ ap (λ bs. text' ++ cut (length bs) bs) same
          ∙ c.text;
      width =
          sym (last_front part (behind ++ tail) size big)
          ∙ ap (λ bs. last_width (length bs) (length bs)) same
          ∙ c.width;
      few = omega (arith, c.few, ap length back, length-drop 78 rest);
    }

pub cut_text : (text text' text'' bytes rest tail : List ℕ) → Cutting text text' bytes rest tail → length rest + length tail ≤ 79
    → text'' ≡ (text' ++ rest) ++ tail → text'' ≡ text ++ cut (length (bytes ++ tail)) (bytes ++ tail)
cut_text text text' text'' bytes rest tail c short last =
    last ∙ append_assoc text' rest tail
    ∙ ap (λ t. text' ++ t) (sym (cut_short (length (rest ++ tail)) (rest ++ tail) (omega (arith, length-append rest tail))))
    ∙ c.text

pub cut_width : (text text' bytes rest tail : List ℕ) → Cutting text text' bytes rest tail → length rest + length tail ≤ 79
    → length rest + length tail ≡ last_width (length (bytes ++ tail)) (length (bytes ++ tail))
cut_width text text' bytes rest tail c short =
    sym (length-append rest tail)
    ∙ sym (last_short (length (rest ++ tail)) (length (rest ++ tail)) (omega (arith, length-append rest tail)))
    ∙ c.width

-- ---- an item of three parts

pub long_text : (text text' mark bytes first rest tail : List ℕ) → length mark ≤ 1 → length tail ≤ 2 → 79 < length (mark ++ (bytes ++ tail))
    → first ≡ take (78 - length mark) bytes → rest ≡ drop (78 - length mark) bytes
    → text' ≡ (((text ++ mark) ++ first) ++ (92 ∷ 10 ∷ [])) ++ cut (length (rest ++ tail)) (rest ++ tail)
    → text' ≡ text ++ cut (length (mark ++ (bytes ++ tail))) (mark ++ (bytes ++ tail))
long_text text text' mark bytes first rest tail one two long front back written =
    let n = 78 - length mark in
    let sizes = length-append mark (bytes ++ tail) in
    let sizes' = length-append bytes tail in
    let whole : first ++ rest ≡ bytes = rw (front, back) (take-append-drop n bytes) in
    let size : length (mark ++ first) ≡ 78 = length-append mark first ∙ ap (λ k. length mark + k) (ap length front) ∙ (omega (arith, length-take n bytes)) in
    let same : (mark ++ first) ++ (rest ++ tail) ≡ mark ++ (bytes ++ tail) =
    append_assoc mark first (rest ++ tail) ∙ ap (λ bs. mark ++ bs) (sym (append_assoc first rest tail) ∙ ap (λ bs. bs ++ tail) whole) in
    let big : 79 < length ((mark ++ first) ++ (rest ++ tail)) = subst (λ (bs : List ℕ). 79 < length bs) (sym same) long in
    written
    ∙ (simp append_assoc)
    ∙ ap (λ t. text ++ t) (sym (cut_front (mark ++ first) (rest ++ tail) size big ∙ append_assoc mark first (92 ∷ 10 ∷ cut (length (rest ++ tail)) (rest ++ tail))))
    ∙ ap (λ bs. text ++ cut (length bs) bs) same

pub long_width : (column : ℕ) (mark bytes first rest tail : List ℕ) → length mark ≤ 1 → length tail ≤ 2 → 79 < length (mark ++ (bytes ++ tail))
    → first ≡ take (78 - length mark) bytes → rest ≡ drop (78 - length mark) bytes
    → column ≡ last_width (length (rest ++ tail)) (length (rest ++ tail))
    → column ≡ last_width (length (mark ++ (bytes ++ tail))) (length (mark ++ (bytes ++ tail)))
long_width column mark bytes first rest tail one two long front back found =
    let n = 78 - length mark in
    let sizes = length-append mark (bytes ++ tail) in
    let sizes' = length-append bytes tail in
    let whole : first ++ rest ≡ bytes = rw (front, back) (take-append-drop n bytes) in
    let size : length (mark ++ first) ≡ 78 = length-append mark first ∙ ap (λ k. length mark + k) (ap length front) ∙ (omega (arith, length-take n bytes)) in
    let same : (mark ++ first) ++ (rest ++ tail) ≡ mark ++ (bytes ++ tail) =
    append_assoc mark first (rest ++ tail) ∙ ap (λ bs. mark ++ bs) (sym (append_assoc first rest tail) ∙ ap (λ bs. bs ++ tail) whole) in
    let big : 79 < length ((mark ++ first) ++ (rest ++ tail)) = subst (λ (bs : List ℕ). 79 < length bs) (sym same) long in
    found ∙ sym (last_front (mark ++ first) (rest ++ tail) size big) ∙ ap (λ bs. last_width (length bs) (length bs)) same

-- ---- pages

-- where a long item needs no new line, it stands at the front of one
begins_line : (column width : ℕ) → is_past column width ≡ false → 79 < width → column ≡ 0
begins_line column width room long = elim (cases_Bool (column == 0)) [
  | inl front ↦ eqb-true column 0 front
  | inr some ↦ absurd (let bad : nat_lt 79 (column + width) ≡ false = rw some at room in omega (arith, ltb-false 79 (column + width) bad))
]

pub same_page : (p q : PageOf) → p.text ≡ q.text → p.column ≡ q.column → p ≡ q
same_page p q a b = ap (λ t. record p { text = t }) a ∙ ap (λ k. record q { column = k }) b

pub long_page : (old new inside : PageOf) (mark bytes first rest tail : List ℕ) → inside ≡ old
    → length mark ≤ 1 → length tail ≤ 2 → 79 < length (mark ++ (bytes ++ tail))
    → first ≡ take (78 - length mark) bytes → rest ≡ drop (78 - length mark) bytes
    → new.text ≡ (((inside.text ++ mark) ++ first) ++ (92 ∷ 10 ∷ [])) ++ cut (length (rest ++ tail)) (rest ++ tail)
    → new.column ≡ last_width (length (rest ++ tail)) (length (rest ++ tail))
    → new ≡ with_cut old (mark ++ (bytes ++ tail))
long_page old new inside mark bytes first rest tail same one two long front back text column =
    same_page new (with_cut old (mark ++ (bytes ++ tail)))
    (long_text inside.text new.text mark bytes first rest tail one two long front back text ∙ ap (λ p. p.text ++ cut (length (mark ++ (bytes ++ tail))) (mark ++ (bytes ++ tail))) same)
    (long_width new.column mark bytes first rest tail one two long front back column)

nothing_more : (n : ℕ) → n ≡ 0 + n
nothing_more n = omega arith

-- an item on a new line or behind others, within the line or longer
pub item_page : (old mid new : PageOf) (item : List ℕ) → mid ≡ (if is_past old.column (length item) then with_line old (10 ∷ []) else old)
    → new ≡ (if nat_lt 79 (length item) then with_cut mid item else with_bytes mid item) → new ≡ with_item old item
unfolding with_item
item_page old mid new item before after =
    let n = length item in
    elim (cases_Bool (is_past old.column n)) [
      | inl past ↦ elim (cases_Bool (nat_lt 79 n)) [
        | inl long ↦
            let m : mid ≡ with_line old (10 ∷ []) = rw past at before in
            let f : new ≡ with_cut mid item = rw long at after in
            rw past (f ∙ ap (λ p. with_cut p item) m ∙ same_page (with_cut (with_line old (10 ∷ [])) item) _ (append_assoc old.text (10 ∷ []) (cut n item)) (nothing_more (last_width n n)))
        | inr short ↦
            let m : mid ≡ with_line old (10 ∷ []) = rw past at before in
            let f : new ≡ with_bytes mid item = rw short at after in
            let fits = ltb-false 79 n short in
            rw past (f ∙ ap (λ p. with_bytes p item) m ∙ same_page (with_bytes (with_line old (10 ∷ [])) item) (record { text = old.text ++ 10 ∷ cut n item; column = 0 + last_width n n })
            (append_assoc old.text (10 ∷ []) item ∙ ap (λ t. old.text ++ 10 ∷ t) (sym (cut_short n item fits)))
            (ap (λ k. 0 + k) (sym (last_short n n fits))))
      ]
      | inr room ↦ elim (cases_Bool (nat_lt 79 n)) [
        | inl long ↦
            let m : mid ≡ old = rw room at before in
            let f : new ≡ with_cut mid item = rw long at after in
            let front : old.column ≡ 0 = begins_line old.column n room (ltb-true 79 n long) in
            rw room (f ∙ ap (λ p. with_cut p item) m ∙ same_page (with_cut old item) _ refl (nothing_more (last_width n n) ∙ ap (λ k. k + last_width n n) (sym front)))
        | inr short ↦
            let m : mid ≡ old = rw room at before in
            let f : new ≡ with_bytes mid item = rw short at after in
            let fits = ltb-false 79 n short in
            rw room (f ∙ ap (λ p. with_bytes p item) m ∙ same_page (with_bytes old item) _
            (ap (λ t. old.text ++ t) (sym (cut_short n item fits)))
            (ap (λ k. old.column + k) (sym (last_short n n fits))))
      ]
    ]

pub item_long : {T E : Type 0} (r : Result T E) (old mid new : PageOf) (item : List ℕ) (width : ℕ) → width ≡ length item
    → mid ≡ (if is_past old.column width then with_line old (10 ∷ []) else old) → 79 < width → OnOk r (new ≡ with_cut mid item) → OnOk r (new ≡ with_item old item)
item_long (Ok x) old mid new item width size before long after =
    item_page old mid new item (before ∙ ap (λ w. if is_past old.column w then with_line old (10 ∷ []) else old) size) (after ∙ rw (lt-ltb 79 (length item) (omega arith)) refl)
item_long (Err e) old mid new item width size before long after = after

pub item_short : {T E : Type 0} (r : Result T E) (old mid new : PageOf) (item : List ℕ) (width : ℕ) → width ≡ length item
    → mid ≡ (if is_past old.column width then with_line old (10 ∷ []) else old) → width ≤ 79 → OnOk r (new ≡ with_bytes mid item) → OnOk r (new ≡ with_item old item)
item_short (Ok x) old mid new item width size before short after =
    item_page old mid new item (before ∙ ap (λ w. if is_past old.column w then with_line old (10 ∷ []) else old) size) (after ∙ rw (le-ltb 79 (length item) (omega arith)) refl)
item_short (Err e) old mid new item width size before short after = after

pub three_parts : (mark bytes tail : List ℕ) → length mark + length bytes + length tail ≡ length (mark ++ (bytes ++ tail))
three_parts mark bytes tail = omega (arith, length-append mark (bytes ++ tail), length-append bytes tail)
