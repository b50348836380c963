-- The fields of a record as they are written, one by one.
use Rattle.std.proofs.Common.{◌≡◌, ℕ, zero, suc, ◌+◌, ◌<◌, ◌≤◌, Bool, true, false, not, ◌==◌, cond, List, [], ◌∷◌, ◌++◌, drop, drop-cons, add-one, length, get_or, zip, refl, sym, ap, ◌∙◌, inl, inr, arith, append_assoc, length-drop, add_assoc, if◌then◌else◌}
use Rattle.std.specs.List.{list_any}
use Rattle.std.proofs.Math.ListN.{drop_of_length-le}
use Rattle.std.proofs.lemmas.Bool.{cases_Bool}
use Rattle.std.proofs.lemmas.List.Sums.{sum_by-cons}
use Rattle.sgb_graph.specs.declared.field.Util.{Util}
use Rattle.sgb_graph.specs.Honest.{is_allowed}
use Rattle.sgb_text.specs.Layout.{laid, is_followed, comma_if, placed_at, column_behind}
use Rattle.sgb_text.specs.Clean.{cleaned, clean_fields, dirt_in}
use Rattle.sgb_text.specs.Save.{value_text, field_item, field_items}
use Rattle.sgb_text.specs.Private.Page.{PageOf, with_line, with_item, with_field, with_record}
use Rattle.sgb_text.proofs.Cuts.{same_page}

-- ---- items of a record

-- an item, and then those behind it
pub item_record : (p : PageOf) (w : List ℕ) (ws : List (List ℕ)) → with_record (with_item p (comma_if (is_followed ws) w)) ws ≡ with_record p (w ∷ ws)
unfolding with_item with_record laid
item_record p w ws =
    let item = comma_if (is_followed ws) w in
    same_page (with_record (with_item p item) ws) (with_record p (w ∷ ws))
    (append_assoc p.text (placed_at p.column item) (laid (column_behind p.column (length item)) ws)) refl

pub record_ends : (p : PageOf) → with_line p (10 ∷ []) ≡ with_record p []
unfolding with_record laid
record_ends p = refl

-- the items of the fields, cleaned
abbrev pub clean_items : List ℕ → List Util → List (List ℕ)
clean_items letters us = field_items letters (clean_fields letters us)

field_record : (p : PageOf) (letter : ℕ) (u : Util) (ws : List (List ℕ)) → with_record (with_field p letter u (is_followed ws)) ws ≡ with_record p (field_item letter u ++ ws)
field_record p letter u ws = elim (cases_Bool (letter == 90)) [
  | inl none ↦ rw none refl
  | inr some ↦ rw some (item_record p (value_text letter u) ws)
]

-- a field is written where a letter is not Z
pub followed_fields : (letters : List ℕ) (us : List Util) → length us ≡ length letters → list_any (λ l. not (l == 90)) letters ≡ is_followed (clean_items letters us)
followed_fields [] [] h = refl
followed_fields [] (u ∷ us) h = absurd (omega arith)
followed_fields (l ∷ ls) [] h = absurd (omega arith)
followed_fields (l ∷ ls) (u ∷ us) h = elim (cases_Bool (l == 90)) [
  | inl none ↦ rw none (followed_fields ls us (omega arith))
  | inr some ↦ rw some refl
]

-- ---- from a place on

turned : (b : Bool) → ◌≡◌ {A = ℕ} (cond (not b) 1 0) (if b then 0 else 1)
turned true = refl
turned false = refl

items_from : (letters : List ℕ) (us : List Util) (i : ℕ) (e : ℕ) (d : Util) → i < length letters → length us ≡ length letters
    → clean_items (drop i letters) (drop i us)
    ≡ field_item (get_or letters i e) (cleaned (get_or letters i e) (get_or us i d)) ++ clean_items (drop (i + 1) letters) (drop (i + 1) us)
items_from letters us i e d h same =
    ap (λ ls. clean_items ls (drop i us)) (drop-cons letters i e h)
    ∙ ap (clean_items (get_or letters i e ∷ drop (suc i) letters)) (drop-cons us i d (omega arith))
    ∙ ap (λ k. field_item (get_or letters i e) (cleaned (get_or letters i e) (get_or us i d)) ++ clean_items (drop k letters) (drop k us)) (sym (add-one i))

at_most_one : (b : Bool) → (if b then 0 else 1) ≤ 1
at_most_one true = omega arith
at_most_one false = omega arith

pub dirt_first : (l : ℕ) (u : Util) (ls : List ℕ) (us : List Util) → dirt_in (l ∷ ls) (u ∷ us) ≡ (if is_allowed l u then 0 else 1) + dirt_in ls us
dirt_first l u ls us =
    sum_by-cons (λ (p : Util × ℕ). cond (not (is_allowed p.1 p.0)) 1 0) (u, l) (zip us ls)
    ∙ ap (λ k. k + dirt_in ls us) (turned (is_allowed l u))

dirt_from : (letters : List ℕ) (us : List Util) (i : ℕ) (e : ℕ) (d : Util) → i < length letters → length us ≡ length letters
    → dirt_in (drop i letters) (drop i us)
    ≡ (if is_allowed (get_or letters i e) (get_or us i d) then 0 else 1) + dirt_in (drop (i + 1) letters) (drop (i + 1) us)
dirt_from letters us i e d h same =
    let l = get_or letters i e in
    let u = get_or us i d in
    ap (λ ls. dirt_in ls (drop i us)) (drop-cons letters i e h)
    ∙ ap (dirt_in (l ∷ drop (suc i) letters)) (drop-cons us i d (omega arith))
    ∙ dirt_first l u (drop (suc i) letters) (drop (suc i) us)
    ∙ ap (λ k. (if is_allowed l u then 0 else 1) + dirt_in (drop k letters) (drop k us)) (sym (add-one i))

-- what is written of a record, and how many of its values were not allowed
pub record Filling (old new : PageOf) (letters : List ℕ) (us : List Util) (i cleaned : ℕ) : Type 0 where
  pub page : with_record new (clean_items (drop i letters) (drop i us)) ≡ with_record old (clean_items letters us)
  pub count : cleaned + dirt_in (drop i letters) (drop i us) ≡ dirt_in letters us
  pub few : cleaned ≤ i

pub begins_filling : (p : PageOf) (letters : List ℕ) (us : List Util) → Filling p p letters us 0 0
begins_filling p letters us = record { page = refl; count = omega arith; few = omega arith }

-- a field more, and it is counted where its value is not allowed
pub fills_field : (old mid new : PageOf) (letters behind : List ℕ) (us : List Util) (i n n' : ℕ) (e : ℕ) (d : Util) (more : Bool)
    → i < length letters → length us ≡ length letters → Filling old mid letters us i n
    → behind ≡ drop (i + 1) letters → more ≡ list_any (λ l. not (l == 90)) behind
    → new ≡ with_field mid (get_or letters i e) (cleaned (get_or letters i e) (get_or us i d)) more
    → n' ≡ n + (if is_allowed (get_or letters i e) (get_or us i d) then 0 else 1)
    → Filling old new letters us (i + 1) n'
fills_field old mid new letters behind us i n n' e d more h same f left follows placed counted =
    let l = get_or letters i e in
    let u = get_or us i d in
    let ws = clean_items (drop (i + 1) letters) (drop (i + 1) us) in
    let sizes : length (drop (i + 1) us) ≡ length (drop (i + 1) letters) = omega (arith, length-drop (i + 1) us, length-drop (i + 1) letters) in
    let more_is : more ≡ is_followed ws = follows ∙ ap (list_any (λ l. not (l == 90))) left ∙ followed_fields (drop (i + 1) letters) (drop (i + 1) us) sizes in
    record {
      page =
          ap (λ p. with_record p ws) (placed ∙ ap (with_field mid l (cleaned l u)) more_is)
          ∙ field_record mid l (cleaned l u) ws
          ∙ ap (with_record mid) (sym (items_from letters us i e d h same))
          ∙ f.page;
      count =
          ap (λ k. k + dirt_in (drop (i + 1) letters) (drop (i + 1) us)) counted
          ∙ add_assoc n (if is_allowed l u then 0 else 1) (dirt_in (drop (i + 1) letters) (drop (i + 1) us))
          ∙ ap (λ k. n + k) (sym (dirt_from letters us i e d h same))
          ∙ f.count;
      few = omega (arith, counted, f.few, at_most_one (is_allowed l u));
    }

-- what stands at a place does not depend on what stands elsewhere
pub get_or_any : {A : Type 0} (xs : List A) (i : ℕ) (d e : A) → i < length xs → get_or xs i d ≡ get_or xs i e
get_or_any [] i d e h = absurd (omega arith)
get_or_any (x ∷ xs) zero d e h = refl
get_or_any (x ∷ xs) (suc i) d e h = get_or_any xs i d e (omega arith)

-- the same, where u and x are what stands at the place
pub fills_value : (old mid new : PageOf) (letters behind : List ℕ) (us : List Util) (i n n' : ℕ) (e : ℕ) (u x : Util) (more : Bool)
    → u ≡ get_or us i u → x ≡ get_or us i x → i < length letters → length us ≡ length letters → Filling old mid letters us i n
    → behind ≡ drop (i + 1) letters → more ≡ list_any (λ l. not (l == 90)) behind
    → new ≡ with_field mid (get_or letters i e) (cleaned (get_or letters i e) u) more
    → n' ≡ n + (if is_allowed (get_or letters i e) x then 0 else 1)
    → Filling old new letters us (i + 1) n'
fills_value old mid new letters behind us i n n' e u x more first second h same f left follows placed counted =
    let l = get_or letters i e in
    let here : x ≡ get_or us i u = second ∙ get_or_any us i x u (omega arith) in
    fills_field old mid new letters behind us i n n' e u more h same f left follows
    (placed ∙ ap (λ y. with_field mid l (cleaned l y) more) first)
    (counted ∙ ap (λ y. n + (if is_allowed l y then 0 else 1)) here)

pub filled_page : (old mid new : PageOf) (letters : List ℕ) (us : List Util) (i n : ℕ) → length letters ≤ i → length us ≡ length letters → Filling old mid letters us i n
    → new ≡ with_line mid (10 ∷ []) → new ≡ with_record old (clean_items letters us)
filled_page old mid new letters us i n all same f last =
    last ∙ record_ends mid ∙ ap (λ xs. with_record mid (clean_items (drop i letters) xs)) (sym (drop_of_length-le us (omega arith))) ∙ f.page

pub filled_count : (old mid : PageOf) (letters : List ℕ) (us : List Util) (i n : ℕ) → length letters ≤ i → length us ≡ length letters → Filling old mid letters us i n
    → n ≡ dirt_in letters us
filled_count old mid letters us i n all same f =
    let none : dirt_in (drop i letters) (drop i us) ≡ 0 = ap (λ xs. dirt_in (drop i letters) xs) (drop_of_length-le us (omega arith)) in
    omega (arith, f.count)
