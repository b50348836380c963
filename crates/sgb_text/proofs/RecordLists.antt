-- Records that are written one after another.
use Rattle.std.proofs.Common.{◌≡◌, ℕ, suc, ◌+◌, ◌*◌, ◌<◌, ◌≤◌, ◌==◌, not, Bool, true, List, ◌∷◌, ◌++◌, drop, drop-cons, add-one, length, get_or, sum_by, refl, sym, ap, ◌∙◌, arith, append_assoc, append-nil, flat_map, Result, Ok, Err, OnOk}
use Rattle.std.proofs.Math.ListN.{drop_of_length-le}
use Rattle.std.proofs.lemmas.List.Sums.{sum_by-cons}
use Rattle.std.specs.List.{list_any}
use Rattle.sgb_graph.specs.declared.field.Util.{Util}
use Rattle.sgb_text.specs.Layout.{laid, is_followed, comma_if}
use Rattle.sgb_text.specs.Private.Page.{PageOf, with_line, with_item, with_record}
use Rattle.sgb_text.proofs.Cuts.{same_page}
use Rattle.sgb_text.proofs.Fields.{item_record, clean_items, followed_fields}

-- ---- a record by its items
two_items : (p q r s : PageOf) (v w : List ℕ) (ws : List (List ℕ)) (more : Bool) → q ≡ with_item p (comma_if true v) → r ≡ with_item q (comma_if more w)
    → more ≡ is_followed ws → s ≡ with_record r ws → s ≡ with_record p (v ∷ w ∷ ws)
two_items p q r s v w ws more first second follows last =
    last
    ∙ ap (λ x. with_record x ws) (second ∙ ap (λ b. with_item q (comma_if b w)) follows) ∙ item_record q w ws
    ∙ ap (λ x. with_record x (w ∷ ws)) first ∙ item_record p v (w ∷ ws)

-- the fields of a record behind two items, or three; each is told by what the code has of it
pub record_of_two : (p q r s : PageOf) (v w v' w' : List ℕ) (letters letters' : List ℕ) (us us' : List Util) (more : Bool)
    → v' ≡ v → w' ≡ w → letters' ≡ letters → us' ≡ us → length us ≡ length letters
    → q ≡ with_item p (comma_if true v') → r ≡ with_item q (comma_if more w') → more ≡ list_any (λ l. not (l == 90)) letters'
    → s ≡ with_record r (clean_items letters' us') → s ≡ with_record p (v ∷ w ∷ clean_items letters us)
record_of_two p q r s v w v' w' letters letters' us us' more a b c d sizes first second follows last =
    two_items p q r s v w (clean_items letters us) more
    (first ∙ ap (λ x. with_item p (comma_if true x)) a)
    (second ∙ ap (λ x. with_item q (comma_if more x)) b)
    (follows ∙ ap (list_any (λ l. not (l == 90))) c ∙ followed_fields letters us sizes)
    (last ∙ ap (λ ls. with_record r (clean_items ls us')) c ∙ ap (λ xs. with_record r (clean_items letters xs)) d)

pub record_of_three : (p q r s t : PageOf) (u v w u' v' w' : List ℕ) (letters letters' : List ℕ) (us us' : List Util) (more : Bool)
    → u' ≡ u → v' ≡ v → w' ≡ w → letters' ≡ letters → us' ≡ us → length us ≡ length letters
    → q ≡ with_item p (comma_if true u') → r ≡ with_item q (comma_if true v') → s ≡ with_item r (comma_if more w')
    → more ≡ list_any (λ l. not (l == 90)) letters'
    → t ≡ with_record s (clean_items letters' us') → t ≡ with_record p (u ∷ v ∷ w ∷ clean_items letters us)
record_of_three p q r s t u v w u' v' w' letters letters' us us' more e a b c d sizes zeroth first second follows last =
    record_of_two q r s t v w v' w' letters letters' us us' more a b c d sizes first second follows last
    ∙ ap (λ x. with_record x (v ∷ w ∷ clean_items letters us)) (zeroth ∙ ap (λ x. with_item p (comma_if true x)) e)
    ∙ item_record p u (v ∷ w ∷ clean_items letters us)

-- the same, where the last writing may be refused
pub when_ok : {T E P Q : Type 0} (r : Result T E) → (P → Q) → OnOk r P → OnOk r Q
when_ok (Ok x) f h = f h
when_ok (Err e) f h = h

pub record_line : (p : PageOf) (items : List (List ℕ)) → p.column ≡ 0 → with_record p items ≡ with_line p (laid 0 items)
unfolding with_record
record_line p items front = ap (λ k. with_line p (laid k items)) front

-- ---- records from a place on
module _ {X Y : Type 0} (text : X → List ℕ) (dirt : Y → ℕ) where
  pub record Listing (most : ℕ) (xs : List X) (ys : List Y) (old new : PageOf) (i n : ℕ) : Type 0 where
    pub text' : new.text ++ flat_map text (drop i xs) ≡ old.text ++ flat_map text xs
    pub column : new.column ≡ 0
    pub count : n + sum_by dirt (drop i ys) ≡ sum_by dirt ys
    pub few : n ≤ most * i

  pub begins_listing : (most : ℕ) (xs : List X) (ys : List Y) (p : PageOf) → p.column ≡ 0 → Listing most xs ys p p 0 0
  begins_listing most xs ys p front = record { text' = refl; column = front; count = omega arith; few = omega arith }

  pub lists_one : (most : ℕ) (xs : List X) (ys : List Y) (old mid new : PageOf) (i n c : ℕ) (d : X) (e : Y) → Listing most xs ys old mid i n
      → i < length xs → i < length ys → new ≡ with_line mid (text (get_or xs i d)) → c ≡ dirt (get_or ys i e) → c ≤ most
      → Listing most xs ys old new (i + 1) (n + c)
  lists_one most xs ys old mid new i n c d e l h k placed counted few = record {
    text' =
        ap (λ p. p.text ++ flat_map text (drop (i + 1) xs)) placed
        ∙ append_assoc mid.text (text (get_or xs i d)) (flat_map text (drop (i + 1) xs))
        ∙ ap (λ t. mid.text ++ t) (ap (λ j. text (get_or xs i d) ++ flat_map text (drop j xs)) (add-one i) ∙ sym (ap (flat_map text) (drop-cons xs i d h)))
        ∙ l.text';
    column = ap (λ p. p.column) placed;
    count =
        (let more : sum_by dirt (drop i ys) ≡ c + sum_by dirt (drop (i + 1) ys) =
        ap (sum_by dirt) (drop-cons ys i e k)
        ∙ sum_by-cons dirt (get_or ys i e) (drop (suc i) ys)
        ∙ ap (λ m. m + sum_by dirt (drop (suc i) ys)) (sym counted)
        ∙ ap (λ j. c + sum_by dirt (drop j ys)) (sym (add-one i)) in
        omega (arith, l.count, more));
    few = (let wide : most * (i + 1) ≡ most * i + most = omega arith in omega (arith, l.few, few, wide));
  }

  pub listed_page : (most : ℕ) (xs : List X) (ys : List Y) (old new : PageOf) (i n : ℕ) → length xs ≤ i → Listing most xs ys old new i n
      → new ≡ with_line old (flat_map text xs)
  listed_page most xs ys old new i n all l =
      same_page new (with_line old (flat_map text xs))
      (sym (append-nil new.text) ∙ ap (λ zs. new.text ++ flat_map text zs) (sym (drop_of_length-le xs all)) ∙ l.text')
      l.column

  pub listed_count : (most : ℕ) (xs : List X) (ys : List Y) (old new : PageOf) (i n : ℕ) → length ys ≤ i → Listing most xs ys old new i n
      → n ≡ sum_by dirt ys
  listed_count most xs ys old new i n all l =
      let none : sum_by dirt (drop i ys) ≡ 0 = ap (sum_by dirt) (drop_of_length-le ys all) in
      omega (arith, l.count, none)
