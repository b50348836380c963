-- Lemmas on rows that are listed one behind another, with their budgets on a stack whose top is last.
use Rattle.std.proofs.Common.{◌≡◌, ◌<◌, ◌≤◌, ◌+◌, ◌-◌, ◌*◌, ◌⊎◌, ℕ, suc, List, [], ◌∷◌, ◌++◌, length, map, take, Result, Ok, Err, inl, inr, refl, sym, ap, ap₂, subst, ◌∙◌, arith, append_assoc}
use Rattle.std.specs.Prelude.{reverse}
use Rattle.std.specs.List.{concat}
use Rattle.std.proofs.lemmas.List.{append-nil, map-append, length-append, length-map, reverse-append, take_at}
use Rattle.std.proofs.lemmas.List.Folds.{concat-append}
use Rattle.sgb_graph.specs.declared.refusal.Refusal.{Refusal}
use Rattle.sgb_graph.specs.declared.refusal.Refusal.TheVariants.{NoRoom, TooLarge}
use Rattle.sgb_binary.specs.declared.lister.Lister.{Lister}
use Rattle.sgb_binary.specs.Tree.{trees}
use Rattle.sgb_binary.specs.Private.Listing.{rows, dotted_rows, leaf_rows, room, rooms, letters_left, Listed, Lists}
use Rattle.sgb_binary.proofs.Rows.{trees_are, rows_none, rows_end, rows_more, dotted_some, rooms-cons, rooms-nil}

-- what `Lists` says of an `Err`
abbrev pub RefusesList : Lister → List (List ℕ) → Refusal → Type 0
RefusesList s ws e = (e ≡ NoRoom) ⊎ ((e ≡ TooLarge) × (65535 < s.count + length ws))

pub refused_front : (s : Lister) (ws vs : List (List ℕ)) {e : Refusal} → RefusesList s ws e → RefusesList s (ws ++ vs) e
refused_front s ws vs (inl none) = inl none
refused_front s ws vs (inr large) = inr (large.0, omega (arith, large.1, length-append ws vs))

pub refused_back : {a b : Lister} {ws : List (List ℕ)} (vs : List (List ℕ)) {e : Refusal} → Listed a b ws → RefusesList b vs e → RefusesList a (ws ++ vs) e
refused_back vs listed (inl none) = inl none
refused_back {a} {b} {ws} vs listed (inr large) =
    let sum : b.count ≡ a.count + length ws = listed.count in
    inr (large.0, omega (arith, large.1, sum, length-append ws vs))

-- ---- what is listed
pub listed_none : (s : Lister) (ws : List (List ℕ)) → s.count ≤ 65535 → ws ≡ [] → Listed s s ws
listed_none s ws few none =
    rw none (record { names = sym (append-nil s.names.items); count = omega arith; few = few; word = refl; budgets = refl })

-- with the words before the first letter and with it
letter_behind : (p : List ℕ) (c : ℕ) (ws : List (List ℕ)) → concat (map (λ w. (p ++ c ∷ []) ++ w) ws) ≡ concat (map (λ w. p ++ w) (map (λ w. c ∷ w) ws))
letter_behind p c [] = refl
letter_behind p c (w ∷ ws) = ap₂ (λ xs ys. xs ++ ys) (append_assoc p (c ∷ []) w) (letter_behind p c ws)

-- rows with a letter before them: a is what was, b has that letter, c has listed the rows, and d is put back
pub listed_letter : {a b c d : Lister} (x : ℕ) (ws : List (List ℕ)) → Listed b c ws
    → b.names.items ≡ a.names.items → b.count ≡ a.count → b.word.items ≡ a.word.items ++ x ∷ []
    → d.names.items ≡ c.names.items → d.count ≡ c.count → d.word.items ≡ a.word.items → d.budgets.items ≡ a.budgets.items
    → Listed a d (map (λ w. x ∷ w) ws)
listed_letter {a} {b} {c} {d} x ws listed names count word kept counted back budgets = record {
  names =
      kept
      ∙ (listed.names
      ∙ ap₂ (λ xs ys. xs ++ ys) names (ap (λ p. concat (map (λ w. p ++ w) ws)) word ∙ letter_behind a.word.items x ws));
  count = omega (arith, counted, listed.count, count, length-map ws (λ w. x ∷ w));
  few = omega (arith, counted, listed.few);
  word = back;
  budgets = budgets;
}

-- two runs: from a by b to c; `old` is a with one budget more, and so is `new` beside c
pub listed_both : {old a b c new : Lister} (ws vs : List (List ℕ)) → Listed a b ws → Listed b c vs
    → a.names.items ≡ old.names.items → a.count ≡ old.count → a.word.items ≡ old.word.items
    → new.names.items ≡ c.names.items → new.count ≡ c.count → new.word.items ≡ c.word.items → new.budgets.items ≡ old.budgets.items
    → Listed old new (ws ++ vs)
listed_both {old} {a} {b} {c} {new} ws vs first second names count word kept counted spelled budgets =
    let p : List ℕ = a.word.items in
    let joined : concat (map (λ w. p ++ w) ws) ++ concat (map (λ w. p ++ w) vs) ≡ concat (map (λ w. p ++ w) (ws ++ vs)) =
    sym (concat-append (map (λ w. p ++ w) ws) (map (λ w. p ++ w) vs)) ∙ ap concat (sym (map-append (λ w. p ++ w) ws vs)) in
    record {
      names =
          kept
          ∙ (second.names
          ∙ (ap₂ (λ xs q. xs ++ concat (map (λ w. q ++ w) vs)) first.names first.word
          ∙ (append_assoc a.names.items (concat (map (λ w. p ++ w) ws)) (concat (map (λ w. p ++ w) vs))
          ∙ ap₂ (λ xs ys. xs ++ ys) names (joined ∙ ap (λ q. concat (map (λ w. q ++ w) (ws ++ vs))) word))));
      count = omega (arith, counted, second.count, first.count, count, length-append ws vs);
      few = omega (arith, counted, second.few);
      word = spelled ∙ (second.word ∙ (first.word ∙ word));
      budgets = budgets;
    }

-- the word is done
pub listed_one : {a old new : Lister} (ws : List (List ℕ)) → Listed a new ([] ∷ []) → ws ≡ [] ∷ []
    → a.names.items ≡ old.names.items → a.count ≡ old.count → a.word.items ≡ old.word.items → a.budgets.items ≡ old.budgets.items
    → Listed old new ws
listed_one {a} {old} {new} ws listed one names count word budgets =
    rw one (record {
      names = listed.names ∙ ap₂ (λ xs p. xs ++ concat ((p ++ []) ∷ [])) names word;
      count = omega (arith, listed.count, count);
      few = listed.few;
      word = listed.word ∙ word;
      budgets = listed.budgets ∙ budgets;
    })

pub lists_one : {T : Type 0} (a old new : Lister) (ws : List (List ℕ)) (r : Result T Refusal) → Lists a new ([] ∷ []) r → ws ≡ [] ∷ []
    → a.names.items ≡ old.names.items → a.count ≡ old.count → a.word.items ≡ old.word.items → a.budgets.items ≡ old.budgets.items
    → Lists old new ws r
lists_one a old new ws (Ok x) listed one names count word budgets = listed_one ws listed one names count word budgets
lists_one a old new ws (Err e) (inl none) one names count word budgets = inl none
lists_one a old new ws (Err e) (inr large) one names count word budgets = inr (large.0, omega (arith, large.1, count, ap length one))

pub refused_letter : (s : Lister) (x : ℕ) (ws : List (List ℕ)) {e : Refusal} → (e ≡ NoRoom) ⊎ ((e ≡ TooLarge) × (65535 < s.count + length ws)) → RefusesList s (map (λ w. x ∷ w) ws) e
refused_letter s x ws (inl none) = inl none
refused_letter s x ws (inr large) = inr (large.0, omega (arith, large.1, length-map ws (λ w. x ∷ w)))

-- ---- budgets
pub popped : (xs ys : List ℕ) (b : ℕ) → xs ≡ ys ++ b ∷ [] → reverse xs ≡ b ∷ reverse ys
popped xs ys b is = ap reverse is ∙ reverse-append ys (b ∷ [])

pub rooms_popped : (xs ys : List ℕ) (b : ℕ) → xs ≡ ys ++ b ∷ [] → rooms (reverse xs) ≡ room b + rooms (reverse ys)
rooms_popped xs ys b is = ap rooms (popped xs ys b is) ∙ rooms-cons b (reverse ys)

pub length_popped : (xs ys : List ℕ) (b : ℕ) → xs ≡ ys ++ b ∷ [] → length (reverse xs) ≡ length (reverse ys) + 1
length_popped xs ys b is = omega (arith, ap length (popped xs ys b is))

pub rows_popped : (d : ℕ) (xs ys : List ℕ) (b : ℕ) → xs ≡ ys ++ b ∷ []
    → rows (letters_left d (reverse xs)) (reverse xs) ≡ dotted_rows (letters_left d (reverse ys)) b (reverse ys) ++ leaf_rows (letters_left d (reverse ys)) (reverse ys)
rows_popped d xs ys b is =
    let more : letters_left d (b ∷ reverse ys) ≡ suc (letters_left d (reverse ys)) = omega arith in
    ap (λ bs. rows (letters_left d bs) bs) (popped xs ys b is)
    ∙ (ap (λ m. rows m (b ∷ reverse ys)) more ∙ rows_more (letters_left d (reverse ys)) b (reverse ys))

pub rows_none_left : (d : ℕ) (xs : List ℕ) → xs ≡ [] → d ≤ rooms (reverse xs) → rows (letters_left d (reverse xs)) (reverse xs) ≡ [] ∷ []
rows_none_left d xs none enough =
    let little : d ≤ rooms [] = subst (λ ys. d ≤ rooms (reverse ys)) none enough in
    let no_dot : d ≡ 0 = omega (arith, little, rooms-nil) in
    ap (λ ys. rows (letters_left d (reverse ys)) (reverse ys)) none
    ∙ (ap (λ k. rows (letters_left k []) []) no_dot ∙ rows_end)

-- the two budgets behind a dot
pub pushed_two : (xs ys zs : List ℕ) (k : ℕ) → ys ≡ xs ++ k ∷ [] → zs ≡ ys ++ k ∷ [] → reverse zs ≡ k ∷ (k ∷ reverse xs)
pushed_two xs ys zs k first second = popped zs ys k second ∙ ap (λ rs. k ∷ rs) (popped ys xs k first)

pub rooms_two : (xs ys zs : List ℕ) (k : ℕ) → ys ≡ xs ++ k ∷ [] → zs ≡ ys ++ k ∷ [] → rooms (reverse zs) ≡ 2 * room k + rooms (reverse xs)
rooms_two xs ys zs k first second = omega (arith, rooms_popped zs ys k second, rooms_popped ys xs k first)

pub letters_two : (d : ℕ) (xs ys zs : List ℕ) (k : ℕ) → 0 < d → ys ≡ xs ++ k ∷ [] → zs ≡ ys ++ k ∷ [] → letters_left (d - 1) (reverse zs) ≡ letters_left d (reverse xs)
letters_two d xs ys zs k some first second = omega (arith, length_popped zs ys k second, length_popped ys xs k first)

-- the rows behind a dot
pub rows_two : (d b : ℕ) (xs ys zs : List ℕ) → 0 < d → 0 < b → ys ≡ xs ++ (b - 1) ∷ [] → zs ≡ ys ++ (b - 1) ∷ []
    → dotted_rows (letters_left d (reverse xs)) b (reverse xs) ≡ map (λ w. 46 ∷ w) (rows (letters_left (d - 1) (reverse zs)) (reverse zs))
rows_two d b xs ys zs dots some first second =
    dotted_some (letters_left d (reverse xs)) b (reverse xs) some
    ∙ ap₂ (λ m bs. map (λ w. 46 ∷ w) (rows m bs)) (sym (letters_two d xs ys zs (b - 1) dots first second)) (sym (pushed_two xs ys zs (b - 1) first second))

-- what was pushed is cut off again
pub cut_one : (xs ys zs : List ℕ) (x n : ℕ) → ys ≡ xs ++ x ∷ [] → zs ≡ take n ys → n ≡ length xs → zs ≡ xs
cut_one xs ys zs x n pushed cut long = cut ∙ (ap (take n) pushed ∙ take_at xs (x ∷ []) n (sym long))

pub cut_two : (xs ys zs us : List ℕ) (x y n : ℕ) → ys ≡ xs ++ x ∷ [] → zs ≡ ys ++ y ∷ [] → us ≡ take n zs → n ≡ length xs → us ≡ xs
cut_two xs ys zs us x y n first second cut long =
    let all : zs ≡ xs ++ (x ∷ (y ∷ [])) = second ∙ (ap (λ vs. vs ++ y ∷ []) first ∙ append_assoc xs (x ∷ []) (y ∷ [])) in
    cut ∙ (ap (take n) all ∙ take_at xs (x ∷ (y ∷ [])) n (sym long))

pub put_back : (xs ys zs us : List ℕ) (b : ℕ) → xs ≡ ys ++ b ∷ [] → zs ≡ ys → us ≡ zs ++ b ∷ [] → us ≡ xs
put_back xs ys zs us b is same pushed = pushed ∙ (ap (λ ks. ks ++ b ∷ []) same ∙ sym is)

-- ---- the one budget of the start
pub one_row : (n most : ℕ) (bs : List ℕ) → bs ≡ most ∷ [] → rows (letters_left n (reverse bs)) (reverse bs) ≡ trees n most
one_row n most bs is =
    let one : letters_left n (most ∷ []) ≡ 2 * n + 1 = omega arith in
    ap (λ xs. rows (letters_left n (reverse xs)) (reverse xs)) is
    ∙ (ap (λ m. rows m (most ∷ [])) one ∙ sym (trees_are n most))

pub one_room : (most : ℕ) (bs : List ℕ) → bs ≡ most ∷ [] → rooms (reverse bs) ≡ room most
one_room most bs is = ap (λ xs. rooms (reverse xs)) is ∙ omega (arith, rooms-cons most [], rooms-nil)

pub no_trees : (n most : ℕ) → room most < n → n ≤ 127 → trees n most ≡ []
no_trees n most over few =
    let little : rooms (most ∷ []) < n = omega (arith, rooms-cons most [], rooms-nil) in
    let one : letters_left n (most ∷ []) ≡ 2 * n + 1 = omega arith in
    trees_are n most ∙ (ap (λ m. rows m (most ∷ [])) (sym one) ∙ rows_none n (most ∷ []) little few)
