-- The arrangement that a vector tells, and that it has this vector.
use Rattle.std.proofs.Common.{◌≡◌, ◌≤◌, ◌+◌, ◌-◌, ℕ, zero, suc, List, [], ◌∷◌, ◌++◌, length, take, drop, nat_lt, nat_le, cond, ◌⊎◌, inl, inr, refl, sym, ap, ap₂, subst, ◌∙◌, arith, append_assoc}
use Rattle.std.specs.List.{filter, list_all}
use Rattle.std.proofs.lemmas.Bool.{cases_Bool, and_from, leb-true, lt-ltb}
use Rattle.std.proofs.lemmas.List.{append-nil, length-append, length-drop, length-take-le, take-append-drop, drop-drop, drop_at}
use Rattle.std.proofs.lemmas.List.Edits.{length-insert}
use Rattle.std.proofs.lemmas.List.Folds.{list_all-append}
use Rattle.sgb_perms.specs.Arrangement.{counts_from, smaller_right, vector_from}
use Rattle.sgb_perms.specs.Private.Listed.{placed}
use Rattle.sgb_perms.proofs.Filters.{list_all-drop, list_all-take}
use Rattle.sgb_perms.proofs.Vectors.{below, AllBelow, AllBelow-more, kept_below, all_kept, kept_insert, length-smaller_right, smaller_right-kept, smaller_right-none, smaller_right-insert}

-- ---- the arrangement of a vector: each number tells where a copy of its kind is inserted
unfoldable pub copies_of : ℕ → ℕ → (List ℕ → List ℕ → List (List ℕ)) → ℕ → List ℕ → List ℕ → List (List ℕ)
copies_of zero kind next right row v = next row v
copies_of (suc n) kind next right row [] = []
copies_of (suc n) kind next right row (x ∷ v) = cond (nat_le x right) (copies_of n kind next x (placed row kind x) v) []

unfoldable pub decoded : ℕ → List ℕ → List ℕ → List ℕ → List (List ℕ)
decoded kind [] row [] = row ∷ []
decoded kind [] row (x ∷ v) = []
decoded kind (c ∷ counts) row v = copies_of c kind (decoded (kind + 1) counts) (length row) row v

-- there is one, or none
abbrev pub IsOneOrNone : List (List ℕ) → Type 0
IsOneOrNone ds = (ds ≡ []) ⊎ ((a : List ℕ) × (ds ≡ a ∷ []))

copies_one : (n k : ℕ) (next : List ℕ → List ℕ → List (List ℕ)) → ((row v : List ℕ) → IsOneOrNone (next row v)) → (right : ℕ) (row v : List ℕ) → IsOneOrNone (copies_of n k next right row v)
unfolding copies_of
copies_one zero k next each right row v = each row v
copies_one (suc n) k next each right row [] = inl refl
copies_one (suc n) k next each right row (x ∷ v) =
    elim (cases_Bool (nat_le x right)) [
      | inl low ↦ rw low (copies_one n k next each x (placed row k x) v)
      | inr high ↦ rw high (inl refl)
    ]

pub decoded_one : (k : ℕ) (counts row v : List ℕ) → IsOneOrNone (decoded k counts row v)
unfolding decoded
decoded_one k [] row [] = inr (row, refl)
decoded_one k [] row (x ∷ v) = inl refl
decoded_one k (c ∷ counts) row v = copies_one c k (decoded (k + 1) counts) (decoded_one (k + 1) counts) (length row) row v

-- ---- one copy
-- a copy of the kind may go in with `right` elements behind it, or fewer
pub record IsReady (k right : ℕ) (row : List ℕ) : Type 0 where
  pub within : right ≤ length row
  pub behind : AllBelow k (drop (length row - right) row)
  pub low : AllBelow (k + 1) row

pub ready_first : (k : ℕ) (row : List ℕ) → AllBelow k row → IsReady k (length row) row
ready_first k row is =
    record {
      within = omega arith;
      behind = record { all = list_all-drop (below k) (length row - length row) row is.all };
      low = AllBelow-more k (k + 1) (omega arith) row is;
    }

ready_less : (k right x : ℕ) (row : List ℕ) → x ≤ right → IsReady k right row → IsReady k x row
ready_less k right x row less is =
    let within = is.within in
    let same : drop (right - x) (drop (length row - right) row) ≡ drop (length row - x) row =
    drop-drop (right - x) (length row - right) row ∙ ap (λ n. drop n row) (omega arith) in
    record {
      within = omega arith;
      behind = record { all = ap (list_all (below k)) (sym same) ∙ list_all-drop (below k) (right - x) (drop (length row - right) row) is.behind.all };
      low = is.low;
    }

pub length-placed : (row : List ℕ) (k x : ℕ) → length (placed row k x) ≡ length row + 1
length-placed row k x = length-insert row (length row - x) k (omega arith)

AllBelow-placed : (k x : ℕ) (row : List ℕ) → AllBelow (k + 1) row → AllBelow (k + 1) (placed row k x)
AllBelow-placed k x row is =
    let m = length row - x in
    let front = list_all-take (below (k + 1)) m row is.all in
    let back = list_all-drop (below (k + 1)) m row is.all in
    record {
      all =
          list_all-append (below (k + 1)) (take m row) (k ∷ drop m row)
          ∙ and_from (list_all (below (k + 1)) (take m row)) (list_all (below (k + 1)) (k ∷ drop m row)) front
          (and_from (nat_lt k (k + 1)) (list_all (below (k + 1)) (drop m row)) (lt-ltb k (k + 1) (omega arith)) back);
    }

ready_placed : (k x : ℕ) (row : List ℕ) → IsReady k x row → IsReady k x (placed row k x)
ready_placed k x row is =
    let m = length row - x in
    let within = is.within in
    let long = length-placed row k x in
    let front : length (take m row ++ k ∷ []) ≡ length (placed row k x) - x =
    length-append (take m row) (k ∷ []) ∙ omega (arith, length-take-le m row (omega arith)) in
    let behind : drop (length (placed row k x) - x) (placed row k x) ≡ drop m row =
    ap (drop (length (placed row k x) - x)) (sym (append_assoc (take m row) (k ∷ []) (drop m row)))
    ∙ drop_at (take m row ++ k ∷ []) (drop m row) (length (placed row k x) - x) front in
    record {
      within = omega arith;
      behind = record { all = ap (list_all (below k)) behind ∙ is.behind.all };
      low = AllBelow-placed k x row is.low;
    }

smaller_right-placed : (k x : ℕ) (row : List ℕ) → IsReady k x row → smaller_right k (placed row k x) ≡ smaller_right k row ++ x ∷ []
smaller_right-placed k x row is =
    let m = length row - x in
    let within = is.within in
    let long : length (drop m row) ≡ x = length-drop m row ∙ omega arith in
    smaller_right-insert k (take m row) (drop m row) is.behind
    ∙ ap₂ (λ xs n. smaller_right k xs ++ n ∷ []) (take-append-drop m row) long

kept_placed : (k x : ℕ) (row : List ℕ) → filter (below k) (placed row k x) ≡ filter (below k) row
kept_placed k x row =
    let m = length row - x in
    kept_insert k (take m row) (drop m row) ∙ ap (filter (below k)) (take-append-drop m row)

-- ---- the copies of a kind
-- after n copies of the kind, which have xs behind them, `next` makes `a` of the rest of the vector
record Copies (n k : ℕ) (next : List ℕ → List ℕ → List (List ℕ)) (row v a : List ℕ) : Type 0 where
  numbers : List ℕ
  rest : List ℕ
  after : List ℕ
  vector : v ≡ numbers ++ rest
  long : length numbers ≡ n
  made : next after rest ≡ a ∷ []
  right : smaller_right k after ≡ smaller_right k row ++ numbers
  kept : filter (below k) after ≡ filter (below k) row
  low : AllBelow (k + 1) after

copies_are : (n k : ℕ) (next : List ℕ → List ℕ → List (List ℕ)) (right : ℕ) (row v a : List ℕ) → IsReady k right row → copies_of n k next right row v ≡ a ∷ [] → Copies n k next row v a
unfolding copies_of
copies_are zero k next right row v a ready made =
    record {
      numbers = [];
      rest = v;
      after = row;
      vector = refl;
      long = refl;
      made = made;
      right = sym (append-nil (smaller_right k row));
      kept = refl;
      low = ready.low;
    }
copies_are (suc n) k next right row [] a ready made = absurd (let wrong : [] ≡ a ∷ [] = made in cc)
copies_are (suc n) k next right row (x ∷ v) a ready made =
    elim (cases_Bool (nat_le x right)) [
      | inl low ↦
          let fits = ready_less k right x row (leb-true x right low) ready in
          let made_so : copies_of n k next x (placed row k x) v ≡ a ∷ [] = rw low at made in
          let c = copies_are n k next x (placed row k x) v a (ready_placed k x row fits) made_so in
          record {
            numbers = x ∷ c.numbers;
            rest = c.rest;
            after = c.after;
            vector = ap (λ w. x ∷ w) c.vector;
            long = ap suc c.long;
            made = c.made;
            right =
                c.right
                ∙ (ap (λ w. w ++ c.numbers) (smaller_right-placed k x row fits)
                ∙ append_assoc (smaller_right k row) (x ∷ []) c.numbers);
            kept = c.kept ∙ kept_placed k x row;
            low = c.low;
          }
      | inr high ↦ absurd (let wrong : [] ≡ a ∷ [] = rw high at made in cc)
    ]

-- ---- all kinds
-- the arrangement that v tells from a row of smaller elements has the row, the counts, and v
pub record IsDecoded (k : ℕ) (counts row v a : List ℕ) : Type 0 where
  pub kept : filter (below k) a ≡ row
  pub low : AllBelow (k + length counts) a
  pub vector : vector_from k (length counts) a ≡ v
  pub counted : counts_from k (length counts) a ≡ counts

pub decoded_is : (k : ℕ) (counts row v a : List ℕ) → AllBelow k row → decoded k counts row v ≡ a ∷ [] → IsDecoded k counts row v a
unfolding decoded vector_from counts_from
decoded_is k [] row [] a small made =
    let same : row ≡ a = let both : row ∷ [] ≡ a ∷ [] = made in cc in
    let none : k + 0 ≡ k = omega arith in
    record {
      kept = ap (filter (below k)) (sym same) ∙ all_kept k row small;
      low = subst (λ n. AllBelow n a) (sym none) (subst (AllBelow k) same small);
      vector = refl;
      counted = refl;
    }
decoded_is k [] row (x ∷ v) a small made = absurd (let wrong : [] ≡ a ∷ [] = made in cc)
decoded_is k (c ∷ counts) row v a small made =
    let cs = copies_are c k (decoded (k + 1) counts) (length row) row v a (ready_first k row small) made in
    let d = decoded_is (k + 1) counts cs.after cs.rest a cs.low cs.made in
    let more : k + 1 + length counts ≡ k + suc (length counts) = omega arith in
    let mine : smaller_right k a ≡ cs.numbers =
    sym (smaller_right-kept k (k + 1) (omega arith) a)
    ∙ (ap (smaller_right k) d.kept
    ∙ (cs.right ∙ ap (λ w. w ++ cs.numbers) (smaller_right-none k row small))) in
    record {
      kept =
          sym (kept_below k (k + 1) (omega arith) a)
          ∙ (ap (filter (below k)) d.kept ∙ (cs.kept ∙ all_kept k row small));
      low = subst (λ n. AllBelow n a) more d.low;
      vector = ap₂ (λ v w. v ++ w) mine d.vector ∙ sym cs.vector;
      counted = ap₂ (λ n ns. n ∷ ns) (sym (length-smaller_right k a) ∙ (ap length mine ∙ cs.long)) d.counted;
    }
