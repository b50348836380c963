-- An exchange of a descent leads from one arrangement that is listed to another.
use Rattle.std.proofs.Common.{◌≡◌, ◌<◌, ◌≤◌, ◌+◌, ◌-◌, ℕ, zero, suc, List, [], ◌∷◌, ◌++◌, length, get_or, set, take, drop, Bool, true, ◌==◌, All, Contains, inl, inr, refl, sym, ap, ap₂, subst, ◌∙◌, arith, append_assoc}
use Rattle.std.specs.List.{sum, swap, position_or_len}
use Rattle.std.proofs.lemmas.Bool.{false≢true, cases_Bool, cases_lt, cases_order, ltb-true, lt-ltb, le-ltb, eq-eqb, ne_eqb}
use Rattle.std.proofs.lemmas.List.{length-append, length-take-le, take-append-drop, drop_more, get_or_at, set_at}
use Rattle.std.proofs.lemmas.List.Edits.{swap_is}
use Rattle.std.proofs.lemmas.List.Elements.{All-cons, All-head, All-tail}
use Rattle.std.proofs.lemmas.List.Sums.{sum_by-cons, sum_by-append, fails_before_first}
use Rattle.sgb_perms.specs.Arrangement.{same_list, count, counts_from, smaller_right, vector_from, arrangements, is_descent, exchanged}
use Rattle.sgb_perms.proofs.Vectors.{below, at}
use Rattle.sgb_perms.proofs.Arrangements.{IsListed, listed_is, listed_has, test_from_same}

-- ---- two neighbours exchanged, in a list that is written out
swap_apart : (front : List ℕ) (x y : ℕ) (back : List ℕ) (n : ℕ) → length front ≡ n → swap (front ++ x ∷ y ∷ back) n (n + 1) ≡ front ++ y ∷ x ∷ back
swap_apart front x y back n long =
    let a = front ++ x ∷ y ∷ back in
    let whole : length a ≡ n + suc (suc (length back)) = length-append front (x ∷ y ∷ back) ∙ omega arith in
    let next : length (front ++ x ∷ []) ≡ n + 1 = length-append front (x ∷ []) ∙ omega arith in
    let after : length (front ++ y ∷ []) ≡ n + 1 = length-append front (y ∷ []) ∙ omega arith in
    let first : get_or a n 0 ≡ x = get_or_at front x (y ∷ back) 0 n long in
    let second : get_or a (n + 1) 0 ≡ y =
    ap (λ l. get_or l (n + 1) 0) (sym (append_assoc front (x ∷ []) (y ∷ back))) ∙ get_or_at (front ++ x ∷ []) y back 0 (n + 1) next in
    sym (swap_is a n (n + 1) 0 (omega arith) (omega arith))
    ∙ (ap₂ (λ u v. set (set a n u) (n + 1) v) second first
    ∙ (ap (λ l. set l (n + 1) x) (set_at front x (y ∷ back) y n long)
    ∙ (ap (λ l. set l (n + 1) x) (sym (append_assoc front (y ∷ []) (y ∷ back)))
    ∙ (set_at (front ++ y ∷ []) y back x (n + 1) after
    ∙ append_assoc front (y ∷ []) (x ∷ back)))))

-- a list around two neighbours
record Around (a : List ℕ) (place : ℕ) : Type 0 where
  front : List ℕ
  back : List ℕ
  x : ℕ
  y : ℕ
  before : a ≡ front ++ x ∷ y ∷ back
  after : exchanged a place ≡ front ++ y ∷ x ∷ back
  at : length front ≡ place
  greater : is_descent a place ≡ true → y < x

around : (a : List ℕ) (place : ℕ) → place + 1 < length a → Around a place
around a place within =
    let x = get_or a place 0 in
    let y = get_or a (place + 1) 0 in
    let front = take place a in
    let back = drop (place + 1 + 1) a in
    let whole : a ≡ front ++ x ∷ y ∷ back =
    sym (take-append-drop place a)
    ∙ ap (λ l. front ++ l) (drop_more a place 0 (omega arith) ∙ ap (λ l. x ∷ l) (drop_more a (place + 1) 0 within)) in
    record {
      front = front;
      back = back;
      x = x;
      y = y;
      before = whole;
      after = ap (λ l. exchanged l place) whole ∙ swap_apart front x y back place (length-take-le place a (omega arith));
      at = length-take-le place a (omega arith);
      greater = λ is. ltb-true y x is;
    }

-- ---- what an exchange keeps
count-exchange : (p : ℕ → Bool) (front : List ℕ) (x y : ℕ) (back : List ℕ) → count p (front ++ y ∷ x ∷ back) ≡ count p (front ++ x ∷ y ∷ back)
count-exchange p [] x y back =
    elim (cases_Bool (p x)) [
      | inl first ↦ elim (cases_Bool (p y)) [ inl second ↦ rw (first, second) refl | inr second ↦ rw (first, second) refl ]
      | inr first ↦ elim (cases_Bool (p y)) [ inl second ↦ rw (first, second) refl | inr second ↦ rw (first, second) refl ]
    ]
count-exchange p (z ∷ front) x y back =
    let rest = count-exchange p front x y back in
    elim (cases_Bool (p z)) [ inl passes ↦ rw passes (ap suc rest) | inr fails ↦ rw fails rest ]

counts-exchange : (k n : ℕ) (front : List ℕ) (x y : ℕ) (back : List ℕ) → counts_from k n (front ++ y ∷ x ∷ back) ≡ counts_from k n (front ++ x ∷ y ∷ back)
unfolding counts_from
counts-exchange k zero front x y back = refl
counts-exchange k (suc n) front x y back =
    ap₂ (λ c cs. c ∷ cs) (count-exchange (at k) front x y back) (counts-exchange (k + 1) n front x y back)

-- a vector gets no greater sum where a greater element goes behind a smaller one
numbers-exchange : (k : ℕ) (front : List ℕ) (x y : ℕ) (back : List ℕ) → y < x → sum (smaller_right k (front ++ y ∷ x ∷ back)) ≤ sum (smaller_right k (front ++ x ∷ y ∷ back))
unfolding smaller_right
numbers-exchange k [] x y back less =
    let rest = smaller_right k back in
    let c = count (below k) back in
    elim (cases_order x k) [
      | inl same ↦
          let one = sum_by-cons (λ z. z) c rest in
          let more = sum_by-cons (λ z. z) (suc c) rest in
          rw (eq-eqb x k same, ne_eqb y k (λ equal. omega arith), lt-ltb y k (omega arith)) (omega (arith, one, more))
      | inr other ↦
          elim other [
            | inl low ↦ rw (ne_eqb x k (λ equal. omega arith), ne_eqb y k (λ equal. omega arith)) (omega arith)
            | inr high ↦
                elim (cases_Bool (y == k)) [
                  | inl is ↦ rw (ne_eqb x k (λ equal. omega arith), is, le-ltb x k (omega arith)) (omega arith)
                  | inr is ↦ rw (ne_eqb x k (λ equal. omega arith), is) (omega arith)
                ]
          ]
    ]
numbers-exchange k (z ∷ front) x y back less =
    let rest = numbers-exchange k front x y back less in
    let same = count-exchange (below k) front x y back in
    elim (cases_Bool (z == k)) [
      | inl is ↦
          let one = sum_by-cons (λ v. v) (count (below k) (front ++ y ∷ x ∷ back)) (smaller_right k (front ++ y ∷ x ∷ back)) in
          let other = sum_by-cons (λ v. v) (count (below k) (front ++ x ∷ y ∷ back)) (smaller_right k (front ++ x ∷ y ∷ back)) in
          rw is (omega (arith, rest, same, one, other))
      | inr is ↦ rw is rest
    ]

vector-exchange : (k n : ℕ) (front : List ℕ) (x y : ℕ) (back : List ℕ) → y < x → sum (vector_from k n (front ++ y ∷ x ∷ back)) ≤ sum (vector_from k n (front ++ x ∷ y ∷ back))
unfolding vector_from
vector-exchange k zero front x y back less = omega arith
vector-exchange k (suc n) front x y back less =
    let rest = vector-exchange (k + 1) n front x y back less in
    let mine = numbers-exchange k front x y back less in
    let a = front ++ x ∷ y ∷ back in
    let b = front ++ y ∷ x ∷ back in
    let one = sum_by-append (λ z. z) (smaller_right k a) (vector_from (k + 1) n a) in
    let other = sum_by-append (λ z. z) (smaller_right k b) (vector_from (k + 1) n b) in
    omega (arith, rest, mine, one, other)

kinds-exchange : (P : ℕ → Type 0) (front : List ℕ) (x y : ℕ) (back : List ℕ) → All P (front ++ x ∷ y ∷ back) → All P (front ++ y ∷ x ∷ back)
kinds-exchange P [] x y back all =
    let rest = All-tail P x (y ∷ back) all in
    All-cons P y (x ∷ back) (All-head P y back rest) (All-cons P x back (All-head P x (y ∷ back) all) (All-tail P y back rest))
kinds-exchange P (z ∷ front) x y back all =
    All-cons P z (front ++ y ∷ x ∷ back) (All-head P z (front ++ x ∷ y ∷ back) all)
    (kinds-exchange P front x y back (All-tail P z (front ++ x ∷ y ∷ back) all))

-- ---- so no exchange leaves the list
listed-exchange : (counts : List ℕ) (most : ℕ) (front : List ℕ) (x y : ℕ) (back : List ℕ) → y < x → IsListed counts most (front ++ x ∷ y ∷ back) → IsListed counts most (front ++ y ∷ x ∷ back)
listed-exchange counts most front x y back less is =
    let fewer = vector-exchange 1 (length counts - 1) front x y back less in
    let within = is.within in
    record {
      arrangement = record {
        kinds = kinds-exchange (λ z. z < length counts) front x y back is.arrangement.kinds;
        counted = counts-exchange 0 (length counts) front x y back ∙ is.arrangement.counted;
      };
      within = omega arith;
    }

pub exchange_listed : (zeros : ℕ) (cs : List ℕ) (most : ℕ) (a : List ℕ) (place : ℕ) → Contains (arrangements (zeros ∷ cs) most) a → place + 1 < length a → is_descent a place ≡ true → Contains (arrangements (zeros ∷ cs) most) (exchanged a place)
exchange_listed zeros cs most a place within low descends =
    let s = around a place low in
    let is = subst (IsListed (zeros ∷ cs) most) s.before (listed_is (zeros ∷ cs) most a within) in
    listed_has zeros cs most (exchanged a place)
    (subst (IsListed (zeros ∷ cs) most) (sym s.after)
    (listed-exchange (zeros ∷ cs) most s.front s.x s.y s.back (s.greater descends) is))

-- what a list contains has a place in it
pub place_within : (rows : List (List ℕ)) (a : List ℕ) → Contains rows a → position_or_len (same_list a) rows < length rows
place_within rows a (k, less, is) =
    elim (cases_lt (position_or_len (same_list a) rows) (length rows)) [
      | inl low ↦ low
      | inr past ↦
          absurd (false≢true
          (sym (fails_before_first (same_list a) rows k a (omega arith)) ∙ test_from_same a (get_or rows k a) (sym is)))
    ]

pub exchanged_back : (a : List ℕ) (place : ℕ) → place + 1 < length a → exchanged (exchanged a place) place ≡ a
exchanged_back a place within =
    let s = around a place within in
    let long : length s.front ≡ place = s.at in
    ap (λ l. exchanged l place) s.after ∙ (swap_apart s.front s.y s.x s.back place long ∙ sym s.before)
