-- Lists that a loop fills from the front.
use Rattle.std.proofs.Common.{◌≡◌, ◌<◌, ◌≤◌, ◌+◌, ◌-◌, ℕ, List, [], ◌∷◌, ◌++◌, length, drop, set, get_or, map, sym, ap, ◌∙◌, append_assoc, refl, subst, arith}
use Rattle.std.proofs.lemmas.List.{append-nil, length-append, set-append_right, drop_more, drop_all, get_or-append_right, get_or-drop}
use Rattle.std.proofs.lemmas.List.FromFn.{map-range_with_len_more}
use Rattle.std.specs.List.{range_with_len}

-- the first k of the old elements are replaced by these
pub record Front {X : Type 0} (front olds now : List X) (k : ℕ) : Type 0 where
  pub whole : now ≡ front ++ drop k olds
  pub count : length front ≡ k

pub front_start : {X : Type 0} (olds : List X) → Front [] olds olds 0
front_start olds = record { whole = refl; count = refl }

-- the next element is still the old one
pub front_at : {X : Type 0} {front olds now : List X} {k : ℕ} (d : X) → Front front olds now k → get_or now k d ≡ get_or olds k d
front_at {X} {front} {olds} {now} {k} d f =
    ap (λ xs. get_or xs k d) f.whole
    ∙ (get_or-append_right front (drop k olds) k k d f.count (omega arith)
    ∙ (get_or-drop k olds (k - k) d ∙ ap (λ i. get_or olds i d) (omega arith)))

-- one more
pub front_more : {X : Type 0} {front olds now new : List X} {k : ℕ} (y d : X) → k < length olds → Front front olds now k → new ≡ set now k y → Front (front ++ y ∷ []) olds new (k + 1)
front_more {X} {front} {olds} {now} {new} {k} y d within f is =
    let zero_on : k - k ≡ 0 = omega arith in
    record {
      whole = is ∙ (ap (λ xs. set xs k y) f.whole
          ∙ (set-append_right front (drop k olds) k k y f.count (omega arith)
          ∙ (ap (λ i. front ++ set (drop k olds) i y) zero_on
          ∙ (ap (λ xs. front ++ set xs 0 y) (drop_more olds k d within)
          ∙ sym (append_assoc front (y ∷ []) (drop (k + 1) olds))))));
      count = length-append front (y ∷ []) ∙ ap (λ n. n + 1) f.count;
    }

pub front_end : {X : Type 0} {front olds now : List X} {k : ℕ} → length olds ≤ k → Front front olds now k → now ≡ front
front_end {X} {front} {olds} {now} {k} past f = f.whole ∙ (ap (λ xs. front ++ xs) (drop_all k olds past) ∙ append-nil front)

-- elements by number
pub by_number_start : {X : Type 0} (f : ℕ → X) (olds : List X) → Front (map f (range_with_len 0 0)) olds olds 0
by_number_start f olds = front_start olds

pub by_number : {X : Type 0} (f : ℕ → X) {olds now new : List X} {k : ℕ} (y d : X) → k < length olds → Front (map f (range_with_len 0 k)) olds now k → new ≡ set now k y → y ≡ f k → Front (map f (range_with_len 0 (k + 1))) olds new (k + 1)
by_number {X} f {olds} {now} {new} {k} y d within front is value =
    subst (λ xs. Front xs olds new (k + 1))
    (ap (λ z. map f (range_with_len 0 k) ++ z ∷ []) value ∙ sym (map-range_with_len_more f 0 k k (omega arith)))
    (front_more y d within front is)

pub by_number_end : {X : Type 0} (f : ℕ → X) {olds now : List X} {k n : ℕ} → k ≡ n → length olds ≡ n → Front (map f (range_with_len 0 k)) olds now k → now ≡ map f (range_with_len 0 n)
by_number_end {X} f {olds} {now} {k} {n} all count front =
    front_end (omega (arith, all, count)) front ∙ ap (λ i. map f (range_with_len 0 i)) all
