-- Lemmas on pairs of vertices: their numbers, and the places of their insertions.
use Rattle.std.proofs.Common.{◌≡◌, ◌≢◌, ◌<◌, ◌≤◌, ◌+◌, ◌==◌, ℕ, zero, suc, ℤ, List, [], ◌∷◌, length, get_or, set, map, min, max, Bool, true, false, not, ◌||◌, ◌&&◌, All, ◌⊎◌, inl, inr, refl, sym, ap, ap₂, ◌∙◌, arith}
use Rattle.std.specs.Int.{int_min}
use Rattle.std.specs.List.{list_any, position_or_len}
use Rattle.std.proofs.lemmas.Bool.{cases_Bool}
use Rattle.std.proofs.lemmas.Bool.Decides.{Decides-eqb, Decides-and, Decides-or, Decides-like, not_from_Decides, same_from_decides}
use Rattle.std.proofs.lemmas.List.Elements.{All-nil, All-head, All-tail}
use Rattle.sgb_graph.specs.Builder.{Insertion, insertion}
use Rattle.sgb_plan.proofs.Distincts.{position_agree, position_or_len-map}
use Rattle.sgb_random.specs.declared.progress.Edge.{Edge}
use Rattle.sgb_random.specs.Random.{joins, lowered}
use Rattle.sgb_random.specs.Private.Progress.{insertion_of, key_of, key_of_insertion, IsWithin, with_len_at}

-- ---- the number of a pair
-- what `joins` says
abbrev pub Joined : Bool → ℕ → ℕ → ℕ → ℕ → Type 0
Joined d u v x y = ((x ≡ u) × (y ≡ v)) ⊎ ((not d ≡ true) × ((x ≡ v) × (y ≡ u)))

key_same : (d : Bool) (u v x y : ℕ) → Joined d u v x y → key_of d u v ≡ key_of d x y
key_same true u v x y (inl same) = omega (arith, same.0, same.1)
key_same true u v x y (inr turned) = absurd (let no_way : false ≡ true = turned.0 in cc)
key_same false u v x y (inl same) = omega (arith, same.0, same.1)
key_same false u v x y (inr turned) = omega (arith, turned.1.0, turned.1.1)

key_apart : (d : Bool) (u v x y : ℕ) → u < 65536 → v < 65536 → x < 65536 → y < 65536 → key_of d u v ≡ key_of d x y → Joined d u v x y
key_apart true u v x y hu hv hx hy same = inl (omega arith, omega arith)
key_apart false u v x y hu hv hx hy same =
    let low : min u v ≡ min x y = omega arith in
    let high : max u v ≡ max x y = omega arith in
    elim (cases_Bool (x == u)) [
      | inl is ↦ inl ((Decides-eqb x u).0 is, (let e : x ≡ u = (Decides-eqb x u).0 is in omega arith))
      | inr other ↦ inr (
        refl,
        (let e : x ≢ u = not_from_Decides (x == u) (Decides-eqb x u) other in (omega arith, omega arith)),
      )
    ]

pub joins_key : (d : Bool) (u v : ℕ) (e : Insertion) → u < 65536 → v < 65536 → IsWithin 65536 e → joins d u v e ≡ (key_of d u v == key_of_insertion d e)
joins_key d u v e hu hv within =
    same_from_decides (joins d u v e) (key_of d u v == key_of_insertion d e)
    (Decides-like (joins d u v e) (key_same d u v e.from e.to) (key_apart d u v e.from e.to hu hv within.0 within.1)
    (Decides-or ((e.from == u) && (e.to == v)) (not d && ((e.from == v) && (e.to == u)))
    (Decides-and (e.from == u) (e.to == v) (Decides-eqb e.from u) (Decides-eqb e.to v))
    (Decides-and (not d) ((e.from == v) && (e.to == u)) (λ is. is, λ is. is)
    (Decides-and (e.from == v) (e.to == u) (Decides-eqb e.from v) (Decides-eqb e.to u)))))
    (Decides-eqb (key_of d u v) (key_of_insertion d e))

any_agree : {X : Type 0} (p q : X → Bool) (P : X → Type 0) (xs : List X) → ((x : X) → P x → p x ≡ q x) → All P xs → list_any p xs ≡ list_any q xs
any_agree p q P [] agree all = refl
any_agree p q P (x ∷ xs) agree all =
    ap₂ (λ b c. b || c) (agree x (All-head P x xs all)) (any_agree p q P xs agree (All-tail P x xs all))

any-map : {X Y : Type 0} (p : Y → Bool) (f : X → Y) (xs : List X) → list_any p (map f xs) ≡ list_any (λ x. p (f x)) xs
any-map p f [] = refl
any-map p f (x ∷ xs) = ap (λ b. p (f x) || b) (any-map p f xs)

-- a pair is joined where its number is among theirs, at the same place
pub any_key : (d : Bool) (u v : ℕ) (es : List Insertion) → u < 65536 → v < 65536 → All (IsWithin 65536) es → list_any (λ k. key_of d u v == k) (map (key_of_insertion d) es) ≡ list_any (joins d u v) es
any_key d u v es hu hv within =
    any-map (λ k. key_of d u v == k) (key_of_insertion d) es
    ∙ sym (any_agree (joins d u v) (λ e. key_of d u v == key_of_insertion d e) (IsWithin 65536) es (λ e. joins_key d u v e hu hv) within)

pub place_key : (d : Bool) (u v : ℕ) (es : List Insertion) → u < 65536 → v < 65536 → All (IsWithin 65536) es → position_or_len (λ k. key_of d u v == k) (map (key_of_insertion d) es) ≡ position_or_len (joins d u v) es
place_key d u v es hu hv within =
    position_or_len-map (λ k. key_of d u v == k) (key_of_insertion d) es
    ∙ sym (position_agree (joins d u v) (λ e. key_of d u v == key_of_insertion d e) (IsWithin 65536) es (λ e. joins_key d u v e hu hv) within)

-- ---- a length that is lowered
pub lowered_at : (d : Bool) (u v : ℕ) (len : ℤ) (es : List Insertion) → lowered d u v len es ≡ with_len_at es (position_or_len (joins d u v) es) len
unfolding lowered with_len_at
lowered_at d u v len [] = refl
lowered_at d u v len (e ∷ es) =
    elim (cases_Bool (joins d u v e)) [
      | inl is ↦ rw is refl
      | inr other ↦
          let k = position_or_len (joins d u v) es in
          let more : 1 + k ≡ suc k = omega arith in
          rw (other, more) (ap (λ fs. e ∷ fs) (lowered_at d u v len es))
    ]

pub with_len_at-set : (edges : List Edge) (place : ℕ) (len : ℤ) (old new : Edge) → place < length edges → old ≡ get_or edges place old → insertion_of new ≡ insertion old.from old.to (int_min old.len len) → map insertion_of (set edges place new) ≡ with_len_at (map insertion_of edges) place len
unfolding with_len_at
with_len_at-set [] place len old new below is made = absurd (omega arith)
with_len_at-set (e ∷ edges) zero len old new below is made =
    ap (λ x. x ∷ map insertion_of edges) (made ∙ ap (λ (f : Edge). insertion f.from f.to (int_min f.len len)) is)
with_len_at-set (e ∷ edges) (suc place) len old new below is made =
    ap (λ es. insertion_of e ∷ es) (with_len_at-set edges place len old new (omega arith) is made)

-- the ends stay
pub keys-with_len_at : (d : Bool) (es : List Insertion) (place : ℕ) (len : ℤ) → map (key_of_insertion d) (with_len_at es place len) ≡ map (key_of_insertion d) es
unfolding with_len_at
keys-with_len_at d [] place len = refl
keys-with_len_at d (e ∷ es) zero len = refl
keys-with_len_at d (e ∷ es) (suc place) len = ap (λ ks. key_of_insertion d e ∷ ks) (keys-with_len_at d es place len)

pub same_count : (es : List Insertion) (place : ℕ) (len : ℤ) → length (with_len_at es place len) ≡ length es
unfolding with_len_at
same_count [] place len = refl
same_count (e ∷ es) zero len = refl
same_count (e ∷ es) (suc place) len = ap (λ k. suc k) (same_count es place len)

All-cons : {X : Type 0} (P : X → Type 0) (x : X) (xs : List X) → P x → All P xs → All P (x ∷ xs)
All-cons P x xs head tail zero d below = head
All-cons P x xs head tail (suc i) d below = tail i d (omega arith)

pub within-with_len_at : (n : ℕ) (es : List Insertion) (place : ℕ) (len : ℤ) → All (IsWithin n) es → All (IsWithin n) (with_len_at es place len)
unfolding with_len_at
within-with_len_at n [] place len all = all
within-with_len_at n (e ∷ es) zero len all =
    All-cons (IsWithin n) (insertion e.from e.to (int_min e.len len)) es (All-head (IsWithin n) e es all) (All-tail (IsWithin n) e es all)
within-with_len_at n (e ∷ es) (suc place) len all =
    All-cons (IsWithin n) e (with_len_at es place len) (All-head (IsWithin n) e es all) (within-with_len_at n es place len (All-tail (IsWithin n) e es all))

pub within_more : (n m : ℕ) (es : List Insertion) → n ≤ m → All (IsWithin n) es → All (IsWithin m) es
within_more n m es more all i d below =
    let e = all i d below in
    (omega (arith, e.0), omega (arith, e.1))

pub within_one : (n : ℕ) (e : Insertion) → IsWithin n e → All (IsWithin n) (e ∷ [])
within_one n e within = All-cons (IsWithin n) e [] within (All-nil (IsWithin n))
