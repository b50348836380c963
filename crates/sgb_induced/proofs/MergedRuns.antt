-- Lemmas on runs that are merged by their ends.
use Rattle.std.proofs.Common.{◌≡◌, ◌==◌, ◌<◌, ℕ, suc, List, [], ◌∷◌, ◌++◌, length, get_or, set, Option, Some, None, Bool, true, false, cond, inl, inr, refl, sym, ap, ap₂, subst, ◌∙◌}
use Rattle.std.specs.HashMap.{HashMap, get}
use Rattle.std.specs.List.{position}
use Rattle.std.specs.Option.{option_map}
use Rattle.std.proofs.lemmas.Bool.{cases_Bool, eqb-true}
use Rattle.std.proofs.lemmas.List.Quantifiers.{position-Some}
use Rattle.sgb_induced.specs.declared.run.Run.{Run}
use Rattle.sgb_induced.specs.Private.Run.{IsPlaced, Key, has_key, key_eq, key_of, lowered_run, merge, same_run}
use Rattle.sgb_induced.proofs.Positions.{position-cons, position_push, or_next}

none_is_some : (o : Option ℕ) (i : ℕ) → option_map (λ k. suc k) o ≡ Some i → (j : ℕ) × ((o ≡ Some j) × (i ≡ suc j))
none_is_some None i is = absurd (cc)
none_is_some (Some j) i is = (j, (refl, let same : Some (suc j) ≡ Some i = is in cc))

none_is_none : (o : Option ℕ) → option_map (λ k. suc k) o ≡ None → o ≡ None
none_is_none None is = refl
none_is_none (Some j) is = absurd (cc)

-- the run with these ends is lowered where it stands
pub merge_found : (directed : Bool) (rs : List Run) (s d : Run) (i : ℕ) → position (has_key directed (key_of directed s)) rs ≡ Some i → merge directed rs s ≡ set rs i (lowered_run (get_or rs i d) s)
unfolding merge
merge_found directed [] s d i is = absurd (let wrong : None ≡ Some i = is in cc)
merge_found directed (r ∷ rs) s d i is =
    elim (cases_Bool (same_run directed r s)) [
      | inl same ↦ (let here : Some 0 ≡ Some i = sym (position-cons (has_key directed (key_of directed s)) r rs ∙ rw same refl) ∙ is in
          let first : i ≡ 0 = cc in
          rw (same, first) refl)
      | inr other ↦ (let there : option_map (λ k. suc k) (position (has_key directed (key_of directed s)) rs) ≡ Some i = sym (position-cons (has_key directed (key_of directed s)) r rs ∙ rw other refl) ∙ is in
          let found = none_is_some (position (has_key directed (key_of directed s)) rs) i there in
          rw (other, found.1.1) (ap (λ ts. r ∷ ts) (merge_found directed rs s d found.0 found.1.0)))
    ]

-- or it comes last
pub merge_new : (directed : Bool) (rs : List Run) (s : Run) → position (has_key directed (key_of directed s)) rs ≡ None → merge directed rs s ≡ rs ++ s ∷ []
unfolding merge
merge_new directed [] s is = refl
merge_new directed (r ∷ rs) s is =
    elim (cases_Bool (same_run directed r s)) [
      | inl same ↦ absurd (let wrong : Some 0 ≡ None = sym (position-cons (has_key directed (key_of directed s)) r rs ∙ rw same refl) ∙ is in cc)
      | inr other ↦ (let there : option_map (λ k. suc k) (position (has_key directed (key_of directed s)) rs) ≡ None = sym (position-cons (has_key directed (key_of directed s)) r rs ∙ rw other refl) ∙ is in
          rw other (ap (λ ts. r ∷ ts) (merge_new directed rs s (none_is_none (position (has_key directed (key_of directed s)) rs) there))))
    ]

pub place_within : (directed : Bool) (rs : List Run) (q : Key) (i : ℕ) (d : Run) → position (has_key directed q) rs ≡ Some i → i < length rs
place_within directed rs q i d is = (position-Some (has_key directed q) rs i d is).0

-- ---- the map of places
key_is : (a b c e : ℕ) → key_eq (a, b) (c, e) ≡ true → ◌≡◌ {A = Key} (a, b) (c, e)
key_is a b c e is =
    elim (cases_Bool (a == c)) [
      | inl first ↦ (let second : (b == e) ≡ true = rw first at is in ap₂ {A = ℕ} {B = ℕ} {C = Key} (λ x y. (x, y)) (eqb-true a c first) (eqb-true b e second))
      | inr apart ↦ absurd (let wrong : false ≡ true = rw apart at is in cc)
    ]

only_here : (o : Option ℕ) (n : ℕ) → cond false (Some n) o ≡ or_next o false n
only_here None n = refl
only_here (Some i) n = refl

-- a run with the ends of one that was kept lowers it
pub lowered_at : (d : Bool) (rs : List Run) (s : Run) (i : ℕ) {ts : List Run} → position (has_key d (key_of d s)) rs ≡ Some i → ts ≡ set rs i (lowered_run (get_or rs i s) s) → ts ≡ merge d rs s
lowered_at d rs s i found so = so ∙ sym (merge_found d rs s s i found)

-- one with other ends comes last, and the map has its place
placed_more : {S : Type 0} (d : Bool) (m n : HashMap Key ℕ S) (rs : List Run) (s : Run) → IsPlaced d m rs → position (has_key d (key_of d s)) rs ≡ None
    → ((q : Key) → get key_eq n q ≡ cond (key_eq (key_of d s) q) (Some (length rs)) (get key_eq m q)) → IsPlaced d n (rs ++ s ∷ [])
placed_more d m n rs s placed none more =
    λ q.
    let last = position_push (has_key d q) rs s in
    elim (cases_Bool (key_eq (key_of d s) q)) [
      | inl here ↦ (let same : ◌≡◌ {A = Key} (key_of d s) q = key_is (key_of d s).0 (key_of d s).1 q.0 q.1 here in
          let new : position (has_key d q) rs ≡ None = subst (λ k. position (has_key d k) rs ≡ None) same none in
          more q ∙ (ap (λ b. cond b (Some (length rs)) (get key_eq m q)) here ∙ sym (last ∙ ap₂ (λ o b. or_next o b (length rs)) new here)))
      | inr other ↦ more q
          ∙ (ap₂ (λ b o. cond b (Some (length rs)) o) other (placed q)
          ∙ (only_here (position (has_key d q) rs) (length rs) ∙ sym (last ∙ ap (λ b. or_next (position (has_key d q) rs) b (length rs)) other)))
    ]

pub placed_last : {S : Type 0} (d : Bool) (m n : HashMap Key ℕ S) (rs : List Run) (s : Run) (k : Key) (l : ℕ) {ts : List Run} → k ≡ key_of d s → l ≡ length rs → ts ≡ rs ++ s ∷ []
    → IsPlaced d m rs → position (has_key d (key_of d s)) rs ≡ None → ((q : Key) → get key_eq n q ≡ cond (key_eq k q) (Some l) (get key_eq m q)) → IsPlaced d n ts
placed_last d m n rs s k l key last so placed none more =
    subst (λ us. IsPlaced d n us) (sym so)
    (placed_more d m n rs s placed none (λ q. more q ∙ ap₂ (λ e i. cond (key_eq e q) (Some i) (get key_eq m q)) key last))

-- what the map knows of a run with the ends k
pub found_at : {S : Type 0} (d : Bool) (m : HashMap Key ℕ S) (rs : List Run) (s : Run) (k : Key) (o : Option ℕ) → k ≡ key_of d s → IsPlaced d m rs → get key_eq m k ≡ o → position (has_key d (key_of d s)) rs ≡ o
found_at d m rs s k o key placed is = ap (λ q. position (has_key d q) rs) (sym key) ∙ (sym (placed k) ∙ is)
