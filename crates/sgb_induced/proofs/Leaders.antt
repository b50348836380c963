-- Lemmas on leaders: the vertices in whose place the images of others stand.
use Rattle.std.proofs.Common.{◌≡◌, ◌==◌, ◌<◌, ◌≤◌, ◌+◌, ℕ, List, length, take, Option, Some, None, unwrap_or, Bool, true, false, cond, nat_eq, inl, inr, refl, sym, ap, ◌∙◌, arith}
use Rattle.std.specs.HashMap.{HashMap, get}
use Rattle.std.specs.List.{position, position_or_len}
use Rattle.std.proofs.lemmas.Bool.{cases_Bool, eqb-true, eq-eqb}
use Rattle.std.proofs.lemmas.List.{take_more, length-take-le}
use Rattle.std.proofs.lemmas.List.Quantifiers.{position-Some}
use Rattle.std.proofs.lemmas.List.Sums.{passes_at_first}
use Rattle.sgb_induced.specs.declared.fate.Fate.{Fate}
use Rattle.sgb_induced.specs.declared.fate.Fate.TheVariants.{Copies, Class}
use Rattle.sgb_induced.specs.Image.{fate, is_member, leader, leader_by}
use Rattle.sgb_induced.specs.Private.Run.{IsLed}
use Rattle.sgb_induced.proofs.Positions.{position_push, or_next, first_or_here}

member_is : (c : ℕ) (f : Fate) → is_member c f ≡ true → f ≡ Class c
member_is c (Copies k) is = absurd (let wrong : false ≡ true = is in cc)
member_is c (Class d) is = ap (λ k. Class k) (eqb-true d c is)

class_is_member : (c : ℕ) (f : Fate) → f ≡ Class c → is_member c f ≡ true
class_is_member c f is = ap (is_member c) is ∙ eq-eqb c c refl

pub leader_of_copies : (fs : List Fate) (v k : ℕ) → fate fs v ≡ Copies k → leader fs v ≡ v
leader_of_copies fs v k is = ap (leader_by fs v) is

pub leader_of_class : (fs : List Fate) (v c : ℕ) → fate fs v ≡ Class c → v < length fs → leader fs v ≡ unwrap_or (position (is_member c) (take v fs)) v
leader_of_class fs v c is h =
    ap (leader_by fs v) is ∙ first_or_here (is_member c) fs v (Copies 0) h (class_is_member c (fate fs v) is)

place-le : (p : Fate → Bool) (xs : List Fate) (n : ℕ) (o : Option ℕ) → length xs ≤ n → position p xs ≡ o → unwrap_or o n ≤ n
place-le p xs n None h is = omega arith
place-le p xs n (Some i) h is = omega (arith, h, (position-Some p xs i (Copies 0) is).0)

leader-le_by : (fs : List Fate) (v : ℕ) (f : Fate) → fate fs v ≡ f → v < length fs → leader fs v ≤ v
leader-le_by fs v (Copies k) is h = omega (arith, leader_of_copies fs v k is)
leader-le_by fs v (Class c) is h =
    omega (arith, leader_of_class fs v c is h, place-le (is_member c) (take v fs) v (position (is_member c) (take v fs)) (omega (arith, length-take-le v fs (omega (arith, h)))) refl)

pub leader-le : (fs : List Fate) (v : ℕ) → v < length fs → leader fs v ≤ v
leader-le fs v h = leader-le_by fs v (fate fs v) refl h

-- what becomes of the leader becomes of v, but that each copied vertex leads itself
fate_of_leader_by : (fs : List Fate) (v : ℕ) (f : Fate) → fate fs v ≡ f → v < length fs → fate fs (leader fs v) ≡ f
fate_of_leader_by fs v (Copies k) is h = ap (fate fs) (leader_of_copies fs v k is) ∙ is
fate_of_leader_by fs v (Class c) is h =
    let at : leader fs v ≡ position_or_len (is_member c) fs = ap (leader_by fs v) is in
    let below : position_or_len (is_member c) fs < length fs = omega (arith, h, leader-le fs v h, at) in
    ap (fate fs) at ∙ member_is c (fate fs (position_or_len (is_member c) fs)) (passes_at_first (is_member c) fs (Copies 0) below)

pub fate_of_leader : (fs : List Fate) (v : ℕ) → v < length fs → fate fs (leader fs v) ≡ fate fs v
fate_of_leader fs v h = fate_of_leader_by fs v (fate fs v) refl h

leader_of_leader_by : (fs : List Fate) (v : ℕ) (f : Fate) → fate fs v ≡ f → v < length fs → leader fs (leader fs v) ≡ leader fs v
leader_of_leader_by fs v (Copies k) is h = ap (leader fs) (leader_of_copies fs v k is)
leader_of_leader_by fs v (Class c) is h =
    ap (leader_by fs (leader fs v)) (fate_of_leader fs v h ∙ is) ∙ sym (ap (leader_by fs v) is)

pub leader_of_leader : (fs : List Fate) (v : ℕ) → v < length fs → leader fs (leader fs v) ≡ leader fs v
leader_of_leader fs v h = leader_of_leader_by fs v (fate fs v) refl h

-- ---- the map of first members, as a loop fills it
led_push : (fs : List Fate) (v c : ℕ) (f : Fate) → fate fs v ≡ f → v < length fs → position (is_member c) (take (v + 1) fs) ≡ or_next (position (is_member c) (take v fs)) (is_member c f) v
led_push fs v c f is h =
    let long : length (take v fs) ≡ v = omega (arith, h, length-take-le v fs (omega (arith, h))) in
    ap (position (is_member c)) (take_more fs v (Copies 0) h)
    ∙ (position_push (is_member c) (take v fs) (fate fs v)
    ∙ (ap (λ g. or_next (position (is_member c) (take v fs)) (is_member c g) (length (take v fs))) is ∙ ap (or_next (position (is_member c) (take v fs)) (is_member c f)) long))

or_next-no : (o : Option ℕ) (n : ℕ) → or_next o false n ≡ o
or_next-no None n = refl
or_next-no (Some i) n = refl

or_next-yes : (o : Option ℕ) (n : ℕ) → or_next o true n ≡ Some (unwrap_or o n)
or_next-yes None n = refl
or_next-yes (Some i) n = refl

pub led_copies : {S : Type 0} (m : HashMap ℕ ℕ S) (fs : List Fate) (v k : ℕ) → IsLed m (take v fs) → fate fs v ≡ Copies k → v < length fs → IsLed m (take (v + 1) fs)
led_copies m fs v k led is h =
    λ c. led c ∙ sym (led_push fs v c (Copies k) is h ∙ or_next-no (position (is_member c) (take v fs)) v)

pub led_class : {S : Type 0} (m n : HashMap ℕ ℕ S) (fs : List Fate) (v d u : ℕ) → IsLed m (take v fs) → fate fs v ≡ Class d → v < length fs → u ≡ unwrap_or (get nat_eq m d) v → ((c : ℕ) → get nat_eq n c ≡ cond (d == c) (Some u) (get nat_eq m c)) → IsLed n (take (v + 1) fs)
led_class m n fs v d u led is h found puts =
    λ c. elim (cases_Bool (d == c)) [
      | inl same ↦ (let there : d ≡ c = eqb-true d c same in
          let left : get nat_eq n c ≡ Some u = puts c ∙ rw same refl in
          let value : u ≡ unwrap_or (position (is_member c) (take v fs)) v = found ∙ ap (λ o. unwrap_or o v) (ap (get nat_eq m) there ∙ led c) in
          left ∙ (ap (λ k. Some k) value ∙ sym (led_push fs v c (Class d) is h ∙ (ap (λ b. or_next (position (is_member c) (take v fs)) b v) same ∙ or_next-yes (position (is_member c) (take v fs)) v))))
      | inr apart ↦ (let left : get nat_eq n c ≡ get nat_eq m c = puts c ∙ rw apart refl in
          left ∙ (led c ∙ sym (led_push fs v c (Class d) is h ∙ (ap (λ b. or_next (position (is_member c) (take v fs)) b v) apart ∙ or_next-no (position (is_member c) (take v fs)) v))))
    ]

pub leader_of_led : {S : Type 0} (m : HashMap ℕ ℕ S) (fs : List Fate) (v d u : ℕ) → IsLed m (take v fs) → fate fs v ≡ Class d → v < length fs → u ≡ unwrap_or (get nat_eq m d) v → u ≡ leader fs v
leader_of_led m fs v d u led is h found = found ∙ (ap (λ o. unwrap_or o v) (led d) ∙ sym (leader_of_class fs v d is h))
