-- Uniform numbers: no long run of draws is at or above a limit, so one below it comes soon.
use Rattle.std.proofs.Common.{◌≡◌, ℕ, zero, suc, ◌+◌, ◌-◌, ◌*◌, ◌/◌, ◌%◌, ◌^◌, ◌<◌, ◌≤◌, ℤ, ⊎_elim, not, ltb, length, refl, sym, ap, ◌∙◌, subst, arith, le-ltb, lt-ltb, ltb-false, ltb-true, div-add-mod', mul-le-mul_right, zero-add}
use Rattle.std.proofs.lemmas.Bool.{cases_lt}
use Rattle.std.proofs.lemmas.Nat.{mod_below}
use Rattle.std.proofs.lemmas.List.FromFn.{get_or-range_with_len, length-range_with_len}
use Rattle.std.proofs.lemmas.List.Sums.{fails_before_first, passes_at_first, position_or_len_is, prefix_len-le-length}
use Rattle.std.specs.List.{position_or_len, range_with_len}
use Rattle.sgb_flip.specs.Generator.{Generator, IsGenerator, IsUniform, HasNoUniform, after, drawn, limit, refused_draws, uniform, window}
use Rattle.sgb_flip.specs.Sequence.{difference, term}
use Rattle.sgb_flip.proofs.Draws.{after-after, after-window, drawn-after, drawn_at, IsGenerator-after}
use Rattle.sgb_flip.proofs.Terms.{term-below, term-more}

-- ---- the limit
-- it is above the middle
pub limit-high : (m : ℕ) → 1 ≤ m → m ≤ 2 ^ 31 → 2 ^ 30 < limit m
unfolding limit
limit-high m some most =
    let whole : 2 ^ 31 / m * m + 2 ^ 31 % m ≡ 2 ^ 31 = div-add-mod' (2 ^ 31) m in
    let less : 2 ^ 31 % m < m = mod_below (2 ^ 31) m some in
    ⊎_elim
    (λ (none : 2 ^ 31 / m < 1).
    let no : 2 ^ 31 / m ≡ 0 = omega arith in
    let product : 2 ^ 31 / m * m ≡ 0 = ap (λ q. q * m) no ∙ omega arith in
    omega arith)
    (λ (one : 1 ≤ 2 ^ 31 / m).
    let product : 1 * m ≤ 2 ^ 31 / m * m = mul-le-mul_right m one in
    omega arith)
    (cases_lt (2 ^ 31 / m) 1)

-- ---- a run of high terms
-- f is a run of the recurrence, `count` terms long, that stays above the middle
record IsHigh (f : ℕ → ℕ) (count : ℕ) : Type 0 where
  high : (i : ℕ) → i < count → 2 ^ 30 < f i
  below : (i : ℕ) → i < count → f i < 2 ^ 31
  more : (i : ℕ) → i + 55 < count → f (i + 55) ≡ difference (f i) (f (i + 31))

wraps : (a b c : ℕ) → 2 ^ 30 < a → a < 2 ^ 31 → 2 ^ 30 < b → b < 2 ^ 31 → 2 ^ 30 < c → c ≡ difference a b → (a < b) × (c + b ≡ 2 ^ 31 + a)
unfolding difference
wraps a b c p q r s t is = (omega arith, omega arith)

-- each difference wraps: so the term 31 places on is larger
wrapped : (f : ℕ → ℕ) (count : ℕ) → IsHigh f count → (i : ℕ) → i + 55 < count → (f i < f (i + 31)) × (f (i + 55) + f (i + 31) ≡ 2 ^ 31 + f i)
wrapped f count is i h =
    wraps (f i) (f (i + 31)) (f (i + 55)) (is.high i (omega arith)) (is.below i (omega arith)) (is.high (i + 31) (omega arith)) (is.below (i + 31) (omega arith)) (is.high (i + 55) h) (is.more i h)

-- by how much it is larger doubles with each 55 terms that the run goes on
gap : (f : ℕ → ℕ) (count : ℕ) → IsHigh f count → (k i : ℕ) → i + 56 + 55 * k ≤ count → f i + 2 ^ k ≤ f (i + 31)
gap f count is zero i h = omega (arith, (wrapped f count is i (omega arith)).0)
gap f count is (suc k) i h =
    let here : f (i + 55) + f (i + 31) ≡ 2 ^ 31 + f i = (wrapped f count is i (omega arith)).1 in
    let there : f (i + 31 + 55) + f (i + 31 + 31) ≡ 2 ^ 31 + f (i + 31) = (wrapped f count is (i + 31) (omega arith)).1 in
    let near : f (i + 31) + 2 ^ k ≤ f (i + 31 + 31) = gap f count is k (i + 31) (omega arith) in
    let far : f (i + 55) + 2 ^ k ≤ f (i + 55 + 31) = gap f count is k (i + 55) (omega arith) in
    let same : i + 55 + 31 ≡ i + 31 + 55 = omega arith in
    let joint : f (i + 55 + 31) ≡ f (i + 31 + 55) = ap f same in
    let double : 2 ^ suc k ≡ 2 ^ k + 2 ^ k = omega arith in
    omega arith

no_long_run : (f : ℕ → ℕ) (count : ℕ) → IsHigh f count → 1706 ≤ count → ⊥
no_long_run f count is long =
    let far : f 0 + 2 ^ 30 ≤ f 31 = gap f count is 30 0 (omega arith) in
    omega (arith, far, is.high 0 (omega arith), is.below 31 (omega arith))

-- ---- the first 1,814 draws hold 32 batches
record DrawOf (w : Generator) (n : ℕ) : Type 0 where
  place : ℕ
  early : place < 1814
  is : drawn w place ≡ term w.words n

drawn_in_batches : (w : Generator) (n : ℕ) → w.unread < 55 → 55 < n → n ≤ 1815 → DrawOf w n
drawn_in_batches w n few low high =
    let q : ℕ = (n - 1) / 55 in
    let r : ℕ = 55 * ((n - 1) / 55) + 55 - n in
    let place : ℕ = 55 * ((n - 1) / 55) + (55 * ((n - 1) / 55) + 55 - n) + w.unread - 55 in
    let index : 55 * ((n - 1) / 55) + 55 - (55 * ((n - 1) / 55) + 55 - n) ≡ n = omega arith in
    record {
      place = 55 * ((n - 1) / 55) + (55 * ((n - 1) / 55) + 55 - n) + w.unread - 55;
      early = omega arith;
      is = drawn_at w (55 * ((n - 1) / 55) + (55 * ((n - 1) / 55) + 55 - n) + w.unread - 55) ((n - 1) / 55) (55 * ((n - 1) / 55) + 55 - n) (omega arith) (omega arith)
          ∙ ap (λ k. term w.words k) index;
    }

pub some_uniform : (w : Generator) (m : ℕ) → IsGenerator w → 1 ≤ m → m ≤ 2 ^ 31 → HasNoUniform w m → ⊥
some_uniform w m is some most none =
    no_long_run (λ i. term w.words (56 + i)) 1760
    (record {
      high = λ i h.
          let it : DrawOf w (56 + i) = drawn_in_batches w (56 + i) is.few (omega arith) (omega arith) in
          let refused : limit m ≤ drawn w it.place = none.refused it.place it.early in
          let equal : drawn w it.place ≡ term w.words (56 + i) = it.is in
          omega (arith, refused, equal, limit-high m some most);
      below = λ i h. term-below w.words is.count is.small (56 + i) (omega arith);
      more = λ i h.
          let whole : 56 + (i + 55) ≡ 56 + i + 55 = omega arith in
          let near : 56 + i + 31 ≡ 56 + (i + 31) = omega arith in
          ap (λ n. term w.words n) whole
          ∙ term-more w.words (56 + i) (omega arith)
          ∙ ap (λ n. difference (term w.words (56 + i)) (term w.words n)) near;
    })
    (omega arith)

-- ---- the relation and the function
-- what a draw below the limit after k refused ones gives
pub IsUniform-found : (w g rest : Generator) (m k number : ℕ) → IsGenerator w → k < 1814
    → ((i : ℕ) → i < k → limit m ≤ drawn w i) → g ≡ after w k → number ≡ drawn g 0 → rest ≡ after g 1 → number < limit m
    → IsUniform w m (number % m) (k + 1) rest
IsUniform-found w g rest m k number is few refused now number_is rest_is accepted =
    let last : k + 0 ≡ k + 1 - 1 = omega arith in
    let draw : number ≡ drawn w (k + 1 - 1) =
    number_is ∙ ap (λ v. drawn v 0) now ∙ drawn-after w k 0 is ∙ ap (λ n. drawn w n) last
    in
    record {
      some = omega arith;
      few = omega arith;
      refused = λ i h. refused i (omega arith);
      accepted = subst (λ (n : ℕ). n < limit m) draw accepted;
      value_is = ap (λ n. n % m) draw;
      rest_is = rest_is ∙ ap (λ v. after v 1) now ∙ after-after w k 1;
    }

-- one refused draw more
pub refused_more : (w g : Generator) (t k number : ℕ) → IsGenerator w → g ≡ after w k → number ≡ drawn g 0 → t ≤ number
    → ((i : ℕ) → i < k → t ≤ drawn w i) → (i : ℕ) → i < k + 1 → t ≤ drawn w i
refused_more w g t k number is now number_is high before i h =
    ⊎_elim
    (λ (early : i < k). before i early)
    (λ (late : k ≤ i).
    let here : k + 0 ≡ i = omega arith in
    let draw : number ≡ drawn w i = number_is ∙ ap (λ v. drawn v 0) now ∙ drawn-after w k 0 is ∙ ap (λ n. drawn w n) here in
    subst (λ (n : ℕ). t ≤ n) draw high)
    (cases_lt i k)

refused_draws-is : (w : Generator) (t bound i : ℕ) → i < bound → ((k : ℕ) → k < i → t ≤ drawn w k) → drawn w i < t → refused_draws w t bound ≡ i
unfolding refused_draws
refused_draws-is w t bound i h refused accepted =
    position_or_len_is (λ j. ltb (drawn w j) t) (range_with_len 0 bound) i 0
    (omega (arith, length-range_with_len 0 bound))
    (λ k low. ap (λ j. ltb (drawn w j) t) (get_or-range_with_len 0 bound k 0 (omega arith) ∙ zero-add k) ∙ le-ltb (drawn w k) t (refused k low))
    (λ low. ap (λ j. ltb (drawn w j) t) (get_or-range_with_len 0 bound i 0 h ∙ zero-add i) ∙ lt-ltb (drawn w i) t accepted)

pub refused_draws-before : (w : Generator) (t bound k : ℕ) → k < refused_draws w t bound → t ≤ drawn w k
unfolding refused_draws
refused_draws-before w t bound k h =
    let within : position_or_len (λ j. ltb (drawn w j) t) (range_with_len 0 bound) ≤ length (range_with_len 0 bound) =
    prefix_len-le-length (λ j. not (ltb (drawn w j) t)) (range_with_len 0 bound)
    in
    let few : k < bound = omega (arith, within, h, length-range_with_len 0 bound) in
    ltb-false (drawn w k) t
    (sym (ap (λ j. ltb (drawn w j) t) (get_or-range_with_len 0 bound k 0 few ∙ zero-add k))
    ∙ fails_before_first (λ j. ltb (drawn w j) t) (range_with_len 0 bound) k 0 h)

pub refused_draws-at : (w : Generator) (t bound : ℕ) → refused_draws w t bound < bound → drawn w (refused_draws w t bound) < t
unfolding refused_draws
refused_draws-at w t bound h =
    let within : position_or_len (λ j. ltb (drawn w j) t) (range_with_len 0 bound) < length (range_with_len 0 bound) = omega (arith, h, length-range_with_len 0 bound) in
    ltb-true (drawn w (position_or_len (λ j. ltb (drawn w j) t) (range_with_len 0 bound))) t
    (sym (ap (λ j. ltb (drawn w j) t) (get_or-range_with_len 0 bound (position_or_len (λ j. ltb (drawn w j) t) (range_with_len 0 bound)) 0 h ∙ zero-add (position_or_len (λ j. ltb (drawn w j) t) (range_with_len 0 bound))))
    ∙ passes_at_first (λ j. ltb (drawn w j) t) (range_with_len 0 bound) 0 within)

-- a limit is met within 1,814 draws
pub refused_draws-below : (w : Generator) (m bound : ℕ) → IsGenerator w → 1 ≤ m → m ≤ 2 ^ 31 → bound ≡ 1814 → refused_draws w (limit m) bound < bound
refused_draws-below w m bound is some most whole =
    ⊎_elim
    (λ (found : refused_draws w (limit m) bound < bound). found)
    (λ (none : bound ≤ refused_draws w (limit m) bound).
    absurd (some_uniform w m is some most
    (record { refused = λ i h. refused_draws-before w (limit m) bound i (omega arith) })))
    (cases_lt (refused_draws w (limit m) bound) bound)

-- the relation tells the function's fields
pub record IsThatUniform (w : Generator) (m value draws : ℕ) (rest : Generator) : Type 0 where
  pub value_is : value ≡ (uniform w m).value
  pub draws_is : draws ≡ (uniform w m).draws
  pub rest_is : rest ≡ (uniform w m).rest

pub IsUniform-only : (w : Generator) (m value draws : ℕ) (rest : Generator) → IsUniform w m value draws rest → IsThatUniform w m value draws rest
unfolding uniform
IsUniform-only w m value draws rest is =
    let some : 0 < draws = is.some in
    let few : draws ≤ 1814 = is.few in
    let first : refused_draws w (limit m) 1814 ≡ draws - 1 =
    refused_draws-is w (limit m) 1814 (draws - 1) (omega arith) (λ k low. is.refused k (omega arith)) is.accepted
    in
    let count : draws - 1 + 1 ≡ draws = omega arith in
    record {
      value_is = is.value_is ∙ ap (λ j. drawn w j % m) (sym first);
      draws_is = sym (ap (λ j. j + 1) first ∙ count);
      rest_is = is.rest_is ∙ ap (λ j. after w j) (sym (ap (λ j. j + 1) first ∙ count));
    }

-- the function gives what the relation says
pub IsUniform-uniform : (w : Generator) (m : ℕ) → IsGenerator w → 1 ≤ m → m ≤ 2 ^ 31 → IsUniform w m (uniform w m).value (uniform w m).draws (uniform w m).rest
unfolding uniform
IsUniform-uniform w m is some most =
    let j : ℕ = refused_draws w (limit m) 1814 in
    let found : refused_draws w (limit m) 1814 < 1814 = refused_draws-below w m 1814 is some most refl in
    let index : refused_draws w (limit m) 1814 + 1 - 1 ≡ refused_draws w (limit m) 1814 = omega arith in
    record {
      some = omega arith;
      few = omega arith;
      refused = λ i h. refused_draws-before w (limit m) 1814 i (omega arith);
      accepted = subst (λ (i : ℕ). drawn w i < limit m) (sym index) (refused_draws-at w (limit m) 1814 found);
      value_is = ap (λ i. drawn w i % m) (sym index);
      rest_is = refl;
    }

-- ---- for callers, at the function
pub rest-uniform : (w : Generator) (m : ℕ) → (uniform w m).rest ≡ after w (uniform w m).draws
unfolding uniform
rest-uniform w m = refl

pub IsGenerator-uniform : (w : Generator) (m : ℕ) → IsGenerator w → IsGenerator (uniform w m).rest
IsGenerator-uniform w m is = subst IsGenerator (sym (rest-uniform w m)) (IsGenerator-after w (uniform w m).draws is)

pub uniform-below : (w : Generator) (m : ℕ) → 1 ≤ m → (uniform w m).value < m
unfolding uniform
uniform-below w m some = mod_below (drawn w (refused_draws w (limit m) 1814)) m some

pub draws-some : (w : Generator) (m : ℕ) → 0 < (uniform w m).draws
unfolding uniform
draws-some w m = omega arith

pub draws-few : (w : Generator) (m : ℕ) → IsGenerator w → 1 ≤ m → m ≤ 2 ^ 31 → (uniform w m).draws ≤ 1814
draws-few w m is some most = (IsUniform-uniform w m is some most).few

-- a uniform number takes a seeded generator on by its draws
pub uniform-window : (s : ℤ) (k m : ℕ) → (uniform (window s k) m).rest ≡ window s (k + (uniform (window s k) m).draws)
uniform-window s k m = rest-uniform (window s k) m ∙ after-window s k (uniform (window s k) m).draws
