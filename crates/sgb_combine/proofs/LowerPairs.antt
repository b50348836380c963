-- What leads below its own pair need not be looked at.
use Rattle.std.proofs.Common.{◌≡◌, ◌<◌, ◌≤◌, ◌+◌, ◌*◌, ◌==◌, ℕ, suc, List, [], ◌∷◌, ◌++◌, length, map, Bool, true, false, ◌||◌, nat_lt, cond, All, inl, inr, refl, sym, ap, ap₂, ◌∙◌, arith}
use Rattle.std.specs.List.{flat_map, filter}
use Rattle.std.proofs.Math.Nat.{mul-le-mul_right, suc-mul}
use Rattle.std.proofs.lemmas.Bool.{cases_Bool, cases_lt, eqb-true, lt-ltb, le-ltb, le-leb, lt-leb}
use Rattle.std.proofs.lemmas.List.Elements.{All-head, All-tail, filter-append}
use Rattle.sgb_graph.proofs.InsertionRuns.{flat_map-filter}
use Rattle.sgb_graph.specs.declared.spoke.Spoke.{Spoke}
use Rattle.sgb_graph.specs.Operand.{IsWithin}
use Rattle.sgb_combine.specs.Combined.{is_upward}
use Rattle.sgb_combine.specs.Product.{pair_number, first_steps, second_steps, both_steps}
use Rattle.sgb_combine.specs.Private.Pruned.{is_above, scaled, double, double_steps, inner, outer, doubles_over}

-- ---- lists
filter_as : {X : Type 0} (p q : X → Bool) (P : X → Type 0) (xs : List X) → All P xs → ((x : X) → P x → p x ≡ q x) → filter p xs ≡ filter q xs
filter_as p q P [] all same = refl
filter_as p q P (x ∷ xs) all same =
    ap (λ b. cond b (x ∷ filter p xs) (filter p xs)) (same x (All-head P x xs all))
    ∙ ap (λ ys. cond (q x) (x ∷ ys) ys) (filter_as p q P xs (All-tail P x xs all) same)

filter-mapped : {X Y : Type 0} (p : Y → Bool) (f : X → Y) (xs : List X) → filter p (map f xs) ≡ map f (filter (λ x. p (f x)) xs)
filter-mapped p f [] = refl
filter-mapped p f (x ∷ xs) =
    elim (cases_Bool (p (f x))) [
      | inl passes ↦ rw passes (ap (λ ys. f x ∷ ys) (filter-mapped p f xs))
      | inr fails ↦ rw fails (filter-mapped p f xs)
    ]

filter-flat : {X Y : Type 0} (p : Y → Bool) (f : X → List Y) (xs : List X) → filter p (flat_map f xs) ≡ flat_map (λ x. filter p (f x)) xs
filter-flat p f [] = refl
filter-flat p f (x ∷ xs) = filter-append p (f x) (flat_map f xs) ∙ ap (λ ys. filter p (f x) ++ ys) (filter-flat p f xs)

pub filter_all : {X : Type 0} (xs : List X) → filter (λ x. true) xs ≡ xs
filter_all [] = refl
filter_all (x ∷ xs) = ap (λ ys. x ∷ ys) (filter_all xs)

filter_none : {X : Type 0} (xs : List X) → filter (λ x. false) xs ≡ []
filter_none [] = refl
filter_none (x ∷ xs) = filter_none xs

flat_as : {X Y : Type 0} (f g : X → List Y) (xs : List X) → ((x : X) → f x ≡ g x) → flat_map f xs ≡ flat_map g xs
flat_as f g [] same = refl
flat_as f g (x ∷ xs) same = ap₂ (λ ys zs. ys ++ zs) (same x) (flat_as f g xs same)

flat_none : {X Y : Type 0} (f : X → List Y) (xs : List X) → ((x : X) → f x ≡ []) → flat_map f xs ≡ []
flat_none f [] none = refl
flat_none f (x ∷ xs) none = ap₂ (λ ys zs. ys ++ zs) (none x) (flat_none f xs none)

nil_of : {X : Type 0} (xs : List X) → (length xs == 0) ≡ true → xs ≡ []
nil_of [] none = refl
nil_of (x ∷ xs) none = absurd (omega (arith, eqb-true (length (x ∷ xs)) 0 none))

map_as : {X Y : Type 0} (f g : X → Y) (xs : List X) → ((x : X) → f x ≡ g x) → map f xs ≡ map g xs
map_as f g [] same = refl
map_as f g (x ∷ xs) same = ap₂ (λ y ys. y ∷ ys) (same x) (map_as f g xs same)

pub cond_in : {X Y : Type 0} (f : List X → List Y) (b : Bool) (xs : List X) → f [] ≡ [] → f (cond b xs []) ≡ cond b (f xs) []
cond_in f true xs none = refl
cond_in f false xs none = none

-- ---- numbers of pairs
pub next_row : (m n k : ℕ) → m < n → m * k + k ≤ n * k
next_row m n k h =
    let more : suc m * k ≤ n * k = mul-le-mul_right k (omega arith) in
    let same : suc m * k ≡ m * k + k = suc-mul m k in
    omega (arith, more, same)

same_row : (m n k : ℕ) → m ≤ n → m * k ≤ n * k
same_row m n k h = mul-le-mul_right k h

-- by one step
first_up : (directed : Bool) (k a b : ℕ) (s : Spoke) → b < k → is_upward directed (pair_number k a b) (scaled k b s) ≡ is_upward directed a s
first_up true k a b s h = refl
first_up false k a b s h =
    elim (cases_lt s.to a) [
      | inl low ↦
          let row = next_row s.to a k low in
          lt-leb (a * k + b) (s.to * k + b) (omega (arith, row)) ∙ sym (lt-leb a s.to low)
      | inr high ↦
          let row = same_row a s.to k (omega arith) in
          le-leb (a * k + b) (s.to * k + b) (omega (arith, row)) ∙ sym (le-leb a s.to (omega arith))
    ]

second_up : (directed : Bool) (k a b : ℕ) (t : Spoke) → is_upward directed (pair_number k a b) (scaled 1 (a * k) t) ≡ is_upward directed b t
second_up true k a b t = refl
second_up false k a b t =
    elim (cases_lt t.to b) [
      | inl low ↦ lt-leb (a * k + b) (t.to * 1 + a * k) (omega arith) ∙ sym (lt-leb b t.to low)
      | inr high ↦ le-leb (a * k + b) (t.to * 1 + a * k) (omega arith) ∙ sym (le-leb b t.to (omega arith))
    ]

pub firsts_up : (directed : Bool) (k a b : ℕ) (ss : List Spoke) → b < k → filter (is_upward directed (pair_number k a b)) (first_steps k b ss) ≡ map (scaled k b) (filter (is_upward directed a) ss)
firsts_up directed k a b ss h =
    filter-mapped (is_upward directed (pair_number k a b)) (scaled k b) ss
    ∙ ap (map (scaled k b)) (filter_as (λ s. is_upward directed (pair_number k a b) (scaled k b s)) (is_upward directed a) (λ s. Unit {0}) ss (λ i d low. tt) (λ s x. first_up directed k a b s h))

pub seconds_up : (directed : Bool) (k a b : ℕ) (ts : List Spoke) → filter (is_upward directed (pair_number k a b)) (second_steps k a ts) ≡ map (scaled 1 (a * k)) (filter (is_upward directed b) ts)
seconds_up directed k a b ts =
    ap (filter (is_upward directed (pair_number k a b))) (map_as (λ (t : Spoke). record { to = pair_number k a t.to; len = t.len }) (scaled 1 (a * k)) ts
    (λ t. let same : pair_number k a t.to ≡ t.to * 1 + a * k = omega arith in ap (λ n. record { to = n; len = t.len }) same))
    ∙ (filter-mapped (is_upward directed (pair_number k a b)) (scaled 1 (a * k)) ts
    ∙ ap (map (scaled 1 (a * k))) (filter_as (λ t. is_upward directed (pair_number k a b) (scaled 1 (a * k) t)) (is_upward directed b) (λ t. Unit {0}) ts (λ i d low. tt) (λ t x. second_up directed k a b t)))

-- ---- by two steps
double_up : (directed : Bool) (k a b : ℕ) (s : Spoke) (ts : List Spoke) → b < k → All (IsWithin k) ts → filter (is_upward directed (pair_number k a b)) (double_steps k s ts) ≡ cond (is_upward directed a s) (double_steps k s (inner directed a ts (filter (is_upward directed b) ts) s)) []
double_up true k a b s ts h within = filter-mapped (λ t. true) (double k s) ts ∙ ap (map (double k s)) (filter_all ts)
double_up false k a b s ts h within =
    let up : Spoke → Bool = is_upward false (pair_number k a b) in
    let mapped = filter-mapped up (double k s) ts in
    elim (cases_lt a s.to) [
      | inl high ↦
          let row = next_row a s.to k high in
          let all = filter_as (λ t. up (double k s t)) (λ t. true) (IsWithin k) ts within (λ t low. le-leb (a * k + b) (s.to * k + t.to) (omega (arith, row))) in
          rw (le-leb a s.to (omega arith), lt-ltb a s.to high) (mapped ∙ ap (map (double k s)) (all ∙ filter_all ts))
      | inr past ↦ elim (cases_lt s.to a) [
        | inl low ↦
            let row = next_row s.to a k low in
            let none = filter_as (λ t. up (double k s t)) (λ t. false) (IsWithin k) ts within (λ t below. lt-leb (a * k + b) (s.to * k + t.to) (omega (arith, row, below))) in
            rw (lt-leb a s.to low) (mapped ∙ ap (map (double k s)) (none ∙ filter_none ts))
        | inr more ↦
            let at : s.to ≡ a = omega arith in
            let row : s.to * k ≡ a * k = ap (λ n. n * k) at in
            let some = filter_as (λ t. up (double k s t)) (is_upward false b) (IsWithin k) ts within
            (λ t below. elim (cases_lt t.to b) [
              | inl less ↦ lt-leb (a * k + b) (s.to * k + t.to) (omega (arith, row)) ∙ sym (lt-leb b t.to less)
              | inr least ↦ le-leb (a * k + b) (s.to * k + t.to) (omega (arith, row)) ∙ sym (le-leb b t.to (omega arith))
            ]) in
            rw (le-leb a s.to (omega arith), le-ltb a s.to (omega arith)) (mapped ∙ ap (map (double k s)) some)
      ]
    ]

doubles_all : (directed : Bool) (k a b : ℕ) (ss ts : List Spoke) → b < k → All (IsWithin k) ts → filter (is_upward directed (pair_number k a b)) (both_steps k ss ts) ≡ doubles_over directed k a ts (filter (is_upward directed b) ts) (filter (is_upward directed a) ss)
doubles_all directed k a b ss ts h within =
    let up = is_upward directed (pair_number k a b) in
    let f : Spoke → List Spoke = λ s. double_steps k s (inner directed a ts (filter (is_upward directed b) ts) s) in
    filter-flat up (λ s. double_steps k s ts) ss
    ∙ (flat_as (λ s. filter up (double_steps k s ts)) (λ s. cond (is_upward directed a s) (f s) []) ss (λ s. double_up directed k a b s ts h within)
    ∙ sym (flat_map-filter f (is_upward directed a) ss))

-- where none of b leads upward, one of a that leads on to a itself inserts nothing
idle : (directed : Bool) (k a b : ℕ) (ts : List Spoke) (s : Spoke) → filter (is_upward directed b) ts ≡ [] → is_above a s ≡ false → double_steps k s (inner directed a ts (filter (is_upward directed b) ts) s) ≡ []
idle true k a b ts s none low = ap (map (double k s)) (sym (filter_all ts) ∙ none)
idle false k a b ts s none low = rw low (ap (map (double k s)) none)

busy : (directed : Bool) (k a b : ℕ) (ts : List Spoke) (s : Spoke) → filter (is_upward directed b) ts ≡ [] → double_steps k s (inner directed a ts (filter (is_upward directed b) ts) s) ≡ cond (is_above a s) (double_steps k s (inner directed a ts (filter (is_upward directed b) ts) s)) []
busy directed k a b ts s none =
    elim (cases_Bool (is_above a s)) [
      | inl high ↦ sym (ap (λ t. cond t (double_steps k s (inner directed a ts (filter (is_upward directed b) ts) s)) []) high)
      | inr low ↦ idle directed k a b ts s none low ∙ sym (ap (λ t. cond t (double_steps k s (inner directed a ts (filter (is_upward directed b) ts) s)) []) low)
    ]

outer_is : (directed : Bool) (k a b : ℕ) (ts from above upward : List Spoke) → above ≡ filter (is_above a) from → upward ≡ filter (is_upward directed b) ts → doubles_over directed k a ts (filter (is_upward directed b) ts) from ≡ doubles_over directed k a ts upward (outer from above upward)
outer_is directed k a b ts from above upward high is =
    let f : Spoke → List Spoke = λ s. double_steps k s (inner directed a ts (filter (is_upward directed b) ts) s) in
    let as_up = ap (λ us. doubles_over directed k a ts us (outer from above upward)) (sym is) in
    elim (cases_Bool (length upward == 0)) [
      | inl none ↦
          let empty : filter (is_upward directed b) ts ≡ [] = sym is ∙ nil_of upward none in
          flat_as f (λ s. cond (is_above a s) (f s) []) from (λ s. busy directed k a b ts s empty)
          ∙ (sym (flat_map-filter f (is_above a) from)
          ∙ (ap (flat_map f) (sym high)
          ∙ (ap (λ t. flat_map f (cond t above from)) (sym none) ∙ as_up)))
      | inr some ↦ ap (λ t. flat_map f (cond t above from)) (sym some) ∙ as_up
    ]

over_nothing : (directed : Bool) (k a : ℕ) (ss : List Spoke) → doubles_over directed k a [] [] ss ≡ []
over_nothing directed k a ss =
    flat_none (λ s. double_steps k s (inner directed a [] [] s)) ss
    (λ s. elim (directed || nat_lt a s.to) as (λ t. map (double k s) (cond t [] []) ≡ []) [
      | true ↦ refl
      | false ↦ refl
    ])

pub boths_up : (directed : Bool) (k a b : ℕ) (ss ts from above upward : List Spoke) → b < k → All (IsWithin k) ts → from ≡ filter (is_upward directed a) ss → above ≡ filter (is_above a) from → upward ≡ filter (is_upward directed b) ts → filter (is_upward directed (pair_number k a b)) (both_steps k ss ts) ≡ cond (length ts == 0) [] (doubles_over directed k a ts upward (outer from above upward))
boths_up directed k a b ss ts from above upward h within from_is above_is up_is =
    let all = doubles_all directed k a b ss ts h within in
    elim (cases_Bool (length ts == 0)) [
      | inl none ↦
          let empty = nil_of ts none in
          let nothing = ap (λ us. doubles_over directed k a us (filter (is_upward directed b) us) (filter (is_upward directed a) ss)) empty ∙ over_nothing directed k a (filter (is_upward directed a) ss) in
          all ∙ (nothing ∙ sym (ap (λ t. cond t [] (doubles_over directed k a ts upward (outer from above upward))) none))
      | inr some ↦
          all
          ∙ (ap (doubles_over directed k a ts (filter (is_upward directed b) ts)) (sym from_is)
          ∙ (outer_is directed k a b ts from above upward above_is up_is
          ∙ sym (ap (λ t. cond t [] (doubles_over directed k a ts upward (outer from above upward))) some)))
    ]
