-- Lemmas on the insertions of one run, and of two.
use Rattle.std.proofs.Common.{◌≡◌, ◌==◌, ◌+◌, ◌<◌, ◌≤◌, ℕ, zero, suc, List, [], ◌∷◌, ◌++◌, map, Bool, true, false, ◌||◌, All, inl, inr, refl, ap, ◌∙◌, arith}
use Rattle.std.specs.List.{filter, flat_map, list_any, range_with_len}
use Rattle.std.proofs.lemmas.Bool.{cases_Bool, cases_eq}
use Rattle.std.proofs.lemmas.List.Elements.{All-cons, All-head, All-map, All-nil, All-tail}
use Rattle.sgb_graph.specs.Builder.{Insertion, insertion}
use Rattle.sgb_plan.specs.Distinct.{Distinct}
use Rattle.sgb_plan.proofs.Distincts.{All-flat_map, Distinct-filter, Distinct-flat_map_range, Distinct-map, Distinct-range_with_len}
use Rattle.sgb_induced.specs.declared.image.Image.{Image}
use Rattle.sgb_induced.specs.declared.run.Run.{Run}
use Rattle.sgb_induced.specs.Induced.{is_wanted}
use Rattle.sgb_induced.specs.Private.Run.{between, expanded, from_one, image_at, numbers}

-- a number of an image
pub record In (i : Image) (x : ℕ) : Type 0 where
  pub from : i.start ≤ x
  pub below : x < i.start + i.count

-- what is known of an insertion of a run
pub record Made (loops d : Bool) (is : List Image) (r : Run) (e : Insertion) : Type 0 where
  pub from : In (image_at is r.from) e.from
  pub to : In (image_at is r.to) e.to
  pub wanted : is_wanted loops d (r.from == r.to) e.from e.to ≡ true
  pub len : e.len ≡ r.len

-- images of different leaders have no vertex in common
pub record Apart (is : List Image) (Lead : ℕ → Type 0) : Type 0 where
  pub same : (a b x : ℕ) → Lead a → Lead b → In (image_at is a) x → In (image_at is b) x → a ≡ b

all_in : (a n b : ℕ) (P : ℕ → Type 0) → ((x : ℕ) → a ≤ x → x < a + n → P x) → b ≡ n → All P (range_with_len a b)
all_in a n zero P holds same = All-nil P
all_in a zero (suc b) P holds same = absurd (omega (arith, same))
all_in a (suc n) (suc b) P holds same =
    All-cons P a (range_with_len (a + 1) b) (holds a (omega arith) (omega arith)) (all_in (a + 1) n b P (λ x low high. holds x (omega (arith, low)) (omega (arith, high))) (omega (arith, same)))

-- the numbers that pass have what all that pass have
all_passing : (p : ℕ → Bool) (P Q : ℕ → Type 0) (xs : List ℕ) → ((x : ℕ) → P x → p x ≡ true → Q x) → All P xs → All Q (filter p xs)
all_passing p P Q [] holds all = All-nil Q
all_passing p P Q (x ∷ xs) holds all =
    let rest = all_passing p P Q xs holds (All-tail P x xs all) in
    elim (cases_Bool (p x)) [
      | inl passes ↦ rw passes (All-cons Q x (filter p xs) (holds x (All-head P x xs all) passes) rest)
      | inr fails ↦ rw fails rest
    ]

all_more : (P Q : ℕ → Type 0) (xs : List ℕ) → ((x : ℕ) → P x → Q x) → All P xs → All Q xs
all_more P Q [] holds all = All-nil Q
all_more P Q (x ∷ xs) holds all = All-cons Q x xs (holds x (All-head P x xs all)) (all_more P Q xs holds (All-tail P x xs all))

in_numbers : (i : Image) → All (In i) (numbers i)
in_numbers i = all_in i.start i.count i.count (In i) (λ x low high. record { from = low; below = high }) refl

pub made_all : (loops d : Bool) (is : List Image) (r : Run) → All (Made loops d is r) (expanded loops d is r)
unfolding expanded between
made_all loops d is r =
    let i = image_at is r.from in
    let j = image_at is r.to in
    All-flat_map (Made loops d is r) (from_one loops d j r) (numbers i)
    (all_more (In i) (λ x. All (Made loops d is r) (from_one loops d j r x)) (numbers i)
    (λ x inside. All-map (Made loops d is r) (λ y. insertion x y r.len) (filter (is_wanted loops d (r.from == r.to) x) (numbers j))
    (all_passing (is_wanted loops d (r.from == r.to) x) (In j) (λ y. Made loops d is r (insertion x y r.len)) (numbers j) (λ y within passes. record { from = inside; to = within; wanted = passes; len = refl }) (in_numbers j)))
    (in_numbers i))

-- every insertion that is wanted is there
any_right : (p q : Bool) → q ≡ true → (p || q) ≡ true
any_right true q is = refl
any_right false q is = is

any_in_row : (g : Insertion → Bool) (h : ℕ → Insertion) (p : ℕ → Bool) (a n y : ℕ) → a ≤ y → y < a + n → p y ≡ true → g (h y) ≡ true → list_any g (map h (filter p (range_with_len a n))) ≡ true
any_in_row g h p a zero y low high passes met = absurd (omega (arith, low, high))
any_in_row g h p a (suc n) y low high passes met =
    elim (cases_eq a y) [
      | inl here ↦ (let now : p a ≡ true = ap p here ∙ passes in let first : g (h a) ≡ true = ap (λ k. g (h k)) here ∙ met in rw (now, first) refl)
      | inr there ↦ (let rest = any_in_row g h p (a + 1) n y (omega (arith, low, there)) (omega (arith, high)) passes met in
          elim (cases_Bool (p a)) [
            | inl now ↦ rw now (any_right (g (h a)) (list_any g (map h (filter p (range_with_len (a + 1) n)))) rest)
            | inr not_now ↦ rw not_now rest
          ])
    ]

any-append : (g : Insertion → Bool) (xs ys : List Insertion) → list_any g ys ≡ true → list_any g (xs ++ ys) ≡ true
any-append g [] ys is = is
any-append g (x ∷ xs) ys is = any_right (g x) (list_any g (xs ++ ys)) (any-append g xs ys is)

any-append_left : (g : Insertion → Bool) (xs ys : List Insertion) → list_any g xs ≡ true → list_any g (xs ++ ys) ≡ true
any-append_left g [] ys is = absurd (let wrong : false ≡ true = is in cc)
any-append_left g (x ∷ xs) ys is =
    elim (cases_Bool (g x)) [
      | inl now ↦ rw now refl
      | inr later ↦ (let rest : list_any g xs ≡ true = rw later at is in any_right (g x) (list_any g (xs ++ ys)) (any-append_left g xs ys rest))
    ]

any_in_rows : (g : Insertion → Bool) (f : ℕ → List Insertion) (a n x : ℕ) → a ≤ x → x < a + n → list_any g (f x) ≡ true → list_any g (flat_map f (range_with_len a n)) ≡ true
any_in_rows g f a zero x low high met = absurd (omega (arith, low, high))
any_in_rows g f a (suc n) x low high met =
    elim (cases_eq a x) [
      | inl here ↦ any-append_left g (f a) (flat_map f (range_with_len (a + 1) n)) (ap (λ k. list_any g (f k)) here ∙ met)
      | inr there ↦ any-append g (f a) (flat_map f (range_with_len (a + 1) n)) (any_in_rows g f (a + 1) n x (omega (arith, low, there)) (omega (arith, high)) met)
    ]

pub found : (loops d : Bool) (is : List Image) (r : Run) (g : Insertion → Bool) (x y : ℕ) → In (image_at is r.from) x → In (image_at is r.to) y → is_wanted loops d (r.from == r.to) x y ≡ true → g (insertion x y r.len) ≡ true → list_any g (expanded loops d is r) ≡ true
unfolding expanded between
found loops d is r g x y from to wanted met =
    any_in_rows g (from_one loops d (image_at is r.to) r) (image_at is r.from).start (image_at is r.from).count x from.from from.below
    (any_in_row g (λ k. insertion x k r.len) (is_wanted loops d (r.from == r.to) x) (image_at is r.to).start (image_at is r.to).count y to.from to.below wanted met)

-- no insertion is made twice
pub distinct_all : (loops d : Bool) (is : List Image) (r : Run) → Distinct (expanded loops d is r)
unfolding expanded between
distinct_all loops d is r =
    let i = image_at is r.from in
    let j = image_at is r.to in
    Distinct-flat_map_range (from_one loops d j r) (λ e. e.from) i.start i.count
    (λ x. All-map (λ (e : Insertion). e.from ≡ x) (λ y. insertion x y r.len) (filter (is_wanted loops d (r.from == r.to) x) (numbers j)) (λ k e h. refl))
    (λ x. Distinct-map (λ y. insertion x y r.len) (filter (is_wanted loops d (r.from == r.to) x) (numbers j)) (λ y z same. ap (λ (e : Insertion). e.to) same) (Distinct-filter (is_wanted loops d (r.from == r.to) x) (numbers j) (Distinct-range_with_len j.start j.count)))
