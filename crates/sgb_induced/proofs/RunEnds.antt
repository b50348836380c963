-- Lemmas on two runs: their insertions have the same ends exactly where the runs have.
use Rattle.std.proofs.Common.{◌≡◌, ◌==◌, ◌≤◌, ◌⊎◌, ℕ, ℤ, List, [], ◌∷◌, ◌++◌, map, min, max, fold, Bool, true, false, not, ◌&&◌, ◌||◌, nat_le, All, inl, inr, refl, sym, ap, ap₂, subst, ◌∙◌, arith}
use Rattle.std.specs.Int.{int_min}
use Rattle.std.specs.List.{filter, flat_map, list_any}
use Rattle.std.proofs.lemmas.Bool.{cases_Bool, cases_eq, eqb-true, eq-eqb, ne_eqb, leb-true}
use Rattle.std.proofs.lemmas.List.{append-nil, map-append}
use Rattle.std.proofs.lemmas.List.Elements.{All-cons, All-head, All-nil, All-tail}
use Rattle.std.proofs.lemmas.List.Sums.{fold-append}
use Rattle.sgb_graph.specs.Builder.{Insertion, insertion}
use Rattle.sgb_induced.specs.declared.image.Image.{Image}
use Rattle.sgb_induced.specs.declared.run.Run.{Run}
use Rattle.sgb_induced.specs.Induced.{is_wanted}
use Rattle.sgb_induced.specs.Least.{add_or_lower, least, same_ends}
use Rattle.sgb_induced.specs.Private.Run.{between, expanded, from_one, image_at, key_of, lowered_run, merge, merged, numbers, same_run}
use Rattle.sgb_induced.proofs.RunPairs.{Apart, In, Made, distinct_all, found, made_all}
use Rattle.sgb_induced.proofs.LeastLengths.{Joined, fold_fresh, fold_met, fold_past, joined_from, same_from, with_least}

-- the ends of a run are leaders
pub record Leads (Lead : ℕ → Type 0) (r : Run) : Type 0 where
  pub from : Lead r.from
  pub to : Lead r.to

-- two runs have the same ends
pub record SameRun (d : Bool) (r s : Run) : Type 0 where
  pub first : (key_of d r).0 ≡ (key_of d s).0
  pub last : (key_of d r).1 ≡ (key_of d s).1

run_from : (d : Bool) (r s : Run) → same_run d r s ≡ true → SameRun d r s
run_from d r s is =
    elim (cases_Bool ((key_of d r).0 == (key_of d s).0)) [
      | inl same ↦ (let rest : ((key_of d r).1 == (key_of d s).1) ≡ true = rw same at is in record { first = eqb-true (key_of d r).0 (key_of d s).0 same; last = eqb-true (key_of d r).1 (key_of d s).1 rest })
      | inr other ↦ absurd (let wrong : false ≡ true = rw other at is in cc)
    ]

run_same : (d : Bool) (r s : Run) → SameRun d r s → same_run d r s ≡ true
run_same d r s j = rw (eq-eqb (key_of d r).0 (key_of d s).0 j.first, eq-eqb (key_of d r).1 (key_of d s).1 j.last) refl

run_swap : (d : Bool) (r s : Run) → SameRun d r s → SameRun d s r
run_swap d r s j = record { first = sym j.first; last = sym j.last }

-- two pairs with the same smaller and the same larger number
pair_cases : (a b c e : ℕ) → min a b ≡ min c e → max a b ≡ max c e → ((a ≡ c) × (b ≡ e)) ⊎ ((a ≡ e) × (b ≡ c))
pair_cases a b c e low high =
    elim (cases_eq a c) [
      | inl same ↦ inl (same, omega (arith, same, low, high))
      | inr apart ↦ inr (omega (arith, apart, low, high), omega (arith, apart, low, high))
    ]

in_at : (is : List Image) (a b x : ℕ) → a ≡ b → In (image_at is a) x → In (image_at is b) x
in_at is a b x same inside = subst (λ k. In (image_at is k) x) same inside

in_as : (i : Image) (x y : ℕ) → x ≡ y → In i x → In i y
in_as i x y same inside = subst (In i) same inside

insertion_same : (e f : Insertion) → e.from ≡ f.from → e.to ≡ f.to → e.len ≡ f.len → e ≡ f
insertion_same e f from to len = ap₂ (λ a b. insertion a b e.len) from to ∙ ap (insertion f.from f.to) len

-- ---- among the insertions of one run the ends tell
second_of : (a b : Bool) → (a && b) ≡ true → b ≡ true
second_of true b is = is
second_of false b is = absurd (let wrong : false ≡ true = is in cc)

first_of : (a b : Bool) → (a && b) ≡ true → a ≡ true
first_of true b is = refl
first_of false b is = absurd (let wrong : false ≡ true = is in cc)

alone_le : (loops : Bool) (x y : ℕ) (alone : Bool) → alone ≡ true → is_wanted loops false alone x y ≡ true → x ≤ y
alone_le loops x y alone so wanted =
    let there : is_wanted loops false true x y ≡ true = ap (λ a. is_wanted loops false a x y) (sym so) ∙ wanted in
    leb-true x y (second_of (loops || not (x == y)) (nat_le x y) there)

pub tells : (loops d : Bool) (is : List Image) (Lead : ℕ → Type 0) (r : Run) → Apart is Lead → Leads Lead r → (e f : Insertion) → Made loops d is r e → Made loops d is r f → same_ends d e f ≡ true → e ≡ f
tells loops true is Lead r apart leads e f m k same =
    let j = joined_from true e f same in
    insertion_same e f j.first j.last (m.len ∙ sym k.len)
tells loops false is Lead r apart leads e f m k same =
    let j = joined_from false e f same in
    elim (pair_cases e.from e.to f.from f.to j.first j.last) [
      | inl direct ↦ insertion_same e f direct.0 direct.1 (m.len ∙ sym k.len)
      | inr swapped ↦ (elim (cases_eq r.from r.to) [
        | inl here ↦ (let alone : (r.from == r.to) ≡ true = eq-eqb r.from r.to here in
            let one = alone_le loops e.from e.to (r.from == r.to) alone m.wanted in
            let two = alone_le loops f.from f.to (r.from == r.to) alone k.wanted in
            let from : e.from ≡ f.from = omega (arith, one, two, swapped.0, swapped.1) in
            let to : e.to ≡ f.to = omega (arith, one, two, swapped.0, swapped.1) in
            insertion_same e f from to (m.len ∙ sym k.len))
        | inr there ↦ absurd (there (apart.same r.from r.to e.from leads.from leads.to m.from (in_as (image_at is r.to) f.to e.from (sym swapped.0) k.to)))
      ])
    ]

-- ---- insertions with the same ends are of runs with the same ends
runs_meet : (loops d : Bool) (is : List Image) (Lead : ℕ → Type 0) (r s : Run) → Apart is Lead → Leads Lead r → Leads Lead s → (x e : Insertion) → Made loops d is r x → Made loops d is s e → same_ends d x e ≡ true → SameRun d r s
runs_meet loops true is Lead r s apart lr ls x e m k same =
    let j = joined_from true x e same in
    record {
      first = apart.same r.from s.from x.from lr.from ls.from m.from (in_as (image_at is s.from) e.from x.from (sym j.first) k.from);
      last = apart.same r.to s.to x.to lr.to ls.to m.to (in_as (image_at is s.to) e.to x.to (sym j.last) k.to);
    }
runs_meet loops false is Lead r s apart lr ls x e m k same =
    let j = joined_from false x e same in
    elim (pair_cases x.from x.to e.from e.to j.first j.last) [
      | inl direct ↦ (let from = apart.same r.from s.from x.from lr.from ls.from m.from (in_as (image_at is s.from) e.from x.from (sym direct.0) k.from) in
          let to = apart.same r.to s.to x.to lr.to ls.to m.to (in_as (image_at is s.to) e.to x.to (sym direct.1) k.to) in
          record { first = ap₂ (λ a b. min a b) from to; last = ap₂ (λ a b. max a b) from to })
      | inr swapped ↦ (let from : r.from ≡ s.to = apart.same r.from s.to x.from lr.from ls.to m.from (in_as (image_at is s.to) e.to x.from (sym swapped.0) k.to) in
          let to : r.to ≡ s.from = apart.same r.to s.from x.to lr.to ls.from m.to (in_as (image_at is s.from) e.from x.to (sym swapped.1) k.from) in
          record { first = omega (arith, from, to); last = omega (arith, from, to) })
    ]

-- ---- and a run with the same ends makes an insertion with each pair of ends of the other
wanted_swap : (loops : Bool) (x y : ℕ) (alone b : Bool) → b ≡ false → is_wanted loops false alone x y ≡ true → is_wanted loops false b y x ≡ true
wanted_swap true x y alone b is wanted = ap (λ a. is_wanted true false a y x) is
wanted_swap false x y alone b is wanted =
    elim (cases_eq x y) [
      | inl same ↦ absurd (let no : not (x == y) ≡ true = first_of (not (x == y)) (not alone || nat_le x y) wanted in let wrong : false ≡ true = rw (eq-eqb x y same) at no in cc)
      | inr apart ↦ (let other : (y == x) ≡ false = ne_eqb y x (λ back. apart (sym back)) in ap (λ a. is_wanted false false a y x) is ∙ rw other refl)
    ]

direct : (loops d : Bool) (is : List Image) (r s : Run) (e : Insertion) (g : Insertion → Bool) → r.from ≡ s.from → r.to ≡ s.to → Made loops d is s e → ((h : Insertion) → Joined d h e → g h ≡ true) → list_any g (expanded loops d is r) ≡ true
direct loops d is r s e g from to m passes =
    found loops d is r g e.from e.to (in_at is s.from r.from e.from (sym from) m.from) (in_at is s.to r.to e.to (sym to) m.to)
    (ap₂ (λ a b. is_wanted loops d (a == b) e.from e.to) from to ∙ m.wanted)
    (passes (insertion e.from e.to r.len) (record { first = refl; last = refl }))

pub meets : (loops d : Bool) (is : List Image) (r s : Run) (e : Insertion) (g : Insertion → Bool) → SameRun d r s → Made loops d is s e → ((h : Insertion) → Joined d h e → g h ≡ true) → list_any g (expanded loops d is r) ≡ true
meets loops true is r s e g same m passes = direct loops true is r s e g same.first same.last m passes
meets loops false is r s e g same m passes =
    elim (pair_cases r.from r.to s.from s.to same.first same.last) [
      | inl straight ↦ direct loops false is r s e g straight.0 straight.1 m passes
      | inr swapped ↦ (elim (cases_eq s.from s.to) [
        | inl here ↦ direct loops false is r s e g (swapped.0 ∙ sym here) (swapped.1 ∙ here) m passes
        | inr there ↦ (let apart : (r.from == r.to) ≡ false = ne_eqb r.from r.to (λ back. there (sym swapped.1 ∙ (sym back ∙ swapped.0))) in
            found loops false is r g e.to e.from (in_at is s.to r.from e.to (sym swapped.0) m.to) (in_at is s.from r.to e.from (sym swapped.1) m.from)
            (wanted_swap loops e.from e.to (s.from == s.to) (r.from == r.to) apart m.wanted)
            (passes (insertion e.to e.from r.len) (record { first = omega arith; last = omega arith })))
      ])
    ]

-- ---- merging before expanding
all_more : {X : Type 0} (P Q : X → Type 0) (xs : List X) → ((x : X) → P x → Q x) → All P xs → All Q xs
all_more P Q [] holds all = All-nil Q
all_more P Q (x ∷ xs) holds all = All-cons Q x xs (holds x (All-head P x xs all)) (all_more P Q xs holds (All-tail P x xs all))

relen_row : (l : ℤ) (x : ℕ) (len : ℤ) (ys : List ℕ) → map (with_least l) (map (λ y. insertion x y len) ys) ≡ map (λ y. insertion x y (int_min len l)) ys
relen_row l x len [] = refl
relen_row l x len (y ∷ ys) = ap (λ zs. insertion x y (int_min len l) ∷ zs) (relen_row l x len ys)

relen_rows : (l : ℤ) (f h : ℕ → List Insertion) (xs : List ℕ) → ((x : ℕ) → map (with_least l) (f x) ≡ h x) → map (with_least l) (flat_map f xs) ≡ flat_map h xs
relen_rows l f h [] same = refl
relen_rows l f h (x ∷ xs) same = map-append (with_least l) (f x) (flat_map f xs) ∙ ap₂ (λ ys zs. ys ++ zs) (same x) (relen_rows l f h xs same)

relen : (loops d : Bool) (is : List Image) (r s : Run) → map (with_least s.len) (expanded loops d is r) ≡ expanded loops d is (lowered_run r s)
unfolding expanded between
relen loops d is r s =
    relen_rows s.len (from_one loops d (image_at is r.to) r) (from_one loops d (image_at is r.to) (lowered_run r s)) (numbers (image_at is r.from))
    (λ x. relen_row s.len x r.len (filter (is_wanted loops d (r.from == r.to) x) (numbers (image_at is r.to))))

step : (loops d : Bool) (is : List Image) (Lead : ℕ → Type 0) → Apart is Lead → (acc : List Run) (s : Run) → All (Leads Lead) acc → Leads Lead s → fold (add_or_lower d) (flat_map (expanded loops d is) acc) (expanded loops d is s) ≡ flat_map (expanded loops d is) (merge d acc s)
unfolding merge
step loops d is Lead apart [] s all lead =
    fold_fresh d (Made loops d is s) (expanded loops d is s) (tells loops d is Lead s apart lead) (made_all loops d is s) (distinct_all loops d is s) ∙ sym (append-nil (expanded loops d is s))
step loops d is Lead apart (r ∷ rs) s all lead =
    let first = All-head (Leads Lead) r rs all in
    elim (cases_Bool (same_run d r s)) [
      | inl same ↦ (let both = run_from d r s same in
          rw same (fold_met d (Made loops d is r) s.len (expanded loops d is r) (flat_map (expanded loops d is) rs) (expanded loops d is s) (tells loops d is Lead r apart first) (made_all loops d is r) (distinct_all loops d is r)
          (all_more (Made loops d is s) (λ m. m.len ≡ s.len) (expanded loops d is s) (λ m made. made.len) (made_all loops d is s))
          (all_more (Made loops d is s) (λ e. list_any (λ y. same_ends d y e) (expanded loops d is r) ≡ true) (expanded loops d is s) (λ e made. meets loops d is r s e (λ y. same_ends d y e) both made (λ h joined. same_from d h e joined)) (made_all loops d is s))
          (all_more (Made loops d is r) (λ x. list_any (same_ends d x) (expanded loops d is s) ≡ true) (expanded loops d is r) (λ x made. meets loops d is s r x (same_ends d x) (run_swap d r s both) made (λ h joined. same_from d x h (record { first = sym joined.first; last = sym joined.last }))) (made_all loops d is r))
          ∙ ap (λ zs. zs ++ flat_map (expanded loops d is) rs) (relen loops d is r s)))
      | inr other ↦ (let past : All (λ e. All (λ x. same_ends d x e ≡ false) (expanded loops d is r)) (expanded loops d is s) =
          all_more (Made loops d is s) (λ e. All (λ x. same_ends d x e ≡ false) (expanded loops d is r)) (expanded loops d is s)
          (λ e made. all_more (Made loops d is r) (λ x. same_ends d x e ≡ false) (expanded loops d is r)
          (λ x here. elim (cases_Bool (same_ends d x e)) [
            | inl met ↦ absurd (let wrong : false ≡ true = sym other ∙ run_same d r s (runs_meet loops d is Lead r s apart first lead x e here made met) in cc)
            | inr free ↦ free
          ]) (made_all loops d is r)) (made_all loops d is s) in
          rw other (fold_past d (expanded loops d is r) (flat_map (expanded loops d is) rs) (expanded loops d is s) past
          ∙ ap (λ zs. expanded loops d is r ++ zs) (step loops d is Lead apart rs s (All-tail (Leads Lead) r rs all) lead)))
    ]

merge_leads : (d : Bool) (Lead : ℕ → Type 0) (acc : List Run) (s : Run) → All (Leads Lead) acc → Leads Lead s → All (Leads Lead) (merge d acc s)
unfolding merge
merge_leads d Lead [] s all lead = All-cons (Leads Lead) s [] lead (All-nil (Leads Lead))
merge_leads d Lead (r ∷ rs) s all lead =
    let first = All-head (Leads Lead) r rs all in
    let rest = All-tail (Leads Lead) r rs all in
    elim (cases_Bool (same_run d r s)) [
      | inl same ↦ rw same (All-cons (Leads Lead) (lowered_run r s) rs (record { from = first.from; to = first.to }) rest)
      | inr other ↦ rw other (All-cons (Leads Lead) r (merge d rs s) first (merge_leads d Lead rs s rest lead))
    ]

law_from : (loops d : Bool) (is : List Image) (Lead : ℕ → Type 0) → Apart is Lead → (acc rs : List Run) → All (Leads Lead) acc → All (Leads Lead) rs → fold (add_or_lower d) (flat_map (expanded loops d is) acc) (flat_map (expanded loops d is) rs) ≡ flat_map (expanded loops d is) (fold (merge d) acc rs)
law_from loops d is Lead apart acc [] all leads = refl
law_from loops d is Lead apart acc (s ∷ ss) all leads =
    let lead = All-head (Leads Lead) s ss leads in
    fold-append (add_or_lower d) (flat_map (expanded loops d is) acc) (expanded loops d is s) (flat_map (expanded loops d is) ss)
    ∙ (ap (λ zs. fold (add_or_lower d) zs (flat_map (expanded loops d is) ss)) (step loops d is Lead apart acc s all lead)
    ∙ law_from loops d is Lead apart (merge d acc s) ss (merge_leads d Lead acc s all lead) (All-tail (Leads Lead) s ss leads))

-- the least of all insertions are those of the merged runs
pub least_of_runs : (loops d : Bool) (is : List Image) (Lead : ℕ → Type 0) (rs : List Run) → Apart is Lead → All (Leads Lead) rs → least d (flat_map (expanded loops d is) rs) ≡ flat_map (expanded loops d is) (merged d rs)
least_of_runs loops d is Lead rs apart leads = law_from loops d is Lead apart [] rs (All-nil (Leads Lead)) leads
