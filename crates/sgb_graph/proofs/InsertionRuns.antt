-- Runs of insertions: what is left of one while a loop makes it.
--
-- A loop's invariant is `LeftFrom` over numbers or `LeftOf` over a slice, from the builder that it began with. The lemma's name says what a turn did: `some` made its insertions, `none` had none, `refused` was
-- refused them; `start` and `end` are those of the loop.
use Rattle.std.proofs.Common.{◌≡◌, ◌<◌, ◌≤◌, ◌+◌, ◌-◌, ℕ, suc, List, [], ◌∷◌, ◌++◌, length, get_or, drop, map, Bool, cond, ◌⊎◌, inl, inr, refl, sym, ap, subst, ◌∙◌, arith}
use Rattle.std.specs.List.{flat_map, filter, range_with_len}
use Rattle.std.proofs.lemmas.Bool.{cases_Bool}
use Rattle.std.proofs.lemmas.List.{at_drop_more, at_drop_all}
use Rattle.std.proofs.lemmas.List.Concat.{flat_map_single}
use Rattle.sgb_graph.specs.declared.builder.Builder.{Builder}
use Rattle.sgb_graph.specs.declared.refusal.Refusal.{Refusal}
use Rattle.sgb_graph.specs.declared.refusal.Refusal.TheVariants.{NoRoom, TooLarge}
use Rattle.sgb_graph.specs.Graph.{n_of, made_of}
use Rattle.sgb_graph.specs.Builder.{Insertion, grown, IsTooMany}
use Rattle.sgb_graph.proofs.Insertions.{grown-nil, grown-append, n-grown, too_many-append}

-- what `Inserts` says of an `Err`
abbrev pub RefusesInsertions : Builder → List Insertion → Refusal → Type 0
RefusesInsertions b es e = (e ≡ NoRoom) ⊎ ((e ≡ TooLarge) × IsTooMany b es)

-- ---- a run over a list
-- `a` was to make all of these insertions; `b` has made some of them, and the rest are left
pub record Left (a : Builder) (all : List Insertion) (b : Builder) (rest : List Insertion) : Type 0 where
  pub same : grown b rest ≡ grown a all

pub left_start : (a : Builder) (all : List Insertion) → Left a all a all
left_start a all = record { same = refl }

pub left_some : {a b c : Builder} {all : List Insertion} (es rest : List Insertion) → Left a all b (es ++ rest) → c ≡ grown b es → Left a all c rest
left_some {a} {b} {c} {all} es rest left made =
    record { same = ap (λ d. grown d rest) made ∙ (sym (grown-append b es rest) ∙ left.same) }

pub left_refused : {a b : Builder} {all : List Insertion} (es rest : List Insertion) {e : Refusal} → Left a all b (es ++ rest) → RefusesInsertions b es e → RefusesInsertions a all e
left_refused es rest left (inl room) = inl room
left_refused {a} {b} {all} es rest left (inr large) =
    inr (large.0, subst (λ (f : Builder). 1000000 < made_of f.graph) left.same (too_many-append b es rest large.1))

pub left_end : {a b : Builder} {all : List Insertion} → Left a all b [] → b ≡ grown a all
left_end {a} {b} {all} left = sym (grown-nil b) ∙ left.same

-- the vertices stay as many
pub left_n : {a b : Builder} {all rest : List Insertion} → Left a all b rest → n_of b.graph ≡ n_of a.graph
left_n {a} {b} {all} {rest} left = sym (n-grown b rest) ∙ (ap (λ (d : Builder). n_of d.graph) left.same ∙ n-grown a all)

-- the same insertions, written otherwise
pub left_as : {a b : Builder} {all rest fs : List Insertion} → Left a all b rest → rest ≡ fs → Left a all b fs
left_as {a} {b} {all} left same = subst (Left a all b) same left

-- ---- a run over the numbers below n, each with insertions of its own
-- those of the numbers from i on
abbrev pub from_to : (ℕ → List Insertion) → ℕ → ℕ → List Insertion
from_to f i n = flat_map f (range_with_len i (n - i))

pub record LeftFrom (a : Builder) (all : List Insertion) (b : Builder) (f : ℕ → List Insertion) (i n : ℕ) : Type 0 where
  pub left : Left a all b (from_to f i n)

from_to-cons : (f : ℕ → List Insertion) (i n : ℕ) → i < n → from_to f i n ≡ f i ++ from_to f (i + 1) n
from_to-cons f i n h =
    let more : n - i ≡ suc (n - (i + 1)) = omega arith in
    ap (λ k. flat_map f (range_with_len i k)) more

from_to-nil : (f : ℕ → List Insertion) (i n : ℕ) → n ≤ i → from_to f i n ≡ []
from_to-nil f i n h =
    let none : n - i ≡ 0 = omega arith in
    ap (λ k. flat_map f (range_with_len i k)) none

-- the run begins at 0, or at a number of its own
pub from_start : (a : Builder) (f : ℕ → List Insertion) (n : ℕ) → LeftFrom a (flat_map f (range_with_len 0 n)) a f 0 n
from_start a f n =
    let all : n - 0 ≡ n = omega arith in
    record { left = record { same = ap (λ k. grown a (flat_map f (range_with_len 0 k))) all } }

pub from_start_at : (a : Builder) (f : ℕ → List Insertion) (i n : ℕ) → LeftFrom a (from_to f i n) a f i n
from_start_at a f i n = record { left = left_start a (from_to f i n) }

pub from_some : {a b c : Builder} {all : List Insertion} {f : ℕ → List Insertion} {i n : ℕ} → i < n → LeftFrom a all b f i n → c ≡ grown b (f i) → LeftFrom a all c f (i + 1) n
from_some {f = f} {i = i} {n = n} h left made =
    record { left = left_some (f i) (from_to f (i + 1) n) (left_as left.left (from_to-cons f i n h)) made }

pub from_none : {a b : Builder} {all : List Insertion} {f : ℕ → List Insertion} {i n : ℕ} → i < n → LeftFrom a all b f i n → f i ≡ [] → LeftFrom a all b f (i + 1) n
from_none {f = f} {i = i} {n = n} h left none =
    record { left = left_as left.left (from_to-cons f i n h ∙ ap (λ es. es ++ from_to f (i + 1) n) none) }

pub from_refused : {a b : Builder} {all : List Insertion} {f : ℕ → List Insertion} {i n : ℕ} {e : Refusal} → i < n → LeftFrom a all b f i n → RefusesInsertions b (f i) e → RefusesInsertions a all e
from_refused {f = f} {i = i} {n = n} h left refused =
    left_refused (f i) (from_to f (i + 1) n) (left_as left.left (from_to-cons f i n h)) refused

pub from_end : {a b : Builder} {all : List Insertion} {f : ℕ → List Insertion} {i n : ℕ} → n ≤ i → LeftFrom a all b f i n → b ≡ grown a all
from_end {f = f} {i = i} {n = n} h left = left_end (left_as left.left (from_to-nil f i n h))

pub from_n : {a b : Builder} {all : List Insertion} {f : ℕ → List Insertion} {i n : ℕ} → LeftFrom a all b f i n → n_of b.graph ≡ n_of a.graph
from_n left = left_n left.left

-- ---- a run over the elements of a list by their places, as a loop over a slice makes it
pub record LeftOf {X : Type 0} (a : Builder) (all : List Insertion) (b : Builder) (f : X → List Insertion) (xs : List X) (i : ℕ) : Type 0 where
  pub left : Left a all b (flat_map f (drop i xs))

of-cons : {X : Type 0} (f : X → List Insertion) (xs : List X) (i : ℕ) (x : X) → i < length xs → x ≡ get_or xs i x → flat_map f (drop i xs) ≡ f x ++ flat_map f (drop (i + 1) xs)
of-cons f xs i x h is = at_drop_more (flat_map f) xs i x h ∙ ap (λ y. f y ++ flat_map f (drop (i + 1) xs)) (sym is)

-- with one insertion for each element
pub of_start_map : {X : Type 0} (a : Builder) (f : X → Insertion) (xs : List X) → LeftOf a (map f xs) a (λ x. f x ∷ []) xs 0
of_start_map a f xs = record { left = record { same = ap (grown a) (flat_map_single f xs) } }

pub of_some : {X : Type 0} {a b c : Builder} {all : List Insertion} {f : X → List Insertion} {xs : List X} {i : ℕ} {x : X} → i < length xs → x ≡ get_or xs i x → LeftOf a all b f xs i → c ≡ grown b (f x) → LeftOf a all c f xs (i + 1)
of_some {f = f} {xs = xs} {i = i} {x = x} h is left made =
    record { left = left_some (f x) (flat_map f (drop (i + 1) xs)) (left_as left.left (of-cons f xs i x h is)) made }

pub of_refused : {X : Type 0} {a b : Builder} {all : List Insertion} {f : X → List Insertion} {xs : List X} {i : ℕ} {x : X} {e : Refusal} → i < length xs → x ≡ get_or xs i x → LeftOf a all b f xs i → RefusesInsertions b (f x) e → RefusesInsertions a all e
of_refused {f = f} {xs = xs} {i = i} {x = x} h is left refused =
    left_refused (f x) (flat_map f (drop (i + 1) xs)) (left_as left.left (of-cons f xs i x h is)) refused

pub of_end : {X : Type 0} {a b : Builder} {all : List Insertion} {f : X → List Insertion} {xs : List X} {i : ℕ} → length xs ≤ i → LeftOf a all b f xs i → b ≡ grown a all
of_end {f = f} {xs = xs} {i = i} h left = left_end (left_as left.left (at_drop_all (flat_map f) xs i h))

pub of_n : {X : Type 0} {a b : Builder} {all : List Insertion} {f : X → List Insertion} {xs : List X} {i : ℕ} → LeftOf a all b f xs i → n_of b.graph ≡ n_of a.graph
of_n left = left_n left.left

-- ---- runs that pass over some elements
pub flat_map-filter : {X A : Type 0} (f : X → List A) (p : X → Bool) (xs : List X) → flat_map f (filter p xs) ≡ flat_map (λ x. cond (p x) (f x) []) xs
flat_map-filter f p [] = refl
flat_map-filter f p (x ∷ xs) =
    elim (cases_Bool (p x)) [
      | inl passes ↦ rw passes (ap (λ es. f x ++ es) (flat_map-filter f p xs))
      | inr fails ↦ rw fails (flat_map-filter f p xs)
    ]

pub map-filter : {X A : Type 0} (f : X → A) (p : X → Bool) (xs : List X) → map f (filter p xs) ≡ flat_map (λ x. cond (p x) (f x ∷ []) []) xs
map-filter f p xs = sym (flat_map_single f (filter p xs)) ∙ flat_map-filter (λ x. f x ∷ []) p xs
