-- Lemmas on pairs that are joined once only.
use Rattle.std.proofs.Common.{◌≡◌, ◌<◌, ◌+◌, ◌==◌, ◌&&◌, ℕ, zero, suc, ℤ, pos, List, [], ◌∷◌, ◌++◌, length, get_or, Bool, true, false, not, nat_lt, int_le, int_lt, inl, inr, refl, sym, subst, ◌∙◌, arith}
use Rattle.std.specs.List.{list_any, position_or_len}
use Rattle.std.proofs.lemmas.Bool.{cases_Bool}
use Rattle.std.proofs.lemmas.List.Folds.{list_any_at}
use Rattle.std.proofs.lemmas.List.Quantifiers.{all_pairs_push}
use Rattle.sgb_flip.specs.Generator.{Generator, uniform}
use Rattle.sgb_graph.specs.Builder.{Insertion, insertion}
use Rattle.sgb_plan.specs.Length.{drawn_length}
use Rattle.sgb_random.specs.declared.spec.RandomSpec.{RandomSpec}
use Rattle.sgb_random.specs.Random.{Course, JoinsOnce, attempted, attempts, course, joins, lowered, tried, with_length, size_of, wanted}
use Rattle.sgb_random.specs.Private.Progress.{with_len_at}
use Rattle.sgb_random.proofs.AttemptOutcomes.{insertions-with_length, tried_barred, tried_new, tried_shorter, tried_skipped}
use Rattle.sgb_random.proofs.VertexPairs.{lowered_at, same_count}

-- ---- a new pair
absent_at : {X : Type 0} (p : X → Bool) (xs : List X) (i : ℕ) (d : X) → i < length xs → list_any p xs ≡ false → p (get_or xs i d) ≡ false
absent_at p xs i d below none =
    elim (cases_Bool (p (get_or xs i d))) [
      | inl passes ↦ absurd (let wrong : true ≡ false = sym (list_any_at p xs i d below passes) ∙ none in cc)
      | inr fails ↦ fails
    ]

once_more : (d : Bool) (u v : ℕ) (len : ℤ) (es : List Insertion) → JoinsOnce d es → list_any (joins d u v) es ≡ false → JoinsOnce d (es ++ insertion u v len ∷ [])
once_more d u v len es once none =
    all_pairs_push (λ e f. joins d f.from f.to e ≡ false) es (insertion u v len) once
    (λ k x below. absent_at (joins d u v) es k x below none)

-- ---- a length that is lowered
same_froms : (es : List Insertion) (place : ℕ) (len : ℤ) (i : ℕ) (x : Insertion) → (get_or (with_len_at es place len) i x).from ≡ (get_or es i x).from
unfolding with_len_at
same_froms [] place len i x = refl
same_froms (e ∷ es) zero len zero x = refl
same_froms (e ∷ es) zero len (suc i) x = refl
same_froms (e ∷ es) (suc place) len zero x = refl
same_froms (e ∷ es) (suc place) len (suc i) x = same_froms es place len i x

same_tos : (es : List Insertion) (place : ℕ) (len : ℤ) (i : ℕ) (x : Insertion) → (get_or (with_len_at es place len) i x).to ≡ (get_or es i x).to
unfolding with_len_at
same_tos [] place len i x = refl
same_tos (e ∷ es) zero len zero x = refl
same_tos (e ∷ es) zero len (suc i) x = refl
same_tos (e ∷ es) (suc place) len zero x = refl
same_tos (e ∷ es) (suc place) len (suc i) x = same_tos es place len i x

joins_same : (d : Bool) (e f a b : Insertion) → e.from ≡ a.from → e.to ≡ a.to → f.from ≡ b.from → f.to ≡ b.to → joins d f.from f.to e ≡ joins d b.from b.to a
joins_same d e f a b ef et ff ft = rw (ef, et, ff, ft) refl

once_lowered : (d : Bool) (u v : ℕ) (len : ℤ) (es : List Insertion) → JoinsOnce d es → JoinsOnce d (lowered d u v len es)
once_lowered d u v len es once =
    let place = position_or_len (joins d u v) es in
    subst (JoinsOnce d) (sym (lowered_at d u v len es))
    (λ i j x less below.
    joins_same d (get_or (with_len_at es place len) i x) (get_or (with_len_at es place len) j x) (get_or es i x) (get_or es j x)
    (same_froms es place len i x) (same_tos es place len i x) (same_froms es place len j x) (same_tos es place len j x)
    ∙ once i j x less (omega (arith, below, same_count es place len)))

-- ---- the course
once_drawn : (d : Bool) (low high : ℤ) (c : Course) (es : ℤ → List Insertion) → ((len : ℤ) → JoinsOnce d (es len)) → JoinsOnce d (with_length low high c es).insertions
once_drawn d low high c es each =
    subst (JoinsOnce d) (sym (insertions-with_length low high c es)) (each (drawn_length low high c.rest).len)

once_tried : (s : RandomSpec) (u v : ℕ) (c : Course) → int_le s.multi (pos 0) ≡ true → JoinsOnce s.directed c.insertions → JoinsOnce s.directed (tried s u v c).insertions
once_tried s u v c most once =
    elim (cases_Bool ((u == v) && not s.loops)) [
      | inl barred ↦ subst (λ (x : Course). JoinsOnce s.directed x.insertions) (sym (tried_barred s u v c barred)) once
      | inr free ↦ elim (cases_Bool (list_any (joins s.directed u v) c.insertions)) [
        | inr new_pair ↦ subst (λ (x : Course). JoinsOnce s.directed x.insertions) (sym (tried_new s u v c free most new_pair))
            (once_drawn s.directed s.min s.max c (λ len. c.insertions ++ insertion u v len ∷ []) (λ len. once_more s.directed u v len c.insertions once new_pair))
        | inl old_pair ↦ elim (cases_Bool (int_lt s.multi (pos 0))) [
          | inl shorter ↦ subst (λ (x : Course). JoinsOnce s.directed x.insertions) (sym (tried_shorter s u v c free most old_pair shorter))
              (once_drawn s.directed s.min s.max c (λ len. lowered s.directed u v len c.insertions) (λ len. once_lowered s.directed u v len c.insertions once))
          | inr skipped ↦ subst (λ (x : Course). JoinsOnce s.directed x.insertions) (sym (tried_skipped s u v c free most old_pair skipped)) once
        ]
      ]
    ]

once_attempted : (s : RandomSpec) (c : Course) → int_le s.multi (pos 0) ≡ true → JoinsOnce s.directed c.insertions → JoinsOnce s.directed (attempted s c).insertions
unfolding attempted
once_attempted s c most once =
    let u = uniform c.rest (size_of s) in
    let v = uniform u.rest (size_of s) in
    once_tried s u.value v.value (record { insertions = c.insertions; made = c.made; draws = c.draws + (u.draws + v.draws); rest = v.rest }) most once

once_attempts : (s : RandomSpec) (w : Generator) (k : ℕ) → int_le s.multi (pos 0) ≡ true → JoinsOnce s.directed (attempts s w k).insertions
unfolding attempts
once_attempts s w zero most = λ i j x less below. absurd (omega (arith, less, below))
once_attempts s w (suc k) most =
    elim (cases_Bool (nat_lt (attempts s w k).made (wanted s))) [
      | inl less ↦ rw less (once_attempted s (attempts s w k) most (once_attempts s w k most))
      | inr enough ↦ rw enough (once_attempts s w k most)
    ]

pub once_course : (s : RandomSpec) (w : Generator) → int_le s.multi (pos 0) ≡ true → JoinsOnce s.directed (course s w).insertions
unfolding course
once_course s w most = once_attempts s w 10000000 most
