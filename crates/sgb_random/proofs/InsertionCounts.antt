-- Lemmas on how many insertions there are.
use Rattle.std.proofs.Common.{◌≡◌, ◌≤◌, ◌<◌, ◌+◌, ◌*◌, ◌==◌, ◌&&◌, ℕ, zero, suc, ℤ, pos, List, [], ◌∷◌, ◌++◌, length, map, Bool, true, false, not, nat_lt, int_le, int_lt, None, Result, Ok, Err, IfErr, OnOk, inl, inr, refl, sym, ap, ap₂, subst, ◌∙◌, arith}
use Rattle.std.specs.List.{list_any}
use Rattle.std.proofs.lemmas.Bool.{cases_Bool, le-ltb, or_from, ltb-true}
use Rattle.std.proofs.lemmas.List.{length_push}
use Rattle.std.proofs.lemmas.List.FromFn.{length-map-range_with_len}
use Rattle.sgb_flip.specs.Generator.{Generator, uniform}
use Rattle.sgb_graph.specs.Graph.{made_of}
use Rattle.sgb_graph.specs.declared.builder.Builder.{Builder}
use Rattle.sgb_graph.specs.declared.refusal.Refusal.{Refusal}
use Rattle.sgb_graph.specs.declared.refusal.Refusal.TheVariants.{NoRoom}
use Rattle.sgb_graph.specs.Builder.{Insertion, insertion, grown, Inserts}
use Rattle.sgb_graph.specs.New.{bare_graph}
use Rattle.sgb_graph.proofs.Insertions as growing
use Rattle.sgb_graph.proofs.InsertionRuns.{RefusesInsertions}
use Rattle.sgb_plan.specs.declared.part.Seed.{Seed}
use Rattle.sgb_plan.specs.Length.{drawn_length}
use Rattle.sgb_plan.specs.Plan.{Plan, graph_of_plan, is_too_large, vertex_of}
use Rattle.sgb_random.specs.declared.spec.RandomSpec.{RandomSpec}
use Rattle.sgb_random.specs.Random.{Course, attempted, attempts, course, joins, lowered, numbered, numbers_each, random_plan, refusal_of_random, tried, with_length, size_of, wanted}
use Rattle.sgb_random.specs.Private.Progress.{IsBare, IsReady}
use Rattle.sgb_random.proofs.AttemptOutcomes.{insertions-with_length, tried_barred, tried_again, tried_new, tried_shorter, tried_skipped}
use Rattle.sgb_random.proofs.VertexPairs.{lowered_at, same_count}
use Rattle.sgb_random.proofs.Refusals.{judged, wanted_few}

-- ---- each insertion counts as made
pub record IsFew (m : ℕ) (c : Course) : Type 0 where
  pub inserted : length c.insertions ≤ c.made
  pub counted : c.made ≤ m

made-with_length : (low high : ℤ) (c : Course) (es : ℤ → List Insertion) → (with_length low high c es).made ≡ c.made + 1
unfolding with_length
made-with_length low high c es = refl

few_drawn : (m : ℕ) (low high : ℤ) (c : Course) (es : ℤ → List Insertion) → c.made < m → ((len : ℤ) → length (es len) ≤ c.made + 1) → IsFew m (with_length low high c es)
few_drawn m low high c es less few =
    let made = made-with_length low high c es in
    let count : length (with_length low high c es).insertions ≡ length (es (drawn_length low high c.rest).len) = ap length (insertions-with_length low high c es) in
    record {
      inserted = omega (arith, count, few (drawn_length low high c.rest).len, made);
      counted = omega (arith, less, made);
    }

length-lowered : (d : Bool) (u v : ℕ) (len : ℤ) (es : List Insertion) → length (lowered d u v len es) ≡ length es
length-lowered d u v len es = ap length (lowered_at d u v len es) ∙ same_count es _ len

few_more : (s : RandomSpec) (m u v : ℕ) (c : Course) → c.made < m → length c.insertions ≤ c.made → IsFew m (with_length s.min s.max c (λ len. c.insertions ++ insertion u v len ∷ []))
few_more s m u v c less few =
    few_drawn m s.min s.max c (λ len. c.insertions ++ insertion u v len ∷ []) less (λ len. omega (arith, few, length_push c.insertions (insertion u v len)))

few_tried : (s : RandomSpec) (m u v : ℕ) (c : Course) → c.made < m → length c.insertions ≤ c.made → IsFew m (tried s u v c)
few_tried s m u v c less few =
    let same : IsFew m c = record { inserted = few; counted = omega (arith, less) } in
    elim (cases_Bool ((u == v) && not s.loops)) [
      | inl barred ↦ subst (IsFew m) (sym (tried_barred s u v c barred)) same
      | inr free ↦ elim (cases_Bool (int_le s.multi (pos 0))) [
        | inr again ↦ subst (IsFew m) (sym (tried_again s u v c free again)) (few_more s m u v c less few)
        | inl once ↦ elim (cases_Bool (list_any (joins s.directed u v) c.insertions)) [
          | inr new_pair ↦ subst (IsFew m) (sym (tried_new s u v c free once new_pair)) (few_more s m u v c less few)
          | inl old_pair ↦ elim (cases_Bool (int_lt s.multi (pos 0))) [
            | inl shorter ↦ subst (IsFew m) (sym (tried_shorter s u v c free once old_pair shorter))
                (few_drawn m s.min s.max c (λ len. lowered s.directed u v len c.insertions) less
                (λ len. omega (arith, few, length-lowered s.directed u v len c.insertions)))
            | inr skipped ↦ subst (IsFew m) (sym (tried_skipped s u v c free once old_pair skipped)) same
          ]
        ]
      ]
    ]

few_attempted : (s : RandomSpec) (m : ℕ) (c : Course) → c.made < m → length c.insertions ≤ c.made → IsFew m (attempted s c)
unfolding attempted
few_attempted s m c less few =
    let u = uniform c.rest (size_of s) in
    let v = uniform u.rest (size_of s) in
    few_tried s m u.value v.value (record { insertions = c.insertions; made = c.made; draws = c.draws + (u.draws + v.draws); rest = v.rest }) less few

pub few_attempts : (s : RandomSpec) (w : Generator) (k : ℕ) → IsFew (wanted s) (attempts s w k)
unfolding attempts
few_attempts s w zero = record { inserted = omega arith; counted = omega arith }
few_attempts s w (suc k) =
    let before = few_attempts s w k in
    elim (cases_Bool (nat_lt (attempts s w k).made (wanted s))) [
      | inl less ↦ rw less (few_attempted s (wanted s) (attempts s w k) (ltb-true (attempts s w k).made (wanted s) less) before.inserted)
      | inr enough ↦ rw enough before
    ]

pub few_course : (s : RandomSpec) (w : Generator) → IsFew (wanted s) (course s w)
unfolding course
few_course s w = few_attempts s w 10000000

-- ---- the limits
numbers_fit : (d : Bool) (k m : ℕ) → k ≤ m → m * numbers_each d ≤ 1000000 → k * growing.numbers_each d ≤ 1000000
numbers_fit true k m le few = omega (arith, le, few)
numbers_fit false k m le few = omega (arith, le, few)

same_numbers : (d : Bool) → growing.numbers_each d ≡ numbers_each d
same_numbers true = refl
same_numbers false = refl

-- one insertion more is within the limits
one_more : (d : Bool) (k m : ℕ) → k < m → m * numbers_each d ≤ 1000000 → k * growing.numbers_each d + numbers_each d ≤ 1000000
one_more true k m less few = omega (arith, less, few)
one_more false k m less few = omega (arith, less, few)

pub ready : (s : RandomSpec) (a : Builder) (es : List Insertion) (made : ℕ) → refusal_of_random s ≡ None → IsBare s a → length es ≤ made → made < wanted s → IsReady s (grown a es) made
ready s a es made none bare few less =
    let j = judged s none in
    let count : made_of (grown a es).graph ≡ made_of a.graph + length es * growing.numbers_each s.directed =
    growing.made-grown a es ∙ ap (λ d. made_of a.graph + length es * growing.numbers_each d) bare.directed in
    record {
      vertices = growing.n-grown a es ∙ bare.vertices;
      directed = growing.grown-directed a es ∙ bare.directed;
      few_numbers = omega (arith, count, bare.no_numbers, one_more s.directed (length es) (wanted s) (omega (arith, few, less)) j.few_numbers);
      few_made = omega (arith, less, wanted_few s j);
    }

-- so that one insertion is not refused
pub room_only : {T : Type 0} {s : RandomSpec} {a b : Builder} (c : Builder) (e : Insertion) {made : ℕ} (r : Result T Refusal) → IsReady s a made → b ≡ a → Inserts b c (e ∷ []) r → IfErr r (λ x. x ≡ NoRoom)
room_only c e (Ok x) is same done = tt
room_only c e (Err x) is same (inl room) = room
room_only {s = s} {a = a} {b = b} c e (Err x) is same (inr large) =
    let count : made_of (grown b (e ∷ [])).graph ≡ made_of a.graph + 1 * growing.numbers_each s.directed =
    ap (λ d. made_of (grown d (e ∷ [])).graph) same
    ∙ (growing.made-grown a (e ∷ []) ∙ ap (λ d. made_of a.graph + 1 * growing.numbers_each d) is.directed) in
    absurd (omega (arith, count, large.1, is.few_numbers, same_numbers s.directed))

pub inserts_ok : {T : Type 0} (b c : Builder) (es : List Insertion) (r : Result T Refusal) → Inserts b c es r → OnOk r (c ≡ grown b es)
inserts_ok b c es (Ok x) done = done
inserts_ok b c es (Err x) done = tt

made-plan : (p : Plan) → made_of (graph_of_plan p) ≡ length p.insertions * growing.numbers_each p.directed
unfolding graph_of_plan
made-plan p =
    let none : 0 + length p.insertions * growing.numbers_each p.directed ≡ length p.insertions * growing.numbers_each p.directed = omega arith in
    growing.made-with_all p.directed (bare_graph p.id p.types (map vertex_of p.vertices)) p.insertions ∙ none

pub plan_fits : (s : RandomSpec) (seed : Seed) (w : Generator) → refusal_of_random s ≡ None → is_too_large (random_plan s seed (course s w).insertions) ≡ false
plan_fits s seed w none =
    let p : Plan = random_plan s seed (course s w).insertions in
    let j = judged s none in
    let c = few_course s w in
    let n : length p.vertices ≤ 65535 = omega (arith, j.few, length-map-range_with_len numbered 0 (size_of s)) in
    let few : made_of (graph_of_plan p) ≤ 1000000 =
    omega (arith, made-plan p, numbers_fit s.directed (length (course s w).insertions) (wanted s) (omega (arith, c.inserted, c.counted)) j.few_numbers) in
    or_from (nat_lt 65535 (length p.vertices)) (nat_lt 1000000 (made_of (graph_of_plan p)))
    (le-ltb 65535 (length p.vertices) n) (le-ltb 1000000 (made_of (graph_of_plan p)) few)

-- the insertions of the whole course are not refused
pub course_room : (s : RandomSpec) (w : Generator) {a b : Builder} {es : List Insertion} {e : Refusal} → refusal_of_random s ≡ None → IsBare s a → b ≡ a → es ≡ (course s w).insertions → RefusesInsertions b es e → e ≡ NoRoom
course_room s w none bare same is (inl room) = room
course_room s w {a} {b} {es} none bare same is (inr large) =
    let c = few_course s w in
    let count : made_of (grown b es).graph ≡ made_of a.graph + length (course s w).insertions * growing.numbers_each s.directed =
    ap₂ (λ d fs. made_of (grown d fs).graph) same is
    ∙ (growing.made-grown a (course s w).insertions ∙ ap (λ d. made_of a.graph + length (course s w).insertions * growing.numbers_each d) bare.directed) in
    absurd (omega (
      arith,
      count,
      large.1,
      bare.no_numbers,
      numbers_fit s.directed (length (course s w).insertions) (wanted s) (omega (arith, c.inserted, c.counted)) (judged s none).few_numbers,
    ))
