-- Lemmas on a run of attempts.
use Rattle.std.proofs.Common.{◌≡◌, ◌<◌, ◌≤◌, ◌+◌, ◌*◌, ◌==◌, ℕ, zero, suc, pos, [], length, map, true, false, nat_lt, int_le, int_lt, None, Some, Ok, Err, ◌⊎◌, inl, inr, refl, sym, ap, subst, ◌∙◌, arith}
use Rattle.std.proofs.lemmas.Bool.{cases_Bool, lt-ltb, le-ltb}
use Rattle.std.proofs.lemmas.Bool.Decides.{Decides-eqb, not_from_Decides}
use Rattle.std.proofs.lemmas.List.Elements.{All-nil}
use Rattle.sgb_flip.specs.Generator.{Generator, IsGenerator}
use Rattle.sgb_graph.specs.declared.builder.Builder.{Builder}
use Rattle.sgb_graph.specs.declared.refusal.Refusal.{Refusal}
use Rattle.sgb_graph.specs.declared.refusal.Refusal.TheVariants.{NoRoom, Stuck}
use Rattle.sgb_graph.specs.Graph.{GraphOf}
use Rattle.sgb_graph.proofs.Insertions.{grown-nil}
use Rattle.sgb_plan.specs.declared.part.Seed.{Seed}
use Rattle.sgb_plan.specs.Plan.{IsMade}
use Rattle.sgb_plan.proofs.Plans.{refused_before}
use Rattle.sgb_random.specs.declared.progress.Progress.{Progress}
use Rattle.sgb_random.specs.declared.spec.RandomSpec.{RandomSpec}
use Rattle.sgb_random.specs.Random.{Course, begun, attempted, attempts, course, plan_of_course, plan_of_random, random_plan, unless_refused, refusal_of_random, wanted, size_of}
use Rattle.sgb_random.specs.Private.Progress.{insertion_of, insertions_of, Follows, IsBare, IsFresh, IsIndexed, IsReady, IsWithin}
use Rattle.sgb_random.specs.Private.Table.{HasRoom, IsListed}
use Rattle.sgb_random.proofs.AttemptOutcomes.{places_are, room_is}
use Rattle.sgb_random.proofs.DrawCounts.{follows_none, follows_then}
use Rattle.sgb_random.proofs.PairTable.{free_holds, free_numbered, taken_free}
use Rattle.sgb_random.proofs.InsertionCounts.{few_attempts, ready}

-- ---- the attempts one by one
pub attempts_none : (s : RandomSpec) (w : Generator) → attempts s w 0 ≡ begun w
unfolding attempts
attempts_none s w = refl

more : (s : RandomSpec) (w : Generator) (k : ℕ) → nat_lt (attempts s w k).made (wanted s) ≡ true → attempts s w (suc k) ≡ attempted s (attempts s w k)
unfolding attempts
more s w k less = rw less refl

enough : (s : RandomSpec) (w : Generator) (k : ℕ) → nat_lt (attempts s w k).made (wanted s) ≡ false → attempts s w (suc k) ≡ attempts s w k
unfolding attempts
enough s w k all = rw all refl

pub attempts_more : (s : RandomSpec) (w : Generator) (k : ℕ) → (attempts s w k).made < wanted s → attempts s w (k + 1) ≡ attempted s (attempts s w k)
attempts_more s w k less =
    let next : k + 1 ≡ suc k = omega arith in
    ap (attempts s w) next ∙ more s w k (lt-ltb (attempts s w k).made (wanted s) less)

-- once all that is wanted is made, nothing more happens
pub attempts_stay : (s : RandomSpec) (w : Generator) (i k : ℕ) → wanted s ≤ (attempts s w i).made → i ≤ k → attempts s w k ≡ attempts s w i
attempts_stay s w i zero all le =
    let none : 0 ≡ i = omega arith in
    ap (attempts s w) none
attempts_stay s w i (suc k) all le =
    elim (cases_Bool (i == suc k)) [
      | inl last ↦ ap (attempts s w) (sym ((Decides-eqb i (suc k)).0 last))
      | inr before ↦
          let ne = not_from_Decides (i == suc k) (Decides-eqb i (suc k)) before in
          let same : attempts s w k ≡ attempts s w i = attempts_stay s w i k all (omega (arith, ne)) in
          let made : wanted s ≤ (attempts s w k).made = subst (λ (c : Course). wanted s ≤ c.made) (sym same) all in
          enough s w k (le-ltb (attempts s w k).made (wanted s) made) ∙ same
    ]

pub course_at : (s : RandomSpec) (w : Generator) (i : ℕ) → i ≤ 10000000 → wanted s ≤ (attempts s w i).made → course s w ≡ attempts s w i
unfolding course
course_at s w i le all = attempts_stay s w i 10000000 all le

pub course_end : (s : RandomSpec) (w : Generator) (i : ℕ) → i ≡ 10000000 → course s w ≡ attempts s w i
unfolding course
course_end s w i end = ap (attempts s w) (sym end)

-- ---- what is kept while they run
-- i attempts from the builder a and the generator g have come to p and the generator w
pub record IsRun (s : RandomSpec) (a : Builder) (g : Generator) (p : Progress) (w : Generator) (i : ℕ) : Type 0 where
  pub indexed : IsIndexed s a (attempts s g i) p w
  pub follows : Follows g 0 w p.draws
  pub few_draws : p.draws ≤ 5442 * i
  pub generator : IsGenerator w

pub run_start : (s : RandomSpec) (p : Progress) (g : Generator) → IsFresh s p g → IsRun s p.builder g p g 0
unfolding attempts
run_start s p g fresh =
    let none : insertions_of p ≡ [] = ap (map insertion_of) fresh.no_edges in
    record {
      indexed = record {
        kept = record {
          made = fresh.none_made;
          draws = fresh.no_draws;
          rest = refl;
          listed = λ shorter. (refl, none);
          inserted = λ longer. sym (grown-nil p.builder);
        };
        ends = All-nil (IsWithin (size_of s));
        keys = λ once key. free_holds key p.pairs fresh.no_pairs;
        taken = λ once. taken_free p.pairs fresh.no_pairs;
        room = λ once. fresh.room once;
        numbers = λ shorter. free_numbered p.pairs p.numbers.items [] fresh.no_pairs (fresh.numbers shorter);
      };
      follows = subst (λ k. Follows g 0 g k) (sym fresh.no_draws) (follows_none g 0);
      few_draws = omega (arith, fresh.no_draws);
      generator = fresh.generator;
    }

pub run_made : {s : RandomSpec} {a : Builder} {g w : Generator} {p : Progress} {i : ℕ} → IsRun s a g p w i → (attempts s g i).made ≡ p.made
run_made run = sym run.indexed.kept.made

pub run_next : {s : RandomSpec} {a : Builder} {g w x : Generator} {p q : Progress} {i : ℕ} → IsRun s a g p w i → p.made < wanted s → IsIndexed s a (attempted s (attempts s g i)) q x → Follows w p.draws x q.draws → q.draws ≤ p.draws + 5442 → IsGenerator x → IsRun s a g q x (i + 1)
run_next {s} {a} {g} {w} {x} {p} {q} {i} run less indexed follows few generator = record {
  indexed = subst (λ (k : Course). IsIndexed s a k q x) (sym (attempts_more s g i (omega (arith, less, run_made run)))) indexed;
  follows = follows_then run.follows follows;
  few_draws = omega (arith, few, run.few_draws);
  generator = generator;
}

-- beside each number of a pair stands a place of the list
pub run_places : {s : RandomSpec} {a : Builder} {g w : Generator} {p : Progress} {i : ℕ} → IsRun s a g p w i → p.made < 1000000 → int_lt s.multi (pos 0) ≡ true → IsListed p.pairs p.numbers.items (length p.edges.items)
run_places {s} {a} {g} {w} {p} {i} run few shorter =
    places_are run.indexed (omega (arith, few, (few_attempts s g i).inserted, run_made run)) shorter

-- the table has room for one pair more
pub run_room : {s : RandomSpec} {a : Builder} {g w : Generator} {p : Progress} {i : ℕ} → IsRun s a g p w i → p.made < wanted s → int_le s.multi (pos 0) ≡ true → HasRoom p.pairs
run_room {s} {a} {g} {w} {p} {i} run less once =
    room_is run.indexed (omega (arith, less, (few_attempts s g i).inserted, run_made run)) once

-- one insertion more is within the limits
pub run_ready : {s : RandomSpec} {a : Builder} {g w : Generator} {p : Progress} {i : ℕ} → IsRun s a g p w i → refusal_of_random s ≡ None → IsBare s a → p.made < wanted s → IsReady s p.builder p.made
run_ready {s} {a} {g} {w} {p} {i} run none bare less =
    let few : length (attempts s g i).insertions ≤ p.made = omega (arith, (few_attempts s g i).inserted, run_made run) in
    elim (cases_Bool (int_lt s.multi (pos 0))) [
      | inl shorter ↦ subst (λ b. IsReady s b p.made) (grown-nil a ∙ sym (run.indexed.kept.listed shorter).0) (ready s a [] p.made none bare (omega arith) less)
      | inr longer ↦ subst (λ b. IsReady s b p.made) (sym (run.indexed.kept.inserted longer)) (ready s a (attempts s g i).insertions p.made none bare few less)
    ]

-- how the run ends
pub run_course : {s : RandomSpec} {a : Builder} {g w : Generator} {p : Progress} {i : ℕ} → IsRun s a g p w i → i ≤ 10000000 → wanted s ≤ p.made → IsIndexed s a (course s g) p w
run_course {s} {a} {g} {w} {p} {i} run le all =
    subst (λ (k : Course). IsIndexed s a k p w) (sym (course_at s g i le (omega (arith, all, run_made run)))) run.indexed

pub run_all : {s : RandomSpec} {a : Builder} {g w : Generator} {p : Progress} {i : ℕ} → IsRun s a g p w i → i ≤ 10000000 → wanted s ≤ p.made → wanted s ≤ (course s g).made
run_all {s} run le all = omega (arith, (run_course run le all).kept.made, all)

pub run_stuck : {s : RandomSpec} {a : Builder} {g w : Generator} {p : Progress} {i : ℕ} → IsRun s a g p w i → i ≡ 10000000 → p.made < wanted s → (course s g).made < wanted s
run_stuck {s} {a} {g} {w} {p} {i} run end less =
    omega (arith, less, run_made run, ap (λ (k : Course). k.made) (course_end s g i end))

-- ---- what comes of a course
pub stuck_refused : (s : RandomSpec) (seed : Seed) (c : Course) {e : Refusal} → (e ≡ NoRoom) ⊎ ((e ≡ Stuck) × (c.made < wanted s)) → IsMade (plan_of_course s seed c) (Err e)
stuck_refused s seed c (inl room) = inl room
stuck_refused s seed c (inr stuck) = rw (lt-ltb c.made (wanted s) stuck.1, stuck.0) (refused_before Stuck)

pub whole_made : (s : RandomSpec) (seed : Seed) (c : Course) {g : GraphOf} → wanted s ≤ c.made → IsMade (Ok (random_plan s seed c.insertions)) (Ok g) → IsMade (plan_of_course s seed c) (Ok g)
whole_made s seed c all is = rw (le-ltb c.made (wanted s) all) is

pub plan_before : (s : RandomSpec) (seed : Seed) (w : Generator) {e : Refusal} → refusal_of_random s ≡ Some e → plan_of_random s seed w ≡ Err e
unfolding plan_of_random unless_refused
plan_before s seed w refused = rw refused refl

pub plan_after : (s : RandomSpec) (seed : Seed) (w : Generator) → refusal_of_random s ≡ None → plan_of_random s seed w ≡ plan_of_course s seed (course s w)
unfolding plan_of_random unless_refused
plan_after s seed w none = rw none refl
