-- What a new graph does to the session.
use Rattle.std.proofs.Common.{◌≡◌, ◌<◌, ◌+◌, ◌-◌, ℕ, List, [], ◌∷◌, ◌++◌, length, take, refl, subst, true, Option, Some, None, Result, Ok, Err, sym, ap, ap₂, ◌∙◌, inl, inr, arith, length-append}
use Rattle.std.proofs.Math.Seq.{take-append_seam}
use Rattle.std.proofs.lemmas.Bool.{cases_lt, le-leb}
use Rattle.std.specs.Prelude.{is_none, is_ok, unwrap_or, ◌&&◌}
use Rattle.sgb_graph.specs.declared.refusal.Refusal.{Refusal}
use Rattle.sgb_graph.specs.declared.refusal.Refusal.TheVariants as graphs
use Rattle.sgb_graph.specs.Graph.{GraphOf, n_of, m_of}
use Rattle.sgb_plan.specs.declared.part.Seed.{Seed}
use Rattle.sgb_plan.specs.declared.part.Seed.TheVariants as seeds
use Rattle.sgb_plan.specs.Plan.{Plan, outcome_of, plan_unless}
use Rattle.sgb_plan.proofs.Plans.{many_vertices}
use Rattle.sgb_flip.specs.Generator.{Generator}
use Rattle.sgb_random.specs.declared.spec.RandomSpec.{RandomSpec}
use Rattle.sgb_random.specs.Random.{plan_of_random, refusal_of_random}
use Rattle.sgb_random.specs.Random as randoms
use Rattle.sgb_induced.specs.Induced.{induced_plan, refusal_of_induced}
use Rattle.sgb_text.proofs.ReadAs.{read_begins}
use Rattle.sgb_undo.specs.Outcome.{Accepted}
use Rattle.sgb_script.specs.declared.command.Single.TheVariants.{Make}
use Rattle.sgb_script.specs.declared.command.Maker.{Maker}
use Rattle.sgb_script.specs.declared.refusal.ShellRefusal.{ShellRefusal}
use Rattle.sgb_session.specs.declared.reply.SingleDelta.{SingleDelta}
use Rattle.sgb_session.specs.declared.reply.SingleDelta.TheVariants as kept
use Rattle.sgb_session.specs.declared.reply.SingleReply.TheVariants.{Made}
use Rattle.sgb_session.specs.declared.table.Entry.{Entry}
use Rattle.sgb_session.specs.Drawing.{Drawing, drawn_from, drawn_on, generator_of}
use Rattle.sgb_session.specs.Edits.{refusal_from}
use Rattle.sgb_session.specs.Make.{Recipe, ByCount, ByPlan, ByDraws, ByFates, ByText, recipe_of, graph_by, graph_made, plan_may_allocate, recipe_may_allocate, after, generator_after, kept_of}
use Rattle.sgb_session.specs.Source.{source_of, turned_back, CanTurnBack}
use Rattle.sgb_session.specs.State.{State, step, before, can_revert, unless, entering, refusal_of_making}
use Rattle.sgb_session.specs.Table.{find, graph_in, graph_named}
use Rattle.sgb_session.specs.Private.Making.{MakesGraph, Performs, CanUnmake, unmade}
use Rattle.sgb_session.specs.Private.Working.{random_draws}
use Rattle.sgb_session.proofs.EditSteps.{state, no_room_is}

pub graph_named_is : (t : List Entry) (name : List ℕ) (i : ℕ) → find t name ≡ Some i → graph_named t name ≡ graph_in t i
graph_named_is t name i at = ap (λ o. graph_in t (unwrap_or o (length t))) at

-- the generator behind random work is turned back to what it was
pub can_turn_back : (seed : Seed) (d : Drawing) (n : ℕ) → CanTurnBack (source_of seed d n) (drawn_on (drawn_from seed d) n)
can_turn_back (seeds.Number s) d n = tt
can_turn_back seeds.Current d n = omega arith

pub is_turned_back : (seed : Seed) (d : Drawing) (n : ℕ) → turned_back (source_of seed d n) (drawn_on (drawn_from seed d) n) ≡ d
is_turned_back (seeds.Number s) d n = refl
is_turned_back seeds.Current d n =
    let same : d.draws + n - n ≡ d.draws = omega arith in ap (λ (k : ℕ). let e : Drawing = record { seed = d.seed; draws = k } in e) same

-- a table with a graph more
length_more : (t : List Entry) (x : Entry) → 0 < length (t ++ x ∷ [])
length_more t x = omega (arith, length-append t (x ∷ []))

take_front : (t : List Entry) (x : Entry) → take (length (t ++ x ∷ []) - 1) (t ++ x ∷ []) ≡ t
take_front t x =
    let same : length (t ++ x ∷ []) - 1 ≡ length t = omega (arith, length-append t (x ∷ [])) in
    ap (λ k. take k (t ++ x ∷ [])) same ∙ take-append_seam t (x ∷ [])

-- what is kept of a new graph leads back
abbrev LeadsBack : Drawing → List Entry → Drawing → List Entry → SingleDelta → Type 0
LeadsBack d t e u k = can_revert (state e u) k × (before (state e u) k ≡ state d t)

made_leads_back : (d : Drawing) (t : List Entry) (x : Entry) → LeadsBack d t d (t ++ x ∷ []) kept.Made
made_leads_back d t x = (length_more t x, ap (state d) (take_front t x))

random_leads_back : (seed : Seed) (d : Drawing) (n : ℕ) (t : List Entry) (x : Entry)
    → LeadsBack d t (drawn_on (drawn_from seed d) n) (t ++ x ∷ []) (kept.MadeBy (source_of seed d n))
random_leads_back seed d n t x = (
  (length_more t x, can_turn_back seed d n),
  ap (λ e. state e (take (length (t ++ x ∷ []) - 1) (t ++ x ∷ []))) (is_turned_back seed d n) ∙ ap (state d) (take_front t x),
)

leads_back : (d : Drawing) (t : List Entry) (x : Entry) (r : Recipe) → LeadsBack d t (after d r).0 (t ++ x ∷ []) (after d r).1
leads_back d t x (ByCount n) = made_leads_back d t x
leads_back d t x (ByPlan plan) = made_leads_back d t x
leads_back d t x (ByDraws spec seed) = random_leads_back seed d (random_draws spec (drawn_from seed d)) t x
leads_back d t x (ByFates g description spec) = made_leads_back d t x
leads_back d t x (ByText rule text) = made_leads_back d t x

-- the generator behind a graph that is not kept
can_unmake_kept : (d : Drawing) (r : Recipe) → CanUnmake (after d r).1 (after d r).0
can_unmake_kept d (ByCount n) = tt
can_unmake_kept d (ByPlan plan) = tt
can_unmake_kept d (ByDraws spec seed) = can_turn_back seed d (random_draws spec (drawn_from seed d))
can_unmake_kept d (ByFates g description spec) = tt
can_unmake_kept d (ByText rule text) = tt

unmade_kept : (d : Drawing) (r : Recipe) → unmade (after d r).1 (after d r).0 ≡ d
unmade_kept d (ByCount n) = refl
unmade_kept d (ByPlan plan) = refl
unmade_kept d (ByDraws spec seed) = is_turned_back seed d (random_draws spec (drawn_from seed d))
unmade_kept d (ByFates g description spec) = refl
unmade_kept d (ByText rule text) = refl

pub can_unmake : (d e : Drawing) (t : List Entry) (m : Maker) (a : GraphOf × SingleDelta) → MakesGraph d e t m (Ok a) → CanUnmake a.1 e
can_unmake d e t m a made =
    subst (λ f. CanUnmake a.1 f) (sym made.1) (subst (λ k. CanUnmake k (generator_after d m)) (sym made.2) (can_unmake_kept d (recipe_of m)))

-- a graph that was made may have been allocated
refused_is : (r : Refusal) → outcome_of (Err r) ≡ Err r
unfolding outcome_of
refused_is r = refl

few_vertices : (plan : Result Plan Refusal) (g : GraphOf) → outcome_of plan ≡ Ok g → plan_may_allocate plan ≡ true
few_vertices (Ok p) g made =
    elim (cases_lt 65535 (length p.vertices)) [
      | inl many ↦ elim (many_vertices p refl many) [
        | inl room ↦ absurd (let wrong : graphs.TooLarge ≡ graphs.NoRoom = room in cc)
        | inr large ↦ absurd (let wrong : Err graphs.TooLarge ≡ Ok g = sym large ∙ made in cc)
      ]
      | inr few ↦ le-leb (length p.vertices) 65535 few
    ]
few_vertices (Err r) g made = absurd (let wrong : Err r ≡ Ok g = sym (refused_is r) ∙ made in cc)

not_refused : (o : Option Refusal) (plan : Result Plan Refusal) (g : GraphOf) → outcome_of (randoms.unless_refused o plan) ≡ Ok g → is_none o ≡ true
unfolding randoms.unless_refused
not_refused None plan g made = refl
not_refused (Some r) plan g made = absurd (let wrong : Err r ≡ Ok g = sym (refused_is r) ∙ made in cc)

induced_not_refused : (o : Option Refusal) (p : Plan) (g : GraphOf) → outcome_of (plan_unless o p) ≡ Ok g → is_none o ≡ true
induced_not_refused None p g made = refl
induced_not_refused (Some r) p g made = absurd (let wrong : Err r ≡ Ok g = sym (refused_is r) ∙ made in cc)

random_not_refused : (spec : RandomSpec) (seed : Seed) (w : Generator) (g : GraphOf) → outcome_of (plan_of_random spec seed w) ≡ Ok g → is_none (refusal_of_random spec) ≡ true
unfolding plan_of_random
random_not_refused spec seed w g made = not_refused (refusal_of_random spec) (randoms.plan_of_course spec seed (randoms.course spec w)) g made

may_have_allocated : (d : Drawing) (t : List Entry) (o : Recipe) (g : GraphOf) → graph_by d t o ≡ Ok g → recipe_may_allocate t o ≡ true
may_have_allocated d t (ByCount n) g made = ap is_ok made
may_have_allocated d t (ByPlan plan) g made = few_vertices (plan t) g made
may_have_allocated d t (ByDraws spec seed) g made = random_not_refused spec seed (generator_of (drawn_from seed d)) g made
may_have_allocated d t (ByFates f description spec) g made =
    induced_not_refused (refusal_of_induced (graph_named t f) description) (induced_plan (graph_named t f) description spec) g made
may_have_allocated d t (ByText rule text) g made = read_begins rule text g made

-- a graph for which there is no box
pub not_boxed : (d e f : Drawing) (t : List Entry) (m : Maker) (a : GraphOf × SingleDelta) → MakesGraph d e t m (Ok a) → f ≡ unmade a.1 e
    → MakesGraph d f t m (Err graphs.NoRoom)
not_boxed d e f t m a made back = (
  back ∙ (ap (unmade a.1) made.1 ∙ (ap (λ k. unmade k (generator_after d m)) made.2 ∙ unmade_kept d (recipe_of m))),
  inl (refl, may_have_allocated d t (recipe_of m) a.0 made.0),
)

-- a graph that was made
making_is : (d : Drawing) (t : List Entry) (name : List ℕ) (m : Maker) (made : Result GraphOf Refusal) → refusal_of_making (state d t) name m ≡ None
    → graph_made d t m ≡ made → step (state d t) (Make name m) ≡ entering (state d t) name m made
making_is d t name m made free is =
    ap (λ r. unless r (entering (state d t) name m (graph_made d t m))) free ∙ ap (entering (state d t) name m) is

pub make_done : (d e : Drawing) (t : List Entry) (name : List ℕ) (m : Maker) (a : GraphOf × SingleDelta) → refusal_of_making (state d t) name m ≡ None
    → MakesGraph d e t m (Ok a) → Performs (state d t) (state e (t ++ record { name = name; graph = a.0 } ∷ [])) (Make name m) (Ok (a.1, Made name (n_of a.0) (m_of a.0)))
make_done d e t name m a free made =
    let x : Entry = record { name = name; graph = a.0 } in
    let back : LeadsBack d t e (t ++ x ∷ []) a.1 =
    subst (λ f. LeadsBack d t f (t ++ x ∷ []) a.1) (sym made.1) (subst (LeadsBack d t (generator_after d m) (t ++ x ∷ [])) (sym made.2) (leads_back d t x (recipe_of m))) in (
      making_is d t name m (Ok a.0) free made.0
          ∙ (ap (λ f. Accepted (state f (t ++ x ∷ [])) (kept_of d m) (Made name (n_of a.0) (m_of a.0))) (sym made.1)
          ∙ ap (λ k. Accepted (state e (t ++ x ∷ [])) k (Made name (n_of a.0) (m_of a.0))) (sym made.2)),
      back.0,
      back.1,
    )

-- a graph that was not made
pub make_refused : (d e : Drawing) (t : List Entry) (name : List ℕ) (m : Maker) (r : Refusal) → refusal_of_making (state d t) name m ≡ None
    → MakesGraph d e t m (Err r) → Performs (state d t) (state e t) (Make name m) (Err (refusal_from r))
make_refused d e t name m r free made = (
  ap (λ f. state f t) made.0,
  elim made.1 [
    | inl wants ↦ inl (no_room_is r wants.0, ap₂ (λ a b. a && b) (ap is_none free) wants.1)
    | inr refuses ↦ inr (making_is d t name m (Err r) free refuses)
  ],
)

-- a graph that may not be made
pub make_forbidden : (s : State) (name : List ℕ) (m : Maker) (r : ShellRefusal) → refusal_of_making s name m ≡ Some r → Performs s s (Make name m) (Err r)
make_forbidden s name m r forbidden = (refl, inr (ap (λ o. unless o (entering s name m (graph_made s.generator s.table m))) forbidden))
