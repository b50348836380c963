-- What random lengths do to the session.
use Rattle.std.proofs.Common.{◌≡◌, ◌<◌, ℕ, List, length, Bool, true, false, Some, None, Ok, Err, refl, sym, ap, ◌∙◌, subst, not, inl, inr, arith}
use Rattle.std.specs.Prelude.{is_none, is_some, ◌&&◌, if◌then◌else◌}
use Rattle.std.proofs.lemmas.List.{length-set}
use Rattle.sgb_graph.specs.declared.refusal.Refusal.{Refusal}
use Rattle.sgb_graph.specs.Graph.{GraphOf}
use Rattle.sgb_combine.specs.declared.delta.LengthsDelta.{LengthsDelta}
use Rattle.sgb_combine.specs.declared.spec.LengthsSpec.{LengthsSpec}
use Rattle.sgb_combine.specs.Lengths.{CanRevertLengths, before_lengths, lengthened, lengths_of, refusal_of_lengths}
use Rattle.sgb_plan.specs.declared.part.Seed.{Seed}
use Rattle.sgb_undo.specs.Outcome.{Accepted, Refused}
use Rattle.sgb_script.specs.declared.command.Single.TheVariants.{Lengths}
use Rattle.sgb_script.specs.declared.refusal.ShellRefusal.TheVariants.{TooLarge}
use Rattle.sgb_session.specs.declared.reply.SingleDelta.TheVariants as kept
use Rattle.sgb_session.specs.declared.reply.SingleReply.TheVariants.{Done}
use Rattle.sgb_session.specs.declared.reply.Source.{Source}
use Rattle.sgb_session.specs.declared.table.Entry.{Entry}
use Rattle.sgb_session.specs.Drawing.{Drawing, generator_of, drawn_from, drawn_on}
use Rattle.sgb_session.specs.Edits.{refusal_from}
use Rattle.sgb_session.specs.Source.{source_of, turned_back, CanTurnBack}
use Rattle.sgb_session.specs.State.{State, StepOutcome, step, may_want, lengthening, unless_refused, unless_spent, where_found, is_spent}
use Rattle.sgb_session.specs.Table.{find, entry_in, graph_in, graph_named, with_graph}
use Rattle.sgb_session.specs.Private.Making.{AtPlace, Performs}
use Rattle.sgb_session.specs.Private.Working.{Lengthens, HasLengths, length_draws}
use Rattle.sgb_session.proofs.EditSteps.{state, graph_there, same_graph_back, replaced_twice, no_room_is}
use Rattle.sgb_session.proofs.MakerSteps.{can_turn_back, graph_named_is, is_turned_back}

-- a graph is there, and its generator is not spent
lengthening_is : (s : State) (name : List ℕ) (spec : LengthsSpec) (seed : Seed) (i : ℕ) → find s.table name ≡ Some i → is_spent (drawn_from seed s.generator) ≡ false
    → step s (Lengths name spec seed) ≡ lengthening s i spec seed (drawn_from seed s.generator)
lengthening_is s name spec seed i at fresh =
    let from = drawn_from seed s.generator in
    ap (λ o. where_found o (λ j. unless_spent from (lengthening s j spec seed from))) at
    ∙ ap (λ (b : Bool). let o : StepOutcome = if b then Refused TooLarge else lengthening s i spec seed from in o) fresh

pub lengths_spent : (s : State) (name : List ℕ) (spec : LengthsSpec) (seed : Seed) (i : ℕ) → find s.table name ≡ Some i → is_spent (drawn_from seed s.generator) ≡ true
    → step s (Lengths name spec seed) ≡ Refused TooLarge
lengths_spent s name spec seed i at spent =
    let from = drawn_from seed s.generator in
    ap (λ o. where_found o (λ j. unless_spent from (lengthening s j spec seed from))) at
    ∙ ap (λ (b : Bool). let o : StepOutcome = if b then Refused TooLarge else lengthening s i spec seed from in o) spent

all_three : (a b c : Bool) → a ≡ true → b ≡ true → c ≡ true → (a && b && c) ≡ true
all_three a b c one two three = rw (one, two, three) refl

lengths_want : (s : State) (name : List ℕ) (spec : LengthsSpec) (seed : Seed) (i : ℕ) → find s.table name ≡ Some i → is_spent (drawn_from seed s.generator) ≡ false
    → refusal_of_lengths spec (graph_in s.table i) ≡ None → may_want s (Lengths name spec seed) ≡ true
lengths_want s name spec seed i at fresh good =
    let fine = ap (refusal_of_lengths spec) (graph_named_is s.table name i at) ∙ good in
    all_three (is_some (find s.table name)) (not (is_spent (drawn_from seed s.generator))) (is_none (refusal_of_lengths spec (graph_named s.table name)))
    (ap is_some at) (ap not fresh) (ap is_none fine)

-- lengths that were drawn
pub lengths_done : (d e : Drawing) (t u : List Entry) (name : List ℕ) (spec : LengthsSpec) (seed : Seed) (i : ℕ) (a : LengthsDelta × Source)
    → find t name ≡ Some i → i < length t → is_spent (drawn_from seed d) ≡ false → AtPlace (λ g h. Lengthens spec seed d e g h (Ok a)) t u i
    → Performs (state d t) (state e u) (Lengths name spec seed) (Ok (kept.Lengths i a.0 a.1, Done))
lengths_done d e t u name spec seed i a at within fresh m =
    let from : Drawing = drawn_from seed d in
    let g : GraphOf = graph_in t i in
    let h : GraphOf = m.0 in
    let has : HasLengths spec seed from g h a.0 = m.2.0 in
    let n : ℕ = length_draws spec g from in
    let target : GraphOf = lengthened spec seed g (generator_of from) in
    let keeps : LengthsDelta = record { lengths = lengths_of g; id = g.id } in
    let table : u ≡ with_graph t i target = m.1 ∙ ap (with_graph t i) has.1 in
    let there : graph_in u i ≡ h = ap (λ v. graph_in v i) m.1 ∙ graph_there t i h within in (
      lengthening_is (state d t) name spec seed i at fresh
          ∙ (ap (λ r. unless_refused r (Accepted (state (drawn_on from n) (with_graph t i target)) (kept.Lengths i keeps (source_of seed d n)) Done)) has.0
          ∙ (ap (λ v. Accepted (state (drawn_on from n) v) (kept.Lengths i keeps (source_of seed d n)) Done) (sym table)
          ∙ (ap (λ f. Accepted (state f u) (kept.Lengths i keeps (source_of seed d n)) Done) (sym m.2.2)
          ∙ (ap (λ k. Accepted (state e u) (kept.Lengths i k (source_of seed d n)) Done) (sym has.2)
          ∙ ap (λ k. Accepted (state e u) (kept.Lengths i a.0 k) Done) (sym m.2.1))))),
      (
        omega (arith, ap length m.1, length-set t i (record (entry_in t i) { graph = h }), within),
        subst (CanRevertLengths a.0) (sym there) has.3,
        subst (λ f. CanTurnBack a.1 f) (sym m.2.2) (subst (λ k. CanTurnBack k (drawn_on from n)) (sym m.2.1) (can_turn_back seed d n)),
      ),
      ap (λ f. state f (with_graph u i (before_lengths a.0 (graph_in u i))))
          (ap (turned_back a.1) m.2.2 ∙ (ap (λ k. turned_back k (drawn_on from n)) m.2.1 ∙ is_turned_back seed d n))
          ∙ ap (state d)
          (ap (λ k. with_graph u i (before_lengths a.0 k)) there
          ∙ (ap (with_graph u i) has.4
          ∙ (ap (λ v. with_graph v i g) m.1 ∙ (replaced_twice t i h g within ∙ same_graph_back t i)))),
    )

-- lengths that were not
pub lengths_refused : (d e : Drawing) (t u : List Entry) (name : List ℕ) (spec : LengthsSpec) (seed : Seed) (i : ℕ) (r : Refusal)
    → find t name ≡ Some i → is_spent (drawn_from seed d) ≡ false → AtPlace (λ g h. Lengthens spec seed d e g h (Err r)) t u i
    → Performs (state d t) (state e u) (Lengths name spec seed) (Err (refusal_from r))
lengths_refused d e t u name spec seed i r at fresh m =
    let from : Drawing = drawn_from seed d in
    let g : GraphOf = graph_in t i in
    let n : ℕ = length_draws spec g from in
    let target : GraphOf = lengthened spec seed g (generator_of from) in
    let keeps : LengthsDelta = record { lengths = lengths_of g; id = g.id } in
    let same : u ≡ t = m.1 ∙ (ap (with_graph t i) m.2.1 ∙ same_graph_back t i) in (
      ap (λ f. state f u) m.2.0 ∙ ap (state d) same,
      elim m.2.2 [
        | inl wants ↦ inl (no_room_is r wants.0, lengths_want (state d t) name spec seed i at fresh wants.1)
        | inr refuses ↦ inr (lengthening_is (state d t) name spec seed i at fresh
            ∙ ap (λ o. unless_refused o (Accepted (state (drawn_on from n) (with_graph t i target)) (kept.Lengths i keeps (source_of seed d n)) Done)) refuses)
      ],
    )
