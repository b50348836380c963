-- The session's state, and what each command does to it.
use Rattle.std.specs.Prelude.{ℕ, ◌≤◌, ◌<◌, ◌-◌, ◌^◌, ◌&&◌, ◌||◌, not, nat_le, if◌then◌else◌, pos, unsigned_abs, int_lt, List, [], ◌∷◌, ◌++◌, length, take, insert, remove, Option, None, Some, is_some, is_none, Bool, true, false, Result, Ok, Err}
use Rattle.sgb_flip.specs.Generator.{drawn, uniform}
use Rattle.sgb_graph.specs.declared.refusal.Refusal.{Refusal}
use Rattle.sgb_graph.specs.Graph.{GraphOf, n_of, m_of}
use Rattle.sgb_graph.specs.Delta.{LeftBy}
use Rattle.sgb_graph.specs.Reverted.{reverted}
use Rattle.sgb_combine.specs.declared.spec.LengthsSpec.{LengthsSpec}
use Rattle.sgb_combine.specs.Lengths.{CanRevertLengths, before_lengths, draws_for, lengthened, lengths_of, refusal_of_lengths}
use Rattle.sgb_plan.specs.declared.part.Seed as parts
use Rattle.sgb_undo.specs.Outcome.{Outcome, Accepted, Refused, is_accepted}
use Rattle.sgb_script.specs.declared.command.Single.{Single}
use Rattle.sgb_script.specs.declared.command.Single.TheVariants.{Seed, Next, Unif, Make, Edit, Lengths, Drop}
use Rattle.sgb_script.specs.declared.command.Maker.{Maker}
use Rattle.sgb_script.specs.declared.refusal.ShellRefusal.{ShellRefusal}
use Rattle.sgb_script.specs.declared.refusal.ShellRefusal.TheVariants.{BadSpecs, TooLarge, NoGraph, TableFull, NameTaken}
use Rattle.sgb_session.specs.declared.reply.SingleDelta.{SingleDelta}
use Rattle.sgb_session.specs.declared.reply.SingleDelta.TheVariants as kept
use Rattle.sgb_session.specs.declared.reply.SingleReply.{SingleReply}
use Rattle.sgb_session.specs.declared.reply.SingleReply.TheVariants.{Done, Number, Made}
use Rattle.sgb_session.specs.declared.table.Entry.{Entry}
use Rattle.sgb_session.specs.Drawing.{Drawing, generator_of, seeded_by, drawn_on, drawn_back, drawn_from}
use Rattle.sgb_session.specs.Edits.{Edited, edited, edit_has_text, edit_takes_memory, refusal_from}
use Rattle.sgb_session.specs.Make.{operands, goes_on, graph_made, maker_may_allocate, generator_after, kept_of}
use Rattle.sgb_session.specs.Source.{source_of, turned_back, CanTurnBack}
use Rattle.sgb_session.specs.Table.{find, entry_in, graph_in, graph_named, with_graph, has_all}

-- the generator, and the named graphs in their order
pub record State : Type 0 where
  pub generator : Drawing
  pub table : List Entry

-- the empty session: seed 0, nothing drawn, and no graphs
abbrev pub empty : State
empty = record { generator = seeded_by (pos 0); table = [] }

abbrev pub StepOutcome : Type 0
StepOutcome = Outcome State SingleDelta SingleReply ShellRefusal

-- the first refusal there is, and else the outcome
abbrev pub unless : Option ShellRefusal → StepOutcome → StepOutcome
unless None outcome = outcome
unless (Some r) outcome = Refused r

-- a graph's refusal comes first
abbrev pub unless_refused : Option Refusal → StepOutcome → StepOutcome
unless_refused None outcome = outcome
unless_refused (Some r) outcome = Refused (refusal_from r)

abbrev pub where_found : Option ℕ → (ℕ → StepOutcome) → StepOutcome
where_found None outcome = Refused NoGraph
where_found (Some i) outcome = outcome i

-- no number is drawn any more where 2 ^ 62 were drawn since the seeding
abbrev pub is_spent : Drawing → Bool
is_spent d = nat_le (2 ^ 62) d.draws

abbrev pub unless_spent : Drawing → StepOutcome → StepOutcome
unless_spent d outcome = if is_spent d then Refused TooLarge else outcome

-- so many numbers are drawn, and one is answered
abbrev pub drawing : State → ℕ → ℕ → StepOutcome
drawing s draws number = Accepted (record s { generator = drawn_on s.generator draws }) (kept.Draws draws) (Number number)

-- why nothing can be made of these under this name: each graph that is named must be there, the name must be free, the
-- table must have a place, and a generator that goes on must not be spent
abbrev pub refusal_of_making : State → List ℕ → Maker → Option ShellRefusal
refusal_of_making s name m =
    if not (has_all s.table (operands m)) then Some NoGraph
    else (if is_some (find s.table name) then Some NameTaken
    else (if nat_le 64 (length s.table) then Some TableFull
    else (if goes_on m && is_spent s.generator then Some TooLarge
    else None)))

-- a new graph stands last in the table
abbrev pub entering : State → List ℕ → Maker → Result GraphOf Refusal → StepOutcome
entering s name m (Ok g) = Accepted
    (record { generator = generator_after s.generator m; table = s.table ++ record { name = name; graph = g } ∷ [] })
    (kept_of s.generator m) (Made name (n_of g) (m_of g))
entering s name m (Err r) = Refused (refusal_from r)

abbrev pub making : State → List ℕ → Maker → StepOutcome
making s name m = unless (refusal_of_making s name m) (entering s name m (graph_made s.generator s.table m))

abbrev pub editing : State → ℕ → Edited → StepOutcome
editing s i e = unless_refused e.refusal (Accepted (record s { table = with_graph s.table i e.graph }) (kept.Edit i e.delta) e.reply)

-- the graph at a place gets its lengths from a generator
abbrev pub lengthening : State → ℕ → LengthsSpec → parts.Seed → Drawing → StepOutcome
lengthening s i spec seed from =
    let g = graph_in s.table i in
    let draws = (draws_for spec g (generator_of from)).draws in
    unless_refused (refusal_of_lengths spec g) (Accepted
    (record { generator = drawn_on from draws; table = with_graph s.table i (lengthened spec seed g (generator_of from)) })
    (kept.Lengths i (record { lengths = lengths_of g; id = g.id }) (source_of seed s.generator draws)) Done)

-- the graph at a place leaves the table, which closes up
abbrev pub dropping : State → ℕ → StepOutcome
dropping s i = Accepted (record s { table = remove s.table i }) (kept.Dropped i (entry_in s.table i).name (graph_in s.table i)) Done

-- what a command does: the state after it, what undoing it needs, and the reply, or the first refusal
abbrev pub step : State → Single → StepOutcome
step s (Seed n) = Accepted (record s { generator = seeded_by n }) (kept.Seed s.generator) Done
step s Next = unless_spent s.generator (drawing s 1 (drawn (generator_of s.generator) 0))
step s (Unif m) = unless_spent s.generator
    (if int_lt m (pos 1) || int_lt (pos (2 ^ 31)) m then Refused BadSpecs
    else let u = uniform (generator_of s.generator) (unsigned_abs m) in drawing s u.draws u.value)
step s (Make name m) = making s name m
step s (Edit name e) = where_found (find s.table name) (λ i. editing s i (edited (graph_in s.table i) e))
step s (Lengths name spec seed) = where_found (find s.table name) (λ i.
    unless_spent (drawn_from seed s.generator) (lengthening s i spec seed (drawn_from seed s.generator)))
step s (Drop name) = where_found (find s.table name) (dropping s)

-- whether a command takes memory: a new graph, arc or edge, new lengths, and a text
abbrev pub takes_memory : Single → Bool
takes_memory (Seed n) = false
takes_memory Next = false
takes_memory (Unif m) = false
takes_memory (Make name m) = true
takes_memory (Edit name e) = edit_takes_memory e
takes_memory (Lengths name spec seed) = true
takes_memory (Drop name) = false

-- Whether a command may fail to allocate at a state: a new graph once its names are good, where its maker may; an edit with
-- a text, since the text is copied first, and another edit that takes memory where it is accepted; and lengths that are
-- not refused.
abbrev pub may_want : State → Single → Bool
may_want s (Make name m) = is_none (refusal_of_making s name m) && maker_may_allocate s.table m
may_want s (Edit name e) = edit_takes_memory e && (edit_has_text e || is_accepted (step s (Edit name e)))
may_want s (Lengths name spec seed) =
    is_some (find s.table name) && not (is_spent (drawn_from seed s.generator)) && is_none (refusal_of_lengths spec (graph_named s.table name))
may_want s c = false

-- the state that a delta leads back to
abbrev pub before : State → SingleDelta → State
before s (kept.Seed generator) = record s { generator = generator }
before s (kept.Draws n) = record s { generator = drawn_back s.generator n }
before s kept.Made = record s { table = take (length s.table - 1) s.table }
before s (kept.MadeBy source) = record { generator = turned_back source s.generator; table = take (length s.table - 1) s.table }
before s (kept.Edit i d) = record s { table = with_graph s.table i (reverted (graph_in s.table i) d) }
before s (kept.Lengths i d source) =
    record { generator = turned_back source s.generator; table = with_graph s.table i (before_lengths d (graph_in s.table i)) }
before s (kept.Dropped i name g) = record s { table = insert s.table i (record { name = name; graph = g }) }

-- no more draws can be taken back than were made; an edit is taken back from a graph that it left
abbrev pub can_revert : State → SingleDelta → Type 0
can_revert s (kept.Seed generator) = Unit {0}
can_revert s (kept.Draws n) = n ≤ s.generator.draws
can_revert s kept.Made = 0 < length s.table
can_revert s (kept.MadeBy source) = (0 < length s.table) × CanTurnBack source s.generator
can_revert s (kept.Edit i d) = (i < length s.table) × ((g : GraphOf) × LeftBy g d (graph_in s.table i))
can_revert s (kept.Lengths i d source) = (i < length s.table) × CanRevertLengths d (graph_in s.table i) × CanTurnBack source s.generator
can_revert s (kept.Dropped i name g) = (i ≤ length s.table) × (length s.table < 64)
