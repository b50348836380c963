-- What a command did, on the way from a graph to the session.
use Rattle.std.specs.Prelude.{◌≡◌, ◌⊎◌, ◌&&◌, ◌||◌, ℕ, List, Option, None, Some, is_none, Bool, true, false, Result, Ok, Err, IsErrOf, is_ok}
use Rattle.sgb_graph.specs.declared.delta.GraphDelta.{GraphDelta}
use Rattle.sgb_graph.specs.declared.refusal.Refusal.{Refusal}
use Rattle.sgb_graph.specs.declared.refusal.Refusal.TheVariants as graphs
use Rattle.sgb_graph.specs.Graph.{GraphOf}
use Rattle.sgb_graph.specs.Delta.{LeftBy}
use Rattle.sgb_induced.specs.Induced.{plan_of_induced, refusal_of_induced}
use Rattle.sgb_plan.specs.Plan.{IsMade, MayAllocate}
use Rattle.sgb_text.specs.Read.{begins_well, read_as}
use Rattle.sgb_undo.specs.Outcome.{Accepted, Refused}
use Rattle.sgb_script.specs.declared.command.Single.{Single}
use Rattle.sgb_script.specs.declared.command.Maker.{Maker}
use Rattle.sgb_script.specs.declared.command.Maker.TheVariants.{Random}
use Rattle.sgb_script.specs.declared.command.Edit.{Edit}
use Rattle.sgb_script.specs.declared.refusal.ShellRefusal.{ShellRefusal}
use Rattle.sgb_script.specs.declared.refusal.ShellRefusal.TheVariants.{NoRoom}
use Rattle.sgb_session.specs.declared.reply.SingleDelta.{SingleDelta}
use Rattle.sgb_session.specs.declared.reply.SingleDelta.TheVariants as kept
use Rattle.sgb_session.specs.declared.reply.SingleReply.{SingleReply}
use Rattle.sgb_session.specs.declared.reply.SingleReply.TheVariants as replies
use Rattle.sgb_session.specs.declared.table.Entry.{Entry}
use Rattle.sgb_session.specs.Edits.{Edited, edited, edit_has_text, edit_takes_memory}
use Rattle.sgb_session.specs.Drawing.{Drawing}
use Rattle.sgb_session.specs.Make.{Recipe, ByCount, ByPlan, ByDraws, ByFates, ByText, empty_graph, graph_made, maker_may_allocate, generator_after, kept_of}
use Rattle.sgb_session.specs.Private.Slots.{held, slot_in, slot_with_graph}
use Rattle.sgb_session.specs.Source.{turned_back, CanTurnBack}
use Rattle.sgb_session.specs.State.{State, step, before, can_revert, may_want, refusal_of_making}
use Rattle.sgb_session.specs.Table.{graph_in, graph_named, with_graph}

-- whether an edit that is refused so, or not, may want for memory
abbrev pub edit_may_want : Edit → Option Refusal → Bool
edit_may_want edit refusal = edit_takes_memory edit && (edit_has_text edit || is_none refusal)

-- the edit is made, or it is refused, or memory was wanted and may be
abbrev pub Makes : (Option Refusal → Bool) → GraphOf → GraphOf → Edited → Result (GraphDelta × SingleReply) Refusal → Type 0
Makes wants old new e (Ok a) = (e.refusal ≡ None) × (new ≡ e.graph) × (a.0 ≡ e.delta) × (a.1 ≡ e.reply) × LeftBy old a.0 new
Makes wants old new e (Err r) = (new ≡ old) × (((r ≡ graphs.NoRoom) × (wants e.refusal ≡ true)) ⊎ (e.refusal ≡ Some r))

-- the graph at a place becomes another, and this holds of the two
abbrev pub AtPlace : (GraphOf → GraphOf → Type 0) → List Entry → List Entry → ℕ → Type 0
AtPlace Becomes old new i = (h : GraphOf) × (new ≡ with_graph old i h) × Becomes (graph_in old i) h

abbrev pub InSlot : (GraphOf → GraphOf → Type 0) → List (Option Entry) → List (Option Entry) → ℕ → Type 0
InSlot Becomes old new i = (h : GraphOf) × (new ≡ slot_with_graph old i h) × Becomes (held (slot_in old i)).graph h

-- an edit of a graph, whatever it is
abbrev pub Edits : Edit → Result (GraphDelta × SingleReply) Refusal → GraphOf → GraphOf → Type 0
Edits edit result g h = Makes (edit_may_want edit) g h (edited g edit) result

abbrev pub with_done : Result GraphDelta Refusal → Result (GraphDelta × SingleReply) Refusal
with_done (Ok d) = Ok (d, replies.Done)
with_done (Err r) = Err r

-- ---- new graphs

-- nothing speaks against making a graph of this name, or it is refused
abbrev pub Judges : {T : Type 0} → State → List ℕ → Maker → Result T ShellRefusal → Type 0
Judges s name m (Ok x) = refusal_of_making s name m ≡ None
Judges s name m (Err r) = refusal_of_making s name m ≡ Some r

-- the graph is made, or it is refused, or an allocation failed where one may
abbrev pub AnswersGraph : Bool → Result GraphOf Refusal → Result GraphOf Refusal → Type 0
AnswersGraph may made (Ok g) = made ≡ Ok g
AnswersGraph may made (Err r) = ((r ≡ graphs.NoRoom) × (may ≡ true)) ⊎ (made ≡ Err r)

-- the same with what the maker leaves of the generator, and what is kept of it
abbrev pub MakesGraph : Drawing → Drawing → List Entry → Maker → Result (GraphOf × SingleDelta) Refusal → Type 0
MakesGraph old new t m (Ok a) = (graph_made old t m ≡ Ok a.0) × (new ≡ generator_after old m) × (a.1 ≡ kept_of old m)
MakesGraph old new t m (Err r) = (new ≡ old) × AnswersGraph (maker_may_allocate t m) (graph_made old t m) (Err r)

-- what the call of a recipe promises, if it leaves the generator alone
abbrev pub Follows : List Entry → Recipe → Result GraphOf Refusal → Type 0
Follows t (ByCount n) r = AnswersGraph (is_ok (empty_graph n)) (empty_graph n) r
Follows t (ByPlan plan) r = IsMade (plan t) r × (IsErrOf r graphs.NoRoom → MayAllocate (plan t))
Follows t (ByDraws spec seed) r = ⊥
Follows t (ByFates g description spec) r = let graph = graph_named t g in
    IsMade (plan_of_induced graph description spec) r × (IsErrOf r graphs.NoRoom → refusal_of_induced graph description ≡ None)
Follows t (ByText rule text) r = AnswersGraph (begins_well text) (read_as rule text) r

-- a maker that draws from a generator
abbrev pub is_random : Maker → Bool
is_random (Random spec seed) = true
is_random m = false

-- the generator behind a graph that is not kept
abbrev pub unmade : SingleDelta → Drawing → Drawing
unmade (kept.MadeBy source) d = turned_back source d
unmade k d = d

abbrev pub CanUnmake : SingleDelta → Drawing → Type 0
CanUnmake (kept.MadeBy source) d = CanTurnBack source d
CanUnmake k d = Unit {0}

-- a command was performed, with a delta that leads back; or it changed nothing, since it is refused, or since memory
-- was wanted and may be
abbrev pub Performs : State → State → Single → Result (SingleDelta × SingleReply) ShellRefusal → Type 0
Performs old new c (Ok a) = (step old c ≡ Accepted new a.0 a.1) × can_revert new a.0 × (before new a.0 ≡ old)
Performs old new c (Err r) = (new ≡ old) × (((r ≡ NoRoom) × (may_want old c ≡ true)) ⊎ (step old c ≡ Refused r))
