-- What an edit of a graph does to the session.
use Rattle.std.proofs.Common.{◌≡◌, ◌<◌, ◌≤◌, ℕ, List, length, set, insert, remove, refl, ap₂, true, Option, Some, None, Ok, Err, sym, ap, ◌∙◌, subst, inl, inr, cond, arith}
use Rattle.std.specs.Prelude.{nat_lt, is_none, ◌&&◌, ◌||◌}
use Rattle.std.specs.List.{position_or_len}
use Rattle.std.specs.Str.{bytes_eq}
use Rattle.std.proofs.lemmas.Bool.{cases_Bool, ltb-true}
use Rattle.std.proofs.lemmas.List.{set-get_or, set-set, get_or-set_same, length-set}
use Rattle.std.proofs.lemmas.List.Edits.{length-remove}
use Rattle.sgb_session.proofs.Tables.{insert-remove}
use Rattle.sgb_session.specs.declared.reply.SingleReply.TheVariants.{Done}
use Rattle.sgb_graph.specs.declared.delta.GraphDelta.{GraphDelta}
use Rattle.sgb_graph.specs.declared.refusal.Refusal.{Refusal}
use Rattle.sgb_graph.specs.declared.refusal.Refusal.TheVariants as graphs
use Rattle.sgb_graph.specs.Graph.{GraphOf}
use Rattle.sgb_graph.specs.Delta.{LeftBy}
use Rattle.sgb_graph.proofs.Reverts.{reverted_is}
use Rattle.sgb_undo.specs.Outcome.{Accepted, is_accepted}
use Rattle.sgb_script.specs.declared.command.Edit as script
use Rattle.sgb_script.specs.declared.command.Single.TheVariants.{Edit, Drop}
use Rattle.sgb_script.specs.declared.refusal.ShellRefusal.TheVariants as shells
use Rattle.sgb_session.specs.declared.reply.SingleDelta.TheVariants as kept
use Rattle.sgb_session.specs.declared.reply.SingleReply.{SingleReply}
use Rattle.sgb_session.specs.declared.table.Entry.{Entry}
use Rattle.sgb_session.specs.Drawing.{Drawing}
use Rattle.sgb_session.specs.Edits.{edited, refusal_from, edit_has_text, edit_takes_memory}
use Rattle.sgb_session.specs.State.{State, StepOutcome, step, may_want, editing, unless_refused, where_found, dropping}
use Rattle.sgb_session.specs.Table.{find, no_entry, entry_in, graph_in, with_graph}
use Rattle.sgb_session.specs.Private.Making.{Performs, AtPlace, Edits, edit_may_want}

abbrev pub state : Drawing → List Entry → State
state d t = record { generator = d; table = t }

-- the table with a graph replaced
pub graph_there : (t : List Entry) (i : ℕ) (g : GraphOf) → i < length t → graph_in (with_graph t i g) i ≡ g
graph_there t i g within = ap (λ (e : Entry). e.graph) (get_or-set_same t i (record (entry_in t i) { graph = g }) no_entry within)

pub same_graph_back : (t : List Entry) (i : ℕ) → with_graph t i (graph_in t i) ≡ t
same_graph_back t i = set-get_or t i no_entry

pub replaced_twice : (t : List Entry) (i : ℕ) (g h : GraphOf) → i < length t → with_graph (with_graph t i g) i h ≡ with_graph t i h
replaced_twice t i g h within =
    ap (λ (e : Entry). set (with_graph t i g) i (record e { graph = h })) (get_or-set_same t i (record (entry_in t i) { graph = g }) no_entry within)
    ∙ set-set t i (record (entry_in t i) { graph = g }) (record (entry_in t i) { graph = h })

found_within : (n l i : ℕ) → cond (nat_lt n l) (Some n) None ≡ Some i → i < l
found_within n l i e = elim (cases_Bool (nat_lt n l)) [
  | inl low ↦ (let same : n ≡ i = cc in omega (arith, ltb-true n l low))
  | inr high ↦ absurd cc
]

pub find_within : (t : List Entry) (name : List ℕ) (i : ℕ) → find t name ≡ Some i → i < length t
find_within t name i e = found_within (position_or_len (λ e. bytes_eq e.name name) t) (length t) i e

step_is : (s : State) (name : List ℕ) (e : script.Edit) (i : ℕ) → find s.table name ≡ Some i
    → step s (Edit name e) ≡ editing s i (edited (graph_in s.table i) e)
step_is s name e i at = ap (λ o. where_found o (λ j. editing s j (edited (graph_in s.table j) e))) at

-- an edit that was made
pub edit_done : (d : Drawing) (t u : List Entry) (name : List ℕ) (e : script.Edit) (i : ℕ) (a : GraphDelta × SingleReply) → find t name ≡ Some i → i < length t
    → AtPlace (Edits e (Ok a)) t u i → Performs (state d t) (state d u) (Edit name e) (Ok (kept.Edit i a.0, a.1))
edit_done d t u name e i a at within m =
    let x = edited (graph_in t i) e in
    let table : u ≡ with_graph t i x.graph = m.1 ∙ ap (with_graph t i) m.2.1 in
    let after : graph_in u i ≡ m.0 = ap (λ v. graph_in v i) m.1 ∙ graph_there t i m.0 within in
    let left : LeftBy (graph_in t i) a.0 (graph_in u i) = subst (LeftBy (graph_in t i) a.0) (sym after) m.2.4 in
    let outcome : StepOutcome → StepOutcome = λ o. o in (
      step_is (state d t) name e i at
          ∙ (ap (λ r. unless_refused r (Accepted (state d (with_graph t i x.graph)) (kept.Edit i x.delta) x.reply)) m.2.0
          ∙ (ap (λ v. Accepted (state d v) (kept.Edit i x.delta) x.reply) (sym table)
          ∙ (ap (λ y. Accepted (state d u) (kept.Edit i y) x.reply) (sym m.2.2) ∙ ap (Accepted (state d u) (kept.Edit i a.0)) (sym m.2.3)))),
      (omega (arith, ap length m.1, length-set t i (record (entry_in t i) { graph = m.0 }), within), (graph_in t i, left)),
      ap (state d)
          (ap (with_graph u i) (reverted_is (graph_in t i) (graph_in u i) a.0 left)
          ∙ (ap (λ v. with_graph v i (graph_in t i)) m.1 ∙ (replaced_twice t i m.0 (graph_in t i) within ∙ same_graph_back t i))),
    )

-- what an edit may want for, seen from the session
accepted_is : (o : Option Refusal) (made : StepOutcome) → is_accepted made ≡ true → is_accepted (unless_refused o made) ≡ is_none o
accepted_is None made accepted = accepted
accepted_is (Some r) made accepted = refl

edit_wants : (s : State) (name : List ℕ) (e : script.Edit) (i : ℕ) → find s.table name ≡ Some i → may_want s (Edit name e) ≡ edit_may_want e (edited (graph_in s.table i) e).refusal
edit_wants s name e i at =
    let x = edited (graph_in s.table i) e in
    ap (λ b. edit_takes_memory e && (edit_has_text e || b))
    (ap is_accepted (step_is s name e i at) ∙ accepted_is x.refusal (Accepted (record s { table = with_graph s.table i x.graph }) (kept.Edit i x.delta) x.reply) refl)

pub no_room_is : (r : Refusal) → r ≡ graphs.NoRoom → refusal_from r ≡ shells.NoRoom
no_room_is r e = ap refusal_from e

-- an edit that was not made
pub edit_refused : (d : Drawing) (t u : List Entry) (name : List ℕ) (e : script.Edit) (i : ℕ) (r : Refusal) → find t name ≡ Some i
    → AtPlace (Edits e (Err r)) t u i → Performs (state d t) (state d u) (Edit name e) (Err (refusal_from r))
edit_refused d t u name e i r at m =
    let x = edited (graph_in t i) e in
    let same : u ≡ t = m.1 ∙ (ap (with_graph t i) m.2.0 ∙ same_graph_back t i) in (
      ap (state d) same,
      elim m.2.1 [
        | inl wants ↦ inl (no_room_is r wants.0, edit_wants (state d t) name e i at ∙ wants.1)
        | inr refuses ↦ inr (step_is (state d t) name e i at ∙ ap (λ o. unless_refused o (Accepted (state d (with_graph t i x.graph)) (kept.Edit i x.delta) x.reply)) refuses)
      ],
    )

-- a graph that left the table
pub graph_dropped : (d : Drawing) (t u : List Entry) (name : List ℕ) (i : ℕ) (x : Entry) → find t name ≡ Some i → x ≡ entry_in t i → u ≡ remove t i → length u < 64
    → Performs (state d t) (state d u) (Drop name) (Ok (kept.Dropped i x.name x.graph, Done))
graph_dropped d t u name i x at entry table few =
    let within : i < length t = find_within t name i at in
    let size = length-remove t i within in
    let long : length u ≡ length (remove t i) = ap (λ v. length v) table in (
      ap (λ o. where_found o (dropping (state d t))) at ∙ ap₂ (λ v (y : Entry). Accepted (state d v) (kept.Dropped i y.name y.graph) Done) (sym table) (sym entry),
      ((let low : i ≤ length u = omega (arith, within, size, long) in low), few),
      ap (state d) (ap₂ (λ v y. insert v i y) table entry ∙ insert-remove t i no_entry within),
    )
