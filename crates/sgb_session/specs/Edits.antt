-- What the edits of the script make of a graph.
use Rattle.std.specs.Prelude.{ℕ, ◌+◌, Option, None, Bool, true, false}
use Rattle.sgb_graph.specs.declared.delta.GraphDelta.{GraphDelta}
use Rattle.sgb_graph.specs.declared.delta.GraphDelta.TheVariants as kept
use Rattle.sgb_graph.specs.declared.field.ArcNo.{ArcNo}
use Rattle.sgb_graph.specs.declared.field.Util.{Util}
use Rattle.sgb_graph.specs.declared.field.Util.TheVariants as utils
use Rattle.sgb_graph.specs.declared.refusal.Refusal.{Refusal}
use Rattle.sgb_graph.specs.declared.refusal.Refusal.TheVariants as graphs
use Rattle.sgb_graph.specs.Graph.{GraphOf, made_of, label_of}
use Rattle.sgb_graph.specs.Edit.{with_arc, with_edge, without_arc, with_len, with_util, with_label, util_at, stored, refusal_of_arc, refusal_of_edge, refusal_of_cut, refusal_of_len, refusal_of_util, refusal_of_label, refusal_of_id}
use Rattle.sgb_graph.specs.Edit as arcs
use Rattle.sgb_graph.specs.Delta.{cut_arc}
use Rattle.sgb_script.specs.declared.command.Edit.{Edit}
use Rattle.sgb_script.specs.declared.command.Edit.TheVariants.{Arc, Edge, Cut, Len, Set, Types, Label, Id}
use Rattle.sgb_script.specs.declared.refusal.ShellRefusal.{ShellRefusal}
use Rattle.sgb_script.specs.declared.refusal.ShellRefusal.TheVariants.{NoRoom, CheckWrong, Syntax, BadSpecs, LengthRange, TooLarge, BadOperand, Stuck}
use Rattle.sgb_session.specs.declared.reply.SingleReply.{SingleReply}
use Rattle.sgb_session.specs.declared.reply.SingleReply.TheVariants as replies

-- why it is refused, want of memory aside; the graph after it, what undoing it needs, and the reply
pub record Edited : Type 0 where
  pub refusal : Option Refusal
  pub graph : GraphOf
  pub delta : GraphDelta
  pub reply : SingleReply

abbrev number : ℕ → ArcNo
number k = record { 0 = k }

abbrev pub edited : GraphOf → Edit → Edited
edited g (Arc u v len) = record {
  refusal = refusal_of_arc g u.0 v.0;
  graph = with_arc g u.0 v.0 len;
  delta = kept.NewArc (number (made_of g));
  reply = replies.Arc (number (made_of g));
}
edited g (Edge u v len) = record {
  refusal = refusal_of_edge g u.0 v.0;
  graph = with_edge g u.0 v.0 len;
  delta = kept.NewEdge (number (made_of g));
  reply = replies.Edge (number (made_of g)) (number (made_of g + 1));
}
edited g (Cut k) = record {
  refusal = refusal_of_cut g k.0;
  graph = without_arc g k.0;
  delta = kept.Cut (cut_arc g k.0);
  reply = replies.Done;
}
edited g (Len k len) = record {
  refusal = refusal_of_len g k.0;
  graph = with_len g k.0 len;
  delta = kept.SetLen k (arcs.entry_at g k.0).len;
  reply = replies.Done;
}
edited g (Set place value) = record {
  refusal = refusal_of_util g place value;
  graph = with_util g place (stored value);
  delta = kept.SetUtil place (util_at g place);
  reply = replies.Done;
}
edited g (Types types) = record {
  refusal = None;
  graph = record g { types = types };
  delta = kept.SetTypes g.types;
  reply = replies.Done;
}
edited g (Label v text) = record {
  refusal = refusal_of_label g v.0;
  graph = with_label g v.0 text;
  delta = kept.SetLabel v (label_of g v.0);
  reply = replies.Done;
}
edited g (Id text) = record {
  refusal = refusal_of_id text;
  graph = record g { id = text };
  delta = kept.SetId g.id;
  reply = replies.Done;
}

abbrev pub is_text_value : Util → Bool
is_text_value utils.Zero = false
is_text_value (utils.Int z) = false
is_text_value (utils.Vertex v) = false
is_text_value (utils.Arc a) = false
is_text_value (utils.Text t) = true

-- a new arc or edge, and a text
abbrev pub edit_takes_memory : Edit → Bool
edit_takes_memory (Arc u v len) = true
edit_takes_memory (Edge u v len) = true
edit_takes_memory (Cut k) = false
edit_takes_memory (Len k len) = false
edit_takes_memory (Set place value) = is_text_value value
edit_takes_memory (Types types) = false
edit_takes_memory (Label v text) = true
edit_takes_memory (Id text) = true

-- an edit with a text
abbrev pub edit_has_text : Edit → Bool
edit_has_text (Arc u v len) = false
edit_has_text (Edge u v len) = false
edit_has_text (Cut k) = false
edit_has_text (Len k len) = false
edit_has_text (Set place value) = is_text_value value
edit_has_text (Types types) = false
edit_has_text (Label v text) = true
edit_has_text (Id text) = true

-- the session's refusal for a graph's
abbrev pub refusal_from : Refusal → ShellRefusal
refusal_from graphs.NoRoom = NoRoom
refusal_from graphs.CheckWrong = CheckWrong
refusal_from graphs.Syntax = Syntax
refusal_from graphs.BadSpecs = BadSpecs
refusal_from graphs.LengthRange = LengthRange
refusal_from graphs.TooLarge = TooLarge
refusal_from graphs.BadOperand = BadOperand
refusal_from graphs.Stuck = Stuck
