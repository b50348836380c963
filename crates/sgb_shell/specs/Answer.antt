-- What is printed for an answer.
use Rattle.std.specs.Prelude.{ℕ, List, [], ◌++◌, length, codes, Option, None, Some, slice_get}
use Rattle.std.specs.List.{flat_map}
use Rattle.std.specs.Fmt.{decimal}
use Rattle.sgb_graph.specs.Graph.{n_of, m_of}
use Rattle.sgb_print.specs.Show.{made_text, graph_text}
use Rattle.sgb_script.specs.declared.refusal.ShellRefusal.{ShellRefusal}
use Rattle.sgb_script.specs.Refusal.{number_of, text_of}
use Rattle.sgb_shell.specs.declared.answer.Answer.{Answer}
use Rattle.sgb_shell.specs.declared.answer.Answer.TheVariants as answers
use Rattle.sgb_session.specs.declared.reply.Reply.{Reply}
use Rattle.sgb_session.specs.declared.reply.Reply.TheVariants as replies
use Rattle.sgb_session.specs.declared.reply.SingleReply.{SingleReply}
use Rattle.sgb_session.specs.declared.reply.SingleReply.TheVariants.{Done, Number, Made, Arc, Edge}
use Rattle.sgb_session.specs.declared.table.Entry.{Entry}
use Rattle.sgb_session.specs.Drawing.{generator_of}
use Rattle.sgb_session.specs.State.{State}

abbrev pub single_text : SingleReply → List ℕ
single_text Done = codes "ok\n"
single_text (Number n) = decimal n ++ codes "\n"
single_text (Made name n m) = made_text name n m
single_text (Arc k) = codes "A" ++ decimal k.0 ++ codes "\n"
single_text (Edge j k) = codes "A" ++ decimal j.0 ++ codes " A" ++ decimal k.0 ++ codes "\n"

abbrev pub grouped_count_text : ℕ → List ℕ
grouped_count_text n = codes "grouped " ++ decimal n ++ codes "\n"

-- the replies of a group's members, and how many they are
abbrev pub reply_text : Reply → List ℕ
reply_text (replies.One reply) = single_text reply
reply_text (replies.Group members) = flat_map single_text members ++ grouped_count_text (length members)

abbrev pub generator_text : State → List ℕ
generator_text s =
    codes "seed " ++ decimal s.generator.seed ++ codes ", draws " ++ decimal s.generator.draws
    ++ codes ", unread " ++ decimal (generator_of s.generator).unread ++ codes "\n"

-- a graph of the table, as it is listed
abbrev pub entry_text : Entry → List ℕ
entry_text e = made_text e.name (n_of e.graph) (m_of e.graph)

abbrev pub count_text : ℕ → List ℕ
count_text n = decimal n ++ codes " graphs\n"

abbrev pub list_text : State → List ℕ
list_text s = count_text (length s.table) ++ flat_map entry_text s.table

abbrev pub shown_entry : Option Entry → List ℕ
shown_entry None = []
shown_entry (Some e) = graph_text e.graph

-- the graph at a place
abbrev pub shown_text : State → ℕ → List ℕ
shown_text s i = shown_entry (slice_get s.table i)

abbrev pub refusal_text : ℕ → ShellRefusal → List ℕ
refusal_text n r = codes "line " ++ decimal n ++ codes ": refused " ++ decimal (number_of r) ++ codes " " ++ text_of r ++ codes "\n"

-- what is printed for the unit of a number, at the state after it
abbrev pub answer_text : ℕ → State → Answer → List ℕ
answer_text n s answers.Silent = []
answer_text n s answers.Undone = codes "undone\n"
answer_text n s (answers.Replied reply) = reply_text reply
answer_text n s answers.Generator = generator_text s
answer_text n s answers.Graphs = list_text s
answer_text n s (answers.Graph i) = shown_text s i
answer_text n s (answers.Saved saved) = saved.text ++ codes "cleaned " ++ decimal saved.cleaned ++ codes "\n"
answer_text n s (answers.Refused r) = refusal_text n r
