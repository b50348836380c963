-- What a check prints of a saved text.
use Rattle.std.specs.Prelude.{◌≡◌, ℕ, List, ◌++◌, codes, Bool, Result, Ok, Err, is_ok, IfOk}
use Rattle.std.specs.Fmt.{decimal}
use Rattle.sgb_graph.specs.declared.refusal.Refusal.{Refusal}
use Rattle.sgb_graph.specs.Graph.{GraphOf, n_of, m_of, made_of}
use Rattle.sgb_graph.specs.Refusal.{number_of, text_of}
use Rattle.sgb_print.specs.Meter.{WriterUse}
use Rattle.sgb_print.specs.Print.{Prints}
use Rattle.sgb_print.specs.Show.{quoted}
use Rattle.sgb_print.specs.declared.fault.RunFault.{RunFault}
use Rattle.sgb_text.specs.declared.restoring.CheckRule.{CheckRule}
use Rattle.sgb_text.specs.Read.{read_as}
use Rattle.sgb_programs.specs.Ends.{UnlessNoRoom}

-- the id in quotes, and the counts
abbrev pub checked_text : GraphOf → List ℕ
checked_text g =
    quoted g.id ++ codes "\n"
    ++ decimal (n_of g) ++ codes " vertices, " ++ decimal (m_of g) ++ codes " arcs, " ++ decimal (made_of g) ++ codes " numbers\n"

abbrev pub refused_text : Refusal → List ℕ
refused_text e = codes "refused " ++ decimal (number_of e) ++ codes " " ++ text_of e ++ codes "\n"

-- what is printed of the graph that a text is read as, or of its refusal
abbrev pub told_of : Result GraphOf Refusal → List ℕ
told_of (Ok g) = checked_text g
told_of (Err e) = refused_text e

-- what a check does to its writer: the text or its refusal is told, and whether the text is accepted is the answer
abbrev pub Checks : {W : Type 0} → CheckRule → List ℕ → WriterUse W → WriterUse W → Result Bool RunFault → Type 0
Checks rule text old new result =
    UnlessNoRoom old new result (IfOk result (λ accepted. accepted ≡ is_ok (read_as rule text)) × Prints old new result (told_of (read_as rule text)))
