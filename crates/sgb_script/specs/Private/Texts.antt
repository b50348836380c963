-- What stands between the quotes of a printable line is a text.
use Rattle.std.specs.Prelude.{ℕ, IsTrue, List}
use Rattle.std.specs.List.{list_all}
use Rattle.sgb_graph.specs.Text.{IsText}
use Rattle.sgb_script.specs.Words.{Word, Plain, Quoted}
use Rattle.sgb_script.specs.Line.{is_printable_byte}

abbrev pub IsPrintable : List ℕ → Type 0
IsPrintable bytes = IsTrue (list_all is_printable_byte bytes)

abbrev pub IsTextIfQuoted : Word → Type 0
IsTextIfQuoted (Plain w) = Unit {0}
IsTextIfQuoted (Quoted t) = IsText t
