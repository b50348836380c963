-- The refusals' numbers and texts.
use Rattle.std.specs.Prelude.{ℕ, Bool, ◌==◌, List, codes}
use Rattle.sgb_script.specs.declared.refusal.ShellRefusal.{ShellRefusal}
use Rattle.sgb_script.specs.declared.refusal.ShellRefusal.TheVariants.{NoRoom, CheckWrong, Syntax, BadSpecs, LengthRange, TooLarge, NoGraph, BadOperand, ScriptSyntax, TableFull, NameTaken, NothingToUndo, NothingToRedo, JournalFull, Stuck}

abbrev pub number_of : ShellRefusal → ℕ
number_of NoRoom = 1
number_of CheckWrong = 11
number_of Syntax = 20
number_of BadSpecs = 30
number_of LengthRange = 31
number_of TooLarge = 40
number_of NoGraph = 50
number_of BadOperand = 60
number_of ScriptSyntax = 100
number_of TableFull = 101
number_of NameTaken = 102
number_of NothingToUndo = 103
number_of NothingToRedo = 104
number_of JournalFull = 105
number_of Stuck = 106

abbrev pub text_of : ShellRefusal → List ℕ
text_of NoRoom = codes "no room"
text_of CheckWrong = codes "check number is wrong"
text_of Syntax = codes "bad saved graph"
text_of BadSpecs = codes "bad specification"
text_of LengthRange = codes "length range too wide"
text_of TooLarge = codes "too large"
text_of NoGraph = codes "no such graph"
text_of BadOperand = codes "bad operand"
text_of ScriptSyntax = codes "bad command"
text_of TableFull = codes "table is full"
text_of NameTaken = codes "name is taken"
text_of NothingToUndo = codes "nothing to undo"
text_of NothingToRedo = codes "nothing to redo"
text_of JournalFull = codes "journal is full"
text_of Stuck = codes "stuck"

-- want of memory is refusal 1 alone
abbrev pub is_no_room : ShellRefusal → Bool
is_no_room r = number_of r == 1
