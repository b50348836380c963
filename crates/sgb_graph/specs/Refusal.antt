-- The number and the text of a refusal.
use Rattle.std.specs.Prelude.{ℕ, List, codes}
use Rattle.sgb_graph.specs.declared.refusal.Refusal.{Refusal}
use Rattle.sgb_graph.specs.declared.refusal.Refusal.TheVariants.{NoRoom, CheckWrong, Syntax, BadSpecs, LengthRange, TooLarge, BadOperand, Stuck}

abbrev pub number_of : Refusal → ℕ
number_of NoRoom = 1
number_of CheckWrong = 11
number_of Syntax = 20
number_of BadSpecs = 30
number_of LengthRange = 31
number_of TooLarge = 40
number_of BadOperand = 60
number_of Stuck = 106

abbrev pub text_of : Refusal → List ℕ
text_of NoRoom = codes "no room"
text_of CheckWrong = codes "check number is wrong"
text_of Syntax = codes "bad saved graph"
text_of BadSpecs = codes "bad specification"
text_of LengthRange = codes "length range too wide"
text_of TooLarge = codes "too large"
text_of BadOperand = codes "bad operand"
text_of Stuck = codes "stuck"
