-- Refusals: the first of several, and their numbers.
use Rattle.std.specs.Prelude.{ℕ, List, [], ◌∷◌, Bool, Option, None, Some, option_map, if◌then◌else◌}
use Rattle.sgb_import.specs.declared.refusal.ImportRefusal.{ImportRefusal}
use Rattle.sgb_import.specs.declared.refusal.ImportRefusal.TheVariants.{NoRoom, At}
use Rattle.sgb_import.specs.declared.refusal.TextFault.{TextFault}
use Rattle.sgb_import.specs.declared.refusal.TextFault.TheVariants.{NotALine, NotAnEdge, NotAnArc, NotAGraph, SecondGraph, NotAProblem, SecondProblem, NoProblem, NoSuchVertex, NotDirected, WrongEdges, WrongVertices, TooManyVertices, TooManyArcs, BadId, BadName}

-- the first of these that there is
abbrev pub first_some : {T : Type 0} → List (Option T) → Option T
first_some [] = None
first_some (None ∷ os) = first_some os
first_some (Some x ∷ os) = Some x

-- the fault, or else the later one
abbrev pub fault_unless : Bool → TextFault → Option TextFault → Option TextFault
fault_unless ok fault later = if ok then later else Some fault

-- the fault of a line
abbrev pub at_line : ℕ → Option TextFault → Option ImportRefusal
at_line line = option_map (λ fault. At line fault)

-- 20 for a text that is at fault, 40 above a limit, 60 for an id or a name
abbrev pub number_of_fault : TextFault → ℕ
number_of_fault NotALine = 20
number_of_fault NotAnEdge = 20
number_of_fault NotAnArc = 20
number_of_fault NotAGraph = 20
number_of_fault SecondGraph = 20
number_of_fault NotAProblem = 20
number_of_fault SecondProblem = 20
number_of_fault NoProblem = 20
number_of_fault NoSuchVertex = 20
number_of_fault NotDirected = 20
number_of_fault WrongEdges = 20
number_of_fault WrongVertices = 20
number_of_fault TooManyVertices = 40
number_of_fault TooManyArcs = 40
number_of_fault BadId = 60
number_of_fault BadName = 60

abbrev pub number_of : ImportRefusal → ℕ
number_of NoRoom = 1
number_of (At line fault) = number_of_fault fault
