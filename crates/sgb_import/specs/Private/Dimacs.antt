-- How a text of DIMACS is read, line by line.
use Rattle.std.specs.Prelude.{◌≡◌, ◌≤◌, ◌⊎◌, ◌-◌, ◌^◌, ◌++◌, ℕ, List, map, length, min, Option, None, Some, option_map, Result, Ok, Err, MatchOption, is_some, true, ⊤}
use Rattle.std.specs.Option.{option_or, option_to_list}
use Rattle.sgb_graph.specs.Builder.{Insertion, insertion}
use Rattle.sgb_import.specs.Dimacs.{fault_said, problem_said, problem_of, link_in, links_in, from_one}
use Rattle.sgb_import.specs.Lines.{LineOf, words}
use Rattle.sgb_import.specs.Refusal.{at_line}
use Rattle.sgb_import.specs.Private.Outlined.{insertion_of}
use Rattle.sgb_import.specs.declared.dimacs.Reader.{Reader}
use Rattle.sgb_import.specs.declared.dimacs_line.Problem.{Problem}
use Rattle.sgb_import.specs.declared.dimacs_line.Ends.{Ends}
use Rattle.sgb_import.specs.declared.dimacs_step.Step.{Step}
use Rattle.sgb_import.specs.declared.dimacs_step.Step.TheVariants.{Nothing, Begin, Add}
use Rattle.sgb_import.specs.declared.outline.Link.{Link}
use Rattle.sgb_import.specs.declared.refusal.ImportRefusal.{ImportRefusal}
use Rattle.sgb_import.specs.declared.refusal.ImportRefusal.TheVariants.{NoRoom}
use Rattle.sgb_import.specs.declared.refusal.TextFault.{TextFault}
use denote.Ref.{Bor}

-- what becomes of a number of more than 64 bits
abbrev pub cap : ℕ → ℕ
cap n = min n (2 ^ 64 - 1)

abbrev pub capped : Problem → Problem
capped p = record p { vertices = cap p.vertices; links = cap p.links }

abbrev pub capped_ends : Insertion → Insertion
capped_ends e = insertion (cap e.from) (cap e.to) e.len

abbrev pub ends_in : Ends → Insertion
ends_in e = insertion e.from e.to e.len

abbrev pub bytes_of_two : Bor (List ℕ) × Bor (List ℕ) → List ℕ × List ℕ
bytes_of_two p = (p.0.now, p.1.now)

abbrev pub bytes_of_three : Bor (List ℕ) × Bor (List ℕ) × Bor (List ℕ) → List ℕ × List ℕ × List ℕ
bytes_of_three p = (p.0.now, p.1.now, p.2.now)

-- a problem that is begun has few vertices
abbrev pub IsFew : Option Problem → Type 0
IsFew o = MatchOption o ⊤ (λ p. p.vertices ≤ 65535)

-- the problem that a step begins
abbrev pub begun : Step → Option Problem
begun Nothing = None
begun (Begin p) = Some p
begun (Add l) = None

-- the arc or edge that it adds
abbrev pub added : Step → Option Insertion
added Nothing = None
added (Begin p) = None
added (Add l) = Some (insertion_of l)

-- there is this fault, or a step to this problem or this arc or edge
abbrev pub Steps : Option TextFault → Option Problem → Option Insertion → Result Step TextFault → Type 0
Steps fault p e (Ok s) = (fault ≡ None) × (begun s ≡ p) × (added s ≡ option_map from_one e) × IsFew (begun s)
Steps fault p e (Err f) = fault ≡ Some f

-- the same of one arc or edge
abbrev pub MakesLink : Option TextFault → Insertion → Result Link TextFault → Type 0
MakesLink fault e (Ok l) = (fault ≡ None) × (insertion_of l ≡ from_one e)
MakesLink fault e (Err f) = fault ≡ Some f

-- what the lines said so far
pub record Read : Type 0 where
  pub problem : Option Problem
  pub links : List Insertion

abbrev pub fault_in : Read → LineOf → Option TextFault
fault_in r l = fault_said r.problem (length r.links) l.number (words l.bytes)

-- a line is read, or is at fault, or there is no room for the arc or edge that it says
abbrev pub Takes : Read → LineOf → Result (Unit {0}) ImportRefusal → Read → Type 0
Takes old l (Ok u) new =
    (fault_in old l ≡ None) × (new.problem ≡ option_or (option_map capped (problem_said l.number (words l.bytes))) old.problem) × (new.links ≡ old.links ++ option_to_list (link_in l))
Takes old l (Err e) new = ((e ≡ NoRoom) × (is_some (link_in l) ≡ true)) ⊎ (at_line l.number (fault_in old l) ≡ Some e)

abbrev pub read_in : Reader → Read
read_in r = record { problem = r.problem; links = map insertion_of r.links.items }

-- what these lines say
abbrev pub read_of : List LineOf → Read
read_of ls = record { problem = option_map capped (problem_of ls); links = links_in ls }

-- these lines were read, and none is at fault
abbrev pub HasRead : List LineOf → Reader → Type 0
HasRead ls r = (read_in r ≡ read_of ls) × IsFew r.problem × (r.last ≡ length ls)
