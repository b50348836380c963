-- Which graph a text spells, and when a text is refused.
use Rattle.std.specs.Prelude.{◌≡◌, ◌⊎◌, ◌&&◌, ◌==◌, ℕ, nat_le, ℤ, pos, negsuc, Bool, true, false, List}
use Rattle.sgb_graph.specs.Graph.{GraphOf}
use Rattle.sgb_graph.specs.Parts.{Builds}
use Rattle.sgb_graph.specs.declared.refusal.Refusal.{Refusal}
use Rattle.sgb_graph.specs.declared.refusal.Refusal.TheVariants.{NoRoom, TooLarge, BadOperand, CheckWrong, Syntax, BadSpecs, LengthRange, Stuck}
use Rattle.sgb_grammar.specs.declared.header.Header.{Header}
use Rattle.sgb_grammar.specs.Saved.{SavedOf}
use Rattle.sgb_grammar.specs.Spelled.{FirstLine, SavedText, HasNoFirstLine}
use Rattle.sgb_grammar.specs.Check.{check_of}
use Rattle.sgb_text.specs.declared.restoring.CheckRule.{CheckRule}
use Rattle.sgb_text.specs.declared.restoring.CheckRule.TheVariants.{Match, Any}

-- at most 65,535 vertices and 1,000,000 arc numbers
abbrev pub is_within_limits : Header → Bool
is_within_limits h = nat_le h.vertices 65535 && nat_le h.arcs 1000000

-- the text spells the graph: its first line is good and within the limits, and the parts behind it are the graph's
pub record Reads (t : List ℕ) (g : GraphOf) (s : SavedOf) : Type 0 where
  pub header : Header
  pub lines : List ℕ
  pub first : FirstLine header t lines
  pub within : is_within_limits header ≡ true
  pub spelled : SavedText header s lines
  pub graph : Builds s.parts g

-- the rule allows the number under this body: a negative one is not compared
abbrev pub passes : CheckRule → ℤ → List ℕ → Bool
passes Any c body = true
passes Match (negsuc n) body = true
passes Match (pos n) body = n == check_of body

-- the text is read as the graph
pub record Accepted (rule : CheckRule) (t : List ℕ) (g : GraphOf) : Type 0 where
  pub saved : SavedOf
  pub reads : Reads t g saved
  pub passed : passes rule saved.number saved.body ≡ true

-- no graph is spelled
abbrev pub IsSpoiled : List ℕ → Type 0
IsSpoiled t = (g : GraphOf) (s : SavedOf) → Reads t g s → ⊥

-- the first line is good, and a count in it is above the limits, or none is
pub record HasHeader (t : List ℕ) (within : Bool) : Type 0 where
  pub header : Header
  pub lines : List ℕ
  pub first : FirstLine header t lines
  pub limits : is_within_limits header ≡ within

-- a graph is spelled, and the rule does not allow its check number
pub record IsWrong (rule : CheckRule) (t : List ℕ) : Type 0 where
  pub graph : GraphOf
  pub saved : SavedOf
  pub reads : Reads t graph saved
  pub failed : passes rule saved.number saved.body ≡ false

-- What each refusal says of the text. An allocation fails only behind a good first line within the limits.
abbrev pub Refused : CheckRule → List ℕ → Refusal → Type 0
Refused rule t NoRoom = HasHeader t true
Refused rule t Syntax = HasNoFirstLine t ⊎ (HasHeader t true × IsSpoiled t)
Refused rule t TooLarge = HasHeader t false
Refused rule t CheckWrong = IsWrong rule t
Refused rule t BadOperand = ⊥
Refused rule t BadSpecs = ⊥
Refused rule t LengthRange = ⊥
Refused rule t Stuck = ⊥

-- a text has one graph
abbrev pub IsReadAsOne : Type 0
IsReadAsOne = (rule other : CheckRule) (t : List ℕ) (g h : GraphOf) → Accepted rule t g → Accepted other t h → g ≡ h

-- a text that is accepted is refused by nothing but want of memory
abbrev pub IsRefusedForRoom : Type 0
IsRefusedForRoom = (rule : CheckRule) (t : List ℕ) (g : GraphOf) (e : Refusal) → Accepted rule t g → Refused rule t e → e ≡ NoRoom
