-- What the readers of parts answer.
use Rattle.std.specs.Prelude.{◌≡◌, ◌^◌, ◌-◌, min, ℕ, ℤ, List, Option, Some, None, Result, Ok, Err}
use Rattle.sgb_grammar.specs.declared.fault.Fault.{Fault}
use Rattle.sgb_grammar.specs.declared.fault.Fault.TheVariants.{Syntax}
use Rattle.sgb_grammar.specs.Reading.{Fails}
use denote.Ref.{Bor}

-- that and what follows it; no memory, or a fault of spelling where nothing is read
abbrev pub Reads : {A : Type 0} → Result (A × Bor (List ℕ)) Fault → Option (A × List ℕ) → Type 0
Reads (Ok p) m = m ≡ Some (p.0, p.1.now)
Reads (Err e) m = Fails e m

-- what follows what has no value, or a fault of spelling
abbrev pub Passes : Result (Bor (List ℕ)) Fault → Option (List ℕ) → Type 0
Passes (Ok rest) m = m ≡ Some rest.now
Passes (Err e) m = (e ≡ Syntax) × (m ≡ None)

-- a number alone, or a fault of spelling
abbrev pub Finds : Result ℤ Fault → Option ℤ → Type 0
Finds (Ok z) m = m ≡ Some z
Finds (Err e) m = (e ≡ Syntax) × (m ≡ None)

-- what follows the items, which are left behind a reference
abbrev pub Fills : {A : Type 0} → Result (Bor (List ℕ)) Fault → List A → Option (List A × List ℕ) → Type 0
Fills (Ok rest) xs m = m ≡ Some (xs, rest.now)
Fills (Err e) xs m = Fails e m

-- the number, cut off at 2^64 - 1, and what follows it
abbrev pub Capped : Option (ℕ × Bor (List ℕ)) → Option (ℕ × List ℕ) → Type 0
Capped (Some p) m = (n : ℕ) × (m ≡ Some (n, p.1.now)) × (p.0 ≡ min n (2 ^ 64 - 1))
Capped None m = m ≡ None
