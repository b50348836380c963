-- Readers: what the bytes begin with, and what follows it.
use Rattle.std.specs.Prelude.{◌≡◌, ◌⊎◌, ℕ, ◌==◌, List, [], ◌∷◌, ◌++◌, Option, Some, None, option_and_then, Result, Ok, Err, if◌then◌else◌}
use Rattle.std.specs.Option.{option_map}
use Rattle.sgb_grammar.specs.declared.fault.Fault.{Fault}
use Rattle.sgb_grammar.specs.declared.fault.Fault.TheVariants.{NoRoom, Syntax}
use denote.Ref.{Bor}

infixl 10 ◌>>=◌
abbrev pub ◌>>=◌ : {A B : Type 0} → Option A → (A → Option B) → Option B
o >>= f = option_and_then f o

-- what follows the word, where the bytes begin with it
unfoldable pub after : List ℕ → List ℕ → Option (List ℕ)
after [] bs = Some bs
after (c ∷ cs) [] = None
after (c ∷ cs) (b ∷ bs) = if b == c then after cs bs else None

-- these items stand before the ones that are read
abbrev pub behind : {A : Type 0} → List A → Option (List A × List ℕ) → Option (List A × List ℕ)
behind xs m = option_map (λ p. (xs ++ p.0, p.1)) m

-- one item of each kind, in order
unfoldable pub each_at : {A B : Type 0} → (A → List ℕ → Option (B × List ℕ)) → List A → List ℕ → Option (List B × List ℕ)
each_at item [] bs = Some ([], bs)
each_at item (k ∷ ks) bs = option_and_then (λ p. behind (p.0 ∷ []) (each_at item ks p.1)) (item k bs)

-- ---- what a reader answers

-- that and what follows it, or a fault of spelling where nothing is read
abbrev pub Spells : {A : Type 0} → Result (A × Bor (List ℕ)) Fault → Option (A × List ℕ) → Type 0
Spells (Ok p) m = m ≡ Some (p.0, p.1.now)
Spells (Err e) m = (e ≡ Syntax) × (m ≡ None)

-- no memory, or a fault of spelling where nothing is read
abbrev pub Fails : {A : Type 0} → Fault → Option A → Type 0
Fails e m = (e ≡ NoRoom) ⊎ ((e ≡ Syntax) × (m ≡ None))
