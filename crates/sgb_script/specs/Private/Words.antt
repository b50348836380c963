-- How the words of a line are taken off, from the left.
use Rattle.std.specs.Prelude.{◌≡◌, ℕ, Bool, true, false, ◌⊎◌, List, [], ◌∷◌, Option, None, Some, Result, Ok, Err}
use Rattle.std.specs.Option.{option_map}
use Rattle.sgb_script.specs.Words.{Word, Plain, Quoted, words_of}
use Rattle.sgb_script.specs.declared.words.Word.TheVariants as borrowed
use Rattle.sgb_script.specs.declared.words.Word as borrowed_word
use Rattle.sgb_script.specs.declared.command.Line.{Line}
use Rattle.sgb_script.specs.declared.refusal.ShellRefusal.{ShellRefusal}
use Rattle.sgb_script.specs.declared.refusal.ShellRefusal.TheVariants.{ScriptSyntax}
use denote.Ref.{Bor}

-- a word of the program, which borrows its bytes from the line
abbrev pub seen : borrowed_word.Word → Word
seen (borrowed.Plain w) = Plain w.now
seen (borrowed.Quoted t) = Quoted t.now

-- the first word and the bytes behind it, or nothing if there is no word or the line is malformed
abbrev pub Splits : Option (List Word) → Option (borrowed_word.Word × Bor (List ℕ)) → Type 0
Splits words None = (words ≡ None) ⊎ (words ≡ Some [])
Splits words (Some r) = words ≡ option_map (λ ws. seen r.0 ∷ ws) (words_of r.1.now)

-- no word is left
abbrev pub is_nothing : Option (List Word) → Bool
is_nothing None = false
is_nothing (Some []) = true
is_nothing (Some (w ∷ ws)) = false

-- what the first word says, read as this argument
abbrev pub first_of : {A : Type 0} → (Word → Option A) → Option (List Word) → Option A
first_of f None = None
first_of f (Some []) = None
first_of f (Some (w ∷ ws)) = f w

-- takes the first word off, read as this argument
abbrev pub Takes : {A : Type 0} → (Word → Option A) → Option (List Word) → Result A ShellRefusal → Option (List Word) → Type 0
Takes f old (Ok a) new = (w : Word) × (f w ≡ Some a) × (old ≡ option_map (λ ws. w ∷ ws) new)
Takes f old (Err e) new = (e ≡ ScriptSyntax) × (first_of f old ≡ None)

-- takes the first word off, read as bytes of the line
abbrev pub TakesBytes : (Word → Option (List ℕ)) → Option (List Word) → Result (Bor (List ℕ)) ShellRefusal → Option (List Word) → Type 0
TakesBytes f old (Ok a) new = (w : Word) × (f w ≡ Some a.now) × (old ≡ option_map (λ ws. w ∷ ws) new)
TakesBytes f old (Err e) new = (e ≡ ScriptSyntax) × (first_of f old ≡ None)

-- takes the first word off
abbrev pub TakesWord : Option (List Word) → Result borrowed_word.Word ShellRefusal → Option (List Word) → Type 0
TakesWord old (Ok w) new = old ≡ option_map (λ ws. seen w ∷ ws) new
TakesWord old (Err e) new = (e ≡ ScriptSyntax) × ((old ≡ None) ⊎ (old ≡ Some []))

-- refuses any word that is left
abbrev pub Ends : Option (List Word) → Result (Unit {0}) ShellRefusal → Type 0
Ends words (Ok u) = words ≡ Some []
Ends words (Err e) = (e ≡ ScriptSyntax) × (is_nothing words ≡ false)

-- this line, unless a word is left
abbrev pub Finishes : Option (List Word) → Line → Result Line ShellRefusal → Type 0
Finishes words line (Ok l) = (words ≡ Some []) × (l ≡ line)
Finishes words line (Err e) = (e ≡ ScriptSyntax) × (is_nothing words ≡ false)

-- the bytes of a word without quotes
abbrev pub the_plain : Word → Option (List ℕ)
the_plain (Plain w) = Some w
the_plain (Quoted t) = None
