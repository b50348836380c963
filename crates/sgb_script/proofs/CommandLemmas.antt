-- The words of the commands.
use Rattle.std.proofs.Common.{◌≡◌, ℕ, List, [], ◌∷◌, Option, None, Some, Result, Ok, Err, true, false, refl, sym, ap, ◌∙◌, subst, inl}
use Rattle.std.specs.Option.{option_and_then}
use Rattle.std.specs.Str.{bytes_eq}
use Rattle.std.proofs.lemmas.Slice.Eq.{bytes_eq-Decides}
use Rattle.sgb_script.specs.Words.{Word}
use Rattle.sgb_script.specs.Commands.{line_of_command}
use Rattle.sgb_script.specs.Private.Reading.{Reads}
use Rattle.sgb_script.specs.Private.Words.{Finishes}
use Rattle.sgb_script.specs.declared.command.Line.{Line}
use Rattle.sgb_script.specs.declared.refusal.ShellRefusal.{ShellRefusal}

-- a word is read as the command that it equals
reads_as : (word command : List ℕ) (words : Option (List Word)) (result : Result Line ShellRefusal) → bytes_eq word command ≡ true
    → Reads (option_and_then (line_of_command command) words) result → Reads (option_and_then (line_of_command word) words) result
reads_as word command words result same reads =
    subst (λ w. Reads (option_and_then (line_of_command w) words) result) (sym ((bytes_eq-Decides word command).0 same)) reads

-- a command without arguments
ended : (command : List ℕ) (line : Line) (words : Option (List Word)) (result : Result Line ShellRefusal) → line_of_command command [] ≡ Some line
    → ((w : Word) (ws : List Word) → line_of_command command (w ∷ ws) ≡ None) → Finishes words line result
    → Reads (option_and_then (line_of_command command) words) result
ended command line words (Ok l) only more done = ap (option_and_then (line_of_command command)) done.0 ∙ (only ∙ ap Some (sym done.1))
ended command line None (Err e) only more left = inl (left.0, refl)
ended command line (Some []) (Err e) only more left = absurd (let bad : true ≡ false = left.1 in cc)
ended command line (Some (w ∷ ws)) (Err e) only more left = inl (left.0, more w ws)

pub reads_end : (word command : List ℕ) (line : Line) (words : Option (List Word)) (result : Result Line ShellRefusal) → bytes_eq word command ≡ true
    → line_of_command command [] ≡ Some line → ((w : Word) (ws : List Word) → line_of_command command (w ∷ ws) ≡ None) → Finishes words line result
    → Reads (option_and_then (line_of_command word) words) result
reads_end word command line words result same only more done = reads_as word command words result same (ended command line words result only more done)
