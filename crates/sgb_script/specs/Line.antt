-- The lines of the language.
use Rattle.std.specs.Prelude.{ℕ, ◌==◌, nat_lt, nat_le, Bool, true, false, not, ◌&&◌, ◌||◌, if◌then◌else◌, List, [], ◌∷◌, length, slice_index, Option, None, Some, option_and_then}
use Rattle.std.specs.List.{list_all}
use Rattle.sgb_graph.specs.declared.field.Util.TheVariants as utils
use Rattle.sgb_script.specs.Words.{Word, Plain, Quoted, words_of}
use Rattle.sgb_script.specs.Commands.{line_of_command}
use Rattle.sgb_script.specs.declared.command.Single.TheVariants.{Make, Edit}
use Rattle.sgb_script.specs.declared.command.Edit.TheVariants.{Set, Label, Id}
use Rattle.sgb_script.specs.declared.command.Maker.TheVariants as makers
use Rattle.sgb_script.specs.declared.command.Line.{Line}
use Rattle.sgb_script.specs.declared.command.Line.TheVariants.{Nothing, Change}

-- the line that these words make
abbrev pub line_of_words : List Word → Option Line
line_of_words [] = Some Nothing
line_of_words (Plain w ∷ ws) = line_of_command w ws
line_of_words (Quoted t ∷ ws) = None

abbrev pub is_printable_byte : ℕ → Bool
is_printable_byte b = nat_le 32 b && nat_le b 126

-- a line has at most 8,192 bytes, all printable; one that begins with # is a comment
unfoldable pub line_of : List ℕ → Option Line
line_of line =
    if nat_lt 8192 (length line) || not (list_all is_printable_byte line) then None
    else (if slice_index line 0 == 35 then Some Nothing else option_and_then line_of_words (words_of line))

-- ---- memory

-- whether a line has a text, for which memory is allocated
abbrev pub has_text : Line → Bool
has_text (Change (Edit g (Set p (utils.Text t)))) = true
has_text (Change (Edit g (Label v t))) = true
has_text (Change (Edit g (Id t))) = true
has_text (Change (Make name (makers.Induced g t spec))) = true
has_text (Change (Make name (makers.Load t rule))) = true
has_text line = false

abbrev pub takes_memory : Option Line → Bool
takes_memory None = false
takes_memory (Some line) = has_text line
