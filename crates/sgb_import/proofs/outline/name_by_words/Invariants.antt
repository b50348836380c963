use Rattle.std.proofs.Common.{map}
use Rattle.sgb_plan.proofs.Plans.{NamesOf}
use Rattle.sgb_import.specs.Outline.{named}
use Rattle.sgb_import.specs.Private.Outlined.{bytes_of}
use Rattle.sgb_import.proofs.outline.name_by_words.Given as goal

abbrev pub invariant-loop-word : goal.invariant-loop-word
invariant-loop-word l = NamesOf l.fn.builder (map named (map bytes_of l.words)) l.builder named (map bytes_of l.words) l.word-index
