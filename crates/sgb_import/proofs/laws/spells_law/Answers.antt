use Rattle.std.proofs.Common.{sym, ◌∙◌}
use Rattle.sgb_import.proofs.laws.spells_law.Goals as goal

pub returns : goal.returns
returns c = record { one = λ source text g h a b. a.1 ∙ sym b.1 }
