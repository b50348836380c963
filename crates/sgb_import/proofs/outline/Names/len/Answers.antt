use Rattle.std.proofs.Common.{◌∙◌, length, ap, sym}
use Rattle.std.specs.Fmt.{decimal}
use Rattle.std.proofs.lemmas.List.FromFn.{length-map-range_with_len}
use Rattle.sgb_import.specs.Private.Outlined.{names_in}
use Rattle.sgb_import.proofs.outline.Names.len.Goals as goal

pub returns-in-Numbers : goal.returns-in-Numbers
returns-in-Numbers c = sym (length-map-range_with_len decimal _ c.in-Numbers.count) ∙ ap (λ ns. length (names_in ns)) (sym c.in-Numbers.is)
