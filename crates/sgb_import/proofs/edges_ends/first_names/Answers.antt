use Rattle.std.proofs.Common.{[], Some, None, ap, sym, ◌∙◌, map}
use Rattle.sgb_import.specs.Edges.{names_of}
use Rattle.sgb_import.specs.Private.Outlined.{bytes_of}
use Rattle.sgb_import.proofs.EdgesSoFar.{no_words, no_numbers}
use Rattle.sgb_import.proofs.edges_ends.first_names.Goals as goal

pub returns-then-list-clause-names : goal.returns-then-list-clause-names
returns-then-list-clause-names c = ap (map bytes_of) c.new.ensures.empty ∙ no_words c.args.list c.args.header c.if-list.true

pub returns-in-Some-clause-names : goal.returns-in-Some-clause-names
returns-in-Some-clause-names c = sym (ap (λ h. names_of c.args.list h []) c.in-Some.is ∙ no_numbers c.args.list (Some c.in-Some.header) c.if-list.false)

pub returns-in-None-clause-names : goal.returns-in-None-clause-names
returns-in-None-clause-names c = sym (ap (λ h. names_of c.args.list h []) c.in-None.is ∙ no_numbers c.args.list None c.if-list.false)
