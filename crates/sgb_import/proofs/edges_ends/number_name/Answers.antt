use Rattle.std.proofs.Common.{◌∙◌}
use Rattle.sgb_import.proofs.EdgeNames.{name_added, name_place}
use Rattle.sgb_import.proofs.edges_ends.number_name.Goals as goal

pub returns-clause-names : goal.returns-clause-names
returns-clause-names c = name_added c.args.words.now.keys c.insert_full.new.self.keys c.args.name c.in_ok-place.ensures.keys

pub returns-clause-place : goal.returns-clause-place
returns-clause-place c = c.in_ok-place.ensures.index ∙ name_place c.args.words.now.keys c.args.name.now
