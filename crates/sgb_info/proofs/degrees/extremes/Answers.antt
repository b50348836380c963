use Rattle.std.proofs.Common.{sym, ◌∙◌}
use Rattle.std.proofs.lemmas.Iterator.{YieldsList-from_slice}
use Rattle.std.proofs.lemmas.Iterator.Adapters.{option_map_id}
use Rattle.std.proofs.lemmas.Iterator.Consumers.{YieldsList-from_copied, min_from_yields_List, max_from_yields_List}
use Rattle.sgb_info.proofs.degrees.extremes.Goals as goal

pub returns-clause-least : goal.returns-clause-least
returns-clause-least c = sym (option_map_id _) ∙ min_from_yields_List _ _ c.min.ensures.ran (YieldsList-from_copied (YieldsList-from_slice c.args.degrees.now cc))

pub returns-clause-greatest : goal.returns-clause-greatest
returns-clause-greatest c = sym (option_map_id _) ∙ max_from_yields_List _ _ c.max.ensures.ran (YieldsList-from_copied (YieldsList-from_slice c.args.degrees.now cc))
