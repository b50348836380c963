use Rattle.sgb_info.proofs.ComponentLemmas.{one_count}
use Rattle.sgb_info.proofs.component.components_law.Goals as goal

pub returns : goal.returns
returns c = record { one = one_count }
