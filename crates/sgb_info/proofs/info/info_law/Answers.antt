use Rattle.sgb_info.proofs.OneText.{one_text}
use Rattle.sgb_info.proofs.info.info_law.Goals as goal

pub returns : goal.returns
returns c = record { one = one_text c.components_law.ensures.one }
