use Rattle.sgb_text.specs.Clean.{clean_of}
use Rattle.sgb_text.proofs.CleanSound.{clean_is_sound, clean_is_honest}
use Rattle.sgb_text.proofs.WholeTexts.{reads_back}
use Rattle.sgb_text.proofs.saving.texts_read_back.Goals as goal

pub returns-clause-cleaned : goal.returns-clause-cleaned
returns-clause-cleaned c = λ g rule sound. reads_back c.answers_are_exact.ensures.graph c.answers_are_exact.ensures.refusals c.records_law.ensures.headers c.spelling_law.ensures.spelled (clean_of g) rule (clean_is_sound g sound) (clean_is_honest g)

pub returns-clause-honest : goal.returns-clause-honest
returns-clause-honest c = reads_back c.answers_are_exact.ensures.graph c.answers_are_exact.ensures.refusals c.records_law.ensures.headers c.spelling_law.ensures.spelled
