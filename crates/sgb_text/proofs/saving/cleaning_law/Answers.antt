use Rattle.sgb_text.proofs.CleanSound.{clean_is_sound, clean_is_honest, honest_stays, honest_spotless}
use Rattle.sgb_text.proofs.saving.cleaning_law.Goals as goal

pub returns-clause-sound : goal.returns-clause-sound
returns-clause-sound c = clean_is_sound

pub returns-clause-honest : goal.returns-clause-honest
returns-clause-honest c = clean_is_honest

pub returns-clause-same : goal.returns-clause-same
returns-clause-same c = λ g sound honest. honest_stays g honest sound

pub returns-clause-none : goal.returns-clause-none
returns-clause-none c = honest_spotless
