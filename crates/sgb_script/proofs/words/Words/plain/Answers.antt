use Rattle.std.proofs.Common.{◌∷◌, refl, ap, ◌∙◌}
use Rattle.std.specs.Option.{option_map}
use Rattle.sgb_script.specs.Words.{Plain}
use Rattle.sgb_script.specs.Private.Words.{seen}
use Rattle.sgb_script.proofs.words.Words.plain.Goals as goal

pub returns-in-Plain : goal.returns-in-Plain
returns-in-Plain c =
    (Plain c.in-Plain.bytes.now, refl, c.in_ok-bytes.ensures.word ∙ ap (λ w. option_map (λ ws. seen w ∷ ws) c.next.new.self) c.in-Plain.is)
