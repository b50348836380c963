use Rattle.std.proofs.Common.{◌∷◌, refl, ap, ◌∙◌}
use Rattle.std.specs.Option.{option_map}
use Rattle.sgb_script.specs.Words.{Quoted}
use Rattle.sgb_script.specs.Private.Words.{seen}
use Rattle.sgb_script.proofs.words.Words.text.Goals as goal

pub returns-in-Quoted-clause-word : goal.returns-in-Quoted-clause-word
returns-in-Quoted-clause-word c =
    (Quoted c.in-Quoted.text.now, refl, c.in_ok-text.ensures.word ∙ ap (λ w. option_map (λ ws. seen w ∷ ws) c.next.new.self) c.in-Quoted.is)
