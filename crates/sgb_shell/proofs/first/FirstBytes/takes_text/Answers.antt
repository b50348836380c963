use Rattle.std.proofs.Common.{◌∙◌, ap, take}
use Rattle.std.specs.Prelude.{◌||◌, codes}
use Rattle.std.specs.Str.{bytes_eq}
use Rattle.sgb_shell.proofs.LineBytes.{text_taken}
use Rattle.sgb_shell.proofs.first.FirstBytes.takes_text.Goals as goal

pub returns : goal.returns
returns c line same =
    let bytes = c.front.ensures ∙ ap (take 5) (c.as_slice.ensures.value ∙ ap (λ k. k.bytes) c.self.view_is) in
    c.is_load.ensures ∙ ap (λ k. bytes_eq k (codes "load") || bytes_eq k (codes "load ")) bytes ∙ text_taken line _ same
