use Rattle.std.proofs.Common.{◌++◌, ◌∷◌, [], length, ap, ◌∙◌}
use Rattle.sgb_text.specs.Layout.{cut}
use Rattle.sgb_text.proofs.Cuts.{long_page}
use Rattle.sgb_text.proofs.page.Page.put_long.Goals as goal

pub returns : goal.returns
returns c =
    let mark = c.args.mark.now in
    let left = c.split_at.result.1.now ++ c.args.end.now in
    let first = c.split_at.result.0.now in
    long_page c.args.self.now _ _ mark c.args.bytes.now first c.split_at.result.1.now c.args.end.now c.self.view_is c.requires.mark c.requires.end c.requires.long
    c.split_at.ensures.front c.split_at.ensures.back
    (c.in_ok-self-inside.ensures.text
    ∙ ap (λ t. t ++ cut (length left) left) (c.in_ok-extend_from_slice-3.ensures.items
    ∙ ap (λ t. t ++ (92 ∷ 10 ∷ [])) (c.in_ok-extend_from_slice-2.ensures.items ∙ ap (λ t. t ++ first) c.in_ok-extend_from_slice.ensures.items)))
    c.in_ok-self-inside.ensures.column
