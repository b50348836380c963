use Rattle.std.proofs.Common.{◌==◌, ◌∙◌, ap, sym, take, drop}
use Rattle.std.specs.Prelude.{◌&&◌, codes}
use Rattle.std.specs.List.{list_all}
use Rattle.std.specs.Str.{bytes_eq}
use Rattle.sgb_shell.proofs.LineBytes.{end_taken, ends_as}
use Rattle.sgb_shell.proofs.first.FirstBytes.is_end.Goals as goal

pub returns-then-is_end : goal.returns-then-is_end
returns-then-is_end c line same =
    let word = c.is_end.ensures ∙ ap (λ k. bytes_eq (take 3 k) (codes "end") && list_all (λ b. b == 32) (drop 3 k)) c.as_slice.ensures.value in
    ap (λ b. b && c.self.inside.ends) (sym c.if-is_end.true ∙ word) ∙ ap ends_as c.self.view_is ∙ end_taken line _ same

pub returns-else-is_end : goal.returns-else-is_end
returns-else-is_end c line same =
    let word = c.is_end.ensures ∙ ap (λ k. bytes_eq (take 3 k) (codes "end") && list_all (λ b. b == 32) (drop 3 k)) c.as_slice.ensures.value in
    c.if-is_end.false ∙ ap (λ b. b && c.self.inside.ends) (sym c.if-is_end.false ∙ word) ∙ ap ends_as c.self.view_is ∙ end_taken line _ same
