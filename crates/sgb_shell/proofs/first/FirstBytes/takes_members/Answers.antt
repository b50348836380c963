use Rattle.std.proofs.Common.{◌∙◌, ap}
use Rattle.std.specs.Prelude.{◌||◌, codes}
use Rattle.std.specs.Str.{bytes_eq}
use Rattle.sgb_shell.proofs.LineBytes.{members_taken}
use Rattle.sgb_shell.proofs.first.FirstBytes.takes_members.Goals as goal

pub returns : goal.returns
returns c line same =
    let bytes = c.as_slice.ensures.value ∙ ap (λ k. k.bytes) c.self.view_is in
    c.is_group.ensures ∙ ap (λ k. bytes_eq k (codes "group") || bytes_eq k (codes "group ")) bytes ∙ members_taken line _ same
