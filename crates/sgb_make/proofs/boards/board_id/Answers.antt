use Rattle.std.proofs.Common.{rules, ap, ◌∙◌}
use Rattle.sgb_plan.specs.Listing.{shown_at}
use Rattle.sgb_make.proofs.Ids.{id_so}
use Rattle.sgb_make.proofs.boards.board_id.Goals as goal

pub returns-clause-value : goal.returns-clause-value
returns-clause-value c =
    let ns = c.args.numbers.now in
    let same = c.requires.numbers in
    id_so c.args.spec.now c.shown_at.result c.shown_at-2.result c.shown_at-3.result c.shown_at-4.result c.args.piece c.id_of.result
    (c.shown_at.ensures ∙ ap (λ ks. shown_at ks 0) same) (c.shown_at-2.ensures ∙ ap (λ ks. shown_at ks 1) same) (c.shown_at-3.ensures ∙ ap (λ ks. shown_at ks 2) same) (c.shown_at-4.ensures ∙ ap (λ ks. shown_at ks 3) same)
    c.requires.piece (search rules)
