use Rattle.std.proofs.Common.{◌++◌, replicate, ap₂, ◌∙◌, arith}
use Rattle.std.proofs.lemmas.List.{take_all}
use Rattle.sgb_make.proofs.link.append_none.Goals as goal

pub returns : goal.returns
returns c =
    c.in_ok-resize.ensures.items
    ∙ ap₂ (λ t k. t ++ replicate k 0) (take_all _ c.args.table.now.items (omega arith)) (omega arith)
