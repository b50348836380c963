use Rattle.std.proofs.Common.{◌∙◌}
use Rattle.sgb_text.proofs.CleanGraphs.{header_clean}
use Rattle.sgb_text.proofs.RecordLists.{when_ok}
use Rattle.sgb_text.proofs.saving.put_header.Goals as goal

pub returns : goal.returns
returns c =
    when_ok c.put_sizes.result
    (λ last. header_clean c.args.graph.now c.args.page.now _ _ _ _ _ _ c.in_ok-line.ensures c.in_ok-line-2.ensures last
    (c.letters.ensures.value ∙ c.types-types.ensures.value) c.n.ensures.value c.made.ensures.value)
    c.put_sizes.ensures
