use Rattle.sgb_text.proofs.TextBody.{body_pages, dirt_parts}
use Rattle.sgb_text.proofs.saving.put_body.Goals as goal

pub returns-clause-records : goal.returns-clause-records
returns-clause-records c = body_pages c.args.graph.now _ _ _ _ _ _ c.requires c.in_ok-own.ensures.record c.in_ok-line.ensures c.in_ok-vertices.ensures.records c.in_ok-line-2.ensures c.in_ok-arcs.ensures.records

pub returns-clause-cleaned : goal.returns-clause-cleaned
returns-clause-cleaned c = dirt_parts c.args.graph.now _ _ _ c.in_ok-own.ensures.cleaned c.in_ok-vertices.ensures.cleaned c.in_ok-arcs.ensures.cleaned
