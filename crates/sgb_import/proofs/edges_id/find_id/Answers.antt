use Rattle.std.proofs.Common.{ap, sym, ◌∙◌, map}
use Rattle.sgb_import.specs.Edges.{id_in}
use Rattle.sgb_import.specs.Lines.{lines}
use Rattle.sgb_import.specs.Private.Cursors.{seen}
use Rattle.sgb_import.specs.Refusal.{first_some}
use Rattle.sgb_import.proofs.EdgesHeads.{first_id, no_id}
use Rattle.sgb_import.proofs.edges_id.find_id.Goals as goal

pub returns-in-Some-id_in : goal.returns-in-Some-id_in
returns-in-Some-id_in c =
    first_id (seen c.in-Some.line) (seen c.in-Some-id_in.id) c.next.new.self (lines c.args.text.now)
    (ap (λ ls. first_some (map id_in ls)) (sym c.in-Some.ensures.steps) ∙ c.loop-line.invariant)
    (sym c.in-Some-id_in.ensures)

pub returns : goal.returns
returns c = no_id (lines c.args.text.now) (ap (λ ls. first_some (map id_in ls)) (sym c.in-None.ensures.steps.0) ∙ c.loop-line.invariant)
