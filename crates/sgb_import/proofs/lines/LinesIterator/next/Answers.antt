use Rattle.std.proofs.Common.{◌≡◌, sym, ◌∙◌, Some}
use Rattle.sgb_import.proofs.LineCursor.{next_left}
use Rattle.sgb_import.proofs.WordCursor.{goes-first}
use Rattle.sgb_import.proofs.lines.LinesIterator.next.Goals as goal

pub returns-clause-steps : goal.returns-clause-steps
returns-clause-steps c =
    let e : c.self.inside.rest ≡ Some c.in_ok-text.text = cc in
    sym c.self.view_is ∙ next_left c.self.inside.number c.self.inside.rest c.in_ok-text.text c.split_line.result.0.now c.strip_return.result.now c.split_line.result.1 e c.split_line.ensures c.strip_return.ensures

pub returns-clause-goes : goal.returns-clause-goes
returns-clause-goes c =
    let e : c.self.inside.rest ≡ Some c.in_ok-text.text = cc in
    goes-first _ (λ _. tt) _ _ _ _ (sym c.self.view_is ∙ next_left c.self.inside.number c.self.inside.rest c.in_ok-text.text c.split_line.result.0.now c.strip_return.result.now c.split_line.result.1 e c.split_line.ensures c.strip_return.ensures)
