use Rattle.std.proofs.Common.{sym, ◌∙◌}
use Rattle.sgb_import.proofs.WordCursor.{goes-first, next_at, next_word, no_word}
use Rattle.sgb_import.proofs.lines.WordsIterator.next.Goals as goal

pub returns-then-is_empty-clause-steps : goal.returns-then-is_empty-clause-steps
returns-then-is_empty-clause-steps c =
    let next = next_at c.self.inside.rest.now c.split_at.result.1.now c.split_at-2.result.0.now c.split_at-2.result.1.now _ _ c.count_blanks.ensures.count c.split_at.ensures.back c.count_letters.ensures.count c.split_at-2.ensures.front c.split_at-2.ensures.back in
    let none = no_word _ _ _ _ next (rw c.is_empty.ensures at c.if-is_empty.true) in
    (sym c.self.view_is ∙ none.0, none.1)

pub returns-clause-steps : goal.returns-clause-steps
returns-clause-steps c =
    let next = next_at c.self.inside.rest.now c.split_at.result.1.now c.split_at-2.result.0.now c.split_at-2.result.1.now _ _ c.count_blanks.ensures.count c.split_at.ensures.back c.count_letters.ensures.count c.split_at-2.ensures.front c.split_at-2.ensures.back in
    sym c.self.view_is ∙ next_word _ _ _ _ next (rw c.is_empty.ensures at c.if-is_empty.false)

pub returns-clause-goes : goal.returns-clause-goes
returns-clause-goes c =
    let next = next_at c.self.inside.rest.now c.split_at.result.1.now c.split_at-2.result.0.now c.split_at-2.result.1.now _ _ c.count_blanks.ensures.count c.split_at.ensures.back c.count_letters.ensures.count c.split_at-2.ensures.front c.split_at-2.ensures.back in
    goes-first _ (λ _. tt) _ _ c.split_at-2.result.0 c.split_at-2.result.0.now (sym c.self.view_is ∙ next_word _ _ _ _ next (rw c.is_empty.ensures at c.if-is_empty.false))
