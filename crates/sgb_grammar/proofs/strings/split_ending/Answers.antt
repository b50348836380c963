use Rattle.sgb_grammar.proofs.QuotedRuns.{ends_nowhere, ends_with_quote, is_backslash, ends_with_backslash, ends_with_escape, ends_with_line}
use Rattle.sgb_grammar.proofs.strings.split_ending.Goals as goal

pub returns-in_err-first : goal.returns-in_err-first
returns-in_err-first c = rw c.from_residual.ensures (ends_nowhere c.args.bytes.now c.in_err-first.ensures)

pub returns-then-first-eq34 : goal.returns-then-first-eq34
returns-then-first-eq34 c = ends_with_quote _ _ _ c.in_ok-first.ensures c.if-first-eq34.true

pub returns-in_err-end : goal.returns-in_err-end
returns-in_err-end c =
    let slash = is_backslash _ _ _ c.requires c.in_ok-first.ensures c.if-first-eq34.false in
    rw c.from_residual-in_err-end.ensures (ends_with_backslash _ _ _ c.in_ok-first.ensures slash c.in_err-end.ensures)

pub returns-then-end-eq10 : goal.returns-then-end-eq10
returns-then-end-eq10 c =
    let slash = is_backslash _ _ _ c.requires c.in_ok-first.ensures c.if-first-eq34.false in
    ends_with_line _ _ _ _ _ c.in_ok-first.ensures slash c.in_ok-end.ensures c.if-end-eq10.true

pub returns-else-end-eq10 : goal.returns-else-end-eq10
returns-else-end-eq10 c =
    let slash = is_backslash _ _ _ c.requires c.in_ok-first.ensures c.if-first-eq34.false in
    ends_with_escape _ _ _ _ _ c.in_ok-first.ensures slash c.in_ok-end.ensures c.if-end-eq10.false
