use Rattle.std.proofs.Common.{sym, subst}
use Rattle.sgb_grammar.specs.Private.Reading.{Reads}
use Rattle.sgb_grammar.proofs.QuotedRuns.{text_joined}
use Rattle.sgb_grammar.proofs.strings.label.Goals as goal

pub returns-in-Some-Last : goal.returns-in-Some-Last
returns-in-Some-Last c =
    let joined = text_joined 4095 c.args.bytes.now c.in_ok-inside.inside.now (c.in-Some-Last.run'.now, c.in-Some-Last.rest.now) c.in_ok-inside.ensures (rw c.in-Some-Last.field-0-is at c.in-Some-Last.ensures) in
    subst (λ m. Reads c.short_label.result m) (sym joined) c.short_label.ensures
