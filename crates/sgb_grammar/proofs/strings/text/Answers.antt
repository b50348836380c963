use Rattle.std.proofs.Common.{refl, sym, subst, inr}
use Rattle.sgb_grammar.specs.Private.Reading.{Reads}
use Rattle.sgb_grammar.proofs.QuotedRuns.{text_joined, text_unjoined}
use Rattle.sgb_grammar.proofs.strings.text.Goals as goal

pub returns-in-Some-Last : goal.returns-in-Some-Last
returns-in-Some-Last c =
    let joined = text_joined c.args.limit c.args.bytes.now c.in_ok-inside.inside.now (c.in-Some-Last.run'.now, c.in-Some-Last.rest.now) c.in_ok-inside.ensures (rw c.in-Some-Last.field-0-is at c.in-Some-Last.ensures) in
    subst (λ m. Reads c.short_text.result m) (sym joined) c.short_text.ensures

pub returns-in_ok-whole-in-Some-Broken : goal.returns-in_ok-whole-in-Some-Broken
returns-in_ok-whole-in-Some-Broken c =
    let read = c.in_ok-whole-in-Some-Broken in
    let joined = text_joined c.args.limit c.args.bytes.now c.in_ok-inside.inside.now (read.whole.items, read.rest.now) c.in_ok-inside.ensures read.ensures.ok in
    subst (λ m. Reads c.short_text-in-Some-Broken.result m) (sym joined) (rw c.deref.ensures.value at c.short_text-in-Some-Broken.ensures)

pub returns-in-None : goal.returns-in-None
returns-in-None c = inr (refl, text_unjoined c.args.limit c.args.bytes.now c.in_ok-inside.inside.now c.in_ok-inside.ensures c.in-None.ensures)
