use Rattle.std.proofs.Common.{◌∙◌, ap, subst, inr, arith}
use Rattle.std.proofs.lemmas.Bool.{ne_eqb}
use Rattle.std.proofs.lemmas.Grind.{common_steps}
use Rattle.sgb_script.specs.Words.{words_of}
use Rattle.sgb_script.specs.Private.Words.{Splits}
use Rattle.sgb_script.proofs.WordSplits.{no_word, letter_behind, after_spaces, quote_first, behind_quote}
use Rattle.sgb_script.proofs.Texts.{printable_behind}
use Rattle.sgb_script.proofs.words.split_word.Goals as goal

pub returns-then-is_empty-clause-words : goal.returns-then-is_empty-clause-words
returns-then-is_empty-clause-words c = inr (no_word _ _ _ c.count_spaces.ensures.count c.split_at.ensures.back (grind (arith, common_steps)))

pub returns-then-text-eq-QUOTE-clause-words : goal.returns-then-text-eq-QUOTE-clause-words
returns-then-text-eq-QUOTE-clause-words c =
    let text = c.split_at.result.1.now in
    subst (λ words. Splits words c.split_quoted.result)
    (ap words_of (quote_first text (grind (arith, common_steps)) c.if-text-eq-QUOTE.true) ∙ after_spaces _ text _ c.count_spaces.ensures.count c.split_at.ensures.back)
    c.split_quoted.ensures.words

pub split_plain-requires-clause-letter : goal.split_plain-requires-clause-letter
split_plain-requires-clause-letter c = letter_behind _ _ _ c.count_spaces.ensures.count c.split_at.ensures.back (grind (arith, common_steps)) (ne_eqb _ _ c.if-text-eq-QUOTE.false)

pub returns-clause-words : goal.returns-clause-words
returns-clause-words c = subst (λ words. Splits words c.split_plain.result) (after_spaces _ _ _ c.count_spaces.ensures.count c.split_at.ensures.back) c.split_plain.ensures.words

pub split_quoted-requires : goal.split_quoted-requires
split_quoted-requires c =
    let text = c.split_at.result.1.now in
    printable_behind text _ 1 (behind_quote text) (printable_behind c.args.line.now text c.count_spaces.result c.split_at.ensures.back c.requires)

pub split_plain-requires-clause-printable : goal.split_plain-requires-clause-printable
split_plain-requires-clause-printable c = printable_behind c.args.line.now c.split_at.result.1.now c.count_spaces.result c.split_at.ensures.back c.requires
