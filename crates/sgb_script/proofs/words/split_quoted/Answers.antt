use Rattle.std.proofs.Common.{inl, refl, sym, ◌∙◌, arith}
use Rattle.sgb_script.proofs.WordSplits.{quoted_then, not_quotable, not_ended, unclosed, behind_quote}
use Rattle.sgb_script.proofs.Texts.{printable_behind, text_is}
use Rattle.std.proofs.lemmas.Grind.{common_steps}
use Rattle.sgb_script.proofs.words.split_quoted.Goals as goal

pub returns-then-is_empty-clause-words : goal.returns-then-is_empty-clause-words
returns-then-is_empty-clause-words c = inl (unclosed _ _ _ c.count_inside.ensures.count c.split_at.ensures.back (grind (arith, common_steps)))

pub returns-then-not-is_quotable-clause-words : goal.returns-then-not-is_quotable-clause-words
returns-then-not-is_quotable-clause-words c = inl (not_quotable _ _ _ _ _ c.count_inside.ensures.count c.split_at.ensures.front c.split_at.ensures.back (grind (arith, common_steps)) c.is_quotable.ensures c.if-not-is_quotable.true)

pub returns-then-not-ends_word-clause-words : goal.returns-then-not-ends_word-clause-words
returns-then-not-ends_word-clause-words c = inl (not_ended _ _ _ _ _ _ _ c.count_inside.ensures.count c.split_at.ensures.front c.split_at.ensures.back (grind (arith, common_steps)) (behind_quote c.split_at.result.1.now) c.is_quotable.ensures c.if-not-is_quotable.false c.ends_word.ensures c.if-not-ends_word.true)

pub returns-clause-words : goal.returns-clause-words
returns-clause-words c = quoted_then _ _ _ _ _ _ _ _ c.count_inside.ensures.count c.split_at.ensures.front c.split_at.ensures.back (grind (arith, common_steps)) (behind_quote c.split_at.result.1.now) refl c.is_quotable.ensures c.if-not-is_quotable.false c.ends_word.ensures c.if-not-ends_word.false

pub returns-clause-texts : goal.returns-clause-texts
returns-clause-texts c =
    let inside = c.args.inside.now in
    let text = c.split_at.result.0.now in
    let behind = c.split_at.result.1.now in
    let n = c.count_inside.result in (
      text_is inside text n c.count_inside.ensures.count c.split_at.ensures.front c.requires (sym c.is_quotable.ensures ∙ c.if-not-is_quotable.false),
      printable_behind behind _ 1 (behind_quote behind) (printable_behind inside behind n c.split_at.ensures.back c.requires),
    )
