use Rattle.std.proofs.Common.{inl, refl}
use Rattle.sgb_script.proofs.WordSplits.{plain_then, plain_else}
use Rattle.sgb_script.proofs.Texts.{printable_behind}
use Rattle.sgb_script.proofs.words.split_plain.Goals as goal

pub returns-then-not-ends_word-clause-words : goal.returns-then-not-ends_word-clause-words
returns-then-not-ends_word-clause-words c = inl (plain_else _ _ _ _ _ c.count_letters.ensures.count c.split_at.ensures.front c.split_at.ensures.back c.requires.letter c.ends_word.ensures c.if-not-ends_word.true)

pub returns-clause-words : goal.returns-clause-words
returns-clause-words c = plain_then _ _ _ _ _ _ c.count_letters.ensures.count c.split_at.ensures.front c.split_at.ensures.back c.requires.letter refl c.ends_word.ensures c.if-not-ends_word.false

pub returns-clause-texts : goal.returns-clause-texts
returns-clause-texts c = (tt, printable_behind c.args.text.now c.split_at.result.1.now c.count_letters.result c.split_at.ensures.back c.requires.printable)
