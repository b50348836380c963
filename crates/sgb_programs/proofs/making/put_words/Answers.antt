use Rattle.sgb_programs.proofs.MadeLemmas.{word_put}
use Rattle.sgb_programs.proofs.making.put_words.Goals as goal

pub loop-word-preserved : goal.loop-word-preserved
loop-word-preserved c =
    word_put _ _ _ _ _ c.loop-word.word-index _ c.loop-word-test.true c.in_ok-push.ensures.items c.in_ok-extend_from_slice.ensures.items c.loop-word.invariant
