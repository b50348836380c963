use Rattle.sgb_perms.proofs.RowLookup.{IsWordsTo}
use Rattle.sgb_perms.proofs.places.index_words.Given as goal

abbrev pub invariant-loop-v : goal.invariant-loop-v
invariant-loop-v l = IsWordsTo l.rows.rows l.v l.words.keys
