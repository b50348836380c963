use Rattle.std.proofs.Common.{◌<◌, length, sym, ap, ◌∙◌, arith}
use Rattle.sgb_perms.specs.Private.Places.{word_of}
use Rattle.sgb_perms.proofs.RowLookup.{words_none, words_more, words_all}
use Rattle.sgb_perms.proofs.places.index_words.Goals as goal

pub loop-v-init : goal.loop-v-init
loop-v-init c = words_none c.args.rows.now.rows c.in_ok-words.words.keys c.in_ok-words.ensures.empty

pub loop-v-preserved : goal.loop-v-preserved
loop-v-preserved c =
    let less : c.loop-v.v < length c.args.rows.now.rows = omega (arith, c.len-v-end.ensures.value) in
    words_more c.args.rows.now.rows c.loop-v.words.keys c.insert.new.self.keys c.loop-v.v c.word_of.result less
    (c.word_of.ensures ∙ ap word_of c.row.ensures.value) c.loop-v.invariant
    (sym c.if-not-is_new.false ∙ c.in_ok-is_new.ensures.added) c.in_ok-is_new.ensures.keys

pub returns-clause-ok : goal.returns-clause-ok
returns-clause-ok c = words_all c.args.rows.now.rows c.loop-v.words.keys c.loop-v.v (omega (arith, c.len-v-end.ensures.value)) c.loop-v.invariant
