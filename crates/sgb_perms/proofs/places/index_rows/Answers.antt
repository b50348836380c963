use Rattle.std.proofs.Common.{◌<◌, length, ap, ◌∙◌, arith}
use Rattle.std.proofs.lemmas.List.{take_all}
use Rattle.sgb_perms.specs.Private.Places.{shown_by}
use Rattle.sgb_perms.proofs.RowLookup.{key_more}
use Rattle.sgb_perms.proofs.places.index_rows.Goals as goal

pub loop-v-init : goal.loop-v-init
loop-v-init c = ap shown_by c.in_ok-places.ensures.empty

pub loop-v-preserved : goal.loop-v-preserved
loop-v-preserved c =
    let less : c.loop-v.v < length c.args.rows.now.rows = omega (arith, c.len-v-end.ensures.value) in
    key_more c.args.rows.now.rows c.loop-v.v c.row.result c.loop-v.places.keys c.insert.new.self.keys c.requires less
    c.row.ensures.value c.loop-v.invariant c.in_ok-insert.ensures.keys

pub returns-clause-ok : goal.returns-clause-ok
returns-clause-ok c =
    c.loop-v.invariant ∙ take_all c.loop-v.v c.args.rows.now.rows (omega (arith, c.len-v-end.ensures.value))
