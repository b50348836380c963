use Rattle.std.proofs.Common.{◌<◌, length, ap, ◌∙◌, arith}
use Rattle.std.proofs.lemmas.List.{length-map, take_all}
use Rattle.sgb_binary.specs.Private.Names.{bytes_of}
use Rattle.sgb_binary.proofs.NameCodes.{name_at}
use Rattle.sgb_binary.proofs.NameIndexes.{names_of, name_more}
use Rattle.sgb_binary.proofs.index.index_names.Goals as goal

pub loop-name-init : goal.loop-name-init
loop-name-init c = ap names_of c.in_ok-index.ensures.empty

pub loop-name-preserved : goal.loop-name-preserved
loop-name-preserved c =
    let less : c.loop-name.name-index < length c.args.names.now = c.loop-name-test.true in
    name_more (names_of c.args.names.now) c.loop-name.name-index c.loop-name.index.keys c.insert.new.self.keys _ c.requires
    (omega (arith, less, length-map c.args.names.now bytes_of))
    (name_at c.args.names.now c.loop-name.name-index _ less)
    c.loop-name.invariant c.in_ok-insert.ensures.keys

pub returns-clause-keys : goal.returns-clause-keys
returns-clause-keys c =
    c.loop-name.invariant
    ∙ take_all c.loop-name.name-index (names_of c.args.names.now) (omega (arith, length-map c.args.names.now bytes_of))
